-- What a verdict costs (02, change 8): all that RFC 8554's algorithms 4b and 6a digest for it, one hash input after the other, by the recursions that hash them, and
-- the SHA-256 compressions of these.
use Rattle.std.specs.Prelude.{Bool, cond, ◌&&◌, List, [], ◌∷◌, ◌++◌, ℕ, zero, suc, ◌+◌, ◌-◌, ◌*◌, ◌/◌, ◌%◌, ◌^◌, eqb, ltb, length}
use Rattle.std.specs.Prelude.{None, Some}
use Rattle.octets.specs.Octets.{part}
use Rattle.sha256.specs.Sha256.{compressions}
use Rattle.lms.specs.Notation.{u8str, u16str, u32str, strTou32, coef, D_PBLC, D_MESG, D_LEAF, D_INTR}
use Rattle.lms.specs.Ots.{Row, table1, steps, checked, message_hash, chain, zs, Kc}
use Rattle.lms.specs.Tree.{table2, climb}
use Rattle.lms.specs.Lms.{key_length, ots_bytes, signature_length}

-- the parts of key and signature: I, q, the one-time signature, path[0] to path[h-1]
abbrev pub identifier : (key : List ℕ) → List ℕ
identifier key = part 8 16 key

abbrev pub leaf_number : (signature : List ℕ) → ℕ
leaf_number signature = strTou32 (part 0 4 signature)

abbrev pub ots_signature : (t : Row) (signature : List ℕ) → List ℕ
ots_signature t signature = part 4 (ots_bytes t) signature

abbrev pub path_of : (t : Row) (h : ℕ) (signature : List ℕ) → List ℕ
path_of t h signature = part (4 + ots_bytes t + 4) (32 * h) signature

-- the parts of a one-time signature behind its type (4 bytes): C (32), y[0] to y[p-1]
abbrev pub randomizer : (signature : List ℕ) → List ℕ
randomizer signature = part 4 32 signature

abbrev pub chain_hashes : (t : Row) (signature : List ℕ) → List ℕ
chain_hashes t signature = part 36 (32 * t.p) signature

-- what comes before any hashing: length, types and leaf number are right
unfoldable pub well_formed : (t : Row) (h : ℕ) (key signature : List ℕ) → Bool
well_formed t h key signature =
    eqb (length signature) (signature_length t h)
    && eqb (strTou32 (part 4 4 signature)) (strTou32 (part 4 4 key))
    && eqb (strTou32 (part (4 + ots_bytes t) 4 signature)) (strTou32 (part 0 4 key))
    && ltb (leaf_number signature) (2 ^ h)

-- what is digested for Q, by step j of chain i, and, Q and y known, for Kc
module _ (I : List ℕ) (q : ℕ) where
  abbrev pub message_input : (C message : List ℕ) → List ℕ
  message_input C message = I ++ u32str q ++ u16str D_MESG ++ C ++ message

  abbrev pub step_input : (i j : ℕ) (tmp : List ℕ) → List ℕ
  step_input i j tmp = I ++ u32str q ++ u16str i ++ u8str j ++ tmp

  abbrev pub key_input : (t : Row) (Q y : List ℕ) → List ℕ
  key_input t Q y = I ++ u32str q ++ u16str D_PBLC ++ zs I q t.w (checked t Q) y t.p

-- what is digested for a leaf's number and its one-time key, and by the loop's body, for a node's number, its sibling and its hash tmp
module _ (I : List ℕ) where
  abbrev pub leaf_input : (leaf : ℕ) (K : List ℕ) → List ℕ
  leaf_input leaf K = I ++ u32str leaf ++ u16str D_LEAF ++ K

  unfoldable pub parent_input : (node : ℕ) (sibling tmp : List ℕ) → List ℕ
  parent_input node sibling tmp =
      cond (eqb (node % 2) 1)
      (I ++ u32str (node / 2) ++ u16str D_INTR ++ sibling ++ tmp)
      (I ++ u32str (node / 2) ++ u16str D_INTR ++ tmp ++ sibling)

-- "A signature's chain steps", by the message's digest Q: over the digits of Q and of its checksum, which say where the chains begin
unfoldable pub chain_steps : (t : Row) (Q : List ℕ) → ℕ
chain_steps t Q = steps t.w (checked t Q) t.p

-- algorithm 4b, step 3
module _ (I : List ℕ) (q : ℕ) where
  -- what the k steps of chain i digest, begun at j = a with y
  unfoldable pub chain_inputs : (i a : ℕ) (y : List ℕ) (k : ℕ) → List (List ℕ)
  chain_inputs i a y zero = []
  chain_inputs i a y (suc k) = chain_inputs i a y k ++ (step_input I q i (a + k) (chain I q i a y k) ∷ [])

  -- for z[i]
  unfoldable pub z_inputs : (w : ℕ) (S y : List ℕ) (i : ℕ) → List (List ℕ)
  z_inputs w S y i = chain_inputs i (coef S i w) (part (32 * i) 32 y) (2 ^ w - 1 - coef S i w)

  -- for z[0] to z[k-1]
  unfoldable pub zs_inputs : (w : ℕ) (S y : List ℕ) (k : ℕ) → List (List ℕ)
  zs_inputs w S y zero = []
  zs_inputs w S y (suc k) = zs_inputs w S y k ++ z_inputs w S y k

-- algorithm 6a, step 4: for the leaf, and for i turns
module _ (I : List ℕ) where
  unfoldable pub climb_inputs : (leaf : ℕ) (K path : List ℕ) (i : ℕ) → List (List ℕ)
  climb_inputs leaf K path zero = leaf_input I leaf K ∷ []
  climb_inputs leaf K path (suc i) = climb_inputs leaf K path i ++ (parent_input I (leaf / 2 ^ i) (part (32 * i) 32 path) (climb I leaf K path i) ∷ [])

-- for types that the tables have
module _ (t : Row) (key message signature : List ℕ) where
  abbrev I : List ℕ
  I = identifier key

  abbrev q : ℕ
  q = leaf_number signature

  abbrev ots : List ℕ
  ots = ots_signature t signature

  -- Q, the message's digest
  unfoldable pub message_digest : List ℕ
  message_digest = message_hash I q (randomizer ots) message

  -- for Q, the chains, Kc, and the way to the top hash
  unfoldable pub inputs_at : (h : ℕ) → List (List ℕ)
  inputs_at h =
      (message_input I q (randomizer ots) message ∷ [])
      ++ zs_inputs I q t.w (checked t message_digest) (chain_hashes t ots) t.p
      ++ (key_input I q t message_digest (chain_hashes t ots) ∷ [])
      ++ climb_inputs I (2 ^ h + q) (Kc t I q message ots) (path_of t h signature) h

-- for a verdict; nothing where a test of length, types or leaf number fails
unfoldable pub verdict_inputs : (key message signature : List ℕ) → List (List ℕ)
verdict_inputs key message signature =
    cond (eqb (length key) key_length)
    (elim (table1 (strTou32 (part 4 4 key))) [
      | None ↦ []
      | Some t ↦ elim (table2 (strTou32 (part 0 4 key))) [
        | None ↦ []
        | Some h ↦ cond (well_formed t h key signature) (inputs_at t key message signature h) []
      ]
    ])
    []

-- the compressions of hash inputs
unfoldable pub cost_of : List (List ℕ) → ℕ
cost_of [] = 0
cost_of (x ∷ xs) = compressions x + cost_of xs
