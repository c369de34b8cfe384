-- What is shown of the definitions (in proofs/).
use Rattle.std.specs.Prelude.{◌≡◌, true, ◌&&◌, List, [], ◌∷◌, ◌++◌, ℕ, suc, ◌+◌, ◌-◌, ◌*◌, ◌/◌, ◌^◌, ◌≤◌, ◌<◌, length, replicate}
use Rattle.std.specs.Prelude.{Some}
use Rattle.octets.specs.Octets.{part, equal}
use Rattle.sha256.specs.Sha256.{compressions_for}
use Rattle.lms.specs.Notation.{strTou32, coef, H}
use Rattle.lms.specs.Ots.{Row, table1, checked, chain, z, Kc}
use Rattle.lms.specs.Tree.{table2, climb, Tc}
use Rattle.lms.specs.Lms.{key_length, valid_at}
use Rattle.lms.specs.Sound.{Sound}
use Rattle.lms.specs.Cost.{identifier, leaf_number, ots_signature, path_of, well_formed, chain_steps, chain_inputs, z_inputs, zs_inputs, climb_inputs, message_digest, inputs_at, verdict_inputs, cost_of}

-- 3.1.3: the RFC's own examples of digits, of the string 0x1234
abbrev pub Digits : Type 0
Digits = (coef (0x12 ∷ 0x34 ∷ []) 7 1 ≡ 0) × (coef (0x12 ∷ 0x34 ∷ []) 0 4 ≡ 1)

-- 5.4.2, algorithm 6a, step 4: its loop, which runs while the node's number is above 1, takes h turns: after i turns it goes on exactly where i is below h.
abbrev pub Turns : Type 0
Turns = (h q : ℕ) → q < 2 ^ h → (i : ℕ) → i ≤ h → (let node = (2 ^ h + q) / 2 ^ i in (1 < node → i < h) × (node ≤ 1 → i ≡ h))

-- Every row of table 1 has what the functions for a general digit width ask.
abbrev pub Rows : Type 0
Rows = (type : ℕ) (t : Row) → table1 type ≡ Some t → Sound t

-- A verdict is these tests, then the top hash.
abbrev pub TestsFirst : Type 0
TestsFirst = (t : Row) (h : ℕ) (key message signature : List ℕ) → (let I = identifier key in
    let q = leaf_number signature in
    let K = Kc t I q message (ots_signature t signature) in
    valid_at t h key message signature ≡ (well_formed t h key signature && equal (Tc h I q K (path_of t h signature)) (part 24 32 key)))

-- 02, change 8. Hash inputs with one more behind those before, of which the value is the hash.
pub record OneMore (before inputs : List (List ℕ)) (value : List ℕ) : Type 0 where
  pub last : List ℕ
  pub listed : inputs ≡ before ++ (last ∷ [])
  pub hashed : value ≡ H last

-- What is listed for a verdict is what its definition digests: a chain without steps has no input, each step adds the one that it hashes, and z[i], its steps done, is the
-- hash of the last, or without steps y[i]; so are the leaf and each turn, and the top hash.
pub record Listed : Type 0 where
  pub start : (I : List ℕ) (q i a : ℕ) (y : List ℕ) → chain_inputs I q i a y 0 ≡ []
  pub step : (I : List ℕ) (q i a : ℕ) (y : List ℕ) (k : ℕ) → OneMore (chain_inputs I q i a y k) (chain_inputs I q i a y (suc k)) (chain I q i a y (suc k))
  pub end : (I : List ℕ) (q w : ℕ) (S y : List ℕ) (i k : ℕ) → coef S i w + suc k ≡ 2 ^ w - 1
      → OneMore (chain_inputs I q i (coef S i w) (part (32 * i) 32 y) k) (z_inputs I q w S y i) (z I q w S y i)
  pub none : (I : List ℕ) (q w : ℕ) (S y : List ℕ) (i : ℕ) → 2 ^ w - 1 ≤ coef S i w → (z_inputs I q w S y i ≡ []) × (z I q w S y i ≡ part (32 * i) 32 y)
  pub leaf : (I : List ℕ) (leaf : ℕ) (K path : List ℕ) → OneMore [] (climb_inputs I leaf K path 0) (climb I leaf K path 0)
  pub turn : (I : List ℕ) (leaf : ℕ) (K path : List ℕ) (i : ℕ) → OneMore (climb_inputs I leaf K path i) (climb_inputs I leaf K path (suc i)) (climb I leaf K path (suc i))
  pub top : (t : Row) (h : ℕ) (key message signature : List ℕ) → (let I = identifier key in
      let q = leaf_number signature in
      let K = Kc t I q message (ots_signature t signature) in
      (before : List (List ℕ)) × OneMore before (inputs_at t key message signature h) (Tc h I q K (path_of t h signature)))

-- "A signature's chain steps": `chain_steps` is how many hash inputs the chains have.
abbrev pub StepsTaken : Type 0
StepsTaken = (t : Row) (I : List ℕ) (q : ℕ) (Q y : List ℕ) → length (zs_inputs I q t.w (checked t Q) y t.p) ≡ chain_steps t Q

-- A row with whole digits: m of them make a byte, so that the 32 bytes of Q have u = 32 * m, and v of the checksum with its shift make up 16 bits. The rows of RFC
-- 8554's appendix B are such; that its v is the least that holds the sum is not needed.
pub record WholeDigits (t : Row) : Type 0 where
  pub m : ℕ
  pub v : ℕ
  pub byte : m * t.w ≡ 8
  pub chains : t.p ≡ 32 * m + v
  pub checksum : v * t.w + t.ls ≡ 16

-- Of every such row a digest of 32 zero bytes takes the most steps.
abbrev pub ZerosMost : Type 0
ZerosMost = (t : Row) → WholeDigits t → (Q : List ℕ) → length Q ≡ 32 → chain_steps t Q ≤ chain_steps t (replicate 32 0)

-- "type 4 never takes more than 8,415 and type 3 never more than 990, and .. a digest of 32 zero bytes takes both"
pub record MostSteps (taken : Row → List ℕ → ℕ) (type most : ℕ) : Type 0 where
  pub row : Row
  pub known : table1 type ≡ Some row
  pub never_more : (Q : List ℕ) → length Q ≡ 32 → taken row Q ≤ most
  pub zeros : taken row (replicate 32 0) ≡ most

abbrev pub ChainSteps : Type 0
ChainSteps = MostSteps chain_steps 4 8415 × MostSteps chain_steps 3 990

-- The compressions of a verdict that is not refused before anything is hashed: Q's, one for each chain step, Kc's, the leaf's, and two for each turn.
abbrev pub VerdictCost : Type 0
VerdictCost =
    (t : Row) (h : ℕ) (key message signature : List ℕ) → length key ≡ key_length → table1 (strTou32 (part 4 4 key)) ≡ Some t
    → table2 (strTou32 (part 0 4 key)) ≡ Some h → well_formed t h key signature ≡ true
    → cost_of (verdict_inputs key message signature)
    ≡ compressions_for (54 + length message) + chain_steps t (message_digest t key message signature) + compressions_for (22 + 32 * t.p) + 1 + 2 * h

-- At most so many under a key of these types, over every message of up to 65 bytes, a manifest's 48 among them, whatever the signature; and just so many where the
-- message has 2 or more, the signature's length, types and leaf number are right and the message's digest is 32 zero bytes. (That some message has this digest is
-- not shown.)
pub record VerdictMost (ots tree most : ℕ) : Type 0 where
  pub row : Row
  pub height : ℕ
  pub known : (table1 ots ≡ Some row) × (table2 tree ≡ Some height)
  pub never_more : (key message signature : List ℕ) → strTou32 (part 4 4 key) ≡ ots → strTou32 (part 0 4 key) ≡ tree → length message ≤ 65
      → cost_of (verdict_inputs key message signature) ≤ most
  pub reached : (key message signature : List ℕ) → strTou32 (part 4 4 key) ≡ ots → strTou32 (part 0 4 key) ≡ tree → length key ≡ key_length → 2 ≤ length message
      → length message ≤ 65 → well_formed row height key signature ≡ true → message_digest row key message signature ≡ replicate 32 0
      → cost_of (verdict_inputs key message signature) ≡ most

abbrev pub VerdictsMost : Type 0
VerdictsMost =
    (VerdictMost 4 5 8446 × VerdictMost 4 6 8456 × VerdictMost 4 7 8466 × VerdictMost 4 8 8476 × VerdictMost 4 9 8486)
    × (VerdictMost 3 5 1037 × VerdictMost 3 6 1047 × VerdictMost 3 7 1057 × VerdictMost 3 8 1067 × VerdictMost 3 9 1077)
