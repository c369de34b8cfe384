-- What is listed for a verdict is what its definition digests.
use mathlib.Core.Path.{◌≡◌, refl, ap}
use mathlib.Core.Bool.{Bool, true, false, cond}
use mathlib.Core.List.{List, [], ◌∷◌, ◌++◌, append_assoc}
use Prim.Native.Nat.{ℕ, zero, suc, ◌+◌, ◌-◌, ◌*◌, ◌/◌, ◌%◌, ◌^◌, ◌≤◌}
use lib.Dec.{eqb}
use native.Mathlib.Omega.{arith}
use Rattle.octets.specs.Octets.{part}
use Rattle.lms.specs.Notation.{coef, H, u16str, u32str, D_INTR}
use Rattle.lms.specs.Ots.{Row, checked, chain, z, Kc}
use Rattle.lms.specs.Tree.{leaf_hash, parent, climb, Tc}
use Rattle.lms.specs.Lms.{valid_at}
use Rattle.lms.specs.Cost.{identifier, leaf_number, ots_signature, path_of, randomizer, chain_hashes, well_formed, message_input, step_input, key_input, leaf_input, parent_input, chain_inputs, z_inputs, zs_inputs, climb_inputs, message_digest, inputs_at}
use Rattle.lms.specs.Claims.{TestsFirst, OneMore, Listed}

start : (I : List ℕ) (q i a : ℕ) (y : List ℕ) → chain_inputs I q i a y 0 ≡ []
unfolding chain_inputs
start I q i a y = refl

step : (I : List ℕ) (q i a : ℕ) (y : List ℕ) (k : ℕ) → OneMore (chain_inputs I q i a y k) (chain_inputs I q i a y (suc k)) (chain I q i a y (suc k))
unfolding chain_inputs chain
step I q i a y k = record { last = step_input I q i (a + k) (chain I q i a y k); listed = refl; hashed = refl }

-- the loop's body hashes its input
pub parent-hashed : (I : List ℕ) (node : ℕ) (sibling tmp : List ℕ) → parent I node sibling tmp ≡ H (parent_input I node sibling tmp)
unfolding parent parent_input
parent-hashed I node sibling tmp = go (eqb (node % 2) 1)
  where
    left : List ℕ
    left = I ++ u32str (node / 2) ++ u16str D_INTR ++ sibling ++ tmp

    right : List ℕ
    right = I ++ u32str (node / 2) ++ u16str D_INTR ++ tmp ++ sibling

    go : (b : Bool) → cond b (H left) (H right) ≡ H (cond b left right)
    go true = refl
    go false = refl

-- z[i] takes as many steps as its digit lacks
module _ (I : List ℕ) (q w : ℕ) (S y : List ℕ) (i : ℕ) where
  abbrev a : ℕ
  a = coef S i w

  abbrev begin : List ℕ
  begin = part (32 * i) 32 y

  end : (k : ℕ) → a + suc k ≡ 2 ^ w - 1 → OneMore (chain_inputs I q i a begin k) (z_inputs I q w S y i) (z I q w S y i)
  unfolding z_inputs z
  end k h = let e : 2 ^ w - 1 - a ≡ suc k = omega arith in rw e (step I q i a begin k)

  none : 2 ^ w - 1 ≤ a → (z_inputs I q w S y i ≡ []) × (z I q w S y i ≡ begin)
  unfolding z_inputs z chain_inputs chain
  none h = let e : 2 ^ w - 1 - a ≡ 0 = omega arith in (ap (chain_inputs I q i a begin) e, ap (chain I q i a begin) e)

module _ (I : List ℕ) (leaf : ℕ) (K path : List ℕ) where
  first : OneMore [] (climb_inputs I leaf K path 0) (climb I leaf K path 0)
  unfolding climb_inputs climb leaf_hash
  first = record { last = leaf_input I leaf K; listed = refl; hashed = refl }

  turn : (i : ℕ) → OneMore (climb_inputs I leaf K path i) (climb_inputs I leaf K path (suc i)) (climb I leaf K path (suc i))
  unfolding climb_inputs climb
  turn i =
      let node = leaf / 2 ^ i in
      let sibling = part (32 * i) 32 path in
      let tmp = climb I leaf K path i in
      record { last = parent_input I node sibling tmp; listed = refl; hashed = parent-hashed I node sibling tmp }

  all : (h : ℕ) → (before : List (List ℕ)) × OneMore before (climb_inputs I leaf K path h) (climb I leaf K path h)
  all zero = ([], first)
  all (suc h) = (climb_inputs I leaf K path h, turn h)

-- what comes before changes nothing of the last
behind : {before xs : List (List ℕ)} {v : List ℕ} (ys : List (List ℕ)) → OneMore before xs v → OneMore (ys ++ before) (ys ++ xs) v
behind ys l = record { last = l.last; listed = rw l.listed (rw (← append_assoc) refl); hashed = l.hashed }

-- of all inputs those on the way to the top hash come last
top : (t : Row) (h : ℕ) (key message signature : List ℕ)
    → (let I = identifier key in
    let q = leaf_number signature in
    let K = Kc t I q message (ots_signature t signature) in
    (before : List (List ℕ)) × OneMore before (inputs_at t key message signature h) (Tc h I q K (path_of t h signature)))
unfolding inputs_at Tc
top t h key message signature =
    let I = identifier key in
    let q = leaf_number signature in
    let ots = ots_signature t signature in
    let Q = message_digest t key message signature in
    let way = all I (2 ^ h + q) (Kc t I q message ots) (path_of t h signature) h in
    let others =
    (message_input I q (randomizer ots) message ∷ [])
    ++ zs_inputs I q t.w (checked t Q) (chain_hashes t ots) t.p
    ++ (key_input I q t Q (chain_hashes t ots) ∷ []) in
    (others ++ way.0, behind others way.1)

pub listed : Listed
listed = record { start = start; step = step; end = end; none = none; leaf = first; turn = turn; top = top }

-- the tests are the same, word for word
pub tests-first : TestsFirst
unfolding valid_at well_formed
tests-first t h key message signature = refl
