-- What a verdict costs: one compression for each chain step, and for the rest what lengths tell.
use mathlib.Core.Path.{◌≡◌, refl, sym, ap, ap₂, ◌∙◌}
use mathlib.Core.Bool.{Bool, true, false, cond}
use mathlib.Core.List.{List, [], ◌∷◌, ◌++◌}
use Prim.Native.Nat.{ℕ, zero, suc, ◌+◌, ◌-◌, ◌*◌, ◌/◌, ◌%◌, ◌^◌, ◌≤◌}
use native.Mathlib.Nat.{add_assoc}
use native.Mathlib.Omega.{arith}
use lib.Dec.{eqb}
use lib.ListN.{length, length-append}
use Rattle.octets.specs.Octets.{part, joined, up_to}
use Rattle.octets.proofs.CopyLaws.{length_part}
use Rattle.octets.proofs.JoinedLaws.{joined-suc}
use Rattle.octets.proofs.NumberLaws.{length-bytes}
use Rattle.sha256.specs.Sha256.{compressions_for}
use Rattle.sha256.proofs.DigestLaws.{length-digest}
use Rattle.sha256.proofs.PaddingLaws.{compressions-is}
use Rattle.lms.specs.Notation.{u8str, u16str, u32str, coef, D_PBLC, D_MESG, D_LEAF, D_INTR}
use Rattle.lms.specs.Ots.{Row, steps, checked, chain, z, zs, Kc}
use Rattle.lms.specs.Tree.{leaf_hash, climb}
use Rattle.lms.specs.Lms.{key_length, signature_length, ots_bytes}
use Rattle.lms.specs.Cost.{identifier, leaf_number, ots_signature, path_of, message_input, step_input, key_input, leaf_input, parent_input, chain_steps, chain_inputs, zs_inputs, z_inputs, climb_inputs, message_digest, inputs_at, cost_of}
use Rattle.lms.proofs.ChainLaws.{start-length}
use Rattle.lms.proofs.ListedLaws.{parent-hashed}

cost-append : (xs ys : List (List ℕ)) → cost_of (xs ++ ys) ≡ cost_of xs + cost_of ys
unfolding cost_of
cost-append [] ys = omega arith
cost-append (x ∷ xs) ys = omega (arith, cost-append xs ys)

cost-one : (x : List ℕ) (k : ℕ) → length x ≡ k → cost_of (x ∷ []) ≡ compressions_for k
unfolding cost_of
cost-one x k e = omega (arith, compressions-is x ∙ ap compressions_for e)

cost-last : (xs : List (List ℕ)) (x : List ℕ) (k : ℕ) → length x ≡ k → cost_of (xs ++ (x ∷ [])) ≡ cost_of xs + compressions_for k
cost-last xs x k e = cost-append xs (x ∷ []) ∙ ap (λ n. cost_of xs + n) (cost-one x k e)

module _ (I : List ℕ) (id : length I ≡ 16) where
  -- a hash input of so many bytes behind I, number and mark
  length-input : (r d : ℕ) (x : List ℕ) → length (I ++ u32str r ++ u16str d ++ x) ≡ 22 + length x
  length-input r d x = length-append (I ++ u32str r ++ u16str d) x ∙ ap (λ n. n + length x) (start-length I r d id)

  module _ (q : ℕ) where
    length-chain : (i a : ℕ) (y : List ℕ) (k : ℕ) → length y ≡ 32 → length (chain I q i a y k) ≡ 32
    unfolding chain
    length-chain i a y zero e = e
    length-chain i a y (suc k) e = length-digest _

    length-step : (i j : ℕ) (tmp : List ℕ) → length tmp ≡ 32 → length (step_input I q i j tmp) ≡ 55
    length-step i j tmp e = length-append (I ++ u32str q ++ u16str i ++ u8str j) tmp ∙ omega (arith, e, length-input q i (u8str j), length-bytes 1 j)

    cost-chain : (i a : ℕ) (y : List ℕ) (k : ℕ) → length y ≡ 32 → cost_of (chain_inputs I q i a y k) ≡ k
    unfolding chain_inputs
    cost-chain i a y zero e = unfold cost_of in refl
    cost-chain i a y (suc k) e =
        cost-last (chain_inputs I q i a y k) (step_input I q i (a + k) (chain I q i a y k)) 55 (length-step i (a + k) (chain I q i a y k) (length-chain i a y k e))
        ∙ omega (arith, cost-chain i a y k e)

    module _ (w : ℕ) (S y : List ℕ) where
      cost-chains : (k : ℕ) → 32 * k ≤ length y → cost_of (zs_inputs I q w S y k) ≡ steps w S k
      unfolding zs_inputs z_inputs steps
      cost-chains zero h = unfold cost_of in refl
      cost-chains (suc k) h =
          cost-append (zs_inputs I q w S y k) _
          ∙ ap₂ (λ a b. a + b) (cost-chains k (omega arith)) (cost-chain k (coef S k w) (part (32 * k) 32 y) (2 ^ w - 1 - coef S k w) (length_part y (32 * k) 32 (omega arith)))

      length-z : (k : ℕ) → 32 * suc k ≤ length y → length (z I q w S y k) ≡ 32
      unfolding z
      length-z k h = length-chain k (coef S k w) (part (32 * k) 32 y) (2 ^ w - 1 - coef S k w) (length_part y (32 * k) 32 (omega arith))

      length-zs : (k : ℕ) → 32 * k ≤ length y → length (zs I q w S y k) ≡ 32 * k
      unfolding zs
      length-zs zero h = unfold joined up_to in refl
      length-zs (suc k) h =
          ap length (joined-suc k (z I q w S y)) ∙ length-append (joined (up_to k (z I q w S y))) (z I q w S y k)
          ∙ omega (arith, length-zs k (omega arith), length-z k h)

  -- the leaf, and i turns
  module _ (leaf : ℕ) (K path : List ℕ) (key : length K ≡ 32) where
    length-climb : (i : ℕ) → length (climb I leaf K path i) ≡ 32
    unfolding climb leaf_hash
    length-climb zero = length-digest _
    length-climb (suc i) = ap length (parent-hashed I (leaf / 2 ^ i) (part (32 * i) 32 path) (climb I leaf K path i)) ∙ length-digest _

    length-parent : (node : ℕ) (x y : List ℕ) → length x ≡ 32 → length y ≡ 32 → length (parent_input I node x y) ≡ 86
    unfolding parent_input
    length-parent node x y ex ey = go (eqb (node % 2) 1)
      where
        go : (b : Bool) → length (cond b (I ++ u32str (node / 2) ++ u16str D_INTR ++ x ++ y) (I ++ u32str (node / 2) ++ u16str D_INTR ++ y ++ x)) ≡ 86
        go true = length-append (I ++ u32str (node / 2) ++ u16str D_INTR ++ x) y ∙ omega (arith, ex, ey, length-input (node / 2) D_INTR x)
        go false = length-append (I ++ u32str (node / 2) ++ u16str D_INTR ++ y) x ∙ omega (arith, ex, ey, length-input (node / 2) D_INTR y)

    cost-climb : (i : ℕ) → 32 * i ≤ length path → cost_of (climb_inputs I leaf K path i) ≡ 1 + 2 * i
    unfolding climb_inputs
    cost-climb zero h = cost-one (leaf_input I leaf K) 54 (length-input leaf D_LEAF K ∙ omega (arith, key))
    cost-climb (suc i) h =
        cost-last (climb_inputs I leaf K path i) (parent_input I (leaf / 2 ^ i) (part (32 * i) 32 path) (climb I leaf K path i)) 86
        (length-parent (leaf / 2 ^ i) (part (32 * i) 32 path) (climb I leaf K path i) (length_part path (32 * i) 32 (omega arith)) (length-climb i))
        ∙ omega (arith, cost-climb i (omega arith))

-- all that is hashed for types that the tables have
pub inputs-cost : (t : Row) (h : ℕ) (key message signature : List ℕ) → length key ≡ key_length → length signature ≡ signature_length t h
    → cost_of (inputs_at t key message signature h)
    ≡ compressions_for (54 + length message) + chain_steps t (message_digest t key message signature) + compressions_for (22 + 32 * t.p) + 1 + 2 * h
unfolding inputs_at chain_steps
inputs-cost t h key message signature ek es =
    let I = identifier key in
    let q = leaf_number signature in
    let ots = ots_signature t signature in
    let C = part 4 32 ots in
    let y = part 36 (32 * t.p) ots in
    let S = checked t (message_digest t key message signature) in
    let K = Kc t I q message ots in
    let path = path_of t h signature in
    let id : length I ≡ 16 = length_part key 8 16 (omega arith) in
    let lo : length ots ≡ ots_bytes t = length_part signature 4 (ots_bytes t) (omega arith) in
    let lc : length C ≡ 32 = length_part ots 4 32 (omega arith) in
    let ly : length y ≡ 32 * t.p = length_part ots 36 (32 * t.p) (omega arith) in
    let lp : length path ≡ 32 * h = length_part signature (4 + ots_bytes t + 4) (32 * h) (omega arith) in
    let lk : length K ≡ 32 = unfold Kc in length-digest _ in
    let a = message_input I q C message ∷ [] in
    let b = zs_inputs I q t.w S y t.p in
    let c = key_input I q t (message_digest t key message signature) y ∷ [] in
    let d = climb_inputs I (2 ^ h + q) K path h in
    let la : length (message_input I q C message) ≡ 54 + length message =
    length-append (I ++ u32str q ++ u16str D_MESG ++ C) message ∙ omega (arith, length-input I id q D_MESG C) in
    let lz : length (key_input I q t (message_digest t key message signature) y) ≡ 22 + 32 * t.p =
    length-input I id q D_PBLC (zs I q t.w S y t.p) ∙ ap (λ n. 22 + n) (length-zs I id q t.w S y t.p (omega arith)) in
    let ca : cost_of a ≡ compressions_for (54 + length message) = cost-one (message_input I q C message) _ la in
    let cb : cost_of b ≡ steps t.w S t.p = cost-chains I id q t.w S y t.p (omega arith) in
    let cz : cost_of c ≡ compressions_for (22 + 32 * t.p) = cost-one (key_input I q t (message_digest t key message signature) y) _ lz in
    let cd : cost_of d ≡ 1 + 2 * h = cost-climb I id (2 ^ h + q) K path lk h (omega arith) in
    cost-append (a ++ b ++ c) d
    ∙ ap₂ (λ m n. m + n) (cost-append (a ++ b) c ∙ ap₂ (λ m n. m + n) (cost-append a b ∙ ap₂ (λ m n. m + n) ca cb) cz) cd
    ∙ sym (add_assoc (compressions_for (54 + length message) + steps t.w S t.p + compressions_for (22 + 32 * t.p)) 1 (2 * h))
