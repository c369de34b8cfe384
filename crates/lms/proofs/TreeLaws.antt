-- The way from a leaf to the top: one turn, and how many there are.
use mathlib.Core.Path.{◌≡◌, refl, ap, ◌∙◌}
use mathlib.Core.List.{List}
use mathlib.Core.Logic.{⊎_elim}
use Prim.Native.Nat.{ℕ, suc, ◌+◌, ◌*◌, ◌/◌, ◌^◌, ◌≤◌, ◌<◌}
use native.Mathlib.Nat.{div-eq_of_lt-le, eq-or-lt_of_le, le-div_iff_mul-le, pow-suc}
use native.Mathlib.Numerals.{add-one}
use native.Mathlib.Omega.{arith}
use lib.Arith.{lt_of_le-ne}
use lib.Pow.{pow_mono, pow_pos, shr-shr}
use Rattle.octets.specs.Octets.{part}
use Rattle.lms.specs.Tree.{parent, climb}
use Rattle.lms.proofs.ChunkLaws.{chunk}
use Rattle.std.proofs.lemmas.Nat.{one_shl}
use Rattle.lms.specs.Claims.{Turns}

pub node-halved : (leaf i : ℕ) {node : ℕ} → node ≡ leaf / 2 ^ i → node / 2 ≡ leaf / 2 ^ (i + 1)
node-halved leaf i e = ap (λ (n : ℕ). n / 2) e ∙ shr-shr leaf i 1

pub climb-suc : (I : List ℕ) (leaf : ℕ) (K path : List ℕ) (i : ℕ) {node : ℕ} {sibling tmp : List ℕ} → node ≡ leaf / 2 ^ i → sibling ≡ part (32 * i) 32 path
    → tmp ≡ climb I leaf K path i → parent I node sibling tmp ≡ climb I leaf K path (i + 1)
unfolding climb
climb-suc I leaf K path i e f g = rw (add-one i) (cc)

-- the loop runs while the node's number is above 1, and that is h turns
module _ (h q : ℕ) (inside : q < 2 ^ h) where
  top : (2 ^ h + q) / 2 ^ h ≡ 1
  top = div-eq_of_lt-le (2 ^ h) (omega arith) (omega arith)

  below_top : (i : ℕ) → i < h → 1 < (2 ^ h + q) / 2 ^ i
  below_top i l =
      let m : 2 ^ suc i ≤ 2 ^ h = pow_mono l in
      (le-div_iff_mul-le (pow_pos i)).1 (omega (arith, pow-suc 2 i))

  module _ (i : ℕ) {node : ℕ} (turns : i ≤ h) (number : node ≡ (2 ^ h + q) / 2 ^ i) where
    pub goes_on : 1 < node → i < h
    goes_on l = lt_of_le-ne turns (λ e. let f : node ≡ 1 = number ∙ ap (λ (x : ℕ). (2 ^ h + q) / 2 ^ x) e ∙ top in omega arith)

    pub ends : node ≤ 1 → i ≡ h
    ends l = ⊎_elim (λ e. e) (λ b. absurd (omega (arith, below_top i b))) (eq-or-lt_of_le turns)

pub turns : Turns
turns h q inside i l = (goes_on h q inside i l refl, ends h q inside i l refl)

-- for the search: one turn of the loop
pub ruleset climbing = (node-halved, climb-suc, chunk, one_shl)
