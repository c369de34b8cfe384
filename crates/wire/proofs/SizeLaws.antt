-- What an allowed size says of block length, image length and block count.
use mathlib.Core.Path.{◌≡◌, refl}
use mathlib.Core.Bool.{Bool, true, false, not, ◌&&◌, ◌||◌}
use Prim.Native.Nat.{ℕ, zero, suc, ◌+◌, ◌-◌, ◌*◌, ◌/◌, ◌%◌, ◌≤◌, ◌<◌}
use native.Mathlib.Nat.{le_trans, mul-le-mul_left, mul-le-mul_right, div-add-mod', mod-lt}
use lib.Arith.{digits_div}
use native.Mathlib.Omega.{arith}
use Rattle.std.proofs.lemmas.Bool.{and_parts, or_parts}
use Rattle.std.proofs.lemmas.Bool.Decides.{nat_tests}
use lib.Dec.{eqb, ltb}
use borrow.Author.Tests.{eqb-false, ltb-false, not-false}
use Rattle.std.specs.Int.{div_ceil}
use Rattle.merkle.specs.Limits.{max_blocks}
use Rattle.merkle.specs.Blocks.{block_count}
use Rattle.merkle.proofs.BlockLaws.{block-count}
use Rattle.wire.specs.Size.{allowed_length, wrong_size, outside}

-- the library's, under older names
pub or-false : (s t : Bool) → s || t ≡ false → (s ≡ false) × (t ≡ false)
or-false = or_parts

pub and-true : (s t : Bool) → s && t ≡ true → (s ≡ true) × (t ≡ true)
and-true = and_parts

pub length-range : (L : ℕ) → allowed_length L ≡ true → (64 ≤ L) × (L ≤ 1024)
unfolding allowed_length
length-range L e = grind (arith, nat_tests)

pub ruleset ranges = (length-range)

-- the block count as the library works it out
pub count-is : (L T : ℕ) → 0 < L → div_ceil T L ≡ block_count L T
unfolding block_count
count-is L T l = go (T % L) refl
  where
    go : (r : ℕ) → T % L ≡ r → div_ceil T L ≡ (T + (L - 1)) / L
    go zero e =
        let whole : T + (L - 1) ≡ T / L * L + (L - 1) = omega (arith, div-add-mod' T L) in
        rw (e, whole) (omega (arith, digits_div (T / L) {m = L} {r = L - 1} (omega arith)))
    go (suc r) e =
        let more : T + (L - 1) ≡ (T / L + 1) * L + r = omega (arith, div-add-mod' T L) in
        rw (e, more) (omega (arith, digits_div (T / L + 1) {m = L} {r = r} (omega (arith, mod-lt T l))))

pub ruleset counts = (count-is)

-- all that refusal 5 leaves
pub record Sized (L T : ℕ) : Type 0 where
  pub allowed : allowed_length L ≡ true
  pub least : 64 ≤ L
  pub most : L ≤ 1024
  pub some : 0 < T
  pub first : 0 < block_count L T
  pub count : block_count L T ≤ max_blocks
  pub below : (block_count L T - 1) * L < T
  pub above : T ≤ block_count L T * L
  pub total : T ≤ max_blocks * 1024

pub sized : (L T : ℕ) → wrong_size L T ≡ false → Sized L T
unfolding wrong_size
sized L T e =
    let a = or_parts (not (allowed_length L)) _ e in
    let b = or_parts (eqb T 0) _ a.1 in
    let ok = not-false (allowed_length L) a.0 in
    let r = length-range L ok in
    let t : 0 < T = omega (arith, eqb-false T 0 b.0) in
    let k = block-count L T (omega arith) t in
    record {
      allowed = ok;
      least = r.0;
      most = r.1;
      some = t;
      first = k.some;
      count = ltb-false max_blocks (block_count L T) b.1;
      below = k.below;
      above = k.enough;
      total = le_trans k.enough (le_trans (mul-le-mul_right L (ltb-false max_blocks (block_count L T) b.1)) (mul-le-mul_left max_blocks r.1));
    }

-- neither length is zero
pub some_lengths : (L T : ℕ) → wrong_size L T ≡ false → (0 < L) × (0 < T)
some_lengths L T e = let z = sized L T e in (omega (arith, z.least), z.some)

pub inside : (n i : ℕ) → outside n i ≡ false → (0 < i) × (i ≤ n)
unfolding outside
inside n i e = grind (arith, nat_tests)

-- refusal 5 of lengths that are not zero and allowed: the number of blocks decides
pub wrong-count : (L T n : ℕ) → (T ≡ 0 → ⊥) → true ≡ allowed_length L → n ≡ block_count L T → ltb max_blocks n ≡ wrong_size L T
unfolding wrong_size
wrong-count L T n z a e = grind (arith, nat_tests)

-- refusal 11 does not apply
pub outside-not : (n i : ℕ) → (i ≡ 0 → ⊥) → i ≤ n → outside n i ≡ false
unfolding outside
outside-not n i z h = grind (arith, nat_tests)
