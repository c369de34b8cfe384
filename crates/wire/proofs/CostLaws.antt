-- What a block message costs follows from L, T and its number.
use mathlib.Core.Path.{◌≡◌, sym, ap, ap₂, ◌∙◌}
use mathlib.Core.Bool.{false, cond}
use mathlib.Core.List.{List}
use Prim.Native.Nat.{ℕ, zero, suc, pred, ◌+◌, ◌-◌, ◌*◌, ◌/◌, ◌≤◌, ◌<◌}
use native.Mathlib.Nat.{add-zero, zero-add, div-zero, div-eq_of_lt}
use lib.Dec.{eqb}
use native.Mathlib.Omega.{arith}
use lib.ListN.{length, take}
use lib.Seq.{length-take-le}
use borrow.Author.Tests.{ne_eqb}
use Rattle.merkle.specs.Limits.{hash_length}
use Rattle.merkle.specs.Hash.{plain}
use Rattle.merkle.specs.Blocks.{block_count, cut, overlay}
use Rattle.merkle.specs.Shape.{shape}
use Rattle.merkle.specs.Frontier.{carried_count}
use Rattle.merkle.specs.Held.{hashes_in}
use Rattle.merkle.specs.Cost.{cost, climb_cost, fits_cost, known_cost, most_cost}
use Rattle.merkle.proofs.CostLaws.{cost-same}
use Rattle.merkle.proofs.MessageCostLaws.{cost-known, cost-most}
use Rattle.merkle.proofs.FirstLaws.{first-most}
use Rattle.wire.specs.declared.manifest.Manifest.{Manifest}
use Rattle.wire.specs.Size.{wrong_size}
use Rattle.wire.specs.Geometry.{count_of, block_length, blocks_of, with_block}
use Rattle.wire.specs.Message.{block_in, hashes_after, due_length}
use Rattle.wire.specs.Cost.{tree_cost, comparison_cost, last_cost, block_cost, cost_due}
use Rattle.wire.specs.Claims.{CostsDue, FirstCostsMost}
use Rattle.wire.proofs.SizeLaws.{sized}
use Rattle.wire.proofs.GeometryLaws.{block-lengths, block-length-few, with_blocks}
use Rattle.wire.proofs.MessageLaws.{length-block, due}

-- The tree over the flash with block i written costs what the tree over flash and block together does.
pub with-cost : (H : List ℕ → List ℕ) (s : Manifest) (i : ℕ) (flash x : List ℕ) → 0 < i → i ≤ count_of s → s.image_len ≤ length flash
    → length x ≡ block_length s.block_len s.image_len i
    → tree_cost H s (with_block s.block_len flash i x) ≡ cost (plain H) (overlay (cut s.block_len (take s.image_len flash)) (pred i) x) 0 (shape (count_of s))
with-cost H s zero flash x low high room long = absurd (omega arith)
with-cost H s (suc j) flash x low high room long =
    unfold tree_cost blocks_of in
    let same = with_blocks s j flash high room x long in
    cost-same (plain H) {o = 0} {g = overlay (blocks_of s flash) j x} {u = 0} (shape (count_of s)) (record { block = λ t h. rw (zero-add t) (same t) })

module _ (H : List ℕ → List ℕ) (hash-long : (x : List ℕ) → length (H x) ≡ hash_length) (s : Manifest) (i : ℕ) (size : wrong_size s.block_len s.image_len ≡ false) (pos : 0 < i)
    (high : i ≤ count_of s) where
  abbrev L : ℕ
  L = s.block_len

  abbrev T : ℕ
  T = s.image_len

  abbrev k : ℕ
  k = block_length L T i

  known : (flash m : List ℕ) → T ≤ length flash → length m ≡ due_length L T i → block_cost H s i flash m ≡ cost_due H s i
  unfolding block_cost comparison_cost last_cost cost_due count_of fits_cost
  known flash m area long =
      let z = sized L T size in
      let w = due L T i m long in
      let e : suc (pred i) ≡ i = omega arith in
      let b : List ℕ = block_in k m in
      let r : List ℕ = hashes_after k m in
      let lb : length b ≡ k = length-block k m w.long in
      ap₂ (λ x y. x + y) (ap (λ j. climb_cost (plain H) b (hashes_in (carried_count (count_of s) j) r)) (sym e))
      (ap₂ (λ j c. cond (eqb j (count_of s)) c 0) (sym e) (with-cost H s i flash b pos high area lb))
      ∙ cost-known (plain H) hash-long L (count_of s) (pred i) (take T flash) b r (omega arith) (omega (arith, z.below, length-take-le T flash area)) (rw e w.rest)
      ∙ ap (known_cost (plain H) L (count_of s) (pred i)) lb

  most : cost_due H s i ≤ most_cost
  unfolding cost_due count_of
  most = let z = sized L T size in cost-most H L (count_of s) (pred i) k z.most (block-length-few L T i size) (omega arith) z.count

pub costs-due : CostsDue
costs-due H hash-long s i size pos high = record { known = known H hash-long s i size pos high; most = most H hash-long s i size pos high }

-- A block before the last has L bytes.
pub early-due : (H : List ℕ → List ℕ) (s : Manifest) (i : ℕ) → wrong_size s.block_len s.image_len ≡ false → 0 < i → i < count_of s
    → cost_due H s i ≡ known_cost (plain H) s.block_len (count_of s) (pred i) s.block_len
unfolding cost_due count_of
early-due H s i size pos low =
    let z = sized s.block_len s.image_len size in
    ap (known_cost (plain H) s.block_len (count_of s) (pred i)) ((block-lengths s.block_len s.image_len (omega (arith, z.least)) z.some).earlier i pos low)

-- Where there are blocks, they have bytes.
some_bytes : (L T : ℕ) → 0 < block_count L T → (0 < L) × (0 < T)
unfolding block_count
some_bytes zero T h = absurd (omega (arith, div-zero (T + (0 - 1))))
some_bytes (suc l) zero h = let none : (0 + (suc l - 1)) / suc l ≡ 0 = div-eq_of_lt (omega arith) in absurd (omega arith)
some_bytes (suc l) (suc t) h = (omega arith, omega arith)

-- The comparison of a message before the last: of L bytes and the hashes behind them, and all that it costs.
record Early (H : List ℕ → List ℕ) (s : Manifest) (i cost : ℕ) : Type 0 where
  block : List ℕ
  hashes : List ℕ
  block_long : length block ≡ s.block_len
  hashes_long : length hashes ≡ hash_length * carried_count (count_of s) (suc (pred i))
  is : cost ≡ fits_cost (plain H) (count_of s) (pred i) block hashes

early : (H : List ℕ → List ℕ) (s : Manifest) (i : ℕ) → 0 < i → i < count_of s → (flash m : List ℕ) → length m ≡ due_length s.block_len s.image_len i
    → Early H s i (block_cost H s i flash m)
unfolding block_cost comparison_cost last_cost count_of fits_cost
early H s i pos low flash m long =
    let L = s.block_len in
    let T = s.image_len in
    let k = block_length L T i in
    let some = some_bytes L T (omega arith) in
    let w = due L T i m long in
    let e : i ≡ suc (pred i) = omega arith in
    let b = block_in k m in
    let r = hashes_after k m in
    record {
      block = b;
      hashes = r;
      block_long = length-block k m w.long ∙ (block-lengths L T some.0 some.1).earlier i pos low;
      hashes_long = w.rest ∙ ap (λ j. hash_length * carried_count (count_of s) j) e;
      is = rw (ne_eqb i (count_of s) (λ z. omega arith))
          (add-zero (climb_cost (plain H) b (hashes_in (carried_count (count_of s) i) r)) ∙ ap (λ j. climb_cost (plain H) b (hashes_in (carried_count (count_of s) j) r)) e);
    }

pub first-costs-most : FirstCostsMost
first-costs-most H hash-long s i pos low flash m first_flash first long first-long =
    let here = early H s i pos low flash m long in
    let there = early H s 1 (omega arith) (omega arith) first_flash first first-long in
    rw (here.is, there.is)
    (first-most.1 (plain H) hash-long (count_of s) (pred i) here.block here.hashes there.block there.hashes (omega arith)
    (here.block_long ∙ sym there.block_long) here.hashes_long there.hashes_long)
