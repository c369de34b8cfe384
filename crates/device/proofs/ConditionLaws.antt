-- What a manifest, a block's place and a block message are known to be where the tests before have passed.
use mathlib.Core.Path.{◌≡◌, sym, ap, ap₂, ◌∙◌}
use mathlib.Core.Bool.{Bool, false, not}
use mathlib.Core.List.{List}
use Prim.Native.Nat.{ℕ, zero, suc, ◌+◌, ◌-◌, ◌*◌, ◌≤◌, ◌<◌}
use native.Mathlib.Nat.{zero-add}
use native.Mathlib.Omega.{arith}
use lib.Dec.{ltb}
use lib.ListN.{length, take}
use borrow.Author.Tests.{eqb-true, eq-eqb, ne_eqb, not-false, ltb-false}
use Rattle.octets.specs.Octets.{equal}
use Rattle.sha256.specs.Sha256.{digest}
use Rattle.sha256.proofs.DigestLaws.{length-digest}
use Rattle.merkle.specs.Limits.{hash_length}
use Rattle.merkle.specs.Blocks.{cut, overlay}
use Rattle.merkle.specs.Shape.{shape}
use Rattle.merkle.specs.Hash.{plain, root_over}
use Rattle.merkle.specs.Frontier.{carried_count}
use Rattle.merkle.specs.Held.{fits}
use Rattle.merkle.specs.Cost.{cost, fits_cost}
use Rattle.merkle.proofs.HashLaws.{hash-same}
use Rattle.wire.specs.declared.manifest.Manifest.{Manifest}
use Rattle.wire.specs.Size.{wrong_size}
use Rattle.wire.specs.Geometry.{count_of, block_length, blocks_of, with_block, tree_over}
use Rattle.wire.specs.Message.{block_in, hashes_after, due_length}
use Rattle.wire.specs.Cost.{tree_cost, comparison_cost, last_cost, cost_due}
use Rattle.wire.proofs.GeometryLaws.{before-is, block-end, with_blocks}
use Rattle.wire.proofs.MessageLaws.{Due}
use Rattle.wire.proofs.CostLaws.{costs-due, with-cost}
use Rattle.machine.specs.declared.state.Stage.TheVariants.{Loading}
use Rattle.machine.specs.declared.state.Device.{Device}
use Rattle.machine.specs.Flash.{stored}
use Rattle.machine.specs.Refusals.{too_small, wrong_length, mismatch, lacks_root, last_altered, spent}
use Rattle.machine.proofs.HeldLaws.{mismatch-is}

module _ (s : Manifest) (flash : List ℕ) where
  -- block i has room in the flash
  pub room : (i : ℕ) → s.image_len ≤ length flash → 0 < i → i ≤ count_of s → (i - 1) * s.block_len + block_length s.block_len s.image_len i ≤ length flash
  room zero fits low high = absurd (omega arith)
  room (suc i) fits low high = let z : suc i - 1 ≡ i = omega arith in rw z (block-end s i flash high fits)

  -- 14 of an update and 19 of a block: the tree over flash and block together is the tree over the flash with the block written
  pub lacks-is : (H : List ℕ → List ℕ) (x : List ℕ) (i n : ℕ) (root : List ℕ) (t : Bool) → too_small s flash ≡ false → 0 < i → i ≤ count_of s → n ≡ count_of s
      → length x ≡ block_length s.block_len s.image_len i → root ≡ root_over (plain H) (overlay (cut s.block_len (take s.image_len flash)) (i - 1) x) n → t ≡ equal root s.root
      → not t ≡ lacks_root H s (with_block s.block_len flash i x)
  lacks-is H x zero n root t small low high en long e et = absurd (omega arith)
  lacks-is H x (suc i) n root t small low high en long e et =
      unfold lacks_root tree_over too_small blocks_of in
      let z : suc i - 1 ≡ i = omega arith in
      let same = with_blocks s i flash high (ltb-false _ _ small) x long in
      ap not (et ∙ ap (λ (y : List ℕ). equal y s.root) ((rw (z, en) at e)
      ∙ sym (hash-same (plain H) {o = 0} {g = overlay (blocks_of s flash) i x} {u = 0} (shape (count_of s)) (record { block = λ j h. rw (zero-add j) (same j) }))))

  -- and what that takes
  pub whole-cost : (H : List ℕ → List ℕ) (x : List ℕ) (i n r : ℕ) → too_small s flash ≡ false → 0 < i → i ≤ count_of s → n ≡ count_of s
      → length x ≡ block_length s.block_len s.image_len i → r ≡ cost (plain H) (overlay (cut s.block_len (take s.image_len flash)) (i - 1) x) 0 (shape n)
      → r ≡ tree_cost H s (with_block s.block_len flash i x)
  unfolding too_small
  whole-cost H x i n r small low high en long e =
      e ∙ ap₂ (λ j k. cost (plain H) (overlay (cut s.block_len (take s.image_len flash)) j x) 0 (shape k)) (before-is i) en
      ∙ sym (with-cost H s i flash x low high (ltb-false _ _ small) long)

-- a block message that is as long as it should be, and its hashes in hand
pub measured : (s : Manifest) (i : ℕ) (m : List ℕ) → wrong_length s i m ≡ false → length m ≡ due_length s.block_len s.image_len i
unfolding wrong_length
measured s i m e = eqb-true _ _ (not-false _ e)

pub rest-long : (s : Manifest) (i n k : ℕ) (m r : List ℕ) → 0 < i → n ≡ count_of s → k ≡ block_length s.block_len s.image_len i → r ≡ hashes_after k m
    → Due s.block_len s.image_len i m → length r ≡ hash_length * carried_count n (i - 1 + 1)
unfolding count_of
rest-long s i n k m r pos en ek er d =
    let z : i - 1 + 1 ≡ i = omega arith in
    ap length (er ∙ ap (λ (x : ℕ). hashes_after x m) ek) ∙ d.rest ∙ rw (z, en)

-- 19 of a block, as the code tests it: not the last, and the last
module _ (H : List ℕ → List ℕ) (s : Manifest) (i n : ℕ) (flash m : List ℕ) (en : n ≡ count_of s) where
  pub not_last : (i ≡ n → ⊥) → false ≡ last_altered H s i flash m
  unfolding last_altered
  not_last apart = rw (ne_eqb i (count_of s) (λ e. apart (e ∙ sym en)))

  pub at_last : (k : ℕ) (b : List ℕ) (t : Bool) → i ≡ n → k ≡ block_length s.block_len s.image_len i → b ≡ block_in k m
      → t ≡ lacks_root H s (with_block s.block_len flash i b) → t ≡ last_altered H s i flash m
  unfolding last_altered stored
  at_last k b t e ek eb et = rw (eq-eqb i (count_of s) (e ∙ en), et, eb, ek)

  pub not-last-cost : (i ≡ n → ⊥) → 0 ≡ last_cost H s i flash m
  unfolding last_cost
  not-last-cost apart = rw (ne_eqb i (count_of s) (λ e. apart (e ∙ sym en)))

  pub at-last-cost : (k : ℕ) (b : List ℕ) (r : ℕ) → i ≡ n → k ≡ block_length s.block_len s.image_len i → b ≡ block_in k m
      → r ≡ tree_cost H s (with_block s.block_len flash i b) → r ≡ last_cost H s i flash m
  unfolding last_cost
  at-last-cost k b r e ek eb er = rw (eq-eqb i (count_of s) (e ∙ en), er, eb, ek)

  -- the comparison, as the code counts it
  pub compared-cost : (k : ℕ) (b r : List ℕ) (c : ℕ) → 0 < i → k ≡ block_length s.block_len s.image_len i → b ≡ block_in k m → r ≡ hashes_after k m
      → c ≡ fits_cost (plain H) n (i - 1) b r → c ≡ comparison_cost H s i m
  unfolding comparison_cost fits_cost
  compared-cost k b r c pos ek eb er ec = let z : suc (i - 1) ≡ i = omega arith in rw (ec, z, eb, er, en, ek)

-- 20, as the code tests it: what the message costs is known by its length
pub spent-known : (s : Manifest) (i budget c : ℕ) → wrong_size s.block_len s.image_len ≡ false → 0 < i → i ≤ count_of s → c ≡ cost_due digest s i
    → (flash m : List ℕ) → too_small s flash ≡ false → wrong_length s i m ≡ false → ltb budget c ≡ spent digest budget s i flash m
unfolding too_small spent
spent-known s i budget c size low high ec flash m small long =
    ap (ltb budget) (ec ∙ sym ((costs-due digest length-digest s i size low high).known flash m (ltb-false _ _ small) (measured s i m long)))

-- 14 while loading, as the code tests it
pub mismatch-found : (H : List ℕ → List ℕ) (d : Device) (i n k : ℕ) (m b r : List ℕ) (t : Bool) → d.stage ≡ Loading i → 0 < i → i ≤ count_of d.manifest → n ≡ count_of d.manifest
    → k ≡ block_length d.manifest.block_len d.manifest.image_len i → b ≡ block_in k m → r ≡ hashes_after k m → t ≡ fits (plain H) n (i - 1) d.hashes b r
    → not t ≡ mismatch H d i m
mismatch-found H d zero n k m b r t stage low high en ek eb er e = absurd (omega arith)
mismatch-found H d (suc j) n k m b r t stage low high en ek eb er e =
    let z : suc j - 1 ≡ j = omega arith in
    rw (e, eb, er, en, ek, z) (sym (mismatch-is H d j stage high m))
