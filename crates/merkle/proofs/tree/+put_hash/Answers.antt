-- `merkle::tree::put_hash` meets its contract.
use Rattle.std.proofs.Common.{◌≡◌, ℕ, ◌+◌, ◌-◌, ◌*◌, ◌%◌, ◌^◌, ◌<◌, ◌≤◌, List, length, take, drop, sym, refl, ap, ◌∙◌, ap₂, zero-add, arith, length-take, rules}
use Rattle.sha256.specs.Sha256.{digest, compressions}
use Rattle.octets.specs.Octets.{part}
use Rattle.octets.proofs.CopyLaws.{part-from, length_part}
use Rattle.merkle.specs.Limits.{hash_length, held_bytes}
use Rattle.merkle.specs.Blocks.{cut, overlay}
use Rattle.merkle.specs.Shape.{depth, split, shape}
use Rattle.merkle.specs.Hash.{plain, leaf_input, node_input, node_hash, hash}
use Rattle.merkle.specs.Cost.{cost_without}
use Rattle.merkle.proofs.ShapeLaws.{split_between, depth-halves}
use Rattle.merkle.proofs.CostLaws.{of-block, of_two, without-two}
use Rattle.merkle.proofs.TreeLaws.{Subtree, left-of, right_of, one-new, one_kept, one-new-cost, one-kept-cost, blocks-few, hash-two, left-fits, right-fits, part_same, Kept, kept_then, put-here, put-kept}
use Rattle.merkle.proofs.tree.+put_hash.Goals.{then-n-gt1, else-n-gt1, then-n-gt1-2, else-n-gt1-2+then-skip-eq0, else-n-gt1-2+else-skip-eq0}
use Rattle.merkle.proofs.tree.+put_hash.Goals as goal

-- the split is between, the right half starts within the rest, and both halves are less deep
halved : (to A L n k : ℕ) → 1 < n → k ≡ split n → to + hash_length * depth n ≤ held_bytes → (n - 1) * L ≤ A
    → (0 < k) × (k < n) × (k * L ≤ A) × (to + hash_length * depth k + hash_length ≤ held_bytes) × (to + hash_length + hash_length * depth (n - k) ≤ held_bytes)
halved to A L n k big is room long =
    let m = split_between n k big is in
    let d = depth-halves n k big is in
    (m.0, m.1, left-fits L A n k m.1 long, omega arith, omega arith)

-- what a node's own hash takes, and at most a block's
node-two : (h : List ℕ) (i : ℕ) → i + 2 * hash_length ≤ length h → compressions (node_input (plain digest) (part i hash_length h) (part (i + hash_length) hash_length h)) ≡ 2
node-two h i room = of_two (plain digest) _ _ (length_part h i hash_length (omega arith)) (length_part h (i + hash_length) hash_length (omega arith))

block-few : (L : ℕ) (s : List ℕ) → L ≤ 1024 → compressions (leaf_input (plain digest) (take L s)) ≤ 17
block-few L s h =
    let few : length (take L s) ≤ 1024 = simp length-take (omega arith) in
    omega (arith, of-block (plain digest) (take L s))

pub put_hash-left-requires : goal.put_hash-left-requires
put_hash-left-requires t c =
    let a = c.args in
    let k = halved a.to _ a.len a.n c.split-k.result (omega arith) c.split-k.ensures.value c.requires.1 c.requires.2 in
    (omega arith, (k.0, omega arith, left-fits a.len _ a.n (c.split-k.result - 1) (omega arith) c.requires.2, c.requires.3))

pub overflow_mul-from : goal.overflow_mul-from
overflow_mul-from t c =
    let a = c.args in
    omega (arith, (halved a.to (length a.rest.now) a.len a.n c.split-k.result (omega arith) c.split-k.ensures.value c.requires.1 c.requires.2).2)

pub slice_bounds-put_hash-count : goal.slice_bounds-put_hash-count
slice_bounds-put_hash-count t c =
    let a = c.args in
    (halved a.to _ a.len a.n c.split-k.result (omega arith) c.split-k.ensures.value c.requires.1 c.requires.2).2

pub slice_bounds-put_hash-start : goal.slice_bounds-put_hash-start
slice_bounds-put_hash-start t c =
    let a = c.args in
    search (rules, (halved a.to (length a.rest.now) a.len a.n c.split-k.result (omega arith) c.split-k.ensures.value c.requires.1 c.requires.2).2)

pub put_hash-right-requires : goal.put_hash-right-requires
put_hash-right-requires t c =
    let a = c.args in
    let i = c.split-k.result in
    let r = a.rest.now in
    let k = halved a.to (length r) a.len a.n i (omega arith) c.split-k.ensures.value c.requires.1 c.requires.2 in
    (omega arith, (omega arith, omega (arith, k.4), rw (part-from r (i * a.len)) (right-fits a.len a.n i (a.n - i) r (omega arith) (omega arith) c.requires.2), c.requires.3))

pub overflow_add-below : goal.overflow_add-below
overflow_add-below t c =
    omega (arith, blocks-few c.args.to c.args.n c.requires.1, c.put_hash-left.ensures.few, c.put_hash-right.ensures.few)

pub overflow_add-result : goal.overflow_add-result
overflow_add-result t c =
    let a = c.args in
    let few = blocks-few a.to a.n c.requires.1 in
    let calls : c.if-n-gt1.below ≤ 19 * a.n =
    elim c.if-n-gt1.branch [
      | then-n-gt1 w ↦ omega (arith, w.split-k.ensures.between, w.below-is, w.put_hash-left.ensures.few, w.put_hash-right.ensures.few)
      | else-n-gt1 w ↦ omega (arith, w.below-is)
    ] in
    let own : c.if-n-gt1-2.own ≤ 17 =
    elim c.if-n-gt1-2.branch [
      | then-n-gt1-2 w ↦ omega (arith, w.own-is ∙ w.pair-own.ensures.1 ∙ node-two c.if-n-gt1.hashes a.to (omega arith))
      | else-n-gt1-2+then-skip-eq0 w ↦ omega (arith, w.own-is)
      | else-n-gt1-2+else-skip-eq0 w ↦ omega (arith, w.own-is ∙ w.leaf.ensures.1, block-few a.len a.rest.now c.requires.3)
    ] in
    omega arith

pub returns : goal.returns
returns t c =
    let a = c.args in
    let H = plain digest in
    let d = c.if-n-gt1.hashes in
    let x = c.if-n-gt1-2.x in
    let new = part (held_bytes + hash_length) hash_length a.hashes.now in
    let long : length x ≡ hash_length = omega arith in
    -- what the calls, if there are any, leave of the array, and what they put there
    let kept : Kept a.to a.hashes.now d =
    elim c.if-n-gt1.branch [
      | then-n-gt1 w ↦
          rw w.hashes-is
          (kept_then a.to (a.to + hash_length) (omega arith) a.hashes.now w.put_hash-left.new.hashes w.put_hash-right.new.hashes w.put_hash-left.ensures.kept w.put_hash-right.ensures.kept)
      | else-n-gt1 w ↦ (ap (take a.to) w.hashes-is, ap (drop (held_bytes + hash_length)) w.hashes-is)
    ] in
    let l = part a.to hash_length d in
    let r = part (a.to + hash_length) hash_length d in
    let both : 1 < a.n → (bytes block : List ℕ) (first at : ℕ) → Subtree H a.len bytes block at new a.rest.now first a.n a.skip
    → (node_hash H l r ≡ hash H (overlay (cut a.len bytes) at block) first (shape a.n))
    × (c.if-n-gt1.below + compressions (node_input H l r) ≡ cost_without H at (overlay (cut a.len bytes) at block) first (shape a.n)) =
    λ big bytes block first at s.
    elim c.if-n-gt1.branch [
      | then-n-gt1 w ↦
          let k = w.split-k.result in
          let m = w.split-k.ensures.between in
          let sl = left-of s k m.1 in
          let sr = right_of s k ((a.skip + (2 ^ 64 - k)) % 2 ^ 64) m.1 (omega arith) in
          let e = w.put_hash-right.new.hashes in
          let f = overlay (cut a.len bytes) at block in
          let left = w.put_hash-left.ensures.put bytes block first at sl.small sl.skips sl.starts sl.replaced in
          let right =
          w.put_hash-right.ensures.put bytes block (first + k) at sr.small sr.skips (sr.starts ∙ sym (part-from a.rest.now (k * a.len)))
          (λ h. ap (take hash_length) w.put_hash-left.ensures.kept.1 ∙ sr.replaced h) in
          let same = part_same e w.put_hash-left.new.hashes a.to hash_length w.put_hash-right.ensures.kept.0 ∙ left.0 in
          rw (w.hashes-is, w.below-is) (
            hash-two H f first a.n k (part a.to hash_length e) (part (a.to + hash_length) hash_length e) big w.split-k.ensures.value same right.0,
            without-two H at f first a.n k (part a.to hash_length e) (part (a.to + hash_length) hash_length e) _ _ _ big w.split-k.ensures.value same right.0 left.1 right.1 refl,
          )
      | else-n-gt1 w ↦ absurd (omega (arith, w.if-n-gt1.false))
    ] in
    -- how many the calls took, if there are any
    let calls : 1 < a.n → c.if-n-gt1.below + 4 ≤ 19 * a.n =
    λ big. elim c.if-n-gt1.branch [
      | then-n-gt1 w ↦ omega (arith, w.split-k.ensures.between, w.below-is, w.put_hash-left.ensures.few, w.put_hash-right.ensures.few)
      | else-n-gt1 w ↦ absurd (omega (arith, w.if-n-gt1.false))
    ] in
    let alone : a.n ≡ 1 → c.if-n-gt1.below ≡ 0 =
    λ one. elim c.if-n-gt1.branch [ then-n-gt1 w ↦ absurd (omega (arith, w.if-n-gt1.true)) | else-n-gt1 w ↦ w.below-is ] in
    -- the hash that is put, and what it took
    let made : (bytes block : List ℕ) (first at : ℕ) → Subtree H a.len bytes block at new a.rest.now first a.n a.skip
    → (x ≡ hash H (overlay (cut a.len bytes) at block) first (shape a.n))
    × (c.if-n-gt1.below + c.if-n-gt1-2.own ≡ cost_without H at (overlay (cut a.len bytes) at block) first (shape a.n)) =
    λ bytes block first at s.
    elim c.if-n-gt1-2.branch [
      | then-n-gt1-2 w ↦
          let g = both w.if-n-gt1-2.true bytes block first at s in
          (w.x-is ∙ w.pair-own.ensures.0 ∙ g.0, ap (λ k. c.if-n-gt1.below + k) (w.own-is ∙ w.pair-own.ensures.1) ∙ g.1)
      | else-n-gt1-2+then-skip-eq0 w ↦
          let one : a.n ≡ 1 = omega (arith, w.if-n-gt1-2.false) in
          (w.x-is ∙ w.array_at-x.ensures ∙ ap (take hash_length) kept.1 ∙ one-new s one w.if-skip-eq0.true, ap₂ (λ i j. i + j) (alone one) w.own-is ∙ one-new-cost s one w.if-skip-eq0.true)
      | else-n-gt1-2+else-skip-eq0 w ↦
          let one : a.n ≡ 1 = omega (arith, w.if-n-gt1-2.false) in (
            w.x-is ∙ w.leaf.ensures.0 ∙ one_kept s one (omega arith) w.if-skip-eq0.false,
            ap₂ (λ i j. i + j) (alone one) (w.own-is ∙ w.leaf.ensures.1) ∙ zero-add _ ∙ one-kept-cost s one (omega arith) w.if-skip-eq0.false,
          )
    ] in
    let sums : c.if-n-gt1.below + c.if-n-gt1-2.own + 2 ≤ 19 * a.n =
    elim c.if-n-gt1-2.branch [
      | then-n-gt1-2 w ↦
          let b = calls w.if-n-gt1-2.true in
          omega (arith, w.own-is ∙ w.pair-own.ensures.1 ∙ node-two d a.to (omega arith))
      | else-n-gt1-2+then-skip-eq0 w ↦
          let b = alone (omega (arith, w.if-n-gt1-2.false)) in
          omega (arith, w.own-is)
      | else-n-gt1-2+else-skip-eq0 w ↦
          let b = alone (omega (arith, w.if-n-gt1-2.false)) in
          omega (arith, w.own-is ∙ w.leaf.ensures.1, block-few a.len a.rest.now c.requires.3)
    ] in
    let room : a.to + hash_length ≤ length d = omega arith in
    let put : Kept a.to d c.copy.new.dst = rw c.copy.ensures (put-kept d x a.to long room (omega arith)) in
    record {
      kept = kept_then a.to a.to (omega arith) a.hashes.now d c.copy.new.dst kept put;
      put = λ bytes block first at small skips starts replaced.
          let m = made bytes block first at (record { small = small; skips = skips; starts = starts; replaced = replaced }) in
          (ap (part a.to hash_length) c.copy.ensures ∙ put-here d x a.to long room ∙ m.0, m.1);
      few = sums;
    }
