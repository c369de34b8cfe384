-- How many hashes are carried and held: for n blocks from the two halves, from one block to the next, and at most.
use Rattle.std.proofs.Common.{◌≡◌, ℕ, zero, suc, pred, ◌+◌, ◌-◌, ◌^◌, ◌<◌, ◌≤◌, max, List, [], ◌∷◌, length, sym, refl, ap, ◌∙◌, ⊎_elim, arith, lit≤, length-append}
use Rattle.merkle.specs.Limits.{max_blocks, max_held}
use Rattle.merkle.specs.Shape.{Shape, leaf, node, size, height, depth, split, shape}
use Rattle.merkle.specs.Frontier.{right_siblings, siblings, frontier, carried_count, held_count}
use Rattle.merkle.specs.Hash.{plain}
use Rattle.merkle.specs.Claims.{Next, HeldAtMost}
use Rattle.merkle.proofs.ShapeLaws.{lt-or-le, shape-leaf, size-shape, depth-least, height-node, depth-known, halves, size-left, size-right}
use Rattle.merkle.proofs.FrontierLaws.{on-halves, largest-zero, largest-left, largest-right, frontier-zero, frontier-leaf, frontier-left, frontier-right, frontier-all, next}
use Rattle.merkle.proofs.HashLaws.{Same, length-hashes, siblings-same, frontier-same}

-- Counts do not depend on where a tree stands.
module _ (o : ℕ) (s : Shape) (i : ℕ) where
  nothing : ℕ → List ℕ
  nothing j = []

  id : List ℕ → List ℕ
  id x = x

  same : Same nothing o nothing 0 s
  unfolding nothing
  same = record { block = λ j g. refl }

  siblings-count : length (siblings o s i) ≡ length (siblings 0 s i)
  siblings-count =
      sym (length-hashes (plain id) nothing (siblings o s i)) ∙ ap length (siblings-same (plain id) o s i same) ∙ length-hashes (plain id) nothing (siblings 0 s i)

  frontier-count : length (frontier o s i) ≡ length (frontier 0 s i)
  frontier-count =
      sym (length-hashes (plain id) nothing (frontier o s i)) ∙ ap length (frontier-same (plain id) o s i same) ∙ length-hashes (plain id) nothing (frontier 0 s i)

pub held-zero : (n : ℕ) → held_count n 0 ≡ 1
unfolding held_count
held-zero n = ap length (frontier-zero 0 (shape n))

pub held_all : (n : ℕ) → 0 < n → held_count n n ≡ 0
unfolding held_count
held_all n h = ap (λ k. length (frontier 0 (shape n) k)) (sym (size-shape n h)) ∙ ap length (frontier-all 0 (shape n))

pub carried-leaf : (n : ℕ) → n ≤ 1 → carried_count n 1 ≡ 0
unfolding carried_count siblings
carried-leaf n h = rw (shape-leaf n h, largest-zero 0 leaf) (unfold right_siblings in refl)

-- The tree over n blocks, n above 1, from its halves, k the split.
module _ (n k : ℕ) (big : 1 < n) (is : k ≡ split n) where
  pub carried_first : carried_count n 1 ≡ carried_count k 1 + 1
  unfolding carried_count siblings
  carried_first =
      rw (halves n k big is, largest-zero 0 (node (shape k) (shape (n - k))), largest-zero 0 (shape k))
      (unfold right_siblings in length-append (right_siblings 0 (shape k)) ((0 + size (shape k), shape (n - k)) ∷ []))

  module _ (i : ℕ) (pos : 0 < i) (low : i < k) where
    pub held-left : held_count n i ≡ held_count k i + 1
    unfolding held_count
    held-left =
        let w = size-left n k big is in
        rw (halves n k big is, frontier-left 0 (shape k) (shape (n - k)) i pos (omega arith))
        (length-append (frontier 0 (shape k) i) ((0 + size (shape k), shape (n - k)) ∷ []))

    pub carried-left : carried_count n (suc i) ≡ carried_count k (suc i)
    unfolding carried_count siblings
    carried-left = let w = size-left n k big is in rw (halves n k big is, largest-left 0 (shape k) (shape (n - k)) i pos (omega arith))

  module _ (i : ℕ) (high : k ≤ i) (lt : i < n) where
    pub held-right : held_count n i ≡ held_count (n - k) (i - k)
    unfolding held_count
    held-right =
        let w = size-left n k big is in
        let v = size-right n k big is in
        rw (halves n k big is, frontier-right 0 (shape k) (shape (n - k)) i (omega arith), size-left n k big is)
        (frontier-count (0 + k) (shape (n - k)) (i - k))

    pub carried-right : carried_count n (suc i) ≡ carried_count (n - k) (suc (i - k))
    unfolding carried_count
    carried-right =
        let w = size-left n k big is in
        let v = size-right n k big is in
        rw (halves n k big is)
        (unfold siblings in rw (largest-right 0 (shape k) (shape (n - k)) i (omega arith), size-left n k big is) (siblings-count (0 + k) (shape (n - k)) (i - k)))

-- One block on: the first held hash goes, the carried ones come.
module _ (n i : ℕ) (h : i < n) where
  after : Next 0 (shape n) i
  after = next 0 (shape n) i (rw (size-shape n (omega arith)) h)

  pub held_next : held_count n (suc i) + 1 ≡ carried_count n (suc i) + held_count n i
  unfolding held_count carried_count
  held_next =
      rw (after.then, after.first, length-append (siblings 0 (shape n) i) after.others) (omega arith)

  pub held-pos : 0 < held_count n i
  unfolding held_count
  held-pos = rw after.first (omega arith)

-- After a block no more are held than the tree is high.
frontier-height : (o : ℕ) (s : Shape) (i : ℕ) → 0 < i → length (frontier o s i) ≤ height s
frontier-height =
    on-halves (λ o s i. 0 < i → length (frontier o s i) ≤ height s) (λ o s h. absurd (omega arith)) (λ o i h g. rw (frontier-leaf o i h) (omega arith))
    (λ o l r i p q ih h.
    rw (frontier-left o l r i p (omega arith), length-append (frontier o l i) ((o + size l, r) ∷ [])) (omega (arith, height-node l r, ih p)))
    (λ o l r i q ih h.
    rw (frontier-right o l r i q)
    (⊎_elim (λ (w : 0 < i - size l). omega (arith, height-node l r, ih w))
    (λ (w : i - size l ≤ 0). let z : i - size l ≡ 0 = omega arith in rw (z, frontier-zero (o + size l) r) (omega (arith, height-node l r))) (lt-or-le 0 (i - size l))))

-- At most as many hashes are held as the tree is deep, and one at depth 0.
pub held-depth : (n i : ℕ) → 0 < n → held_count n i ≤ max 1 (depth n)
held-depth n zero pos = omega (arith, held-zero n)
held-depth n (suc i) pos = unfold held_count in omega (arith, frontier-height 0 (shape n) (suc i) (omega arith), (depth-known n).2 pos)

-- A tree of the most blocks is as deep as the most hashes.
pub limit : (2 ^ pred max_held < max_blocks) × (max_blocks ≤ 2 ^ max_held)
limit = (lit≤ tt, lit≤ tt)

pub depth-most : (n : ℕ) → n ≤ max_blocks → depth n ≤ max_held
depth-most n h = depth-least n max_held (omega (arith, limit.1))

held-most : (n i : ℕ) → 0 < n → n ≤ max_blocks → held_count n i ≤ max_held
held-most n i pos h = omega (arith, held-depth n i pos, depth-most n h)

pub held-at-most : HeldAtMost
held-at-most n i pos = (held-depth n i pos, held-most n i pos)

-- Counts in use: one is held, and those that come have room in the array.
pub record Room (n i : ℕ) : Type 0 where
  pub some : 0 < held_count n i
  pub most : held_count n i ≤ max_held
  pub enough : carried_count n (suc i) + held_count n i ≤ suc max_held

pub room : (n i : ℕ) → i < n → n ≤ max_blocks → Room n i
room n i h le =
    record {
      some = held-pos n i h;
      most = held-most n i (omega arith) le;
      enough = omega (arith, held-most n (suc i) (omega arith) le, held_next n i h);
    }

-- Both counts, as the code gives them.
abbrev pub Counted : ℕ → ℕ → ℕ → ℕ → Type 0
Counted n i h c = (h ≡ held_count n i) × (c ≡ carried_count n (i + 1))

pub counted-most : (n i h c : ℕ) → i < n → n ≤ max_blocks → Counted n i h c → (0 < h) × (h ≤ max_held) × (c + h ≤ suc max_held)
counted-most n i h c lt le e =
    let k = room n i lt le in
    let z : i + 1 ≡ suc i = omega arith in
    let f : c ≡ carried_count n (suc i) = e.1 ∙ ap (carried_count n) z in
    let some = k.some in
    let most = k.most in
    let enough = k.enough in
    (omega arith, omega arith, omega arith)
