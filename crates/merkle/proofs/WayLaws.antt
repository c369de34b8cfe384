-- A block's way up by halves: its siblings, and how many they are.
use Rattle.std.proofs.Common.{◌≡◌, ℕ, suc, ◌+◌, ◌-◌, ◌<◌, ◌≤◌, max, Bool, true, false, cond, ltb, [], ◌∷◌, ◌++◌, length, sym, refl, ap, ◌∙◌, arith}
use Rattle.merkle.specs.Limits.{max_blocks, max_held}
use Rattle.merkle.specs.Shape.{Shape, leaf, node, size, height, least_from, depth, split, build, shape}
use Rattle.merkle.specs.Path.{path_siblings, leaf_depth}
use Rattle.merkle.specs.Claims.{LeafDepths}
use Rattle.merkle.proofs.ShapeLaws.{depth-known, shape-leaf, halves, size-left, size-shape}
use Rattle.merkle.proofs.CountLaws.{depth-most}
use Rattle.merkle.proofs.PathLaws.{down-left, down-right, length_last, length-way}

-- The number of siblings does not depend on the blocks before the tree.
length_at : (o p : ℕ) (s : Shape) (i : ℕ) → length (path_siblings o s i) ≡ length (path_siblings p s i)
unfolding path_siblings
length_at o p leaf i = refl
length_at o p (node l r) i = go (ltb i (size l)) (length_at o p l i) (length_at (o + size l) (p + size l) r (i - size l))
  where
    go : (t : Bool) → length (path_siblings o l i) ≡ length (path_siblings p l i) → length (path_siblings (o + size l) r (i - size l)) ≡ length (path_siblings (p + size l) r (i - size l))
        → length (cond t (path_siblings o l i ++ ((o + size l, r) ∷ [])) (path_siblings (o + size l) r (i - size l) ++ ((o, l) ∷ [])))
        ≡ length (cond t (path_siblings p l i ++ ((p + size l, r) ∷ [])) (path_siblings (p + size l) r (i - size l) ++ ((p, l) ∷ [])))
    go true e f = length_last (path_siblings o l i) (o + size l, r) ∙ ap suc e ∙ sym (length_last (path_siblings p l i) (p + size l, r))
    go false e f = length_last (path_siblings (o + size l) r (i - size l)) (o, l) ∙ ap suc f ∙ sym (length_last (path_siblings (p + size l) r (i - size l)) (p, l))

pub depth-one : (n i : ℕ) → n ≤ 1 → leaf_depth n i ≡ 0
unfolding leaf_depth path_siblings
depth-one n i h = rw (shape-leaf n h) refl

module _ (n i k : ℕ) (big : 1 < n) (is : k ≡ split n) where
  pub depth-left : i < k → leaf_depth n i ≡ suc (leaf_depth k i)
  unfolding leaf_depth down-left
  depth-left lt =
      let d = down-left 0 (shape k) (shape (n - k)) i (rw (size-left n k big is) lt) in
      ap (λ s. length (path_siblings 0 s i)) (halves n k big is) ∙ ap length d.siblings_are ∙ length_last (path_siblings 0 (shape k) i) (d.from, d.beside)

  pub depth-right : k ≤ i → i < n → leaf_depth n i ≡ suc (leaf_depth (n - k) (i - k))
  unfolding leaf_depth down-right
  depth-right le lt =
      let z = size-left n k big is in
      let d = down-right 0 (shape k) (shape (n - k)) i (rw z le) (rw (← halves n k big is, size-shape n (omega arith)) lt) in
      ap (λ s. length (path_siblings 0 s i)) (halves n k big is) ∙ ap length d.siblings_are
      ∙ length_last (path_siblings (0 + size (shape k)) (shape (n - k)) (i - size (shape k))) (d.from, d.beside)
      ∙ ap suc (length_at (0 + size (shape k)) 0 (shape (n - k)) (i - size (shape k)) ∙ ap (λ x. length (path_siblings 0 (shape (n - k)) (i - x))) z)

-- There are no more than the tree is high.
path-height : (o : ℕ) (s : Shape) (i : ℕ) → length (path_siblings o s i) ≤ height s
unfolding path_siblings height
path-height o leaf i = omega arith
path-height o (node l r) i = go (ltb i (size l)) (path-height o l i) (path-height (o + size l) r (i - size l))
  where
    go : (t : Bool) → length (path_siblings o l i) ≤ height l → length (path_siblings (o + size l) r (i - size l)) ≤ height r
        → length (cond t (path_siblings o l i ++ ((o + size l, r) ∷ [])) (path_siblings (o + size l) r (i - size l) ++ ((o, l) ∷ []))) ≤ suc (max (height l) (height r))
    go true e f = omega (arith, length_last (path_siblings o l i) (o + size l, r))
    go false e f = omega (arith, length_last (path_siblings (o + size l) r (i - size l)) (o, l))

pub leaf-depths : LeafDepths
unfolding size least_from depth split build shape path_siblings leaf_depth
leaf-depths = (
  (refl, refl, refl),
  λ n i h. length-way 0 (shape n) i (rw (size-shape n (omega arith)) h),
  λ n i pos. omega (arith, path-height 0 (shape n) i, (depth-known n).2 pos),
)

-- So there are at most as many as hashes are held.
pub depth-few : (n i : ℕ) → 0 < n → n ≤ max_blocks → leaf_depth n i ≤ max_held
depth-few n i pos h = omega (arith, leaf-depths.2 n i pos, depth-most n h)

-- The siblings by halves: those in the half that has the block, and the other half.
module _ (o n i k : ℕ) (big : 1 < n) (is : k ≡ split n) where
  pub siblings-left : i < k → path_siblings o (shape n) i ≡ path_siblings o (shape k) i ++ ((o + k, shape (n - k)) ∷ [])
  unfolding down-left
  siblings-left lt =
      let z = size-left n k big is in
      ap (λ s. path_siblings o s i) (halves n k big is) ∙ (down-left o (shape k) (shape (n - k)) i (rw z lt)).siblings_are
      ∙ ap (λ x. path_siblings o (shape k) i ++ ((o + x, shape (n - k)) ∷ [])) z

  pub siblings-right : k ≤ i → i < n → path_siblings o (shape n) i ≡ path_siblings (o + k) (shape (n - k)) (i - k) ++ ((o, shape k) ∷ [])
  unfolding down-right
  siblings-right le lt =
      let z = size-left n k big is in
      ap (λ s. path_siblings o s i) (halves n k big is)
      ∙ (down-right o (shape k) (shape (n - k)) i (rw z le) (rw (← halves n k big is, size-shape n (omega arith)) lt)).siblings_are
      ∙ ap (λ x. path_siblings (o + x) (shape (n - k)) (i - x) ++ ((o, shape k) ∷ [])) z

pub siblings-none : (o n i : ℕ) → n ≤ 1 → path_siblings o (shape n) i ≡ []
unfolding path_siblings
siblings-none o n i h = ap (λ s. path_siblings o s i) (shape-leaf n h)

-- How many they are does not depend on where the tree stands.
pub depth-at : (o n i : ℕ) → length (path_siblings o (shape n) i) ≡ leaf_depth n i
unfolding leaf_depth
depth-at o n i = length_at o 0 (shape n) i
