-- The shape of the tree over n blocks, and its places.
use Rattle.std.specs.Prelude.{ℕ, zero, suc, pred, ◌+◌, ◌-◌, ◌^◌, max, true, false, List, [], ◌∷◌, ◌++◌, nat_le, nat_lt}

-- A tree: a single block, or a left and a right tree.
pub data Shape : Type 0 where
  leaf : Shape
  node : Shape → Shape → Shape

-- The number of a tree's blocks.
unfoldable pub size : Shape → ℕ
size leaf = 1
size (node l r) = size l + size r

-- The most nodes above a block.
unfoldable pub height : Shape → ℕ
height leaf = 0
height (node l r) = suc (max (height l) (height r))

-- The least of d, d + 1, .. whose power of two is at least n; `tries` bounds the recursion. (Here and in `build` the choice is an `elim`, which works out the
-- taken branch alone; a `cond` would go through all the tries.)
unfoldable pub least_from : ℕ → ℕ → ℕ → ℕ
least_from zero d n = d
least_from (suc tries) d n = elim (nat_le n (2 ^ d)) [ true ↦ d | false ↦ least_from tries (suc d) n ]

-- The depth of the tree over n blocks: the least d with 2 to the power d at least n.
unfoldable pub depth : ℕ → ℕ
depth n = least_from n 0 n

-- Where the tree over n blocks, n above 1, is split: the largest power of two below n, which is half the least that is at least n.
unfoldable pub split : ℕ → ℕ
split n = 2 ^ pred (depth n)

-- The tree over n blocks: blocks 1 to k on the left, and those from k + 1 on on the right. The number of levels bounds the recursion.
-- For n = 3 it is node (node leaf leaf) leaf.
unfoldable pub build : ℕ → ℕ → Shape
build zero n = leaf
build (suc levels) n = elim (nat_lt 1 n) [ true ↦ node (build levels (split n)) (build levels (n - split n)) | false ↦ leaf ]

unfoldable pub shape : ℕ → Shape
shape n = build n n

-- A place of a tree is a subtree: the number of blocks before it, and its shape.
abbrev pub Place : Type 0
Place = ℕ × Shape

-- All places of the tree that has o blocks before it: the whole, the single blocks, and those between.
unfoldable pub places : ℕ → Shape → List Place
places o leaf = (o, leaf) ∷ []
places o (node l r) = (o, node l r) ∷ (places o l ++ places (o + size l) r)
