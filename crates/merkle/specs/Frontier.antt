-- What a block message carries, and what a loading device holds.
use Rattle.std.specs.Prelude.{ℕ, pred, ◌+◌, ◌-◌, cond, List, [], ◌∷◌, ◌++◌, length, nat_lt}
use Rattle.merkle.specs.Shape.{Shape, leaf, node, size, Place, shape}

-- The largest subtree whose first block has i blocks of the tree s before it; o blocks stand before s.
unfoldable pub largest : (o : ℕ) (s : Shape) (i : ℕ) → Place
largest o leaf i = (o, leaf)
largest o (node l r) i =
    cond (nat_lt 0 i) (cond (nat_lt i (size l)) (largest o l i) (largest (o + size l) r (i - size l))) (o, node l r)

-- The right siblings on the way from a tree's first block up to its root, lowest first.
unfoldable pub right_siblings : (o : ℕ) (s : Shape) → List Place
right_siblings o leaf = []
right_siblings o (node l r) = right_siblings o l ++ ((o + size l, r) ∷ [])

-- The places whose hashes go with the block that has i blocks before it.
unfoldable pub siblings : (o : ℕ) (s : Shape) (i : ℕ) → List Place
siblings o s i = let p = largest o s i in right_siblings p.0 p.1

-- 01: c(i), i from 1: how many hashes message i carries. For n = 5: 3, 0, 1, 0, 0.
unfoldable pub carried_count : (n i : ℕ) → ℕ
carried_count n i = length (siblings 0 (shape n) (pred i))

-- The frontier (01: the subtrees whose labels the drive holds) after i blocks of a tree that has o blocks before it: the fewest subtrees that cover
-- exactly the blocks after these, in block order. Before the first block it is the root alone.
unfoldable pub frontier : (o : ℕ) (s : Shape) (i : ℕ) → List Place
frontier o leaf i = cond (nat_lt 0 i) [] ((o, leaf) ∷ [])
frontier o (node l r) i =
    cond (nat_lt 0 i) (cond (nat_lt i (size l)) (frontier o l i ++ ((o + size l, r) ∷ [])) (frontier (o + size l) r (i - size l)))
    ((o, node l r) ∷ [])

-- How many hashes are held after i of n blocks. For n = 3, after 0 to 3 blocks: 1, 2, 1, 0.
unfoldable pub held_count : (n i : ℕ) → ℕ
held_count n i = length (frontier 0 (shape n) i)
