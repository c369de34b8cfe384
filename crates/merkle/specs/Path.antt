-- The way from a block up to the root, and the siblings beside it.
use Rattle.std.specs.Prelude.{◌≡◌, ℕ, ◌+◌, ◌-◌, Bool, true, false, cond, ◌≢◌, List, [], ◌∷◌, ◌++◌, length, nat_lt}
use mathlib.Core.List.{Memᴰ}
use Rattle.merkle.specs.Shape.{Shape, leaf, node, size, Place, shape}
use Rattle.octets.specs.Octets.{joined}
use Rattle.merkle.specs.Hash.{Hashing, leaf_input, node_input, leaf_hash, hashes, input}

-- The siblings from a block's leaf to the root, lowest first. The block has i blocks of the tree before it.
unfoldable pub path_siblings : ℕ → Shape → ℕ → List Place
path_siblings o leaf i = []
path_siblings o (node l r) i =
    cond (nat_lt i (size l)) (path_siblings o l i ++ ((o + size l, r) ∷ []))
    (path_siblings (o + size l) r (i - size l) ++ ((o, l) ∷ []))

-- The depth of the leaf of the block with i blocks before it: so many siblings are on its way. For n = 3: 2, 2, 1.
unfoldable pub leaf_depth : (n i : ℕ) → ℕ
leaf_depth n i = length (path_siblings 0 (shape n) i)

-- The nodes above a block, lowest first, and for each whether the sibling below it stands on the right.
unfoldable pub way : ℕ → Shape → ℕ → List (Place × Bool)
way o leaf i = []
way o (node l r) i =
    cond (nat_lt i (size l)) (way o l i ++ (((o, node l r), true) ∷ []))
    (way (o + size l) r (i - size l) ++ (((o, node l r), false) ∷ []))

module _ (H : Hashing) where
  -- What is digested above the hash x, y its sibling.
  unfoldable pub beside_input : List ℕ → Bool → List ℕ → List ℕ
  beside_input x right y = cond right (node_input H x y) (node_input H y x)

  -- From the hash x up the way over siblings: the hash at the top, and the hash input at each node.
  unfoldable pub ascend : List ℕ → List (Place × Bool) → List (List ℕ) → List ℕ
  ascend x [] ys = x
  ascend x (w ∷ ws) [] = x
  ascend x (w ∷ ws) (y ∷ ys) = ascend (H.function (beside_input x w.1 y)) ws ys

  unfoldable pub ascend_inputs : List ℕ → List (Place × Bool) → List (List ℕ) → List (Place × List ℕ)
  ascend_inputs x [] ys = []
  ascend_inputs x (w ∷ ws) [] = []
  ascend_inputs x (w ∷ ws) (y ∷ ys) = (w.0, beside_input x w.1 y) ∷ ascend_inputs (H.function (beside_input x w.1 y)) ws ys

  -- The siblings that the sender puts into the message of the block with i blocks before it.
  unfoldable pub sent_path : (n : ℕ) (blocks : ℕ → List ℕ) (i : ℕ) → List ℕ
  sent_path n blocks i = joined (hashes H blocks (path_siblings 0 (shape n) i))

  -- The root worked out from a block and its siblings from leaf to root, and the hash inputs at the places on the way.
  unfoldable pub path_hash : ℕ → Shape → ℕ → List ℕ → List (List ℕ) → List ℕ
  path_hash o s i block ys = ascend (leaf_hash H block) (way o s i) ys

  unfoldable pub path_inputs : ℕ → Shape → ℕ → List ℕ → List (List ℕ) → List (Place × List ℕ)
  path_inputs o s i block ys =
      ((o + i, leaf), leaf_input H block) ∷ ascend_inputs (leaf_hash H block) (way o s i) ys

  -- At one place on the way the tree's hash input and the path's differ and have the same hash.
  pub record PathCollision (f : ℕ → List ℕ) (o : ℕ) (s : Shape) (i : ℕ) (block : List ℕ) (ys : List (List ℕ)) : Type 0 where
    pub place : Place
    pub given : List ℕ
    pub within : Memᴰ (place, given) (path_inputs o s i block ys)
    pub differ : input H f place.0 place.1 ≢ given
    pub agree : H.function (input H f place.0 place.1) ≡ H.function given

  -- Of two paths: at one place their hash inputs differ and have the same hash.
  pub record PathsCollide (inputs others : List (Place × List ℕ)) : Type 0 where
    pub place : Place
    pub one : List ℕ
    pub other : List ℕ
    pub within : Memᴰ (place, one) inputs
    pub within_other : Memᴰ (place, other) others
    pub differ : one ≢ other
    pub agree : H.function one ≡ H.function other
