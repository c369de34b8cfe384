-- The hash (01: label) of each place of a tree over blocks.
use Rattle.std.specs.Prelude.{◌≡◌, ℕ, ◌+◌, ◌≢◌, List, [], ◌∷◌, ◌++◌}
use mathlib.Core.List.{Memᴰ}
use Rattle.merkle.specs.Shape.{Shape, leaf, node, size, Place, places, shape}

-- How hashes are made: the hash function, and what goes before a block and before two hashes.
pub record Hashing : Type 0 where
  pub function : List ℕ → List ℕ
  pub leaf_prefix : List ℕ
  pub node_prefix : List ℕ

-- Hashes as 01 makes them: the function is SHA-256, and nothing goes before.
abbrev pub plain : (List ℕ → List ℕ) → Hashing
plain function = record { function = function; leaf_prefix = []; node_prefix = [] }

module _ (H : Hashing) where
  -- What is digested for a single block, and for a left and a right hash; the hash of either.
  abbrev pub leaf_input : List ℕ → List ℕ
  leaf_input block = H.leaf_prefix ++ block

  abbrev pub node_input : List ℕ → List ℕ → List ℕ
  node_input left right = H.node_prefix ++ (left ++ right)

  abbrev pub leaf_hash : List ℕ → List ℕ
  leaf_hash block = H.function (leaf_input block)

  abbrev pub node_hash : List ℕ → List ℕ → List ℕ
  node_hash left right = H.function (node_input left right)

  -- The hash of the tree that has o blocks before it: of a single block, or of left hash then right hash.
  unfoldable pub hash : (blocks : ℕ → List ℕ) (o : ℕ) (s : Shape) → List ℕ
  hash blocks o leaf = leaf_hash (blocks o)
  hash blocks o (node l r) = node_hash (hash blocks o l) (hash blocks (o + size l) r)

  -- The root: the hash of the whole tree over n blocks.
  abbrev pub root_over : (blocks : ℕ → List ℕ) (n : ℕ) → List ℕ
  root_over blocks n = hash blocks 0 (shape n)

  unfoldable pub hashes : (blocks : ℕ → List ℕ) (ps : List Place) → List (List ℕ)
  hashes blocks [] = []
  hashes blocks (p ∷ ps) = hash blocks p.0 p.1 ∷ hashes blocks ps

  -- The hash input at a place: all that is digested there.
  unfoldable pub input : (blocks : ℕ → List ℕ) (o : ℕ) (s : Shape) → List ℕ
  input blocks o leaf = leaf_input (blocks o)
  input blocks o (node l r) = node_input (hash blocks o l) (hash blocks (o + size l) r)

  -- The hash that a hash leads to over right siblings, lowest first.
  unfoldable pub climb_from : List ℕ → List (List ℕ) → List ℕ
  climb_from x [] = x
  climb_from x (y ∷ siblings) = climb_from (node_hash x y) siblings

  -- The hash of a tree, worked out from its first block and the right siblings above that.
  unfoldable pub climb : (block : List ℕ) (siblings : List (List ℕ)) → List ℕ
  climb block siblings = climb_from (leaf_hash block) siblings

  -- At one place of the tree the two hash inputs differ and have the same hash.
  pub record Collision (f g : ℕ → List ℕ) (o : ℕ) (s : Shape) : Type 0 where
    pub place : Place
    pub within : Memᴰ place (places o s)
    pub differ : input f place.0 place.1 ≢ input g place.0 place.1
    pub agree : H.function (input f place.0 place.1) ≡ H.function (input g place.0 place.1)
