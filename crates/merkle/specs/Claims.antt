-- What is shown of the definitions (in proofs/), in 01's order.
use Rattle.std.specs.Prelude.{◌≡◌, ℕ, suc, pred, ◌+◌, ◌-◌, ◌*◌, ◌^◌, ◌<◌, ◌≤◌, max, cond, ◌≢◌, ◌⊎◌, ◌↔◌, List, [], ◌∷◌, ◌++◌, length, drop, ◌==◌}
use mathlib.Core.List.{Memᴰ}
use Rattle.merkle.specs.Limits.{max_blocks, hash_length, max_held, held_bytes}
use Rattle.merkle.specs.Blocks.{block_count, cut, overlay}
use Rattle.merkle.specs.Shape.{Shape, leaf, node, size, height, depth, split, shape, Place, places}
use Rattle.merkle.specs.Hash.{Hashing, plain, hash, hashes, climb}
use Rattle.merkle.specs.Frontier.{largest, right_siblings, siblings, carried_count, frontier, held_count}
use Rattle.merkle.specs.Path.{path_siblings, leaf_depth, way, path_hash, PathCollision}
use Rattle.merkle.specs.Held.{hashes_in, held_in, next_held, begun, advanced}
use Rattle.merkle.specs.Cost.{cost, fits_cost, known_cost, most_cost}

-- "Its count n is T/L rounded up": n blocks hold the T bytes, and n - 1 do not.
pub record Rounded (L T n : ℕ) : Type 0 where
  pub some : 0 < n
  pub below : (n - 1) * L < T
  pub enough : T ≤ n * L

abbrev pub CountRounded : Type 0
CountRounded = (L T : ℕ) → 0 < L → 0 < T → Rounded L T (block_count L T)

-- "A label is 32 bytes", if the hash function's results are.
abbrev pub HashesLong : Type 0
HashesLong = (H : Hashing) → ((x : List ℕ) → length (H.function x) ≡ hash_length) → (f : ℕ → List ℕ) (o : ℕ) (s : Shape) → length (hash H f o s) ≡ hash_length

-- "k, the largest power of two below n"
pub record LargestPower (n k : ℕ) : Type 0 where
  pub exponent : ℕ
  pub power : k ≡ 2 ^ exponent
  pub below : k < n
  pub largest : (e : ℕ) → 2 ^ e < n → 2 ^ e ≤ k

abbrev pub SplitLargest : Type 0
SplitLargest = (n : ℕ) → 1 < n → LargestPower n (split n)

-- "a tree over more blocks is split at k: blocks 1 to k on the left", the others on the right; and the tree over n blocks has n.
abbrev pub ShapeHalves : Type 0
ShapeHalves = (shape 1 ≡ leaf) × ((n : ℕ) → 1 < n → shape n ≡ node (shape (split n)) (shape (n - split n))) × ((n : ℕ) → 0 < n → size (shape n) ≡ n)

-- "The depth of the tree is the least d with 2 to the power d at least n": so many nodes are above a block, at most.
abbrev pub DepthLeast : Type 0
DepthLeast = (n : ℕ) → (n ≤ 2 ^ depth n) × ((d : ℕ) → n ≤ 2 ^ d → depth n ≤ d) × (0 < n → height (shape n) ≡ depth n)

-- "the largest subtree whose first block is i", i blocks before it
pub record Largest (o : ℕ) (s : Shape) (i : ℕ) (p : Place) : Type 0 where
  pub within : Memᴰ p (places o s)
  pub starts : p.0 ≡ o + i
  pub most : (q : Place) → Memᴰ q (places o s) → q.0 ≡ o + i → size q.1 ≤ size p.1

abbrev pub LargestSubtree : Type 0
LargestSubtree = (o : ℕ) (s : Shape) (i : ℕ) → i < size s → Largest o s i (largest o s i)

-- "worked out from the block and the message's labels": a tree's hash comes from its first block and the right siblings on the way up.
abbrev pub Climbed : Type 0
Climbed = (H : Hashing) (f : ℕ → List ℕ) (o : ℕ) (s : Shape) → hash H f o s ≡ climb H (f o) (hashes H f (right_siblings o s))

-- The places cover exactly the blocks from a up to b, b left out: each is a place of the tree and has no other block, and each block is in one.
pub record Covers (tree : List Place) (a b : ℕ) (ps : List Place) : Type 0 where
  pub within : (p : Place) → Memᴰ p ps → Memᴰ p tree
  pub only : (p : Place) → Memᴰ p ps → (a ≤ p.0) × (p.0 + size p.1 ≤ b)
  pub all : (j : ℕ) → a ≤ j → j < b → (p : Place) × Memᴰ p ps × (p.0 ≤ j) × (j < p.0 + size p.1)

-- In block order: each place starts before all that follow it.
unfoldable pub InOrder : List Place → Type 0
InOrder [] = Unit {0}
InOrder (p ∷ ps) = ((q : Place) → Memᴰ q ps → p.0 < q.0) × InOrder ps

-- "the fewest subtrees that cover exactly blocks i + 1 to n": no shorter list covers them, in any order, overlapping or not, and none that is as short has other
-- places. In block order it is this one.
pub record Fewest (tree : List Place) (a b : ℕ) (ps : List Place) : Type 0 where
  pub exactly : Covers tree a b ps
  pub fewest : (qs : List Place) → Covers tree a b qs → length ps ≤ length qs
  pub same : (qs : List Place) → Covers tree a b qs → length qs ≤ length ps → (p : Place) → Memᴰ p qs ↔ Memᴰ p ps
  pub ordered : InOrder ps
  pub alone : (qs : List Place) → Covers tree a b qs → length qs ≤ length ps → InOrder qs → qs ≡ ps

abbrev pub FrontierFewest : Type 0
FrontierFewest = (o : ℕ) (s : Shape) (i : ℕ) → i ≤ size s → Fewest (places o s) (o + i) (o + size s) (frontier o s i)

-- "the held one is the held label of that subtree": the frontier begins with the largest subtree that starts there; after one block more its right siblings are
-- in its place.
pub record Next (o : ℕ) (s : Shape) (i : ℕ) : Type 0 where
  pub others : List Place
  pub first : frontier o s i ≡ largest o s i ∷ others
  pub starts : (largest o s i).0 ≡ o + i
  pub then : frontier o s (suc i) ≡ siblings o s i ++ others

abbrev pub FrontierNext : Type 0
FrontierNext = (o : ℕ) (s : Shape) (i : ℕ) → i < size s → Next o s i

-- "the message's labels take the place of that held label, the other held labels stay"
pub record Advance (n i : ℕ) (array message : List ℕ) : Type 0 where
  pub others : List (List ℕ)
  pub first : held_in n i array ≡ next_held n i array ∷ others
  pub then : held_in n (suc i) (advanced n i array message) ≡ hashes_in (carried_count n (suc i)) message ++ others
  pub size : length (advanced n i array message) ≡ held_bytes

abbrev pub ArrayAdvance : Type 0
ArrayAdvance =
    (n i : ℕ) (array message : List ℕ) → i < n → n ≤ max_blocks → length array ≡ held_bytes → length message ≡ hash_length * carried_count n (suc i)
    → Advance n i array message

-- "Table 3, in the row of message 7, lists H6 as computed; the node is H4": of 8 blocks, the largest subtree that starts with block 7 has blocks 7 and 8.
abbrev pub Table3 : Type 0
Table3 = largest 0 (shape 8) 6 ≡ (6, node leaf leaf)

-- "before the first block that is the root alone": the frontier is the whole tree, and the array holds the root
abbrev pub RootAlone : Type 0
RootAlone = ((o : ℕ) (s : Shape) → frontier o s 0 ≡ (o, s) ∷ []) × ((n : ℕ) (root : List ℕ) → length root ≡ hash_length → held_in n 0 (begun root) ≡ root ∷ [])

-- "never more labels were held than the tree's depth, or one at depth 0" (demand 3), and up to the limit "At most 11 labels are then held" (02, change 6)
abbrev pub HeldAtMost : Type 0
HeldAtMost = (n i : ℕ) → 0 < n → (held_count n i ≤ max 1 (depth n)) × (n ≤ max_blocks → held_count n i ≤ max_held)

-- Both are reached after the first block: the depth by every tree of more blocks than one, the 11 by those of more than 2 to the power 10, which the limit allows.
abbrev pub HeldReached : Type 0
HeldReached =
    ((n : ℕ) → 1 < n → held_count n 1 ≡ depth n) × ((n : ℕ) → 2 ^ pred max_held < n → n ≤ max_blocks → held_count n 1 ≡ max_held) × (2 ^ pred max_held < max_blocks)

-- The hashes held are the last of the array, and what stands before them is free: behind any further bytes, as in an array that has more places in front, the
-- same ones are the last.
abbrev pub HeldLast : Type 0
HeldLast =
    (n i : ℕ) (front array : List ℕ) → 0 < n → n ≤ max_blocks → length array ≡ held_bytes
    → held_in n i array ≡ hashes_in (held_count n i) (drop (length (front ++ array) - hash_length * held_count n i) (front ++ array))

-- Change 1 of 02: "The old block with these siblings must give the held root": a block and its tree's own siblings lead to the tree's hash.
abbrev pub PathLeads : Type 0
PathLeads =
    (H : Hashing) (f : ℕ → List ℕ) (o : ℕ) (s : Shape) (i : ℕ) → i < size s → hash H f o s ≡ path_hash H o s i (f (o + i)) (hashes H f (path_siblings o s i))

-- "and the new block with the same ones the new root": with the same siblings the block of every tree that differs in that block at most leads to that tree's root.
abbrev pub PathOther : Type 0
PathOther =
    (H : Hashing) (f g : ℕ → List ℕ) (s : Shape) (i : ℕ) → i < size s → ((j : ℕ) → j < size s → j ≢ i → f j ≡ g j)
    → path_hash H 0 s i (g i) (hashes H f (path_siblings 0 s i)) ≡ hash H g 0 s

-- Binding: where a block and siblings, one for each node above it, lead to a tree's hash, they are the tree's own at that place and along the way, or at one place on
-- the way the tree's hash input and the path's differ and have the same hash.
abbrev pub PathBinds : Type 0
PathBinds =
    (H : Hashing) → ((x : List ℕ) → length (H.function x) ≡ hash_length) → (f : ℕ → List ℕ) (block : List ℕ) (o : ℕ) (s : Shape) (i : ℕ) → i < size s
    → (ys : List (List ℕ)) → length (way o s i) ≡ length ys → path_hash H o s i block ys ≡ hash H f o s
    → ((block ≡ f (o + i)) × (ys ≡ hashes H f (path_siblings o s i))) ⊎ PathCollision H f o s i block ys

-- "32 × the leaf's depth": in the tree over 3 blocks the leaves are 2, 2 and 1 deep; a leaf's depth is the number of nodes above it, and none is deeper than its tree.
abbrev pub LeafDepths : Type 0
LeafDepths =
    ((leaf_depth 3 0 ≡ 2) × (leaf_depth 3 1 ≡ 2) × (leaf_depth 3 2 ≡ 1))
    × ((n i : ℕ) → i < n → length (way 0 (shape n) i) ≡ leaf_depth n i)
    × ((n i : ℕ) → 0 < n → leaf_depth n i ≤ depth n)

-- Change 7: what a block message costs, its comparison's and for the last block the whole tree's besides, follows from L, n, the number and the block's length alone. It is known before
-- anything is hashed, whatever flash, block and message hold, if the hash function's results have 32 bytes.
abbrev pub CostKnown : Type 0
CostKnown =
    (H : Hashing) → ((x : List ℕ) → length (H.function x) ≡ hash_length) → (L n i : ℕ) (flash block message : List ℕ) → i < n → (n - 1) * L ≤ length flash
    → length message ≡ hash_length * carried_count n (suc i)
    → fits_cost H n i block message + cond (suc i == n) (cost H (overlay (cut L flash) i block) 0 (shape n)) 0 ≡ known_cost H L n i (length block)

-- No block message within the limits costs more than `most_cost`, if nothing goes before what is hashed.
abbrev pub CostMost : Type 0
CostMost = (function : List ℕ → List ℕ) (L n i k : ℕ) → L ≤ 1024 → k ≤ 1024 → i < n → n ≤ max_blocks → known_cost (plain function) L n i k ≤ most_cost

-- "With L = 256 and n = 8, message 1 costs 11"; message 2 costs 5, and message 8, with the whole tree, 59. One block of one byte, which is the last one, costs 2, and the costliest of all is reached.
abbrev pub CostCases : Type 0
CostCases =
    (function : List ℕ → List ℕ) → (let known = known_cost (plain function) in
    (known 256 8 0 256 ≡ 11) × (known 256 8 1 256 ≡ 5) × (known 256 8 7 256 ≡ 59) × (known 256 1 0 1 ≡ 2) × (known 1024 1536 1535 1024 ≡ most_cost))

-- Change 8: "For downloads of two or more blocks, show that message 1 costs most of all block messages before the last": no message carries more hashes than the first,
-- so that no comparison of a block as long as the first one costs more, whatever blocks and messages hold and whatever goes before what is hashed.
abbrev pub FirstMost : Type 0
FirstMost =
    ((n i : ℕ) → i < n → carried_count n (suc i) ≤ carried_count n 1)
    × ((H : Hashing) → ((x : List ℕ) → length (H.function x) ≡ hash_length) → (n i : ℕ) (block message first_block first_message : List ℕ) → i < n
    → length block ≡ length first_block → length message ≡ hash_length * carried_count n (suc i) → length first_message ≡ hash_length * carried_count n 1
    → fits_cost H n i block message ≤ fits_cost H n 0 first_block first_message)
