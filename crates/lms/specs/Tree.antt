-- RFC 8554, section 5: LMS, the tree of one-time keys.
use Rattle.std.specs.Prelude.{cond, List, ◌++◌, ℕ, zero, suc, ◌+◌, ◌*◌, ◌/◌, ◌%◌, ◌^◌, eqb}
use Rattle.std.specs.Prelude.{Option, None, Some}
use Rattle.octets.specs.Octets.{part}
use Rattle.lms.specs.Notation.{u16str, u32str, H, D_LEAF, D_INTR}

-- 5.1, table 2: the height h of the types 5 (LMS_SHA256_M32_H5) to 9 (LMS_SHA256_M32_H25)
unfoldable pub table2 : ℕ → Option ℕ
table2 type =
    cond (eqb type 5) (Some 5)
    (cond (eqb type 6) (Some 10)
    (cond (eqb type 7) (Some 15)
    (cond (eqb type 8) (Some 20)
    (cond (eqb type 9) (Some 25)
    None))))

-- 5.4.2, algorithm 6a, step 4, for the key's identifier I
module _ (I : List ℕ) where
  -- tmp before the loop, for the leaf's number and its one-time key
  unfoldable pub leaf_hash : (leaf : ℕ) (K : List ℕ) → List ℕ
  leaf_hash leaf K = H (I ++ u32str leaf ++ u16str D_LEAF ++ K)

  -- the loop's body: from a node's number and its hash tmp to its parent's hash; the sibling of an odd node is the left one
  unfoldable pub parent : (node : ℕ) (sibling tmp : List ℕ) → List ℕ
  parent node sibling tmp =
      cond (eqb (node % 2) 1)
      (H (I ++ u32str (node / 2) ++ u16str D_INTR ++ sibling ++ tmp))
      (H (I ++ u32str (node / 2) ++ u16str D_INTR ++ tmp ++ sibling))

  -- tmp after i turns, for path[0] || path[1] || .. = path; the node's number is then leaf / 2^i
  unfoldable pub climb : (leaf : ℕ) (K path : List ℕ) (i : ℕ) → List ℕ
  climb leaf K path zero = leaf_hash leaf K
  climb leaf K path (suc i) = parent (leaf / 2 ^ i) (part (32 * i) 32 path) (climb leaf K path i)

-- Tc. The leaf's number is 2^h + q, so that the node's number is 1, and the loop ends, after h turns.
unfoldable pub Tc : (h : ℕ) (I : List ℕ) (q : ℕ) (K path : List ℕ) → List ℕ
Tc h I q K path = climb I (2 ^ h + q) K path h
