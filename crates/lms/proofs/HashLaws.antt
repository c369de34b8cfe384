-- Hash inputs, put together in an array.
use mathlib.Core.Path.{◌≡◌, refl, ◌∙◌}
use mathlib.Core.List.{List, ◌++◌}
use Prim.Native.Nat.{ℕ, ◌+◌}
use native.Mathlib.Omega.{arith}
use lib.ListN.{length, replicate, length-append, length-replicate}
use lib.Seq.{paste}
use Rattle.octets.proofs.BufferLaws.{begun, more, whole}

-- two strings, copied over zeros one behind the other
pub filled-two : (n i : ℕ) (x y : List ℕ) {r s : List ℕ} → length x ≡ i → i + length y ≡ n → r ≡ paste (replicate n 0) 0 x (length x) → s ≡ paste r i y (length y) → s ≡ x ++ y
filled-two n i x y a b e f =
    whole (more (more (begun (length-replicate n 0)) refl x (omega arith) e) a y (omega arith) f) (length-append x y ∙ omega arith)

-- three strings, copied over zeros one behind the other
pub filled : (n i j : ℕ) (x y z : List ℕ) {r s t : List ℕ} → length x ≡ i → i + length y ≡ j → j + length z ≡ n
    → r ≡ paste (replicate n 0) 0 x (length x) → s ≡ paste r i y (length y) → t ≡ paste s j z (length z) → t ≡ x ++ y ++ z
filled n i j x y z a b d e f g =
    let k : length (x ++ y) ≡ j = length-append x y ∙ omega arith in
    whole
    (more (more (more (begun (length-replicate n 0)) refl x (omega arith) e) a y (omega arith) f) k z (omega arith) g)
    (length-append (x ++ y) z ∙ omega arith)
