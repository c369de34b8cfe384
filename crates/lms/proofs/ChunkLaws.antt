-- A slice cut into arrays of n.
use mathlib.Core.Path.{◌≡◌, ap, sym, ◌∙◌}
use mathlib.Core.List.{List, []}
use Prim.Native.Nat.{ℕ, zero, suc, ◌*◌, ◌<◌}
use native.Mathlib.Nat.{mul-suc, mul-zero}
use native.Mathlib.Omega.{arith}
use lib.ListN.{drop, get_or, take}
use lib.Seq.{drop-drop}
use Rattle.std.specs.Simd.{first_chunks}
use Rattle.octets.specs.Octets.{part}

nth : (n k i : ℕ) (xs : List ℕ) → i < k → get_or (first_chunks n k xs) i [] ≡ part (n * i) n xs
nth n zero i xs h = absurd (omega arith)
nth n (suc k) zero xs h = ap (λ (j : ℕ). take n (drop j xs)) (sym (mul-zero n))
nth n (suc k) (suc i) xs h = nth n k i (drop n xs) (omega arith) ∙ ap (take n) (drop-drop (n * i) n xs ∙ ap (λ (j : ℕ). drop j xs) (omega (arith, mul-suc n i)))

-- the array at index i is the part from n * i on
pub chunk : (n k i : ℕ) (xs : List ℕ) {chunks : List (List ℕ)} → chunks ≡ first_chunks n k xs → i < k → get_or chunks i [] ≡ part (n * i) n xs
chunk n k i xs e h = rw e (nth n k i xs h)
