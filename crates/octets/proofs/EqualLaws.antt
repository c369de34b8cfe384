-- The test for equal strings says what it should, and can be made from the front.
use mathlib.Core.Path.{◌≡◌, refl, sym, ap₂}
use mathlib.Core.Bool.{Bool, true, false, ◌&&◌, true≢false}
use mathlib.Core.List.{List, [], ◌∷◌}
use Prim.Native.Nat.{ℕ, suc, ◌<◌, ◌≤◌}
use lib.Dec.{eqb}
use lib.ListN.{length, drop, get_or, drop_of_length-le}
use lib.Seq.{drop-cons}
use borrow.Author.Tests.{eqb-true, eq-eqb, ne_eqb}
use Rattle.octets.specs.Octets.{equal}

pub equal-self : (s : List ℕ) → equal s s ≡ true
unfolding equal
equal-self [] = refl
equal-self (x ∷ s) = rw (eq-eqb x x refl) (equal-self s)

pub equal-true : (s t : List ℕ) → equal s t ≡ true → s ≡ t
unfolding equal
equal-true [] [] e = refl
equal-true [] (y ∷ t) e = absurd (true≢false (sym e))
equal-true (x ∷ s) [] e = absurd (true≢false (sym e))
equal-true (x ∷ s) (y ∷ t) e = go (eqb x y) e (eqb-true x y) (equal-true s t)
  where
    go : (b : Bool) → b && equal s t ≡ true → (b ≡ true → x ≡ y) → (equal s t ≡ true → s ≡ t) → x ∷ s ≡ y ∷ t
    go true f h k = ap₂ {C = List ℕ} (λ (a : ℕ) (l : List ℕ). a ∷ l) (h refl) (k f)
    go false f h k = absurd (true≢false (sym f))

pub equal-lengths : (s t : List ℕ) → (length s ≡ length t → ⊥) → equal s t ≡ false
unfolding equal
equal-lengths s t n = go (equal s t) (equal-true s t)
  where
    go : (b : Bool) → (b ≡ true → s ≡ t) → b ≡ false
    go true h = absurd (n (λ i. length (h refl i)))
    go false h = refl

module _ (s t : List ℕ) (i : ℕ) where
  pub equal-same : i < length s → i < length t → get_or s i 0 ≡ get_or t i 0 → equal (drop i s) (drop i t) ≡ equal (drop (suc i) s) (drop (suc i) t)
  unfolding equal
  equal-same h k e = rw (drop-cons s i 0 h, drop-cons t i 0 k, eq-eqb (get_or s i 0) (get_or t i 0) e)

  pub equal-differ : i < length s → i < length t → (get_or s i 0 ≡ get_or t i 0 → ⊥) → equal (drop i s) (drop i t) ≡ false
  unfolding equal
  equal-differ h k n = rw (drop-cons s i 0 h, drop-cons t i 0 k, ne_eqb (get_or s i 0) (get_or t i 0) n)

  pub equal-past : length s ≤ i → length t ≤ i → equal (drop i s) (drop i t) ≡ true
  unfolding equal
  equal-past h k = rw (drop_of_length-le s {i = i} h, drop_of_length-le t {i = i} k)
