-- Places in block order: the frontier is, and two such lists with the same places are equal.
use Rattle.std.proofs.Common.{◌≡◌, ℕ, ◌+◌, ◌<◌, ◌≤◌, ◌↔◌, List, [], ◌∷◌, ◌++◌, sym, refl, ap, ◌∙◌, ap₂, ⊎_elim, arith}
use mathlib.Core.List.Memᴰ
use mathlib.Core.List.{Memᴰ}
use Rattle.merkle.specs.Shape.{Shape, size, Place}
use Rattle.merkle.specs.Frontier.{frontier}
use Rattle.merkle.specs.Claims.{InOrder}
use Rattle.merkle.proofs.ShapeLaws.{size-pos, size-node}
use Rattle.merkle.proofs.FrontierLaws.{on-halves, frontier-zero, frontier-leaf, frontier-left, frontier-right}
use Rattle.merkle.proofs.CoverLaws.{exactly}

abbrev Before : Place → List Place → Type 0
Before x xs = (q : Place) → Memᴰ q xs → x.0 < q.0

ordered-last : (xs : List Place) (x : Place) → ((p : Place) → Memᴰ p xs → p.0 < x.0) → InOrder xs → InOrder (xs ++ (x ∷ []))
unfolding InOrder
ordered-last [] x h a = (λ q m. absurd (Memᴰ.not-nil m), tt)
ordered-last (y ∷ ys) x h a = (
  λ q m. ⊎_elim (λ v. a.0 q v) (λ v. let e : q ≡ x = Memᴰ.eq_of_singleton v in rw e (h y (Memᴰ.head refl))) (Memᴰ.append_cases ys m),
  ordered-last ys x (λ p m. h p (Memᴰ.tail m)) a.1,
)

pub frontier-ordered : (o : ℕ) (s : Shape) (i : ℕ) → i ≤ size s → InOrder (frontier o s i)
unfolding InOrder
frontier-ordered =
    on-halves (λ o s i. i ≤ size s → InOrder (frontier o s i)) (λ o s h. rw (frontier-zero o s) (λ q m. absurd (Memᴰ.not-nil m), tt))
    (λ o i p h. rw (frontier-leaf o i p) tt)
    (λ o l r i p q ih h.
    rw (frontier-left o l r i p (omega arith))
    (ordered-last (frontier o l i) (o + size l, r) (λ v m. let k = (exactly o l i (omega arith)).only v m in omega (arith, size-pos v.1)) (ih (omega arith))))
    (λ o l r i q ih h. rw (frontier-right o l r i q) (ih (omega (arith, size-node l r))))

-- The first places are equal: otherwise each would start before the other. The others are then not the first.
first-same : (x y : Place) (xs ys : List Place) → Before x xs → Before y ys → Memᴰ x (y ∷ ys) → Memᴰ y (x ∷ xs) → x ≡ y
first-same x y xs ys a b m n =
    ⊎_elim (λ e. e) (λ v. ⊎_elim (λ e. sym e) (λ w. absurd (omega (arith, a y w, b x v))) (Memᴰ.cases_cons n)) (Memᴰ.cases_cons m)

not_first : (x y p : Place) (xs ys : List Place) → x ≡ y → Before x xs → Memᴰ p xs → Memᴰ p (y ∷ ys) → Memᴰ p ys
not_first x y p xs ys e a m n =
    ⊎_elim (λ (f : p ≡ y). absurd (let g = ap (λ (q : Place). q.0) (f ∙ sym e) in omega (arith, a p m))) (λ v. v) (Memᴰ.cases_cons n)

pub ordered_same : (xs ys : List Place) → InOrder xs → InOrder ys → ((p : Place) → Memᴰ p xs ↔ Memᴰ p ys) → xs ≡ ys
unfolding InOrder
ordered_same [] [] a b s = refl
ordered_same [] (y ∷ ys) a b s = absurd (Memᴰ.not-nil ((s y).1 (Memᴰ.head refl)))
ordered_same (x ∷ xs) [] a b s = absurd (Memᴰ.not-nil ((s x).0 (Memᴰ.head refl)))
ordered_same (x ∷ xs) (y ∷ ys) a b s =
    let e : x ≡ y = first-same x y xs ys a.0 b.0 ((s x).0 (Memᴰ.head refl)) ((s y).1 (Memᴰ.head refl)) in
    ap₂ {C = List Place} (λ u v. u ∷ v) e
    (ordered_same xs ys a.1 b.1
    (λ p. (
      λ m. not_first x y p xs ys e a.0 m ((s p).0 (Memᴰ.tail m)),
      λ m. not_first y x p ys xs (sym e) b.0 m ((s p).1 (Memᴰ.tail m)),
    )))
