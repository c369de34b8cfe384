-- The places of a tree: the largest that starts at a block, and the frontier, which covers exactly the blocks that are left.
use Rattle.std.proofs.Common.{◌≡◌, ℕ, ◌+◌, ◌-◌, ◌<◌, ◌≤◌, ◌⊎◌, List, [], ◌∷◌, ◌++◌, sym, refl, ap, ◌∙◌, inl, inr, ⊎_elim, add-zero, arith}
use mathlib.Core.List.Memᴰ
use mathlib.Core.List.{Memᴰ}
use Rattle.merkle.specs.Shape.{Shape, leaf, node, size, least_from, depth, split, build, shape, Place, places}
use Rattle.merkle.specs.Frontier.{largest, frontier}
use Rattle.merkle.specs.Claims.{Largest, LargestSubtree, Table3, Covers}
use Rattle.merkle.proofs.ShapeLaws.{lt-or-le, size-pos, size-leaf, size-node}
use Rattle.merkle.proofs.FrontierLaws.{on-halves, largest-zero, largest-left, largest-right, frontier-zero, frontier-left, frontier-right, frontier-all}

-- The places of a node: itself, and those of the two halves.
pub itself : (o : ℕ) (s : Shape) → Memᴰ (o, s) (places o s)
unfolding places
itself o leaf = Memᴰ.head refl
itself o (node l r) = Memᴰ.head refl

module _ (o : ℕ) (l r : Shape) (p : Place) where
  pub place-left : Memᴰ p (places o l) → Memᴰ p (places o (node l r))
  unfolding places
  place-left m = Memᴰ.tail (Memᴰ.append_left (places (o + size l) r) m)

  pub place-right : Memᴰ p (places (o + size l) r) → Memᴰ p (places o (node l r))
  unfolding places
  place-right m = Memᴰ.tail (Memᴰ.append_right (places o l) m)

  pub place-cases : Memᴰ p (places o (node l r)) → (p ≡ (o, node l r)) ⊎ (Memᴰ p (places o l) ⊎ Memᴰ p (places (o + size l) r))
  unfolding places
  place-cases m = ⊎_elim (λ e. inl e) (λ w. inr (Memᴰ.append_cases (places o l) w)) (Memᴰ.cases_cons m)

-- A place lies within its tree.
pub inside : (o : ℕ) (s : Shape) (p : Place) → Memᴰ p (places o s) → (o ≤ p.0) × (p.0 + size p.1 ≤ o + size s)
inside o leaf p m = let e : p ≡ (o, leaf) = unfold places in Memᴰ.eq_of_singleton m in rw e (omega arith, omega arith)
inside o (node l r) p m = go (place-cases o l r p m) (inside o l p) (inside (o + size l) r p)
  where
    go : (p ≡ (o, node l r)) ⊎ (Memᴰ p (places o l) ⊎ Memᴰ p (places (o + size l) r))
        → (Memᴰ p (places o l) → (o ≤ p.0) × (p.0 + size p.1 ≤ o + size l))
        → (Memᴰ p (places (o + size l) r) → (o + size l ≤ p.0) × (p.0 + size p.1 ≤ o + size l + size r))
        → (o ≤ p.0) × (p.0 + size p.1 ≤ o + size (node l r))
    go (inl e) a b = rw e (omega arith, omega arith)
    go (inr (inl m)) a b = let w = a m in (omega arith, omega (arith, size-node l r))
    go (inr (inr m)) a b = let w = b m in (omega arith, omega (arith, size-node l r))

-- A place of a node that does not start with it is in the half where it starts.
module _ (o : ℕ) (l r : Shape) (p : Place) (m : Memᴰ p (places o (node l r))) (later : o < p.0) where
  pub in_left : p.0 < o + size l → Memᴰ p (places o l)
  in_left h =
      ⊎_elim (λ (e : p ≡ (o, node l r)). absurd (let f = ap (λ (q : Place). q.0) e in omega arith))
      (λ w. ⊎_elim (λ v. v) (λ v. absurd (let i = inside (o + size l) r p v in omega arith)) w)
      (place-cases o l r p m)

  pub in_right : o + size l ≤ p.0 → Memᴰ p (places (o + size l) r)
  in_right h =
      ⊎_elim (λ (e : p ≡ (o, node l r)). absurd (let f = ap (λ (q : Place). q.0) e in omega arith))
      (λ w. ⊎_elim (λ v. absurd (let i = inside o l p v in omega (arith, size-pos p.1))) (λ v. v) w)
      (place-cases o l r p m)

largest-first : (o : ℕ) (s : Shape) → Largest o s 0 (largest o s 0)
largest-first o s =
    rw (largest-zero o s) (record { within = itself o s; starts = sym (add-zero o); most = λ q m e. let i = inside o s q m in omega arith })

pub largest-is : LargestSubtree
largest-is =
    on-halves (λ o s i. i < size s → Largest o s i (largest o s i)) (λ o s h. largest-first o s) (λ o i p h. absurd (omega (arith, size-leaf)))
    (λ o l r i p q ih h.
    let k = ih q in
    rw (largest-left o l r i p q)
    (record {
      within = place-left o l r (largest o l i) k.within;
      starts = k.starts;
      most = λ v m e. k.most v (in_left o l r v m (omega arith) (omega arith)) e;
    }))
    (λ o l r i q ih h.
    let k = ih (omega (arith, size-node l r)) in
    rw (largest-right o l r i q)
    (record {
      within = place-right o l r (largest (o + size l) r (i - size l)) k.within;
      starts = k.starts ∙ omega arith;
      most = λ v m e. k.most v (in_right o l r v m (omega (arith, size-pos l)) (omega arith)) (omega arith);
    }))

pub table3 : Table3
unfolding size least_from depth split build shape largest
table3 = refl

-- Covers, from nothing and one place behind the other.
module _ {w : List Place} where
  covers-none : (a : ℕ) → Covers w a a []
  covers-none a = record { within = λ p m. absurd (Memᴰ.not-nil m); only = λ p m. absurd (Memᴰ.not-nil m); all = λ j g h. absurd (omega arith) }

  covers-behind : {a b : ℕ} {ps : List Place} (q : Place) → Memᴰ q w → q.0 ≡ b → a ≤ b → Covers w a b ps → Covers w a (b + size q.1) (ps ++ (q ∷ []))
  covers-behind {a} {b} {ps} q m e le c =
      record {
        within = λ p v. ⊎_elim (λ x. c.within p x) (λ x. Memᴰ.cast (Memᴰ.eq_of_singleton x) m) (Memᴰ.append_cases ps v);
        only = λ p v. ⊎_elim (λ x. let k = c.only p x in (k.0, omega arith)) (λ x. let i : p ≡ q = Memᴰ.eq_of_singleton x in rw i (omega arith, omega arith)) (Memᴰ.append_cases ps v);
        all = λ j g h. ⊎_elim
            (λ (x : j < b). let k = c.all j g x in (k.0, Memᴰ.append_left (q ∷ []) k.1, k.2, k.3))
            (λ (x : b ≤ j). (q, Memᴰ.append_right ps (Memᴰ.head refl), omega arith, omega arith))
            (lt-or-le j b);
      }

  covers-in : {v : List Place} {a b : ℕ} {ps : List Place} → ((p : Place) → Memᴰ p w → Memᴰ p v) → Covers w a b ps → Covers v a b ps
  covers-in g c = record { within = λ p m. g p (c.within p m); only = c.only; all = c.all }

-- The frontier after i blocks covers exactly the blocks after these.
covers-zero : (o : ℕ) (s : Shape) → Covers (places o s) (o + 0) (o + size s) (frontier o s 0)
covers-zero o s = rw (frontier-zero o s, add-zero o) (covers-behind {ps = []} (o, s) (itself o s) refl (omega arith) (covers-none o))

pub exactly : (o : ℕ) (s : Shape) (i : ℕ) → i ≤ size s → Covers (places o s) (o + i) (o + size s) (frontier o s i)
exactly =
    on-halves (λ o s i. i ≤ size s → Covers (places o s) (o + i) (o + size s) (frontier o s i)) (λ o s h. covers-zero o s)
    (λ o i p h. let e : i ≡ size leaf = omega (arith, size-leaf) in rw (e, frontier-all o leaf) (covers-none (o + size leaf)))
    (λ o l r i p q ih h.
    let whole : o + size (node l r) ≡ o + size l + size r = omega (arith, size-node l r) in
    rw (whole, frontier-left o l r i p (omega arith))
    (covers-behind (o + size l, r) (place-right o l r (o + size l, r) (itself (o + size l) r)) refl (omega arith)
    (covers-in (λ p m. place-left o l r p m) (ih (omega arith)))))
    (λ o l r i q ih h.
    let whole : o + size (node l r) ≡ o + size l + size r = omega (arith, size-node l r) in
    let e : o + i ≡ o + size l + (i - size l) = omega arith in
    rw (whole, e, frontier-right o l r i q) (covers-in (λ p m. place-right o l r p m) (ih (omega (arith, size-node l r)))))
