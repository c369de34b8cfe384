-- No fewer subtrees cover the blocks left than the frontier has, and no others are as few. By halves: of a list that covers them, the places that start in
-- the left half cover what is left of it, and the others cover the right half.
use Rattle.std.proofs.Common.{◌≡◌, ℕ, ◌+◌, ◌-◌, ◌<◌, ◌≤◌, ◌↔◌, List, [], ◌∷◌, ◌++◌, length, sym, refl, subst, ⊎_elim, add-zero, arith, length-append}
use mathlib.Core.Logic.{ite}
use mathlib.Core.List.Memᴰ
use mathlib.Core.List.{filter, Memᴰ}
use native.Mathlib.Decide.{dec_lt, dec_le}
use Rattle.merkle.specs.Shape.{Shape, leaf, node, size, Place, places}
use Rattle.merkle.specs.Frontier.{frontier}
use Rattle.merkle.specs.Claims.{Covers, FrontierFewest}
use Rattle.merkle.proofs.ShapeLaws.{lt-or-le, size-pos, size-node}
use Rattle.merkle.proofs.FrontierLaws.{on-halves, frontier-zero, frontier-leaf, frontier-left, frontier-right}
use Rattle.merkle.proofs.CoverLaws.{place-cases, inside, in_left, in_right, exactly}
use Rattle.merkle.proofs.OrderLaws.{frontier-ordered, ordered_same}

-- The places of a list that pass a test.
module _ {P : Place → Type 0} (d : (p : Place) → Dec (P p)) where
  kept : (qs : List Place) (p : Place) → Memᴰ p (filter d qs) ↔ (Memᴰ p qs × P p)
  kept [] p = (λ m. absurd (Memᴰ.not-nil m), λ m. absurd (Memᴰ.not-nil m.0))
  kept (q ∷ qs) p = go (d q) (kept qs p)
    where
      go : (t : Dec (P q)) → Memᴰ p (filter d qs) ↔ (Memᴰ p qs × P p) → Memᴰ p (ite {C = List Place} t (q ∷ filter d qs) (filter d qs)) ↔ (Memᴰ p (q ∷ qs) × P p)
      go (yes y) ih = (
        λ m. ⊎_elim (λ (e : p ≡ q). (Memᴰ.head e, subst P (sym e) y)) (λ v. let k = ih.0 v in (Memᴰ.tail k.0, k.1)) (Memᴰ.cases_cons m),
        λ m. ⊎_elim (λ e. Memᴰ.head e) (λ v. Memᴰ.tail (ih.1 (v, m.1))) (Memᴰ.cases_cons m.0),
      )
      go (no n) ih = (
        λ m. let k = ih.0 m in (Memᴰ.tail k.0, k.1),
        λ m. ⊎_elim (λ (e : p ≡ q). absurd (n (subst P e m.1))) (λ v. ih.1 (v, m.1)) (Memᴰ.cases_cons m.0),
      )

-- Those that start before block m, and the others.
module _ (m : ℕ) where
  abbrev low : List Place → List Place
  low = filter (λ (p : Place). dec_lt p.0 m)

  abbrev high : List Place → List Place
  high = filter (λ (p : Place). dec_le m p.0)

  parted : (qs : List Place) → length (low qs) + length (high qs) ≡ length qs
  parted [] = refl
  parted (q ∷ qs) = go (dec_lt q.0 m) (dec_le m q.0) (parted qs)
    where
      go : (s : Dec (q.0 < m)) (t : Dec (m ≤ q.0)) → length (low qs) + length (high qs) ≡ length qs
          → length (ite {C = List Place} s (q ∷ low qs) (low qs)) + length (ite {C = List Place} t (q ∷ high qs) (high qs)) ≡ length (q ∷ qs)
      go (yes s) (yes t) ih = absurd (omega arith)
      go (yes s) (no t) ih = omega arith
      go (no s) (yes t) ih = omega arith
      go (no s) (no t) ih = absurd (omega arith)

-- Of a list that covers the same blocks as ps: it has as many places or more, and if it has no more, the same ones.
record Least (ps qs : List Place) : Type 0 where
  fewest : length ps ≤ length qs
  same : length qs ≤ length ps → (p : Place) → Memᴰ p qs ↔ Memᴰ p ps

-- A place as large as its tree is the tree.
whole : (o : ℕ) (s : Shape) (p : Place) → Memᴰ p (places o s) → size s ≤ size p.1 → p ≡ (o, s)
whole o leaf p m h = unfold places in Memᴰ.eq_of_singleton m
whole o (node l r) p m h =
    ⊎_elim (λ e. e)
    (λ w. ⊎_elim (λ v. absurd (omega (arith, inside o l p v, size-node l r, size-pos r))) (λ v. absurd (omega (arith, inside (o + size l) r p v, size-node l r, size-pos l))) w)
    (place-cases o l r p m)

-- A whole tree is covered by itself alone, or by two or more.
least-whole : (o : ℕ) (s : Shape) (qs : List Place) → Covers (places o s) o (o + size s) qs → Least ((o, s) ∷ []) qs
least-whole o s [] c = absurd (Memᴰ.not-nil (c.all o (omega arith) (omega (arith, size-pos s))).1)
least-whole o s (q ∷ []) c =
    let a = c.all o (omega arith) (omega (arith, size-pos s)) in
    let b = c.all (o + size s - 1) (omega (arith, size-pos s)) (omega (arith, size-pos s)) in
    let x : a.0 ≡ q = Memᴰ.eq_of_singleton a.1 in
    let y : b.0 ≡ q = Memᴰ.eq_of_singleton b.1 in
    let from : q.0 ≤ o = rw x at a.2 in
    let to : o + size s - 1 < q.0 + size q.1 = rw y at b.3 in
    let e = whole o s q (c.within q (Memᴰ.head refl)) (omega (arith, size-pos s)) in
    record { fewest = omega arith; same = λ h p. rw e (λ m. m, λ m. m) }
least-whole o s (q ∷ x ∷ qs) c = record { fewest = omega arith; same = λ h. absurd (omega arith) }

least-none : (qs : List Place) → Least [] qs
least-none [] = record { fewest = omega arith; same = λ h p. (λ m. m, λ m. m) }
least-none (q ∷ qs) = record { fewest = omega arith; same = λ h. absurd (omega arith) }

least-both : (m : ℕ) (ps rs qs : List Place) → Least ps (low m qs) → Least rs (high m qs) → Least (ps ++ rs) qs
least-both m ps rs qs a b =
    let n = parted m qs in
    let z = length-append ps rs in
    record {
      fewest = omega arith;
      same = λ h p.
          let u = a.same (omega arith) p in
          let v = b.same (omega arith) p in
          let s = kept (λ (p : Place). dec_lt p.0 m) qs p in
          let t = kept (λ (p : Place). dec_le m p.0) qs p in (
            λ w. ⊎_elim (λ (g : p.0 < m). Memᴰ.append_left rs (u.0 (s.1 (w, g)))) (λ (g : m ≤ p.0). Memᴰ.append_right ps (v.0 (t.1 (w, g)))) (lt-or-le p.0 m),
            λ w. ⊎_elim (λ g. (s.0 (u.1 g)).0) (λ g. (t.0 (v.1 g)).0) (Memᴰ.append_cases ps w),
          );
    }

-- What is left of the left half, and of the right one, is covered by those that start there.
module _ (o : ℕ) (l r : Shape) (i : ℕ) (pos : 0 < i) (qs : List Place) (c : Covers (places o (node l r)) (o + i) (o + size (node l r)) qs) where
  to-left : (p : Place) → Memᴰ p qs → p.0 < o + size l → Memᴰ p (places o l)
  to-left p m h = in_left o l r p (c.within p m) (omega (arith, c.only p m)) h

  to-right : (p : Place) → Memᴰ p qs → o + size l ≤ p.0 → Memᴰ p (places (o + size l) r)
  to-right p m h = in_right o l r p (c.within p m) (omega (arith, c.only p m)) h

  covers_low : Covers (places o l) (o + i) (o + size l) (low (o + size l) qs)
  covers_low =
      let k = kept (λ (p : Place). dec_lt p.0 (o + size l)) qs in
      record {
        within = λ p m. let v = (k p).0 m in to-left p v.0 v.1;
        only = λ p m. let v = (k p).0 m in ((c.only p v.0).0, (inside o l p (to-left p v.0 v.1)).1);
        all = λ j g h.
            let a = c.all j g (omega (arith, size-node l r)) in
            (a.0, (k a.0).1 (a.1, omega arith), a.2, a.3);
      }

  -- A place that reaches into the right half starts there.
  starts : (p : Place) → Memᴰ p qs → o + size l < p.0 + size p.1 → o + size l ≤ p.0
  starts p m past =
      ⊎_elim (λ (v : p.0 < o + size l). absurd (omega (arith, inside o l p (to-left p m v)))) (λ (v : o + size l ≤ p.0). v) (lt-or-le p.0 (o + size l))

  covers_high : Covers (places (o + size l) r) (o + size l + (i - size l)) (o + size l + size r) (high (o + size l) qs)
  covers_high =
      let k = kept (λ (p : Place). dec_le (o + size l) p.0) qs in
      let n = size-node l r in
      record {
        within = λ p m. let v = (k p).0 m in to-right p v.0 v.1;
        only = λ p m.
            let v = (k p).0 m in
            let w = c.only p v.0 in
            (omega arith, omega arith);
        all = λ j g h.
            let a = c.all j (omega arith) (omega arith) in
            (a.0, (k a.0).1 (a.1, starts a.0 a.1 (omega arith)), a.2, a.3);
      }

least : (o : ℕ) (s : Shape) (i : ℕ) → i ≤ size s → (qs : List Place) → Covers (places o s) (o + i) (o + size s) qs → Least (frontier o s i) qs
least =
    on-halves (λ o s i. i ≤ size s → (qs : List Place) → Covers (places o s) (o + i) (o + size s) qs → Least (frontier o s i) qs)
    (λ o s h qs c. rw (frontier-zero o s) (least-whole o s qs (rw (add-zero o) at c)))
    (λ o i p h qs c. rw (frontier-leaf o i p) (least-none qs))
    (λ o l r i p q ih h qs c.
    let z : o + size l + (i - size l) ≡ o + size l = omega arith in
    rw (frontier-left o l r i p (omega arith))
    (least-both (o + size l) (frontier o l i) ((o + size l, r) ∷ []) qs (ih (omega arith) (low (o + size l) qs) (covers_low o l r i p qs c))
    (least-whole (o + size l) r (high (o + size l) qs) (rw z at (covers_high o l r i p qs c)))))
    (λ o l r i q ih h qs c.
    rw (frontier-right o l r i q)
    (least-both (o + size l) [] (frontier (o + size l) r (i - size l)) qs (least-none (low (o + size l) qs))
    (ih (omega (arith, size-node l r)) (high (o + size l) qs) (covers_high o l r i (omega (arith, size-pos l)) qs c))))

pub frontier-fewest : FrontierFewest
frontier-fewest o s i h =
    let ordered = frontier-ordered o s i h in
    record {
      exactly = exactly o s i h;
      fewest = λ qs c. (least o s i h qs c).fewest;
      same = λ qs c short. (least o s i h qs c).same short;
      ordered = ordered;
      alone = λ qs c short inorder. ordered_same qs (frontier o s i) inorder ordered ((least o s i h qs c).same short);
    }
