-- The frontiers follow one another: the first subtree of a frontier is the largest that starts there, and after its first block its right siblings
-- take its place. The equations of `largest` and `frontier` by halves come first; no later law opens these two.
use Rattle.std.proofs.Common.{◌≡◌, ℕ, zero, suc, ◌+◌, ◌-◌, ◌<◌, ◌≤◌, ◌⊎◌, List, [], ◌∷◌, ◌++◌, sym, refl, ap, ◌∙◌, inl, inr, append_assoc, append-nil, add-zero, arith, le-ltb, lt-ltb}
use Rattle.merkle.specs.Shape.{Shape, leaf, node, size, Place}
use Rattle.merkle.specs.Frontier.{largest, right_siblings, siblings, frontier}
use Rattle.merkle.specs.Claims.{Next, FrontierNext}
use Rattle.merkle.proofs.ShapeLaws.{lt-or-le, size-pos, size-leaf, size-node}

-- What holds before a tree's first block and past a single one, and of a node where it holds in the half that i blocks reach into, holds throughout.
-- P speaks of the tree that has o blocks before it, after i of its own.
pub on-halves : (P : ℕ → Shape → ℕ → Type 0) → ((o : ℕ) (s : Shape) → P o s 0) → ((o i : ℕ) → 0 < i → P o leaf i)
    → ((o : ℕ) (l r : Shape) (i : ℕ) → 0 < i → i < size l → P o l i → P o (node l r) i)
    → ((o : ℕ) (l r : Shape) (i : ℕ) → size l ≤ i → P (o + size l) r (i - size l) → P o (node l r) i) → (o : ℕ) (s : Shape) (i : ℕ) → P o s i
on-halves P first past left right o leaf zero = first o leaf
on-halves P first past left right o leaf (suc i) = past o (suc i) (omega arith)
on-halves P first past left right o (node l r) i =
    go i (lt-or-le 0 i) (lt-or-le i (size l)) (on-halves P first past left right o l i) (on-halves P first past left right (o + size l) r (i - size l))
  where
    go : (i : ℕ) → (0 < i) ⊎ (i ≤ 0) → (i < size l) ⊎ (size l ≤ i) → P o l i → P (o + size l) r (i - size l) → P o (node l r) i
    go i (inl p) (inl q) a b = left o l r i p q a
    go i p (inr q) a b = right o l r i q b
    go zero (inr p) (inl q) a b = first o (node l r)
    go (suc i) (inr p) (inl q) a b = absurd (omega arith)

pub largest-zero : (o : ℕ) (s : Shape) → largest o s 0 ≡ (o, s)
unfolding largest
largest-zero o leaf = refl
largest-zero o (node l r) = refl

pub frontier-zero : (o : ℕ) (s : Shape) → frontier o s 0 ≡ (o, s) ∷ []
unfolding frontier
frontier-zero o leaf = refl
frontier-zero o (node l r) = refl

pub frontier-leaf : (o i : ℕ) → 0 < i → frontier o leaf i ≡ []
unfolding frontier
frontier-leaf o i h = rw (lt-ltb 0 i h, frontier)

module _ (o : ℕ) (l r : Shape) (i : ℕ) where
  pub largest-left : 0 < i → i < size l → largest o (node l r) i ≡ largest o l i
  unfolding largest
  largest-left p q = rw (lt-ltb 0 i p, lt-ltb i (size l) q, largest)

  pub largest-right : size l ≤ i → largest o (node l r) i ≡ largest (o + size l) r (i - size l)
  unfolding largest
  largest-right q = rw (lt-ltb 0 i (omega (arith, size-pos l)), le-ltb i (size l) q, largest)

  frontier-in-left : 0 < i → i < size l → frontier o (node l r) i ≡ frontier o l i ++ ((o + size l, r) ∷ [])
  unfolding frontier
  frontier-in-left p q = rw (lt-ltb 0 i p, lt-ltb i (size l) q, frontier)

  pub frontier-right : size l ≤ i → frontier o (node l r) i ≡ frontier (o + size l) r (i - size l)
  unfolding frontier
  frontier-right q = rw (lt-ltb 0 i (omega (arith, size-pos l)), le-ltb i (size l) q, frontier)

-- After all blocks nothing is held.
pub frontier-all : (o : ℕ) (s : Shape) → frontier o s (size s) ≡ []
frontier-all o leaf = frontier-leaf o (size leaf) (size-pos leaf)
frontier-all o (node l r) =
    let e : size (node l r) - size l ≡ size r = omega (arith, size-node l r) in
    frontier-right o l r (size (node l r)) (omega (arith, size-node l r)) ∙ ap (frontier (o + size l) r) e ∙ frontier-all (o + size l) r

-- up to the whole left half, the right half follows
pub frontier-left : (o : ℕ) (l r : Shape) (i : ℕ) → 0 < i → i ≤ size l → frontier o (node l r) i ≡ frontier o l i ++ ((o + size l, r) ∷ [])
frontier-left o l r i p q = go (lt-or-le i (size l))
  where
    go : (i < size l) ⊎ (size l ≤ i) → frontier o (node l r) i ≡ frontier o l i ++ ((o + size l, r) ∷ [])
    go (inl w) = frontier-in-left o l r i p w
    go (inr w) =
        let e : i ≡ size l = omega arith in
        let z : i - size l ≡ 0 = omega arith in
        frontier-right o l r i w ∙ ap (frontier (o + size l) r) z ∙ frontier-zero (o + size l) r
        ∙ sym (ap (λ (x : List Place). x ++ ((o + size l, r) ∷ [])) (ap (frontier o l) e ∙ frontier-all o l))

frontier-one : (o : ℕ) (s : Shape) → frontier o s 1 ≡ right_siblings o s
unfolding right_siblings
frontier-one o leaf = frontier-leaf o 1 (omega arith)
frontier-one o (node l r) =
    frontier-left o l r 1 (omega arith) (size-pos l) ∙ ap (λ (x : List Place). x ++ ((o + size l, r) ∷ [])) (frontier-one o l)

next-zero : (o : ℕ) (s : Shape) → Next o s 0
unfolding siblings
next-zero o s =
    record {
      others = [];
      first = rw (largest-zero o s) (frontier-zero o s);
      starts = rw (largest-zero o s) (sym (add-zero o));
      then = rw (largest-zero o s) (frontier-one o s ∙ sym (append-nil (right_siblings o s)));
    }

pub next : FrontierNext
unfolding siblings
next =
    on-halves (λ o s i. i < size s → Next o s i) (λ o s h. next-zero o s) (λ o i p h. absurd (omega (arith, size-leaf)))
    (λ o l r i p q ih h.
    let n = ih q in
    let last : List Place = (o + size l, r) ∷ [] in
    record {
      others = n.others ++ last;
      first = rw (largest-left o l r i p q) (frontier-left o l r i p (omega arith) ∙ ap (λ (x : List Place). x ++ last) n.first);
      starts = rw (largest-left o l r i p q) n.starts;
      then = rw (largest-left o l r i p q)
          (frontier-left o l r (suc i) (omega arith) q ∙ ap (λ (x : List Place). x ++ last) n.then ∙ append_assoc (siblings o l i) n.others last);
    })
    (λ o l r i q ih h.
    let n = ih (omega (arith, size-node l r)) in
    let z : suc i - size l ≡ suc (i - size l) = omega arith in
    record {
      others = n.others;
      first = rw (largest-right o l r i q) (frontier-right o l r i q ∙ n.first);
      starts = rw (largest-right o l r i q) (n.starts ∙ omega arith);
      then = rw (largest-right o l r i q) (frontier-right o l r (suc i) (omega arith) ∙ ap (frontier (o + size l) r) z ∙ n.then);
    })
