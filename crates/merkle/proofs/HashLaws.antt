-- Hashes of places: equal blocks have equal hashes wherever their trees stand, and a hash is worked out from a block and its siblings.
use Rattle.std.proofs.Common.{◌≡◌, ℕ, suc, ◌+◌, ◌<◌, List, [], ◌∷◌, ◌++◌, length, sym, refl, ap, ◌∙◌, ap₂, add-zero, add_assoc, arith}
use mathlib.Core.List.{head-eq_of_cons-eq, tail-eq_of_cons-eq}
use Rattle.merkle.specs.Shape.{Shape, leaf, node, size, Place}
use Rattle.merkle.specs.Hash.{Hashing, leaf_hash, node_hash, hash, hashes, input, climb_from, climb}
use Rattle.merkle.specs.Frontier.{largest, right_siblings, siblings, frontier}
use Rattle.merkle.specs.Claims.{HashesLong, Climbed}
use Rattle.merkle.proofs.ShapeLaws.{size-pos, size-node}
use Rattle.merkle.proofs.FrontierLaws.{on-halves, largest-zero, largest-left, largest-right, frontier-zero, frontier-leaf, frontier-left, frontier-right}

pub append_inj {ℓ} : {A : Type ℓ} (s₁ s₂ : List A) {t₁ t₂ : List A} → length s₁ ≡ length s₂ → s₁ ++ t₁ ≡ s₂ ++ t₂ → (s₁ ≡ s₂) × (t₁ ≡ t₂)
append_inj [] [] e h = (refl, h)
append_inj [] (y ∷ ys) e h = absurd (omega arith)
append_inj (x ∷ xs) [] e h = absurd (omega arith)
append_inj (x ∷ xs) (y ∷ ys) e h =
    let r = append_inj xs ys (omega arith) (tail-eq_of_cons-eq h) in
    (λ i. head-eq_of_cons-eq h i ∷ r.0 i, r.1)

-- The same blocks: those of f from o on and those of g from u on, as many as s has.
pub record Same (f : ℕ → List ℕ) (o : ℕ) (g : ℕ → List ℕ) (u : ℕ) (s : Shape) : Type 0 where
  pub block : (j : ℕ) → j < size s → f (o + j) ≡ g (u + j)

module _ {f : ℕ → List ℕ} {o : ℕ} {g : ℕ → List ℕ} {u : ℕ} {l r : Shape} (e : Same f o g u (node l r)) where
  pub same_left : Same f o g u l
  same_left = record { block = λ j h. e.block j (omega (arith, size-node l r)) }

  pub same-right : Same f (o + size l) g (u + size l) r
  same-right =
      record { block = λ j h. ap f (add_assoc o (size l) j) ∙ e.block (size l + j) (omega (arith, size-node l r)) ∙ ap g (sym (add_assoc u (size l) j)) }

module _ (H : Hashing) where
  pub length-hashes : (f : ℕ → List ℕ) (ps : List Place) → length (hashes H f ps) ≡ length ps
  unfolding hashes
  length-hashes f [] = refl
  length-hashes f (x ∷ ps) = ap suc (length-hashes f ps)

  pub hashes-append : (f : ℕ → List ℕ) (ps qs : List Place) → hashes H f (ps ++ qs) ≡ hashes H f ps ++ hashes H f qs
  unfolding hashes
  hashes-append f [] qs = refl
  hashes-append f (x ∷ ps) qs = rw (hashes-append f ps qs)

  pub hashes-last : (f : ℕ → List ℕ) (ps : List Place) (o : ℕ) (s : Shape) → hashes H f (ps ++ ((o, s) ∷ [])) ≡ hashes H f ps ++ (hash H f o s ∷ [])
  unfolding hashes
  hashes-last f ps o s = hashes-append f ps ((o, s) ∷ [])

  pub hash-node : (f : ℕ → List ℕ) (o : ℕ) (l r : Shape) → hash H f o (node l r) ≡ node_hash H (hash H f o l) (hash H f (o + size l) r)
  unfolding hash
  hash-node f o l r = refl

  pub hash-input : (f : ℕ → List ℕ) (o : ℕ) (s : Shape) → hash H f o s ≡ H.function (input H f o s)
  unfolding hash input
  hash-input f o leaf = refl
  hash-input f o (node l r) = refl

  -- A hash depends on the blocks alone.
  pub hash-same : {f : ℕ → List ℕ} {o : ℕ} {g : ℕ → List ℕ} {u : ℕ} (s : Shape) → Same f o g u s → hash H f o s ≡ hash H g u s
  unfolding hash
  hash-same {f} {o} {g} {u} leaf e = ap (λ x. leaf_hash H x) (ap f (sym (add-zero o)) ∙ e.block 0 (size-pos leaf) ∙ ap g (add-zero u))
  hash-same {f} {o} {g} {u} (node l r) e =
      ap₂ (λ x y. node_hash H x y) (hash-same l (same_left e)) (hash-same {f = f} {o = o + size l} {g = g} {u = u + size l} r (same-right e))

  right_siblings-same : {f : ℕ → List ℕ} {o : ℕ} {g : ℕ → List ℕ} {u : ℕ} (s : Shape) → Same f o g u s
      → hashes H f (right_siblings o s) ≡ hashes H g (right_siblings u s)
  unfolding right_siblings
  right_siblings-same leaf e = unfold hashes in refl
  right_siblings-same {f} {o} {g} {u} (node l r) e =
      hashes-last f (right_siblings o l) (o + size l) r
      ∙ ap₂ {C = List (List ℕ)} (λ x y. x ++ (y ∷ [])) (right_siblings-same l (same_left e)) (hash-same r (same-right e))
      ∙ sym (hashes-last g (right_siblings u l) (u + size l) r)

  -- The hashes that go with a block, and those of a frontier, do not depend on where the tree stands either.
  pub siblings-same : {f g : ℕ → List ℕ} {u : ℕ} (o : ℕ) (s : Shape) (i : ℕ) → Same f o g u s → hashes H f (siblings o s i) ≡ hashes H g (siblings u s i)
  unfolding siblings
  siblings-same {f} {g} {u} o s i e =
      on-halves (λ o s i. (u : ℕ) → Same f o g u s → hashes H f (siblings o s i) ≡ hashes H g (siblings u s i))
      (λ o s u e. rw (largest-zero o s, largest-zero u s) (right_siblings-same s e)) (λ o i v u e. unfold largest in right_siblings-same leaf e)
      (λ o l r i v w ih u e. rw (largest-left o l r i v w, largest-left u l r i v w) (ih u (same_left e)))
      (λ o l r i w ih u e. rw (largest-right o l r i w, largest-right u l r i w) (ih (u + size l) (same-right e))) o s i u e

  pub frontier-same : {f g : ℕ → List ℕ} {u : ℕ} (o : ℕ) (s : Shape) (i : ℕ) → Same f o g u s → hashes H f (frontier o s i) ≡ hashes H g (frontier u s i)
  unfolding hashes
  frontier-same {f} {g} {u} o s i e =
      on-halves (λ o s i. (u : ℕ) → Same f o g u s → hashes H f (frontier o s i) ≡ hashes H g (frontier u s i))
      (λ o s u e. rw (frontier-zero o s, frontier-zero u s) (ap {B = List (List ℕ)} (λ x. x ∷ []) (hash-same s e)))
      (λ o i v u e. rw (frontier-leaf o i v, frontier-leaf u i v))
      (λ o l r i v w ih u e.
      rw (frontier-left o l r i v (omega arith), frontier-left u l r i v (omega arith))
      (hashes-last f (frontier o l i) (o + size l) r
      ∙ ap₂ {C = List (List ℕ)} (λ x y. x ++ (y ∷ [])) (ih u (same_left e)) (hash-same r (same-right e))
      ∙ sym (hashes-last g (frontier u l i) (u + size l) r)))
      (λ o l r i w ih u e. rw (frontier-right o l r i w, frontier-right u l r i w) (ih (u + size l) (same-right e))) o s i u e

  pub climb-last : (x : List ℕ) (ys : List (List ℕ)) (y : List ℕ) → climb_from H x (ys ++ (y ∷ [])) ≡ node_hash H (climb_from H x ys) y
  unfolding climb_from
  climb-last x [] y = refl
  climb-last x (z ∷ ys) y = climb-last (node_hash H x z) ys y

-- A tree's hash is worked out from its first block and the right siblings above that.
pub hash-climb : Climbed
unfolding climb climb_from right_siblings hashes hash
hash-climb H f o leaf = refl
hash-climb H f o (node l r) =
    ap (λ x. node_hash H x (hash H f (o + size l) r)) (hash-climb H f o l)
    ∙ sym (climb-last H (leaf_hash H (f o)) (hashes H f (right_siblings o l)) (hash H f (o + size l) r))
    ∙ ap (climb_from H (leaf_hash H (f o))) (sym (hashes-last H f (right_siblings o l) (o + size l) r))

pub length-hash : HashesLong
length-hash H sized f o s = ap length (hash-input H f o s) ∙ sized (input H f o s)
