-- Binding: one hash of two block sequences of one shape. Constructive: the place of the collision is given.
use Rattle.std.proofs.Common.{◌≡◌, ℕ, ◌+◌, ◌-◌, ◌<◌, ◌≤◌, ◌≢◌, ◌⊎◌, List, length, sym, ◌∙◌, inl, inr, ⊎_elim, arith}
use mathlib.Core.List.{append_cancel_left, List-discrete}
use native.Mathlib.Decide.{ℕ_discrete}
use Rattle.merkle.specs.Limits.{hash_length}
use Rattle.merkle.specs.Shape.{Shape, leaf, node, size}
use Rattle.merkle.specs.Hash.{Hashing, leaf_input, hash, input, Collision}
use Rattle.merkle.proofs.ShapeLaws.{lt-or-le, size-node}
use Rattle.merkle.proofs.CoverLaws.{itself, place-left, place-right}
use Rattle.merkle.proofs.HashLaws.{append_inj, Same, hash-input, length-hash}

module _ (H : Hashing) (sized : (x : List ℕ) → length (H.function x) ≡ hash_length) where
  collision-at : (f g : ℕ → List ℕ) (o : ℕ) (s : Shape) → hash H f o s ≡ hash H g o s → input H f o s ≢ input H g o s → Collision H f g o s
  collision-at f g o s e n =
      record { place = (o, s); within = itself o s; differ = n; agree = sym (hash-input H f o s) ∙ e ∙ hash-input H g o s }

  -- Binding: two block sequences of one shape with one hash agree on every block, or they have a collision.
  pub binding : (f g : ℕ → List ℕ) (o : ℕ) (s : Shape) → hash H f o s ≡ hash H g o s → Same f o g o s ⊎ Collision H f g o s
  unfolding input
  binding f g o leaf e = go (List-discrete ℕ_discrete (leaf_input H (f o)) (leaf_input H (g o)))
    where
      go : Dec (leaf_input H (f o) ≡ leaf_input H (g o)) → Same f o g o leaf ⊎ Collision H f g o leaf
      go (yes k) = inl (record { block = λ j h. let z : o + j ≡ o = unfold size in omega arith in rw z (append_cancel_left H.leaf_prefix (f o) (g o) k) })
      go (no n) = inr (collision-at f g o leaf e n)
  binding f g o (node l r) e =
      go (List-discrete ℕ_discrete (input H f o (node l r)) (input H g o (node l r))) (binding f g o l) (binding f g (o + size l) r)
    where
      both : Same f o g o l ⊎ Collision H f g o l → Same f (o + size l) g (o + size l) r ⊎ Collision H f g (o + size l) r
          → Same f o g o (node l r) ⊎ Collision H f g o (node l r)
      both (inr c) d = inr (record { place = c.place; within = place-left o l r c.place c.within; differ = c.differ; agree = c.agree })
      both (inl a) (inr c) = inr (record { place = c.place; within = place-right o l r c.place c.within; differ = c.differ; agree = c.agree })
      both (inl a) (inl b) =
          inl (record {
            block = λ j h. ⊎_elim (λ (w : j < size l). a.block j w)
                (λ (w : size l ≤ j). let z : o + j ≡ o + size l + (j - size l) = omega arith in rw z (b.block (j - size l) (omega (arith, size-node l r)))) (lt-or-le j (size l));
          })

      go : Dec (input H f o (node l r) ≡ input H g o (node l r))
          → (hash H f o l ≡ hash H g o l → Same f o g o l ⊎ Collision H f g o l)
          → (hash H f (o + size l) r ≡ hash H g (o + size l) r → Same f (o + size l) g (o + size l) r ⊎ Collision H f g (o + size l) r)
          → Same f o g o (node l r) ⊎ Collision H f g o (node l r)
      go (yes k) a b =
          let w = append_inj (hash H f o l) (hash H g o l) (length-hash H sized f o l ∙ sym (length-hash H sized g o l)) (append_cancel_left H.node_prefix _ _ k) in
          both (a w.0) (b w.1)
      go (no n) a b = inr (collision-at f g o (node l r) e n)
