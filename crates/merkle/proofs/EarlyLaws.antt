-- While loading: the accepted blocks and the held hashes are those of any blocks with the root, or these collide with the path of a message. For change 11 of 02.
use Rattle.std.proofs.Common.{◌≡◌, ℕ, suc, ◌+◌, ◌<◌, ◌≤◌, ◌⊎◌, List, [], ◌∷◌, ◌++◌, length, sym, refl, ap, ◌∙◌, subst, ap₂, inl, inr, ⊎_elim, add-zero, zero-add, arith}
use mathlib.Core.List.{head-eq_of_cons-eq, tail-eq_of_cons-eq}
use Rattle.merkle.specs.Limits.{hash_length}
use Rattle.merkle.specs.Shape.{Shape, leaf, node, size, Place}
use Rattle.merkle.specs.Hash.{Hashing, leaf_hash, node_hash, hash, hashes, climb_from, climb}
use Rattle.merkle.specs.Frontier.{largest, right_siblings, siblings, frontier}
use Rattle.merkle.specs.Path.{path_siblings, way, beside_input, ascend, path_hash, PathCollision}
use Rattle.merkle.proofs.ShapeLaws.{lt-or-le, size-pos}
use Rattle.merkle.proofs.FrontierLaws.{next}
use Rattle.merkle.proofs.HashLaws.{climb-last, hash-climb}
use Rattle.merkle.proofs.LoadingLaws.{NextHashes, next-hashes, hashes-zero}
use Rattle.merkle.proofs.PathLaws.{down-left, length_last, length-way, path-node}
use Rattle.merkle.proofs.PathBindingLaws.{last_of, path-binding}

-- A message's path is the way from the first block of a subtree: every sibling stands on the right.
first-siblings : (o : ℕ) (s : Shape) → path_siblings o s 0 ≡ right_siblings o s
unfolding path_siblings right_siblings down-left
first-siblings o leaf = refl
first-siblings o (node l r) = (down-left o l r 0 (size-pos l)).siblings_are ∙ ap (λ (ps : List Place). ps ++ ((o + size l, r) ∷ [])) (first-siblings o l)

module _ (H : Hashing) where
  path-climb : (o : ℕ) (s : Shape) (b : List ℕ) (ys : List (List ℕ)) → length (way o s 0) ≡ length ys → path_hash H o s 0 b ys ≡ climb H b ys
  unfolding path_hash climb down-left beside_input
  path-climb o leaf b [] n = unfold way in unfold ascend in unfold climb_from in refl
  path-climb o leaf b (y ∷ ys) n = absurd (unfold way in omega arith)
  path-climb o (node l r) b ys n =
      let d = down-left o l r 0 (size-pos l) in
      let k = last_of ys (length (way o l 0)) (sym n ∙ ap length d.way_is ∙ length_last (way o l 0) ((o, node l r), d.right)) in
      rw k.2
      (path-node H o l r 0 d b k.0 k.1 (sym k.3)
      ∙ ap (λ x. node_hash H x k.1) (path-climb o l b k.0 (sym k.3))
      ∙ sym (climb-last H (leaf_hash H b) k.0 k.1))

  -- After i blocks: f's blocks are the accepted ones, and its hashes at the frontier the held ones.
  pub record Agrees (f : ℕ → List ℕ) (s : Shape) (i : ℕ) (accepted : ℕ → List ℕ) (held : List (List ℕ)) : Type 0 where
    pub blocks : (j : ℕ) → j < i → f j ≡ accepted j
    pub hashes_are : hashes H f (frontier 0 s i) ≡ held

  pub early-start : (f : ℕ → List ℕ) (s : Shape) (root : List ℕ) (accepted : ℕ → List ℕ) → hash H f 0 s ≡ root → Agrees f s 0 accepted (root ∷ [])
  early-start f s root accepted e =
      record { blocks = λ j g. absurd (omega arith); hashes_are = hashes-zero H f s ∙ ap {B = List (List ℕ)} (λ x. x ∷ []) e }

  pub early-step : (sized : (x : List ℕ) → length (H.function x) ≡ hash_length) (f : ℕ → List ℕ) (s : Shape) (i : ℕ) (before after : ℕ → List ℕ) (held message : List (List ℕ))
      → i < size s → ((j : ℕ) → j < i → after j ≡ before j) → length message ≡ length (siblings 0 s i) → Agrees f s i before (climb H (after i) message ∷ held)
      → Agrees f s (suc i) after (message ++ held) ⊎ PathCollision H f (largest 0 s i).0 (largest 0 s i).1 0 (after i) message
  unfolding siblings
  early-step sized f s i before after held message h same count agrees =
      ⊎_elim (λ g. inl (record { blocks = blocks g.0; hashes_are = held-are g.1 })) (λ c. inr c)
      (path-binding H sized f (after i) o t 0 (size-pos t) message length-is leads)
    where
      o : ℕ
      o = (largest 0 s i).0

      t : Shape
      t = (largest 0 s i).1

      k : NextHashes H f s i
      k = next-hashes H f s i h

      both : climb H (f i) (hashes H f (siblings 0 s i)) ∷ k.others ≡ climb H (after i) message ∷ held
      both = sym k.first ∙ agrees.hashes_are

      at : o ≡ i
      at = (next 0 s i h).starts ∙ zero-add i

      length-is : length (way o t 0) ≡ length message
      length-is = length-way o t 0 (size-pos t) ∙ ap length (first-siblings o t) ∙ sym count

      leads : path_hash H o t 0 (after i) message ≡ hash H f o t
      leads =
          path-climb o t (after i) message length-is ∙ sym (head-eq_of_cons-eq both) ∙ ap (λ j. climb H (f j) (hashes H f (right_siblings o t))) (sym at)
          ∙ sym (hash-climb H f o t)

      blocks : after i ≡ f (o + 0) → (j : ℕ) → j < suc i → f j ≡ after j
      blocks e j g =
          ⊎_elim (λ (w : j < i). agrees.blocks j w ∙ sym (same j w))
          (λ (w : i ≤ j). let z : i ≡ j = omega arith in subst (λ x. f x ≡ after x) z (sym (e ∙ ap f (add-zero o ∙ at)))) (lt-or-le j i)

      held-are : message ≡ hashes H f (path_siblings o t 0) → hashes H f (frontier 0 s (suc i)) ≡ message ++ held
      held-are e =
          k.then ∙ ap₂ {C = List (List ℕ)} (λ u v. u ++ v) (sym (e ∙ ap (hashes H f) (first-siblings o t))) (tail-eq_of_cons-eq both)
