-- A path that leads to a tree's hash: its block and siblings are the tree's, or the two collide at one place, which is given. For changes 1 and 11 of 02.
use Rattle.std.proofs.Common.{◌≡◌, ℕ, zero, suc, ◌+◌, Bool, true, false, ◌⊎◌, List, [], ◌∷◌, ◌++◌, length, sym, refl, ap, ◌∙◌, ap₂, inl, inr, ⊎_elim, add-zero, arith, length-append}
use mathlib.Core.List.Memᴰ
use mathlib.Core.List.{append_cancel_left, append_cancel_right, List-discrete}
use native.Mathlib.Decide.{ℕ_discrete}
use Rattle.merkle.specs.Limits.{hash_length}
use Rattle.merkle.specs.Shape.{Shape, leaf, node, Place}
use Rattle.merkle.specs.Hash.{Hashing, leaf_input, leaf_hash, hash, hashes, input}
use Rattle.merkle.specs.Path.{path_siblings, way, beside_input, ascend, ascend_inputs, path_hash, path_inputs, PathCollision, PathsCollide}
use Rattle.merkle.specs.Claims.{PathBinds}
use Rattle.merkle.proofs.HashLaws.{append_inj, hashes-last, hash-input, length-hash}
use Rattle.merkle.proofs.PathLaws.{Down, on-way, length_last, top, path-node, inputs-node}

-- A list with an element has a last one.
pub last_of : (ys : List (List ℕ)) (m : ℕ) → length ys ≡ suc m → (xs : List (List ℕ)) × (x : List ℕ) × (ys ≡ xs ++ (x ∷ [])) × (length xs ≡ m)
last_of [] m e = absurd (omega arith)
last_of (y ∷ []) m e = ([], y, refl, omega arith)
last_of (y ∷ z ∷ zs) zero e = absurd (omega arith)
last_of (y ∷ z ∷ zs) (suc m) e =
    let k = last_of (z ∷ zs) m (omega arith) in
    (y ∷ k.0, k.1, ap {B = List (List ℕ)} (λ xs. y ∷ xs) k.2, ap suc k.3)

module _ (H : Hashing) (sized : (x : List ℕ) → length (H.function x) ≡ hash_length) where
  length-ascend : (x : List ℕ) (ws : List (Place × Bool)) (ys : List (List ℕ)) → length x ≡ hash_length → length (ascend H x ws ys) ≡ hash_length
  unfolding ascend
  length-ascend x [] ys e = e
  length-ascend x (w ∷ ws) [] e = e
  length-ascend x (w ∷ ws) (y ∷ ys) e = length-ascend (H.function (beside_input H x w.1 y)) ws ys (sized (beside_input H x w.1 y))

  pub length-path : (o : ℕ) (s : Shape) (i : ℕ) (b : List ℕ) (ys : List (List ℕ)) → length (path_hash H o s i b ys) ≡ hash_length
  unfolding path_hash
  length-path o s i b ys = length-ascend (leaf_hash H b) (way o s i) ys (sized (leaf_input H b))

  -- equal hash inputs have equal parts
  beside-inj : (t : Bool) (x y x' y' : List ℕ) → length x ≡ hash_length → length x' ≡ hash_length → beside_input H x t y ≡ beside_input H x' t y' → (x ≡ x') × (y ≡ y')
  unfolding beside_input
  beside-inj true x y x' y' n n' e = append_inj x x' (n ∙ sym n') (append_cancel_left H.node_prefix (x ++ y) (x' ++ y') e)
  beside-inj false x y x' y' n n' e =
      let k : y ++ x ≡ y' ++ x' = append_cancel_left H.node_prefix (y ++ x) (y' ++ x') e in
      let w = append_inj y y' (omega (arith, simp length-append at (ap length k))) k in
      (w.1, w.0)

  -- The tree's block and siblings, or a collision.
  abbrev pub Bound : (ℕ → List ℕ) → List ℕ → List (List ℕ) → ℕ → Shape → ℕ → Type 0
  Bound f b ys o s i = ((b ≡ f (o + i)) × (ys ≡ hashes H f (path_siblings o s i))) ⊎ PathCollision H f o s i b ys

  bound-leaf : (f : ℕ → List ℕ) (b : List ℕ) (ys : List (List ℕ)) (o : ℕ) → length (way o leaf 0) ≡ length ys → path_hash H o leaf 0 b ys ≡ hash H f o leaf → Bound f b ys o leaf 0
  unfolding way path_hash ascend hash path_siblings hashes path_inputs ascend_inputs input
  bound-leaf f b (y ∷ ys) o n e = absurd (omega arith)
  bound-leaf f b [] o n e = go (List-discrete ℕ_discrete (leaf_input H (f (o + 0))) (leaf_input H b))
    where
      go : Dec (leaf_input H (f (o + 0)) ≡ leaf_input H b) → Bound f b [] o leaf 0
      go (yes k) = inl (sym (append_cancel_left H.leaf_prefix (f (o + 0)) b k), refl)
      go (no d) =
          inr (record { place = (o + 0, leaf); given = leaf_input H b; within = Memᴰ.head refl; differ = d; agree = ap (λ k. leaf_hash H (f k)) (add-zero o) ∙ sym e })

  module _ (f : ℕ → List ℕ) (b : List ℕ) (o : ℕ) (l r : Shape) (i : ℕ) (d : Down o l r i) (ys : List (List ℕ)) (y : List ℕ)
      (count : length (way d.start d.half d.index) ≡ length ys) where
    given : List ℕ
    given = top H o l r i d b ys y count

    bound-node : path_hash H o (node l r) i b (ys ++ (y ∷ [])) ≡ hash H f o (node l r)
        → (path_hash H d.start d.half d.index b ys ≡ hash H f d.start d.half → Bound f b ys d.start d.half d.index)
        → Bound f b (ys ++ (y ∷ [])) o (node l r) i
    unfolding given
    bound-node e ih = go (List-discrete ℕ_discrete (input H f o (node l r)) given)
      where
        go : Dec (input H f o (node l r) ≡ given) → Bound f b (ys ++ (y ∷ [])) o (node l r) i
        go (no n) =
            inr (record {
              place = (o, node l r);
              given = given;
              within = rw (inputs-node H o l r i d b ys y count) (Memᴰ.append_right (path_inputs H d.start d.half d.index b ys) (Memᴰ.head refl));
              differ = n;
              agree = sym (hash-input H f o (node l r)) ∙ sym e ∙ path-node H o l r i d b ys y count;
            })
        go (yes k) =
            let w = beside-inj d.right (hash H f d.start d.half) (hash H f d.from d.beside) (path_hash H d.start d.half d.index b ys) y
            (length-hash H sized f d.start d.half) (length-path d.start d.half d.index b ys) (sym (d.input_is H f) ∙ k) in
            ⊎_elim
            (λ g. inl (
              g.0 ∙ ap f d.block_is,
              ap₂ {C = List (List ℕ)} (λ u v. u ++ (v ∷ [])) g.1 (sym w.1)
                  ∙ sym (ap (hashes H f) d.siblings_are ∙ hashes-last H f (path_siblings d.start d.half d.index) d.from d.beside),
            ))
            (λ c. inr (record {
              place = c.place;
              given = c.given;
              within = rw (inputs-node H o l r i d b ys y count) (Memᴰ.append_left (((o, node l r), given) ∷ []) c.within);
              differ = c.differ;
              agree = c.agree;
            }))
            (ih (sym w.0))

pub path-binding : PathBinds
path-binding H sized f b =
    on-way (λ o s i. (ys : List (List ℕ)) → length (way o s i) ≡ length ys → path_hash H o s i b ys ≡ hash H f o s → Bound H sized f b ys o s i)
    (λ o ys n e. bound-leaf H sized f b ys o n e)
    (λ o l r i d ih ys n e.
    let ws : List (Place × Bool) = way d.start d.half d.index in
    let k = last_of ys (length ws) (sym n ∙ ap length d.way_is ∙ length_last ws ((o, node l r), d.right)) in
    rw k.2 (bound-node H sized f b o l r i d k.0 k.1 (sym k.3) (rw k.2 at e) (ih k.0 (sym k.3))))

-- Two blocks with the same siblings that lead to one hash: they are the same, or the paths collide.
module _ (H : Hashing) where
  -- .. already below, or here, where the inputs x and y at the place p have one hash
  met : {p : Place} {x y : List ℕ} {es fs : List (Place × List ℕ)} → (H.function x ≡ H.function y) ⊎ PathsCollide H es fs → (x ≡ y) ⊎ PathsCollide H ((p, x) ∷ es) ((p, y) ∷ fs)
  met {p} {x} {y} {es} {fs} (inl e) = go (List-discrete ℕ_discrete x y)
    where
      go : Dec (x ≡ y) → (x ≡ y) ⊎ PathsCollide H ((p, x) ∷ es) ((p, y) ∷ fs)
      go (yes q) = inl q
      go (no n) = inr (record { place = p; one = x; other = y; within = Memᴰ.head refl; within_other = Memᴰ.head refl; differ = n; agree = e })
  met (inr c) =
      inr (record { place = c.place; one = c.one; other = c.other; within = Memᴰ.tail c.within; within_other = Memᴰ.tail c.within_other; differ = c.differ; agree = c.agree })

  beside_same : (right : Bool) (x x' y : List ℕ) → beside_input H x right y ≡ beside_input H x' right y → x ≡ x'
  unfolding beside_input
  beside_same true x x' y e = append_cancel_right x x' y (append_cancel_left H.node_prefix (x ++ y) (x' ++ y) e)
  beside_same false x x' y e = append_cancel_left y x x' (append_cancel_left H.node_prefix (y ++ x) (y ++ x') e)

  ways : (x x' : List ℕ) (ws : List (Place × Bool)) (ys : List (List ℕ)) → ascend H x ws ys ≡ ascend H x' ws ys → (x ≡ x') ⊎ PathsCollide H (ascend_inputs H x ws ys) (ascend_inputs H x' ws ys)
  unfolding ascend ascend_inputs
  ways x x' [] ys e = inl e
  ways x x' (w ∷ ws) [] e = inl e
  ways x x' (w ∷ ws) (y ∷ ys) e =
      ⊎_elim (λ q. inl (beside_same w.1 x x' y q)) (λ c. inr c) (met (ways (H.function (beside_input H x w.1 y)) (H.function (beside_input H x' w.1 y)) ws ys e))

  pub two-paths : (o : ℕ) (s : Shape) (i : ℕ) (b b' : List ℕ) (ys : List (List ℕ)) → path_hash H o s i b ys ≡ path_hash H o s i b' ys
      → (b ≡ b') ⊎ PathsCollide H (path_inputs H o s i b ys) (path_inputs H o s i b' ys)
  unfolding path_hash path_inputs
  two-paths o s i b b' ys e = ⊎_elim (λ q. inl (append_cancel_left H.leaf_prefix b b' q)) (λ c. inr c) (met (ways (leaf_hash H b) (leaf_hash H b') (way o s i) ys e))
