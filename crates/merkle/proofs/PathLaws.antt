-- Paths: the root comes from a block and its siblings, and with a block replaced from the new block and the old siblings. For change 1 of 02.
use Rattle.std.proofs.Common.{◌≡◌, ℕ, zero, suc, ◌+◌, ◌-◌, ◌<◌, ◌≤◌, Bool, true, false, ◌≢◌, ◌⊎◌, List, [], ◌∷◌, ◌++◌, length, sym, refl, ap, ◌∙◌, ap₂, inl, inr, add-zero, arith, length-append, le-ltb, lt-ltb}
use Rattle.merkle.specs.Blocks.{overlay}
use Rattle.merkle.specs.Shape.{Shape, leaf, node, size, Place}
use Rattle.merkle.specs.Hash.{Hashing, leaf_hash, hash, hashes, input}
use Rattle.merkle.specs.Path.{path_siblings, way, beside_input, ascend, ascend_inputs, path_hash, path_inputs}
use Rattle.merkle.specs.Claims.{PathLeads, PathOther}
use Rattle.merkle.proofs.ShapeLaws.{lt-or-le, size-node}
use Rattle.merkle.proofs.BlockLaws.{overlay-same, overlay-other, overlay-is}
use Rattle.merkle.proofs.HashLaws.{length-hashes, hashes-last, hash-input, hash-same}

-- The half of a node that has a block, and the other half beside it.
pub record Down (o : ℕ) (l r : Shape) (i : ℕ) : Type 0 where
  pub start : ℕ
  pub half : Shape
  pub index : ℕ
  pub from : ℕ
  pub beside : Shape
  pub right : Bool
  pub siblings_are : path_siblings o (node l r) i ≡ path_siblings start half index ++ ((from, beside) ∷ [])
  pub way_is : way o (node l r) i ≡ way start half index ++ (((o, node l r), right) ∷ [])
  pub input_is : (H : Hashing) (f : ℕ → List ℕ)
      → input H f o (node l r) ≡ beside_input H (hash H f start half) right (hash H f from beside)
  pub within : index < size half
  pub block_is : start + index ≡ o + i
  pub apart : (j : ℕ) → j < size beside → from + j ≢ o + i

unfoldable pub down-left : (o : ℕ) (l r : Shape) (i : ℕ) → i < size l → Down o l r i
unfolding way path_siblings input beside_input
down-left o l r i h =
    record {
      start = o;
      half = l;
      index = i;
      from = o + size l;
      beside = r;
      right = true;
      siblings_are = rw (lt-ltb i (size l) h, path_siblings);
      way_is = rw (lt-ltb i (size l) h, way);
      input_is = λ H f. refl;
      within = h;
      block_is = refl;
      apart = λ j g e. omega arith;
    }

unfoldable pub down-right : (o : ℕ) (l r : Shape) (i : ℕ) → size l ≤ i → i < size (node l r) → Down o l r i
unfolding way path_siblings input beside_input
down-right o l r i h k =
    record {
      start = o + size l;
      half = r;
      index = i - size l;
      from = o;
      beside = l;
      right = false;
      siblings_are = rw (le-ltb i (size l) h, path_siblings);
      way_is = rw (le-ltb i (size l) h, way);
      input_is = λ H f. refl;
      within = omega (arith, size-node l r);
      block_is = omega arith;
      apart = λ j g e. omega arith;
    }

-- What holds at a leaf, and at a node where it holds in the half that has the block, holds on every way.
pub on-way : (P : ℕ → Shape → ℕ → Type 0) → ((o : ℕ) → P o leaf 0)
    → ((o : ℕ) (l r : Shape) (i : ℕ) (d : Down o l r i) → P d.start d.half d.index → P o (node l r) i)
    → (o : ℕ) (s : Shape) (i : ℕ) → i < size s → P o s i
unfolding down-left down-right
on-way P one more o leaf zero h = one o
on-way P one more o leaf (suc i) h = absurd (unfold size in omega arith)
on-way P one more o (node l r) i h = go (lt-or-le i (size l)) (on-way P one more o l i) (on-way P one more (o + size l) r (i - size l))
  where
    go : (i < size l) ⊎ (size l ≤ i) → (i < size l → P o l i) → (i - size l < size r → P (o + size l) r (i - size l)) → P o (node l r) i
    go (inl w) a b = more o l r i (down-left o l r i w) (a w)
    go (inr w) a b = more o l r i (down-right o l r i w h) (b (omega (arith, size-node l r)))

pub length_last : {A : Type 0} (xs : List A) (x : A) → length (xs ++ (x ∷ [])) ≡ suc (length xs)
length_last xs x = length-append xs (x ∷ []) ∙ omega arith

-- There is a node above for each sibling.
pub length-way : (o : ℕ) (s : Shape) (i : ℕ) → i < size s → length (way o s i) ≡ length (path_siblings o s i)
length-way =
    on-way (λ o s i. length (way o s i) ≡ length (path_siblings o s i)) (λ o. unfold way in unfold path_siblings in refl)
    (λ o l r i d e.
    ap length d.way_is ∙ length_last (way d.start d.half d.index) ((o, node l r), d.right) ∙ ap suc e
    ∙ sym (ap length d.siblings_are ∙ length_last (path_siblings d.start d.half d.index) (d.from, d.beside)))

module _ (H : Hashing) where
  ascend-last : (x : List ℕ) (ws : List (Place × Bool)) (ys : List (List ℕ)) (w : Place × Bool) (y : List ℕ) → length ws ≡ length ys
      → ascend H x (ws ++ (w ∷ [])) (ys ++ (y ∷ [])) ≡ H.function (beside_input H (ascend H x ws ys) w.1 y)
  unfolding ascend
  ascend-last x [] [] w y e = refl
  ascend-last x [] (z ∷ ys) w y e = absurd (omega arith)
  ascend-last x (v ∷ ws) [] w y e = absurd (omega arith)
  ascend-last x (v ∷ ws) (z ∷ ys) w y e = ascend-last (H.function (beside_input H x v.1 z)) ws ys w y (omega arith)

  inputs-last : (x : List ℕ) (ws : List (Place × Bool)) (ys : List (List ℕ)) (w : Place × Bool) (y : List ℕ) → length ws ≡ length ys
      → ascend_inputs H x (ws ++ (w ∷ [])) (ys ++ (y ∷ [])) ≡ ascend_inputs H x ws ys ++ ((w.0, beside_input H (ascend H x ws ys) w.1 y) ∷ [])
  unfolding ascend ascend_inputs
  inputs-last x [] [] w y e = refl
  inputs-last x [] (z ∷ ys) w y e = absurd (omega arith)
  inputs-last x (v ∷ ws) [] w y e = absurd (omega arith)
  inputs-last x (v ∷ ws) (z ∷ ys) w y e = rw (inputs-last (H.function (beside_input H x v.1 z)) ws ys w y (omega arith))

  -- A path in a node: the path in the half, then its sibling y.
  module _ (o : ℕ) (l r : Shape) (i : ℕ) (d : Down o l r i) (b : List ℕ) (ys : List (List ℕ)) (y : List ℕ) (count : length (way d.start d.half d.index) ≡ length ys) where
    abbrev pub top : List ℕ
    top = beside_input H (path_hash H d.start d.half d.index b ys) d.right y

    pub path-node : path_hash H o (node l r) i b (ys ++ (y ∷ [])) ≡ H.function top
    unfolding path_hash
    path-node = rw d.way_is (ascend-last (leaf_hash H b) (way d.start d.half d.index) ys ((o, node l r), d.right) y count)

    pub inputs-node : path_inputs H o (node l r) i b (ys ++ (y ∷ [])) ≡ path_inputs H d.start d.half d.index b ys ++ (((o, node l r), top) ∷ [])
    unfolding path_hash path_inputs
    inputs-node = rw (d.way_is, inputs-last (leaf_hash H b) (way d.start d.half d.index) ys ((o, node l r), d.right) y count, sym d.block_is)

-- The root is worked out from a block and its siblings' hashes.
pub hash-path : PathLeads
hash-path H f =
    on-way (λ o s i. hash H f o s ≡ path_hash H o s i (f (o + i)) (hashes H f (path_siblings o s i)))
    (λ o. unfold hash in unfold path_hash in unfold way in unfold ascend in (ap (λ k. leaf_hash H (f k)) (sym (add-zero o))))
    (λ o l r i d e.
    let ps : List Place = path_siblings d.start d.half d.index in
    hash-input H f o (node l r) ∙ ap H.function (d.input_is H f)
    ∙ ap (λ x. H.function (beside_input H x d.right (hash H f d.from d.beside)))
    (e ∙ ap (λ k. path_hash H d.start d.half d.index (f k) (hashes H f ps)) d.block_is)
    ∙ sym (path-node H o l r i d (f (o + i)) (hashes H f ps) (hash H f d.from d.beside)
    (length-way d.start d.half d.index d.within ∙ sym (length-hashes H f ps)))
    ∙ ap (path_hash H o (node l r) i (f (o + i))) (sym (ap (hashes H f) d.siblings_are ∙ hashes-last H f ps d.from d.beside)))

module _ (H : Hashing) where
  -- A block's siblings do not depend on it.
  siblings-other : (f g : ℕ → List ℕ) (at : ℕ) → ((j : ℕ) → j ≢ at → f j ≡ g j) → (o : ℕ) (s : Shape) (i : ℕ) → i < size s → o + i ≡ at
      → hashes H f (path_siblings o s i) ≡ hashes H g (path_siblings o s i)
  siblings-other f g at other =
      on-way (λ o s i. o + i ≡ at → hashes H f (path_siblings o s i) ≡ hashes H g (path_siblings o s i)) (λ o z. unfold path_siblings in unfold hashes in refl)
      (λ o l r i d e z.
      let ps : List Place = path_siblings d.start d.half d.index in
      ap (hashes H f) d.siblings_are ∙ hashes-last H f ps d.from d.beside
      ∙ ap₂ {C = List (List ℕ)} (λ x y. x ++ (y ∷ [])) (e (d.block_is ∙ z))
      (hash-same H d.beside (record { block = λ j h. other (d.from + j) (λ k. d.apart j h (k ∙ sym z)) }))
      ∙ sym (ap (hashes H g) d.siblings_are ∙ hashes-last H g ps d.from d.beside))

  -- One block replaced: the new root comes from the new block and the old siblings.
  pub hash-replaced : (f : ℕ → List ℕ) (s : Shape) (at : ℕ) (b : List ℕ) → at < size s
      → hash H (overlay f at b) 0 s ≡ path_hash H 0 s at b (hashes H f (path_siblings 0 s at))
  hash-replaced f s at b h =
      let z : 0 + at ≡ at = omega arith in
      hash-path H (overlay f at b) 0 s at h
      ∙ ap₂ (path_hash H 0 s at) (ap (overlay f at b) z ∙ overlay-same f at b) (siblings-other (overlay f at b) f at (overlay-other f at b) 0 s at h z)

-- A block's siblings lead to the root of every tree that differs in that block at most.
pub path-other : PathOther
path-other H f g s i h other =
    sym (hash-replaced H f s i (g i) h) ∙ hash-same H {o = 0} {u = 0} s (record { block = λ j k. let z : 0 + j ≡ j = omega arith in rw z (overlay-is f g i j (other j k)) })
