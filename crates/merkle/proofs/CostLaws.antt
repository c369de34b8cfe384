-- What hashing costs depends on lengths alone: closed forms for general prefixes.
use Rattle.std.proofs.Common.{◌≡◌, ℕ, zero, suc, ◌+◌, ◌-◌, ◌*◌, ◌<◌, ◌≤◌, Bool, true, false, ◌⊎◌, List, [], ◌∷◌, ◌++◌, length, take, drop, sym, refl, ap, ◌∙◌, ap₂, inl, inr, ⊎_elim, add-zero, add_assoc, add-mul, one-mul, arith, length-append, length-drop, length-take, eq-eqb, ne_eqb}
use Rattle.sha256.specs.Sha256.{compressions, compressions_for}
use Rattle.sha256.proofs.PaddingLaws.{compressions-is}
use Rattle.merkle.specs.Limits.{hash_length}
use Rattle.merkle.specs.Shape.{Shape, leaf, node, size, split, shape, Place}
use Rattle.merkle.specs.Hash.{Hashing, leaf_input, node_input, leaf_hash, node_hash, hash, climb_from}
use Rattle.merkle.specs.Frontier.{carried_count}
use Rattle.merkle.specs.Path.{beside_input, ascend}
use Rattle.merkle.specs.Turns.{turns_of}
use Rattle.merkle.specs.Held.{hashes_in}
use Rattle.merkle.specs.Cost.{cost, climb_from_cost, climb_cost, ascend_cost, fits_cost, leaf_cost, node_cost, cost_without}
use Rattle.merkle.proofs.ShapeLaws.{lt-or-le, size-pos, size-node, size-leaf, size-left, halves, shape-leaf}
use Rattle.merkle.proofs.HashLaws.{Same, same_left, same-right, hash-same, length-hash}
use Rattle.merkle.proofs.HeldLaws.{length-hashes_in}

-- The compressions of a block of k bytes, and of two hashes, behind their prefixes.
pub of-block : (H : Hashing) (b : List ℕ) → compressions (leaf_input H b) ≡ leaf_cost H (length b)
of-block H b = compressions-is (leaf_input H b) ∙ ap compressions_for (length-append H.leaf_prefix b)

pub of_two : (H : Hashing) (x y : List ℕ) → length x ≡ hash_length → length y ≡ hash_length → compressions (node_input H x y) ≡ node_cost H
of_two H x y ex ey =
    compressions-is (node_input H x y)
    ∙ ap compressions_for (length-append H.node_prefix (x ++ y) ∙ ap (λ k. length H.node_prefix + k) (length-append x y ∙ ap₂ (λ a b. a + b) ex ey))

pub of-beside : (H : Hashing) (x : List ℕ) (right : Bool) (y : List ℕ) → length x ≡ hash_length → length y ≡ hash_length
    → compressions (beside_input H x right y) ≡ node_cost H
unfolding beside_input
of-beside H x true y ex ey = of_two H x y ex ey
of-beside H x false y ex ey = of_two H y x ey ex

-- c added up a + 1 + b times
thrice : (a b n c : ℕ) → 0 < a → 0 < b → n ≡ a + b → (n - 1) * c ≡ (a - 1) * c + c + (b - 1) * c
thrice a b n c pa pb e =
    let w : n - 1 ≡ (a - 1) + 1 + (b - 1) = omega arith in
    rw w (omega (arith, add-mul ((a - 1) + 1) (b - 1) c, add-mul (a - 1) 1 c, one-mul c))

module _ (H : Hashing) (sized : (x : List ℕ) → length (H.function x) ≡ hash_length) where
  -- The tree over blocks of L bytes, the last of M: leaves and inner nodes.
  pub cost-is : (L M : ℕ) (f : ℕ → List ℕ) (o : ℕ) (s : Shape) → ((j : ℕ) → suc j < size s → length (f (o + j)) ≡ L) → length (f (o + (size s - 1))) ≡ M
      → cost H f o s ≡ (size s - 1) * (leaf_cost H L + node_cost H) + leaf_cost H M
  unfolding cost
  cost-is L M f o leaf all last =
      let z : o + (size leaf - 1) ≡ o = omega (arith, size-leaf) in
      let w : size leaf - 1 ≡ 0 = omega (arith, size-leaf) in
      rw w (of-block H (f o) ∙ ap (leaf_cost H) (ap (λ k. length (f k)) (sym z) ∙ last) ∙ omega arith)
  cost-is L M f o (node l r) all last =
      let sl = size-pos l in
      let sr = size-pos r in
      let sn = size-node l r in
      let end : (o + size l) + (size r - 1) ≡ o + (size (node l r) - 1) = omega arith in
      let left = cost-is L L f o l (λ j h. all j (omega arith)) (all (size l - 1) (omega arith)) in
      let right =
      cost-is L M f (o + size l) r (λ j h. ap (λ k. length (f k)) (add_assoc o (size l) j) ∙ all (size l + j) (omega arith)) (ap (λ k. length (f k)) end ∙ last) in
      let top = of_two H (hash H f o l) (hash H f (o + size l) r) (length-hash H sized f o l) (length-hash H sized f (o + size l) r) in
      omega (arith, left, right, top, thrice (size l) (size r) (size (node l r)) (leaf_cost H L + node_cost H) sl sr sn)

  -- A climb over the c hashes of a message.
  climb_from-is : (x : List ℕ) (c : ℕ) (message : List ℕ) → length x ≡ hash_length → length message ≡ hash_length * c
      → climb_from_cost H x (hashes_in c message) ≡ c * node_cost H
  unfolding climb_from_cost hashes_in
  climb_from-is x zero message ex em = omega arith
  climb_from-is x (suc c) message ex em =
      let y = take hash_length message in
      let ey : length y ≡ hash_length = simp length-take (omega arith) in
      let more = climb_from-is (node_hash H x y) c (drop hash_length message) (sized (node_input H x y)) (simp length-drop (omega arith)) in
      let w : suc c ≡ 1 + c = omega arith in
      rw w (omega (arith, more, of_two H x y ex ey, add-mul 1 c (node_cost H), one-mul (node_cost H)))

  pub fits-cost-is : (n i : ℕ) (block message : List ℕ) → length message ≡ hash_length * carried_count n (suc i)
      → fits_cost H n i block message ≡ leaf_cost H (length block) + carried_count n (suc i) * node_cost H
  unfolding fits_cost climb_cost
  fits-cost-is n i block message em =
      ap₂ (λ a b. a + b) (of-block H block) (climb_from-is (leaf_hash H block) (carried_count n (suc i)) message (sized (leaf_input H block)) em)

-- It depends on the blocks alone.
pub cost-same : (H : Hashing) {f : ℕ → List ℕ} {o : ℕ} {g : ℕ → List ℕ} {u : ℕ} (s : Shape) → Same f o g u s → cost H f o s ≡ cost H g u s
unfolding cost
cost-same H {f} {o} {g} {u} leaf e = ap (λ x. compressions (leaf_input H x)) (ap f (sym (add-zero o)) ∙ e.block 0 (size-pos leaf) ∙ ap g (add-zero u))
cost-same H {f} {o} {g} {u} (node l r) e =
    let a = cost-same H l (same_left e) in
    let b = cost-same H {f = f} {o = o + size l} {g = g} {u = u + size l} r (same-right e) in
    let t = ap₂ (λ x y. compressions (node_input H x y)) (hash-same H l (same_left e)) (hash-same H r (same-right e)) in
    omega arith

-- The tree without one of its blocks, and with it.
module _ (H : Hashing) (at : ℕ) (f : ℕ → List ℕ) where
  pub without-beyond : (o : ℕ) (s : Shape) → (at < o) ⊎ (o + size s ≤ at) → cost_without H at f o s ≡ cost H f o s
  unfolding cost_without cost
  without-beyond o leaf h =
      rw (ne_eqb o at (λ e. ⊎_elim (λ g. absurd (omega arith)) (λ g. absurd (omega (arith, size-leaf))) h))
  without-beyond o (node l r) h =
      let sn = size-node l r in
      let sl = size-pos l in
      let sr = size-pos r in
      ap₂ (λ a b. a + b + compressions (node_input H (hash H f o l) (hash H f (o + size l) r)))
      (without-beyond o l (⊎_elim (λ g. inl g) (λ g. inr (omega arith)) h))
      (without-beyond (o + size l) r (⊎_elim (λ g. inl (omega arith)) (λ g. inr (omega arith)) h))

  pub without-within : (o : ℕ) (s : Shape) → o ≤ at → at < o + size s → cost_without H at f o s + compressions (leaf_input H (f at)) ≡ cost H f o s
  unfolding cost_without cost
  without-within o leaf le lt =
      let e : o ≡ at = omega (arith, size-leaf) in
      rw e (rw (eq-eqb at at refl) (omega arith))
  without-within o (node l r) le lt =
      let sn = size-node l r in
      go (lt-or-le at (o + size l)) (λ h. without-within o l le h) (λ h. without-within (o + size l) r h (omega arith))
    where
      go : (at < o + size l) ⊎ (o + size l ≤ at) → (at < o + size l → cost_without H at f o l + compressions (leaf_input H (f at)) ≡ cost H f o l)
          → (o + size l ≤ at → cost_without H at f (o + size l) r + compressions (leaf_input H (f at)) ≡ cost H f (o + size l) r)
          → cost_without H at f o l + cost_without H at f (o + size l) r + compressions (node_input H (hash H f o l) (hash H f (o + size l) r)) + compressions (leaf_input H (f at))
          ≡ cost H f o l + cost H f (o + size l) r + compressions (node_input H (hash H f o l) (hash H f (o + size l) r))
      go (inl h) left right = omega (arith, left h, without-beyond (o + size l) r (inl h))
      go (inr h) left right = omega (arith, right h, without-beyond o l (inr h))

  -- By halves, and of a single block.
  pub without-two : (o n k : ℕ) (x y : List ℕ) (cx cy c : ℕ) → 1 < n → k ≡ split n → x ≡ hash H f o (shape k) → y ≡ hash H f (o + k) (shape (n - k))
      → cx ≡ cost_without H at f o (shape k) → cy ≡ cost_without H at f (o + k) (shape (n - k)) → c ≡ compressions (node_input H x y)
      → cx + cy + c ≡ cost_without H at f o (shape n)
  unfolding cost_without
  without-two o n k x y cx cy c big is ex ey ecx ecy ec =
      let z = size-left n k big is in
      let right : cy ≡ cost_without H at f (o + size (shape k)) (shape (n - k)) = ecy ∙ ap (λ z. cost_without H at f (o + z) (shape (n - k))) (sym z) in
      let top : c ≡ compressions (node_input H (hash H f o (shape k)) (hash H f (o + size (shape k)) (shape (n - k)))) =
      ec ∙ ap₂ (λ u v. compressions (node_input H u v)) ex (ey ∙ ap (λ z. hash H f (o + z) (shape (n - k))) (sym z)) in
      ap₂ (λ u v. u + v) (ap₂ (λ u v. u + v) ecx right) top ∙ sym (ap (cost_without H at f o) (halves n k big is))

  pub without-new : (o n : ℕ) → n ≡ 1 → o ≡ at → 0 ≡ cost_without H at f o (shape n)
  unfolding cost_without
  without-new o n e same = rw (shape-leaf n (omega arith)) (rw (eq-eqb o at same) refl)

  pub without-kept : (o n : ℕ) → n ≡ 1 → (o ≡ at → ⊥) → compressions (leaf_input H (f o)) ≡ cost_without H at f o (shape n)
  unfolding cost_without
  without-kept o n e other = rw (shape-leaf n (omega arith)) (rw (ne_eqb o at other) refl)

-- A way on which every sibling stands on the right is a climb.
pub rights : (c : ℕ) → List (Place × Bool)
rights zero = []
rights (suc c) = ((0, leaf), true) ∷ rights c

pub rights-length : (c : ℕ) → length (rights c) ≡ c
unfolding rights
rights-length zero = refl
rights-length (suc c) = ap suc (rights-length c)

pub rights-none : (c : ℕ) → turns_of (rights c) ≡ 0
unfolding turns_of rights
rights-none zero = refl
rights-none (suc c) = let e = rights-none c in omega arith

pub rights-climb : (H : Hashing) (x : List ℕ) (ys : List (List ℕ)) → ascend H x (rights (length ys)) ys ≡ climb_from H x ys
unfolding ascend climb_from beside_input rights
rights-climb H x [] = refl
rights-climb H x (y ∷ ys) = rights-climb H (node_hash H x y) ys

pub rights-cost : (H : Hashing) (x : List ℕ) (ys : List (List ℕ)) → ascend_cost H x (rights (length ys)) ys ≡ climb_from_cost H x ys
unfolding ascend_cost climb_from_cost beside_input rights
rights-cost H x [] = refl
rights-cost H x (y ∷ ys) = ap (λ k. compressions (node_input H x y) + k) (rights-cost H (node_hash H x y) ys)

pub rights-fit : (H : Hashing) (x : List ℕ) (c : ℕ) (m : List ℕ)
    → (ascend H x (rights c) (hashes_in (length (rights c)) m) ≡ climb_from H x (hashes_in c m))
    × (ascend_cost H x (rights c) (hashes_in (length (rights c)) m) ≡ climb_from_cost H x (hashes_in c m))
rights-fit H x c m =
    let ys = hashes_in c m in
    let e = length-hashes_in c m in
    rw (rights-length c)
    (ap (λ k. ascend H x (rights k) ys) (sym e) ∙ rights-climb H x ys, ap (λ k. ascend_cost H x (rights k) ys) (sym e) ∙ rights-cost H x ys)
