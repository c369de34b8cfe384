-- The turns of a block's way as one number, made on the way down to the block and read off on the way up.
use Rattle.std.proofs.Common.{◌≡◌, ℕ, zero, suc, ◌+◌, ◌-◌, ◌*◌, ◌/◌, ◌%◌, ◌^◌, ◌<◌, ◌≤◌, Bool, true, false, cond, eqb, List, [], ◌∷◌, ◌++◌, length, get_or, take, drop, sym, refl, ap, ◌∙◌, append_assoc, append-nil, add_assoc, pow-suc, arith, length-append, length-drop, length-take-le, drop-cons, pow_mono, eq-eqb, ne_eqb}
use Rattle.std.specs.Simd.{first_chunks}
use native.Mathlib.Nat.{pow-zero}
use native.Mathlib.Decide.{ℕ_discrete}
use Rattle.merkle.specs.Limits.{hash_length}
use Rattle.merkle.specs.Shape.{node, size, split, shape, Place}
use Rattle.sha256.specs.Sha256.{compressions}
use Rattle.merkle.specs.Hash.{Hashing}
use Rattle.merkle.specs.Path.{leaf_depth, way, beside_input, ascend}
use Rattle.merkle.specs.Cost.{ascend_cost}
use Rattle.merkle.specs.Held.{hashes_in}
use Rattle.merkle.specs.Turns.{turns_of}
use Rattle.merkle.proofs.ShapeLaws.{depth-least, shape-leaf, size-shape, split_between, halves, size-left}
use Rattle.merkle.proofs.PathLaws.{down-left, down-right}
use Rattle.merkle.proofs.WayLaws.{leaf-depths}
use Rattle.merkle.proofs.HeldLaws.{length-hashes_in}

-- A bit for each node.
turns-below : (ws : List (Place × Bool)) → turns_of ws < 2 ^ length ws
unfolding turns_of
turns-below [] = omega (arith, pow-zero 2)
turns-below ((p, true) ∷ ws) = omega (arith, turns-below ws, pow-suc 2 (length ws))
turns-below ((p, false) ∷ ws) = omega (arith, turns-below ws, pow-suc 2 (length ws))

-- The block is block i of the subtree over m blocks, and the nodes and the turns are those above that.
pub record Falling (n before m i depth turns : ℕ) : Type 0 where
  pub start : ℕ
  pub above : List (Place × Bool)
  pub low : i < m
  pub whole : way 0 (shape n) before ≡ way start (shape m) i ++ above
  pub count : depth ≡ length above
  pub are : turns ≡ turns_of above

pub falling-none : (n before : ℕ) → before < n → Falling n before n before 0 0
unfolding turns_of
falling-none n before h = record { start = 0; above = []; low = h; whole = sym (append-nil (way 0 (shape n) before)); count = refl; are = refl }

module _ {n before m i depth turns : ℕ} (f : Falling n before m i depth turns) where
  -- There are no more nodes than the tree is deep, so the turns fit where n does.
  pub falling-fits : before < n → n ≤ 2 ^ 64 → (depth ≤ 64) × (turns < 2 ^ 64)
  falling-fits lt h =
      let count = ap length f.whole ∙ length-append (way f.start (shape m) i) f.above in
      let few : length f.above ≤ 64 = omega (arith, leaf-depths.1 n before lt, leaf-depths.2 n before (omega arith), depth-least n 64 h) in
      (omega (arith, f.count), omega (arith, turns-below f.above, f.are, pow_mono few))

  module _ (k : ℕ) (big : 1 < m) (is : k ≡ split m) where
    pub falling-left : i < k → Falling n before k i (depth + 1) (2 * turns)
    unfolding turns_of down-left
    falling-left lt =
        let o = f.start in
        let w : Place × Bool = ((o, node (shape k) (shape (m - k))), true) in
        let c = f.count in
        let e = f.are in
        record {
          start = o;
          above = w ∷ f.above;
          low = lt;
          whole = f.whole
              ∙ ap (λ ws. ws ++ f.above) (ap (λ s. way o s i) (halves m k big is) ∙ (down-left o (shape k) (shape (m - k)) i (rw (size-left m k big is) lt)).way_is)
              ∙ append_assoc (way o (shape k) i) (w ∷ []) f.above;
          count = omega arith;
          are = omega arith;
        }

    pub falling-right : k ≤ i → Falling n before (m - k) (i - k) (depth + 1) (2 * turns + 1)
    unfolding turns_of down-right
    falling-right le =
        let o = f.start in
        let w : Place × Bool = ((o, node (shape k) (shape (m - k))), false) in
        let c = f.count in
        let e = f.are in
        let lt = f.low in
        let z = size-left m k big is in
        record {
          start = o + size (shape k);
          above = w ∷ f.above;
          low = omega (arith, split_between m k big is);
          whole = f.whole
              ∙ ap (λ ws. ws ++ f.above) (ap (λ s. way o s i) (halves m k big is)
              ∙ (down-right o (shape k) (shape (m - k)) i (rw z le) (rw (← halves m k big is, size-shape m (omega arith)) lt)).way_is)
              ∙ append_assoc (way (o + size (shape k)) (shape (m - k)) (i - size (shape k))) (w ∷ []) f.above
              ∙ ap (λ x. way (o + size (shape k)) (shape (m - k)) (i - x) ++ (w ∷ f.above)) z;
          count = omega arith;
          are = omega arith;
        }

  pub falling-done : before < n → m ≤ 1 → (depth ≡ leaf_depth n before) × (turns ≡ turns_of (way 0 (shape n) before))
  unfolding way
  falling-done lt h =
      let all : f.above ≡ way 0 (shape n) before = sym (f.whole ∙ ap (λ s. way f.start s i ++ f.above) (shape-leaf m h)) in
      (f.count ∙ ap length all ∙ leaf-depths.1 n before lt, f.are ∙ ap turns_of all)

-- The lowest bit, as the code tests it.
pub even_is : (t : ℕ) → t % 2 ≡ cond (eqb (t % 2) 0) 0 1
even_is t = go (ℕ_discrete (t % 2) 0)
  where
    go : Dec (t % 2 ≡ 0) → t % 2 ≡ cond (eqb (t % 2) 0) 0 1
    go (yes e) = rw (eq-eqb (t % 2) 0 e) e
    go (no d) = rw (ne_eqb (t % 2) 0 d) (omega arith)

-- The lowest node's turn is the lowest bit.
turns-first : (t : ℕ) (right : Bool) (w : Place × Bool) (ws : List (Place × Bool)) → t ≡ turns_of (w ∷ ws) → t % 2 ≡ cond right 0 1 → (w.1 ≡ right) × (t / 2 ≡ turns_of ws)
unfolding turns_of
turns-first t true (p, true) ws e h = (refl, omega arith)
turns-first t true (p, false) ws e h = absurd (omega arith)
turns-first t false (p, true) ws e h = absurd (omega arith)
turns-first t false (p, false) ws e h = (refl, omega arith)

-- The hashes of a message as the code has them, 32 bytes each.
pub chunks-are : (c : ℕ) (s : List ℕ) → first_chunks hash_length c s ≡ hashes_in c s
unfolding hashes_in
chunks-are zero s = refl
chunks-are (suc c) s = ap (λ (ys : List (List ℕ)). take hash_length s ∷ ys) (chunks-are c (drop hash_length s))

pub length-chunk : (c i : ℕ) (s d : List ℕ) → i < c → hash_length * c ≤ length s → length (get_or (first_chunks hash_length c s) i d) ≡ hash_length
length-chunk zero i s d lt h = absurd (omega arith)
length-chunk (suc c) zero s d lt h = length-take-le hash_length s (omega arith)
length-chunk (suc c) (suc i) s d lt h = length-chunk c i (drop hash_length s) d (omega arith) (simp length-drop (omega arith))

-- The hash x with the siblings from index `at` on leads to the top, the turns are those still to come, and what was taken so far and what is still to be taken make
-- up the total.
pub record Rising (H : Hashing) (top : List ℕ) (total : ℕ) (ys : List (List ℕ)) (x : List ℕ) (took turns at : ℕ) : Type 0 where
  pub above : List (Place × Bool)
  pub are : turns ≡ turns_of above
  pub left : at + length above ≡ length ys
  pub leads : ascend H x above (drop at ys) ≡ top
  pub spends : took + ascend_cost H x above (drop at ys) ≡ total

module _ (H : Hashing) where
  pub rising_none : (ws : List (Place × Bool)) (s x : List ℕ) (ys : List (List ℕ)) (took turns : ℕ) → ys ≡ first_chunks hash_length (length s / hash_length) s → turns ≡ turns_of ws
      → length s ≡ hash_length * length ws → Rising H (ascend H x ws (hashes_in (length ws) s)) (took + ascend_cost H x ws (hashes_in (length ws) s)) ys x took turns 0
  rising_none ws s x ys took turns is are size =
      let many : length s / hash_length ≡ length ws = omega arith in
      let all : ys ≡ hashes_in (length ws) s = is ∙ rw many (chunks-are (length ws) s) in
      rw all (record { above = ws; are = are; left = omega (arith, length-hashes_in (length ws) s); leads = refl; spends = refl })

  -- One node up.
  pub rising-more : {top : List ℕ} {total : ℕ} {ys : List (List ℕ)} {x : List ℕ} {took turns at : ℕ} → Rising H top total ys x took turns at → at < length ys → (right : Bool)
      → turns % 2 ≡ cond right 0 1 → (d z : List ℕ) (c : ℕ) → z ≡ H.function (beside_input H x right (get_or ys at d)) → c ≡ compressions (beside_input H x right (get_or ys at d))
      → Rising H top total ys z (took + c) (turns / 2) (at + 1)
  unfolding ascend ascend_cost
  rising-more {top} {total} {ys} {x} {took} {turns} {at} r some right h d z c is ec = go r.above r.are r.left r.leads r.spends
    where
      next : drop at ys ≡ get_or ys at d ∷ drop (at + 1) ys
      next = let e : at + 1 ≡ suc at = omega arith in rw e (drop-cons ys at d some)

      go : (ws : List (Place × Bool)) → turns ≡ turns_of ws → at + length ws ≡ length ys → ascend H x ws (drop at ys) ≡ top → took + ascend_cost H x ws (drop at ys) ≡ total
          → Rising H top total ys z (took + c) (turns / 2) (at + 1)
      go [] e l leads spends = absurd (omega arith)
      go (w ∷ ws) e l leads spends =
          let f = turns-first turns right w ws e h in
          record {
            above = ws;
            are = f.1;
            left = omega arith;
            leads = rw (is, ← f.0) (rw next at leads);
            spends = rw (is, ec, ← f.0) (add_assoc took _ _ ∙ rw next at spends);
          }

pub rising-done : {H : Hashing} {top : List ℕ} {total : ℕ} {ys : List (List ℕ)} {x : List ℕ} {took turns at : ℕ} → Rising H top total ys x took turns at → length ys ≤ at
    → (x ≡ top) × (took ≡ total)
unfolding ascend ascend_cost
rising-done {H} {top} {total} {ys} {x} {took} {turns} {at} r h = go r.above r.left r.leads r.spends
  where
    go : (ws : List (Place × Bool)) → at + length ws ≡ length ys → ascend H x ws (drop at ys) ≡ top → took + ascend_cost H x ws (drop at ys) ≡ total → (x ≡ top) × (took ≡ total)
    go [] l leads spends = (leads, omega arith)
    go (w ∷ ws) l leads spends = absurd (omega arith)
