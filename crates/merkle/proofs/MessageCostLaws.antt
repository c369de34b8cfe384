-- What a block message costs, by lengths alone.
use Rattle.std.proofs.Common.{◌≡◌, ℕ, suc, ◌+◌, ◌-◌, ◌*◌, ◌<◌, ◌≤◌, cond, eqb, List, length, sym, refl, ap, ◌∙◌, ap₂, ⊎_elim, mul-le-mul_right, add-mul, one-mul, zero-add, arith, length-drop, length-take, eq-eqb, ne_eqb}
use Rattle.sha256.specs.Sha256.{digest, compressions_for}
use Rattle.merkle.specs.Limits.{hash_length, max_blocks}
use Rattle.merkle.specs.Shape.{depth, split, size, shape, build, least_from}
use Rattle.merkle.specs.Blocks.{cut, overlay}
use Rattle.merkle.specs.Frontier.{held_count, carried_count, siblings, largest, right_siblings}
use Rattle.merkle.specs.Hash.{Hashing, plain}
use Rattle.merkle.specs.Claims.{CostKnown, CostMost, CostCases}
use Rattle.merkle.specs.Cost.{cost, fits_cost, leaf_cost, node_cost, known_cost}
use Rattle.merkle.proofs.ShapeLaws.{lt-or-le, size-shape}
use Rattle.merkle.proofs.CountLaws.{held_all, held_next, held-pos, room}
use Rattle.merkle.proofs.BlockLaws.{overlay-same, overlay-other}
use Rattle.merkle.proofs.CostLaws.{cost-is, fits-cost-is}

length_cut : (L : ℕ) (a : List ℕ) (i : ℕ) → i * L + L ≤ length a → length (cut L a i) ≡ L
unfolding cut
length_cut L a i h = simp (length-take, length-drop) (omega arith)

module _ (H : Hashing) (sized : (x : List ℕ) → length (H.function x) ≡ hash_length) where
  -- The tree over the flash with its last block replaced.
  last-cost : (L n : ℕ) (flash b : List ℕ) → 0 < n → (n - 1) * L ≤ length flash
      → cost H (overlay (cut L flash) (n - 1) b) 0 (shape n) ≡ (n - 1) * (leaf_cost H L + node_cost H) + leaf_cost H (length b)
  last-cost L n flash b pos room =
      let z = size-shape n pos in
      rw (
        cost-is H sized L (length b) (overlay (cut L flash) (n - 1) b) 0 (shape n)
            (λ j h. let d : 0 + j ≡ n - 1 → ⊥ = λ e. omega arith in
            let le : suc j ≤ n - 1 = omega arith in
            ap length (overlay-other (cut L flash) (n - 1) b (0 + j) d)
            ∙ rw (zero-add j) (length_cut L flash j (omega (arith, mul-le-mul_right L le, add-mul 1 j L, one-mul L))))
            (let y : 0 + (size (shape n) - 1) ≡ n - 1 = omega arith in rw (y, overlay-same (cut L flash) (n - 1) b)),
        z,
      )

  known : (L n i : ℕ) (flash b m : List ℕ) → i < n → (n - 1) * L ≤ length flash → length m ≡ hash_length * carried_count n (suc i)
      → fits_cost H n i b m + cond (eqb (suc i) n) (cost H (overlay (cut L flash) i b) 0 (shape n)) 0 ≡ known_cost H L n i (length b)
  unfolding known_cost
  known L n i flash b m lt room lm =
      let compared = fits-cost-is H sized n i b m lm in
      ⊎_elim (λ q. rw (ne_eqb (suc i) n (λ e. omega arith)) (omega arith))
      (λ q. let e : i ≡ n - 1 = omega arith in
      let whole : cost H (overlay (cut L flash) i b) 0 (shape n) ≡ (n - 1) * (leaf_cost H L + node_cost H) + leaf_cost H (length b) =
      ap (λ k. cost H (overlay (cut L flash) k b) 0 (shape n)) e ∙ last-cost L n flash b (omega arith) room in
      rw (eq-eqb (suc i) n (omega arith)) (ap₂ (λ x y. x + y) compared whole))
      (lt-or-le (suc i) n)

pub cost-known : CostKnown
cost-known H sized L n i flash b m = known H sized L n i flash b m

-- The cases, computed.
pub cost-cases : CostCases
unfolding known_cost carried_count siblings largest right_siblings shape build split depth least_from size
cost-cases function = (refl, refl, refl, refl, refl)

-- The last block's message carries no hash.
last-carries : (n i : ℕ) → suc i ≡ n → carried_count n (suc i) ≡ 0
last-carries n i e = omega (arith, held_next n i (omega arith), held-pos n i (omega arith), ap (held_count n) e, held_all n (omega arith))

pub cost-most : CostMost
unfolding known_cost
cost-most function L n i k short own lt le =
    let r = room n i lt le in
    let p : n - 1 ≤ 1535 = omega arith in
    let whole = mul-le-mul_right (leaf_cost (plain function) L + 2) p in
    ⊎_elim (λ q. rw (ne_eqb (suc i) n (λ e. omega arith)) (omega (arith, r.some, r.enough)))
    (λ q. let e : suc i ≡ n = omega arith in rw (eq-eqb (suc i) n e) (omega (arith, last-carries n i e)))
    (lt-or-le (suc i) n)

-- What the code works out: c the hashes carried, a and d the compressions of this block, of k bytes, and of one of L bytes.
module _ (L n i k c a : ℕ) (lt : i < n) (le : n ≤ max_blocks) (ec : c ≡ carried_count n (i + 1)) (ea : a ≡ compressions_for k) where
  next : i + 1 ≡ suc i
  next = omega arith

  carried : c ≡ carried_count n (suc i)
  carried = ec ∙ ap (carried_count n) next

  pub carried-few : c ≤ 11
  carried-few = let r = room n i lt le in omega (arith, carried, r.enough, r.some)

  pub early-known : (i + 1 ≡ n → ⊥) → a + 2 * c ≡ known_cost (plain digest) L n i k
  unfolding known_cost
  early-known h = rw (ne_eqb (suc i) n (λ e. h (omega arith))) (omega (arith, carried))

  pub last-known : (d : ℕ) → d ≡ compressions_for L → i + 1 ≡ n → a + 2 * c + ((n - 1) * (d + 2) + a) ≡ known_cost (plain digest) L n i k
  unfolding known_cost
  last-known d ed e =
      let all : (n - 1) * (d + 2) ≡ (n - 1) * (leaf_cost (plain digest) L + node_cost (plain digest)) =
      ap (λ x. (n - 1) * (x + 2)) (ed ∙ ap compressions_for (sym (zero-add L))) in
      rw (eq-eqb (suc i) n (sym next ∙ e)) (omega (arith, carried))
