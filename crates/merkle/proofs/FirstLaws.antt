-- Of all messages before the last the first one costs most.
use Rattle.std.proofs.Common.{◌≡◌, ℕ, zero, suc, ◌-◌, ◌<◌, ◌≤◌, ◌⊎◌, ap, inl, inr, mul-le-mul_right, arith, ne_eqb}
use Rattle.merkle.specs.Shape.{depth, split}
use Rattle.merkle.specs.Frontier.{carried_count}
use Rattle.merkle.specs.Hash.{Hashing}
use Rattle.merkle.specs.Cost.{leaf_cost, node_cost, known_cost}
use Rattle.merkle.specs.Claims.{FirstMost}
use Rattle.merkle.proofs.ShapeLaws.{lt-or-le, by-halves, depth-fits, depth-least}
use Rattle.merkle.proofs.CountLaws.{carried-left, carried-right}
use Rattle.merkle.proofs.LowBitLaws.{carried-depth}
use Rattle.merkle.proofs.CostLaws.{fits-cost-is}

-- A smaller tree is no deeper.
depth-mono : (m n : ℕ) → m ≤ n → depth m ≤ depth n
depth-mono m n h = depth-least m (depth n) (omega (arith, depth-fits n))

-- No message carries more hashes than the tree is deep, which is what the first one carries.
carried-most : (n : ℕ) → 0 < n → (i : ℕ) → i < n → carried_count n (suc i) ≤ depth n
carried-most =
    by-halves (λ n s. (i : ℕ) → i < n → carried_count n (suc i) ≤ depth n) one
    (λ n k big is below left right i lt. two n k i big is below left right lt (lt-or-le 0 i) (lt-or-le i k))
  where
    one : (i : ℕ) → i < 1 → carried_count 1 (suc i) ≤ depth 1
    one zero h = omega (arith, carried-depth 1 (omega arith))
    one (suc i) h = absurd (omega arith)

    two : (n k i : ℕ) → 1 < n → k ≡ split n → k < n → ((i : ℕ) → i < k → carried_count k (suc i) ≤ depth k) → ((i : ℕ) → i < n - k → carried_count (n - k) (suc i) ≤ depth (n - k))
        → i < n → (0 < i) ⊎ (i ≤ 0) → (i < k) ⊎ (k ≤ i) → carried_count n (suc i) ≤ depth n
    two n k i big is below left right lt (inr z) w = let e : i ≡ 0 = omega arith in rw e (omega (arith, carried-depth n (omega arith)))
    two n k i big is below left right lt (inl pos) (inl low) = omega (arith, carried-left n k big is i pos low, left i low, depth-mono k n (omega arith))
    two n k i big is below left right lt (inl pos) (inr high) =
        omega (arith, carried-right n k big is i high lt, right (i - k) (omega arith), depth-mono (n - k) n (omega arith))

fewer : (n i : ℕ) → i < n → carried_count n (suc i) ≤ carried_count n 1
fewer n i lt = omega (arith, carried-most n (omega arith) i lt, carried-depth n (omega arith))

pub first-most : FirstMost
first-most = (
  fewer,
  λ H sized n i block message first_block first_message lt same lm lf.
      let here = fits-cost-is H sized n i block message lm in
      let there = fits-cost-is H sized n 0 first_block first_message lf in
      omega (arith, here, there, ap (leaf_cost H) same, mul-le-mul_right (node_cost H) (fewer n i lt)),
)

-- By lengths: before the last, and of a smaller tree.
module _ (H : Hashing) (L : ℕ) where
  pub first-known : (n i : ℕ) → suc i < n → known_cost H L n i L ≤ known_cost H L n 0 L
  unfolding known_cost
  first-known n i lt =
      rw (ne_eqb (suc i) n (λ e. omega arith), ne_eqb 1 n (λ e. omega arith)) (omega (arith, mul-le-mul_right (node_cost H) (fewer n i (omega arith))))

  pub first-grows : (m n : ℕ) → 1 < m → m ≤ n → known_cost H L m 0 L ≤ known_cost H L n 0 L
  unfolding known_cost
  first-grows m n big le =
      let deeper : carried_count m 1 ≤ carried_count n 1 = omega (arith, carried-depth m (omega arith), carried-depth n (omega arith), depth-mono m n le) in
      rw (ne_eqb 1 m (λ e. omega arith), ne_eqb 1 n (λ e. omega arith)) (omega (arith, mul-le-mul_right (node_cost H) deeper))
