-- The messages before the last all fit where the first one does; the largest number of blocks, from above.
use mathlib.Core.Path.{◌≡◌, refl, sym, ap, ◌∙◌}
use mathlib.Core.Bool.{Bool, true, false, cond, ◌&&◌, and-false}
use Prim.Native.Nat.{ℕ, zero, suc, pred, ◌+◌, ◌-◌, ◌≤◌, ◌<◌}
use native.Mathlib.Decide.{dec_lt}
use native.Mathlib.Omega.{arith}
use lib.Dec.{leb}
use borrow.Author.Tests.{le-leb, lt-leb}
use Rattle.sha256.specs.Sha256.{digest}
use Rattle.merkle.specs.Limits.{max_blocks}
use Rattle.merkle.specs.Hash.{plain}
use Rattle.merkle.proofs.FirstLaws.{first-known, first-grows}
use Rattle.wire.specs.Size.{allowed_length}
use Rattle.wake.specs.Wake.{message_cost, all_to, all_fit, largest_to, most_blocks}

module _ (test : ℕ → Bool) where
  all_pass : (k : ℕ) → ((i : ℕ) → 0 < i → i ≤ k → test i ≡ true) → all_to test k ≡ true
  unfolding all_to
  all_pass zero h = refl
  all_pass (suc k) h = rw (all_pass k (λ i low high. h i low (omega arith)), h (suc k) (omega arith) (omega arith))

  one-fails : (k i : ℕ) → 0 < i → i ≤ k → test i ≡ false → all_to test k ≡ false
  unfolding all_to
  one-fails zero i low high e = absurd (omega arith)
  one-fails (suc k) i low high e = go (dec_lt k i) (one-fails k i low)
    where
      go : Dec (k < i) → (i ≤ k → test i ≡ false → all_to test k ≡ false) → all_to test k && test (suc k) ≡ false
      go (yes g) ih = let z : i ≡ suc k = omega arith in rw (← z, e) (and-false (all_to test k))
      go (no g) ih = rw (ih (omega arith) e)

  pub largest-few : (k : ℕ) → largest_to test k ≤ k
  unfolding largest_to
  largest-few zero = omega arith
  largest-few (suc k) = go (test (suc k)) (largest-few k)
    where
      go : (b : Bool) → largest_to test k ≤ k → cond b (suc k) (largest_to test k) ≤ suc k
      go true ih = omega arith
      go false ih = omega arith

  pub here : (k : ℕ) → test (suc k) ≡ true → largest_to test (suc k) ≡ suc k
  unfolding largest_to
  here k e = rw e

  skip : (k : ℕ) → test (suc k) ≡ false → largest_to test (suc k) ≡ largest_to test k
  unfolding largest_to
  skip k e = rw e

  -- where j numbers above n fail, the largest is among the message_cost L n 1
  pub from-above : (n j : ℕ) → ((m : ℕ) → n < m → m ≤ n + j → test m ≡ false) → largest_to test (n + j) ≡ largest_to test n
  from-above n zero h = ap (largest_to test) (omega arith)
  from-above n (suc j) h =
      let z : n + suc j ≡ suc (n + j) = omega arith in
      rw z (skip (n + j) (h (suc (n + j)) (omega arith) (omega arith)) ∙ from-above n j (λ m low high. h m low (omega arith)))

module _ (L B : ℕ) where
  pub fit : (n : ℕ) → 1 < n → message_cost L n 1 ≤ B → all_fit L B n ≡ true
  unfolding all_fit
  fit n big h =
      all_pass (λ i. leb (message_cost L n i) B) (pred n)
      (λ i low high. le-leb (message_cost L n i) B (omega (arith, first-known (plain digest) L n (pred i) (omega arith))))

  pub spent : (n : ℕ) → 1 < n → B < message_cost L n 1 → all_fit L B n ≡ false
  unfolding all_fit
  spent n big h = one-fails (λ i. leb (message_cost L n i) B) (pred n) 1 (omega arith) (omega arith) (lt-leb (message_cost L n 1) B h)

  -- numbers above n do not fit
  pub record Above (n : ℕ) : Type 0 where
    pub most : n ≤ max_blocks
    pub fail : (m : ℕ) → n < m → m ≤ max_blocks → all_fit L B m ≡ false

  pub above-start : Above max_blocks
  above-start = record { most = omega arith; fail = λ m low high. absurd (omega arith) }

  pub above-next : {n : ℕ} → Above n → 1 < n → B < message_cost L n 1 → Above (n - 1)
  above-next {n} a big h =
      record {
        most = omega (arith, a.most);
        fail = λ m low high. go m high (dec_lt n m) (omega arith);
      }
    where
      go : (m : ℕ) → m ≤ max_blocks → Dec (n < m) → n ≤ m → all_fit L B m ≡ false
      go m high (yes g) le = a.fail m g high
      go m high (no g) le = let z : n ≡ m = omega arith in rw (← z) (spent n big h)

  pub most-few : most_blocks L B ≤ max_blocks
  unfolding most_blocks
  most-few = go (allowed_length L && all_fit L B 2)
    where
      go : (b : Bool) → cond b (largest_to (all_fit L B) max_blocks) 0 ≤ max_blocks
      go true = largest-few (all_fit L B) max_blocks
      go false = omega arith

  pub refused : allowed_length L ≡ false → 0 ≡ most_blocks L B
  unfolding most_blocks
  refused e = rw e

  module _ (allowed : allowed_length L ≡ true) where
    pub none : all_fit L B 2 ≡ false → 0 ≡ most_blocks L B
    unfolding most_blocks
    none e = rw (allowed, e)

    pub none-fit : {n : ℕ} → Above n → n < 2 → 0 ≡ most_blocks L B
    none-fit a low = none (a.fail 2 low (omega arith))

    pub found : {n : ℕ} → Above n → 1 < n → message_cost L n 1 ≤ B → n ≡ most_blocks L B
    unfolding most_blocks
    found {n} a big h =
        let two : all_fit L B 2 ≡ true = fit 2 (omega arith) (omega (arith, first-grows (plain digest) L 2 n (omega arith) (omega arith))) in
        let z : n + (max_blocks - n) ≡ max_blocks = omega (arith, a.most) in
        let s : suc (pred n) ≡ n = omega arith in
        let top : largest_to (all_fit L B) n ≡ n = rw s at (here (all_fit L B) (pred n) (rw s (fit n big h))) in
        rw (allowed, two)
        (sym (rw z at (from-above (all_fit L B) n (max_blocks - n) (λ m low high. a.fail m low (omega arith))) ∙ top))
