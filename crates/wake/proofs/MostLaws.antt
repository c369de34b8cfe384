-- The answer is the largest: of programs, by the tree's definition.
use mathlib.Core.Path.{◌≡◌, refl, sym, ap, ◌∙◌}
use mathlib.Core.Bool.{Bool, true, false, cond, true≢false}
use mathlib.Core.List.{List}
use Prim.Native.Nat.{ℕ, zero, suc, pred, ◌≤◌, ◌<◌}
use native.Mathlib.Decide.{dec_lt}
use native.Mathlib.Omega.{arith}
use Rattle.sha256.specs.Sha256.{digest}
use Rattle.sha256.proofs.DigestLaws.{length-digest}
use Rattle.merkle.specs.Limits.{max_blocks}
use Rattle.merkle.specs.Hash.{plain}
use Rattle.merkle.specs.Cost.{known_cost}
use Rattle.merkle.proofs.FirstLaws.{first-known, first-grows}
use Rattle.wire.specs.declared.manifest.Manifest.{Manifest}
use Rattle.wire.specs.Size.{allowed_length}
use Rattle.wire.specs.Geometry.{count_of}
use Rattle.wire.specs.Cost.{block_cost}
use Rattle.wire.proofs.SizeLaws.{sized}
use Rattle.wire.proofs.CostLaws.{costs-due, early-due}
use Rattle.wake.specs.Wake.{message_cost, all_fit, largest_to, most_blocks}
use Rattle.wake.specs.Claims.{ProgramOf, MessageOf, Largest, MostFit}
use Rattle.wake.proofs.FitLaws.{fit, spent, largest-few, none, refused}

module _ (test : ℕ → Bool) where
  passes : (k : ℕ) → 0 < largest_to test k → test (largest_to test k) ≡ true
  unfolding largest_to
  passes zero h = absurd (omega arith)
  passes (suc k) h = go (test (suc k)) refl h (passes k)
    where
      go : (b : Bool) → test (suc k) ≡ b → 0 < cond b (suc k) (largest_to test k) → (0 < largest_to test k → test (largest_to test k) ≡ true)
          → test (cond b (suc k) (largest_to test k)) ≡ true
      go true e g ih = e
      go false e g ih = ih g

  fails-above : (k m : ℕ) → largest_to test k < m → m ≤ k → test m ≡ false
  unfolding largest_to
  fails-above zero m low high = absurd (omega arith)
  fails-above (suc k) m low high = go (test (suc k)) refl low (dec_lt k m) (fails-above k m)
    where
      go : (b : Bool) → test (suc k) ≡ b → cond b (suc k) (largest_to test k) < m → Dec (k < m) → (largest_to test k < m → m ≤ k → test m ≡ false) → test m ≡ false
      go true e g d ih = absurd (omega arith)
      go false e g (yes d) ih = let z : suc k ≡ m = omega arith in rw (← z) e
      go false e g (no d) ih = ih g (omega arith)

-- What a message before the last costs, by lengths.
module _ {L : ℕ} {s : Manifest} (p : ProgramOf L s) where
  few : count_of s ≤ max_blocks
  unfolding count_of
  few = (sized s.block_len s.image_len p.size).count

  allowed-in : allowed_length L ≡ true
  allowed-in = rw (← p.blocks) (sized s.block_len s.image_len p.size).allowed

  pub cost-of : (i : ℕ) → 0 < i → i < count_of s → (flash m : List ℕ) → MessageOf s i flash m → block_cost digest s i flash m ≡ known_cost (plain digest) L (count_of s) (pred i) L
  cost-of i pos low flash m h =
      (costs-due digest length-digest s i p.size pos (omega arith)).known flash m h.area h.long
      ∙ early-due digest s i p.size pos low
      ∙ ap (λ l. known_cost (plain digest) l (count_of s) (pred i) l) p.blocks

module _ (L B : ℕ) where
  within : (n : ℕ) → 1 < n → all_fit L B n ≡ true → message_cost L n 1 ≤ B
  within n big e = go (dec_lt B (message_cost L n 1))
    where
      go : Dec (B < message_cost L n 1) → message_cost L n 1 ≤ B
      go (yes h) = absurd (true≢false (sym e ∙ spent L B n big h))
      go (no h) = omega arith

  beyond : (n : ℕ) → 1 < n → all_fit L B n ≡ false → B < message_cost L n 1
  beyond n big e = go (dec_lt B (message_cost L n 1))
    where
      go : Dec (B < message_cost L n 1) → B < message_cost L n 1
      go (yes h) = h
      go (no h) = absurd (true≢false (sym (fit L B n big (omega arith)) ∙ e))

  -- What holds of the answer r, once it is known which numbers of blocks fit.
  largest : (r : ℕ) → r ≤ max_blocks → (r ≡ 1 → ⊥) → (allowed_length L ≡ false → r ≡ 0) → (1 < r → message_cost L r 1 ≤ B)
      → ((n : ℕ) → 1 < n → r < n → n ≤ max_blocks → allowed_length L ≡ true → B < message_cost L n 1) → Largest L B r
  largest r limit several allowed fits above =
      record {
        limit = limit;
        several = several;
        allowed = allowed;
        fits = λ s p le i pos low flash m h.
            let most = first-known (plain digest) L (count_of s) (pred i) (omega arith) in
            let grows = first-grows (plain digest) L (count_of s) r (omega arith) le in
            omega (arith, cost-of p i pos low flash m h, fits (omega arith), most, grows);
        larger = λ s p big lt flash m h. omega (arith, cost-of p 1 (omega arith) big flash m h, above (count_of s) big lt (few p) (allowed-in p));
      }

  -- where n = 2 fits
  of-top : allowed_length L ≡ true → all_fit L B 2 ≡ true → Largest L B (largest_to (all_fit L B) max_blocks)
  of-top allowed e = go (largest_to (all_fit L B) max_blocks) refl (dec_lt (largest_to (all_fit L B) max_blocks) 2)
    where
      go : (r : ℕ) → largest_to (all_fit L B) max_blocks ≡ r → Dec (r < 2) → Largest L B r
      go r z (yes h) = absurd (true≢false (sym e ∙ fails-above (all_fit L B) max_blocks 2 (rw z h) (omega arith)))
      go r z (no h) =
          largest r (rw z at (largest-few (all_fit L B) max_blocks)) (λ g. omega arith) (λ f. absurd (true≢false (sym allowed ∙ f)))
          (λ big. within r big (rw z at (passes (all_fit L B) max_blocks (rw z (omega arith)))))
          (λ n big lt high a. beyond n big (fails-above (all_fit L B) max_blocks n (rw z lt) high))

  module _ (allowed : allowed_length L ≡ true) where
    top : all_fit L B 2 ≡ true → most_blocks L B ≡ largest_to (all_fit L B) max_blocks
    unfolding most_blocks
    top e = rw (allowed, e)

    of-allowed : (b : Bool) → all_fit L B 2 ≡ b → Largest L B (most_blocks L B)
    of-allowed true e = rw (top e) (of-top allowed e)
    of-allowed false e =
        let below = beyond 2 (omega arith) e in
        rw (← none L B allowed e)
        (largest 0 (omega arith) (λ z. absurd (omega arith)) (λ f. refl) (λ h. absurd (omega arith))
        (λ n big lt high a. omega (arith, first-grows (plain digest) L 2 n (omega arith) (omega arith))))

  -- of a block length that is not allowed there is no program
  of_length : (b : Bool) → allowed_length L ≡ b → Largest L B (most_blocks L B)
  of_length true e = of-allowed e (all_fit L B 2) refl
  of_length false e =
      rw (← refused L B e)
      (largest 0 (omega arith) (λ z. absurd (omega arith)) (λ f. refl) (λ h. absurd (omega arith)) (λ n big lt high a. absurd (true≢false (sym a ∙ e))))

pub most-fit : MostFit most_blocks
most-fit L B = of_length L B (allowed_length L) refl
