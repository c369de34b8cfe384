-- Bits, one for each byte of the image.
use mathlib.Core.Path.{◌≡◌, refl, sym, ap, ◌∙◌}
use mathlib.Core.Bool.{Bool, true, false, ◌&&◌, ◌||◌, and-false, or-false, or-true}
use mathlib.Core.List.{List}
use Prim.Native.Nat.{ℕ, zero, suc, ◌+◌, ◌-◌, ◌*◌, ◌/◌, ◌%◌, ◌^◌, ◌≤◌, ◌<◌, max}
use native.Mathlib.Nat.{div-eq_of_lt}
use native.Mathlib.Decide.{dec_lt}
use native.Mathlib.Omega.{arith}
use Rattle.std.proofs.lemmas.Nat.{one_shl}
use Rattle.std.proofs.lemmas.Nat.Bits.{bit_at-pow_same, bit_at-pow_other}
use lib.Dec.{leb, ltb, eqb}
use lib.Bits.{bit_and, bit_or, and_high, or_step, or_shr}
use lib.Pow.{pow_pos, pow-lt, pow-add, shl_exact, shl-shr}
use lib.ListN.{length, get_or, set}
use lib.Seq.{get_or-set_same, get_or-set_other}
use borrow.Author.Tests.{le-leb, lt-leb, lt-ltb, le-ltb, leb-true, ltb-true, eq-eqb, ne_eqb, eqb-true, eqb-false}
use Rattle.wire.proofs.SizeLaws.{and-true}
use Rattle.ihex.specs.Code.{bit, among, Marked}

-- bit k of a number, and the bits of one that has bit k set
and-bit : (n k : ℕ) → bit_and n (2 ^ k) ≡ n / 2 ^ k % 2 * 2 ^ k
and-bit n k = let e : 2 ^ (1 + k) - 2 ^ k ≡ 2 ^ k = rw (pow-add 2 1 k) (omega arith) in ap (bit_and n) (sym e) ∙ and_high n 1 k

or-bit : (a b j : ℕ) → bit_or a b / 2 ^ j % 2 ≡ max (a / 2 ^ j % 2) (b / 2 ^ j % 2)
or-bit a b j = ap (λ (n : ℕ). n % 2) (or_shr a b j) ∙ omega (arith, or_step (a / 2 ^ j) (b / 2 ^ j))

-- 1 << (i % 8), as a byte
pub one_bit : (i : ℕ) → 1 * 2 ^ (i % 8) % 256 ≡ 2 ^ (i % 8)
one_bit i = one_shl (i % 8) 8 (omega arith)

-- The bits from `from` up to i were clear and are set now.
pub record Marking (before : List ℕ) (from i : ℕ) (after : List ℕ) : Type 0 where
  pub begun : from ≤ i
  pub clear : (k : ℕ) → from ≤ k → k < i → bit before k ≡ false
  pub set : (k : ℕ) → bit after k ≡ bit before k || (leb from k && ltb k i)

pub marking-start : (before : List ℕ) (from : ℕ) → Marking before from from before
marking-start before from =
    record {
      begun = omega arith;
      clear = λ k a b. absurd (omega arith);
      set = λ k. go k (dec_lt k from);
    }
  where
    go : (k : ℕ) → Dec (k < from) → bit before k ≡ bit before k || (leb from k && ltb k from)
    go k (yes h) = rw (lt-leb from k h) (sym (or-false (bit before k)))
    go k (no h) = rw (le-ltb k from (omega arith), and-false (leb from k)) (sym (or-false (bit before k)))

module _ {before : List ℕ} {from i : ℕ} {after : List ℕ} (m : Marking before from i after) where
  abbrev byte : ℕ
  byte = get_or after (i / 8) 0

  abbrev weight : ℕ
  weight = 2 ^ (i % 8)

  -- bit i is as it was
  same : bit after i ≡ bit before i
  same = m.set i ∙ rw (le-ltb i i (omega arith), and-false (leb from i)) (or-false (bit before i))

  pub marking-found : (bit_and byte weight ≡ 0 → ⊥) → bit before i ≡ true
  unfolding bit
  marking-found f = sym same ∙ eq-eqb (byte / weight % 2) 1 (omega (arith, odd))
    where
      odd : byte / weight % 2 ≡ 0 → ⊥
      odd e = f (and-bit byte (i % 8) ∙ rw e (omega arith))

  module _ (e : bit_and byte weight ≡ 0) (h : i / 8 < length after) where
    even : byte / weight % 2 ≡ 0
    even = go (byte / weight % 2) (omega arith) (sym (and-bit byte (i % 8)) ∙ e)
      where
        go : (b : ℕ) → b < 2 → b * weight ≡ 0 → b ≡ 0
        go zero g z = refl
        go (suc zero) g z = absurd (omega (arith, pow_pos (i % 8)))
        go (suc (suc b)) g z = absurd (omega arith)

    abbrev next : List ℕ
    next = set after (i / 8) (bit_or byte weight)

    own : bit next i ≡ true
    unfolding bit
    own = eq-eqb _ 1 (ap (λ (n : ℕ). n / weight % 2) (get_or-set_same after (i / 8) (bit_or byte weight) 0 h) ∙ or-bit byte weight (i % 8) ∙ omega (arith, bit_at-pow_same (i % 8)))

    other : (k : ℕ) → (k ≡ i → ⊥) → bit next k ≡ bit after k
    unfolding bit
    other k f = go (eqb (k / 8) (i / 8)) refl
      where
        go : (t : Bool) → eqb (k / 8) (i / 8) ≡ t → eqb (get_or next (k / 8) 0 / 2 ^ (k % 8) % 2) 1 ≡ eqb (get_or after (k / 8) 0 / 2 ^ (k % 8) % 2) 1
        go false d = rw (get_or-set_other after (i / 8) (k / 8) (bit_or byte weight) 0 (eqb-false (k / 8) (i / 8) d))
        go true d =
            let g : k / 8 ≡ i / 8 = eqb-true (k / 8) (i / 8) d in
            let z = bit_at-pow_other (i % 8) (k % 8) (λ q. f (omega arith)) in
            let v : bit_or byte weight / 2 ^ (k % 8) % 2 ≡ byte / 2 ^ (k % 8) % 2 = or-bit byte weight (k % 8) ∙ omega (arith, z) in
            rw (g, get_or-set_same after (i / 8) (bit_or byte weight) 0 h, v)

    unset : bit after i ≡ false
    unfolding bit
    unset = ne_eqb (byte / weight % 2) 1 (λ o. omega (arith, even))

    pub marking-next : Marking before from (i + 1) next
    marking-next = record { begun = omega (arith, m.begun); clear = λ k a b. clear k a (dec_lt k i) b; set = λ k. set-one k (eqb k i) refl }
      where
        clear : (k : ℕ) → from ≤ k → Dec (k < i) → k < i + 1 → bit before k ≡ false
        clear k a (yes b) g = m.clear k a b
        clear k a (no b) g = let q : k ≡ i = omega arith in rw q (sym same ∙ unset)

        set-one : (k : ℕ) (t : Bool) → eqb k i ≡ t → bit next k ≡ bit before k || (leb from k && ltb k (i + 1))
        set-one k true d =
            let q : k ≡ i = eqb-true k i d in
            rw (q, own, le-leb from i m.begun, lt-ltb i (i + 1) (omega arith)) (sym (or-true (bit before i)))
        set-one k false d = other k (eqb-false k i d) ∙ m.set k ∙ ap (λ (t : Bool). bit before k || (leb from k && t)) (below (dec_lt k i))
          where
            below : Dec (k < i) → ltb k i ≡ ltb k (i + 1)
            below (yes b) = lt-ltb k i b ∙ sym (lt-ltb k (i + 1) (omega arith))
            below (no b) = le-ltb k i (omega arith) ∙ sym (le-ltb k (i + 1) (omega (arith, eqb-false k i d)))

module _ {before : List ℕ} {from i : ℕ} {after : List ℕ} (m : Marking before from i after) (count : ℕ) where
  pub marked-one : i < from + count → bit before i ≡ true → Marked before from count true after
  unfolding among
  marked-one h b =
      record {
        one = λ e. (i, (rw (le-leb from i m.begun, lt-ltb i (from + count) h), b));
        none = λ e. let z : ◌≡◌ {A = ℕ} 0 1 = cc in absurd (omega arith);
        set = λ e. let z : ◌≡◌ {A = ℕ} 0 1 = cc in absurd (omega arith);
      }

  pub marked_all : i ≡ from + count → Marked before from count false after
  unfolding among
  marked_all h =
      record {
        one = λ e. let z : ◌≡◌ {A = ℕ} 0 1 = cc in absurd (omega arith);
        none = λ e k a. let p = and-true (leb from k) (ltb k (from + count)) a in m.clear k (leb-true from k p.0) (omega (arith, ltb-true k (from + count) p.1));
        set = λ e k. rw (← h) (m.set k);
      }
