-- Digits and the bytes of pairs of them.
use mathlib.Core.Path.{◌≡◌, refl, sym, ap, ◌∙◌}
use mathlib.Core.Bool.{Bool, true, false, cond, ◌&&◌}
use mathlib.Core.List.{List, [], ◌∷◌}
use Rattle.std.specs.Prelude.{Option, None, Some, IsSome}
use Prim.Native.Nat.{ℕ, suc, ◌+◌, ◌*◌, ◌%◌, ◌≤◌, ◌<◌}
use native.Mathlib.Decide.{dec_lt}
use native.Mathlib.Omega.{arith}
use lib.Dec.{leb}
use lib.ListN.{length, drop, get_or, drop_of_length-le}
use lib.Seq.{drop-cons, get_or-take, get_or-drop}
use borrow.Author.Tests.{le-leb, lt-leb, leb-true}
use Rattle.octets.specs.Octets.{part}
use Rattle.octets.proofs.CopyLaws.{length_part}
use Rattle.wire.proofs.SizeLaws.{and-true}
use Rattle.ihex.specs.Line.{between, digit, octets, byte_and, sum}
use Rattle.ihex.specs.Code.{byte_of, octet_at, sum_of}

module _ (low high c : ℕ) where
  pub is-between : low ≤ c → c ≤ high → between low high c ≡ true
  unfolding between
  is-between a b = rw (le-leb low c a, le-leb c high b)

  pub not-between : (low ≤ c → c ≤ high → ⊥) → between low high c ≡ false
  unfolding between
  not-between f = go (dec_lt c low) (dec_lt high c)
    where
      go : Dec (c < low) → Dec (high < c) → leb low c && leb c high ≡ false
      go (yes a) d = rw (lt-leb low c a)
      go (no a) (yes b) = rw (le-leb low c (omega arith), lt-leb c high b)
      go (no a) (no b) = absurd (f (omega arith) (omega arith))

-- a digit's value is below 16
abbrev pub Small : Option ℕ → Type 0
Small None = Unit {0}
Small (Some d) = d < 16

small-cond : (t : Bool) (x y : Option ℕ) → (t ≡ true → Small x) → Small y → Small (cond t x y)
small-cond true x y f s = f refl
small-cond false x y f s = s

pub digit-small : (c : ℕ) → Small (digit c)
unfolding digit between
digit-small c =
    small-cond (between 48 57 c) _ _ (λ e. let b = and-true (leb 48 c) (leb c 57) e in omega (arith, leb-true c 57 b.1))
    (small-cond (between 65 70 c) _ _ (λ e. let b = and-true (leb 65 c) (leb c 70) e in omega (arith, leb-true c 70 b.1))
    (small-cond (between 97 102 c) _ _ (λ e. let b = and-true (leb 97 c) (leb c 102) e in omega (arith, leb-true c 102 b.1)) tt))

pub digit-below : (c : ℕ) {d : ℕ} → digit c ≡ Some d → d < 16
digit-below c e = rw e at (digit-small c)

pub both-digits : (x y : Option ℕ) → IsSome (byte_of x y) → IsSome x × IsSome y
both-digits None y h = absurd (let z : false ≡ true = h in cc)
both-digits (Some x) None h = absurd (let z : false ≡ true = h in cc)
both-digits (Some x) (Some y) h = (refl, refl)

-- The sum of bytes, pair by pair.
sum-byte : (a : ℕ) (x y : Option ℕ) (o : Option (List ℕ)) (b : ℕ) → byte_of x y ≡ Some b → sum_of a (byte_and x y o) ≡ sum_of ((a + b) % 256) o
unfolding sum
sum-byte a None y o b e = cc
sum-byte a (Some x) None o b e = cc
sum-byte a (Some x) (Some y) None b e = refl
sum-byte a (Some x) (Some y) (Some bs) b e = let g : 16 * x + y ≡ b = cc in ap Some (omega arith)

sum-none : (a : ℕ) (x y : Option ℕ) (o : Option (List ℕ)) → byte_of x y ≡ None → sum_of a (byte_and x y o) ≡ None
sum-none a None y o e = refl
sum-none a (Some x) None o e = refl
sum-none a (Some x) (Some y) o e = cc

-- The pairs of a line, behind its first byte: before pair i, a is the sum so far.
module _ (line : List ℕ) (n : ℕ) where
  abbrev pairs : List ℕ
  pairs = part 1 (2 * n) line

  pub record Summing (a i : ℕ) : Type 0 where
    pub small : a < 256
    pub whole : sum_of a (octets (drop (2 * i) pairs)) ≡ sum_of 0 (octets pairs)

  pub summing_start : Summing 0 0
  summing_start = record { small = omega arith; whole = refl }

  module _ (h : 1 + 2 * n ≤ length line) where
    size : length pairs ≡ 2 * n
    size = length_part line 1 (2 * n) h

    module _ {a i : ℕ} (r : Summing a i) where
      pub summing-done : n ≤ i → Some a ≡ sum_of 0 (octets pairs)
      unfolding octets sum
      summing-done k =
          let none : drop (2 * i) pairs ≡ [] = drop_of_length-le pairs {i = 2 * i} (omega (arith, size)) in
          let e : (a + 0) % 256 ≡ a = omega (arith, r.small) in
          ap Some (sym e) ∙ ap (λ (s : List ℕ). sum_of a (octets s)) (sym none) ∙ r.whole

      module _ (k : i < n) where
        abbrev high : ℕ
        high = get_or line (1 + 2 * i) 0

        abbrev low : ℕ
        low = get_or line (2 + 2 * i) 0

        pair-at : drop (2 * i) pairs ≡ high ∷ low ∷ drop (2 * (i + 1)) pairs
        pair-at =
            let first : get_or pairs (2 * i) 0 ≡ high = get_or-take (2 * n) (drop 1 line) (2 * i) 0 (omega arith) ∙ get_or-drop 1 line (2 * i) 0 in
            let e : 1 + suc (2 * i) ≡ 2 + 2 * i = omega arith in
            let second : get_or pairs (suc (2 * i)) 0 ≡ low = get_or-take (2 * n) (drop 1 line) (suc (2 * i)) 0 (omega arith) ∙ get_or-drop 1 line (suc (2 * i)) 0 ∙ ap (λ (j : ℕ). get_or line j 0) e in
            let f : suc (suc (2 * i)) ≡ 2 * (i + 1) = omega arith in
            drop-cons pairs (2 * i) 0 (omega (arith, size)) ∙ rw (drop-cons pairs (suc (2 * i)) 0 (omega (arith, size)), first, second, f)

        split : sum_of a (byte_and (digit high) (digit low) (octets (drop (2 * (i + 1)) pairs))) ≡ sum_of 0 (octets pairs)
        unfolding octets
        split = ap (λ (s : List ℕ). sum_of a (octets s)) (sym pair-at) ∙ r.whole

        pub summing-wrong : octet_at line i ≡ None → None ≡ sum_of 0 (octets pairs)
        unfolding octet_at
        summing-wrong e = sym (sum-none a (digit high) (digit low) (octets (drop (2 * (i + 1)) pairs)) e) ∙ split

        pub summing-next : {b : ℕ} → octet_at line i ≡ Some b → Summing ((a + b) % 256) (i + 1)
        unfolding octet_at
        summing-next {b} e =
            record {
              small = omega arith;
              whole = sym (sum-byte a (digit high) (digit low) (octets (drop (2 * (i + 1)) pairs)) b e) ∙ split;
            }
