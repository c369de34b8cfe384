-- Where messages end, and where the kind 1 message starts.
use mathlib.Core.Path.{◌≡◌, refl, sym, ap, ap₂, ◌∙◌}
use mathlib.Core.Bool.{Bool, true, false, ◌||◌}
use mathlib.Core.List.{List}
use Prim.Native.Nat.{ℕ, ◌-◌, ◌≤◌, ◌<◌}
use native.Mathlib.Omega.{arith}
use Rattle.std.specs.Prelude.{Option, None, Some, SomeIff}
use lib.Dec.{ltb}
use lib.ListN.{length, take, drop}
use borrow.Author.Tests.{lt-ltb, le-ltb, ltb-false}
use Rattle.wire.proofs.SizeLaws.{or-false}
use Rattle.octets.specs.Octets.{number, part}
use Rattle.bundle.specs.Parts.{trailer_length, trailer_at, distance, nowhere, program_at, program_in, before_program}
use Rattle.bundle.specs.Steps.{start_of}

module _ (b : List ℕ) where
  pub starts-nowhere : nowhere b ≡ true → None ≡ start_of b
  unfolding start_of
  starts-nowhere e = rw (e, start_of)

  pub starts-at : nowhere b ≡ false → Some (program_at b) ≡ start_of b
  unfolding start_of
  starts-at e = rw (e, start_of)

  pub nowhere-short : length b < trailer_length → nowhere b ≡ true
  unfolding nowhere
  nowhere-short h = ap (λ (t : Bool). t || ltb (trailer_at b) (distance b)) (lt-ltb (length b) trailer_length h)

  -- d is the distance
  module _ (d : ℕ) (long : trailer_length ≤ length b) (e : d ≡ number (part (length b - trailer_length) trailer_length b)) where
    test-is : nowhere b ≡ ltb (length b - trailer_length) d
    unfolding nowhere trailer_at distance
    test-is = ap₂ {C = Bool} (λ (t : Bool) (x : ℕ). t || ltb (length b - trailer_length) x) (le-ltb (length b) trailer_length long) (sym e)

    pub nowhere-beyond : length b - trailer_length < d → nowhere b ≡ true
    nowhere-beyond h = test-is ∙ lt-ltb (length b - trailer_length) d h

    pub somewhere : d ≤ length b - trailer_length → nowhere b ≡ false
    somewhere h = test-is ∙ le-ltb (length b - trailer_length) d h

    pub program-at : length b - trailer_length - d ≡ program_at b
    unfolding program_at trailer_at distance
    program-at = ap (λ (x : ℕ). length b - trailer_length - x) e

  -- the start, as the code works it out from the trailer's place t
  pub starts : (t d : ℕ) (r : Option ℕ) → trailer_length ≤ length b → t ≡ length b - trailer_length → d ≡ number (part t trailer_length b) → SomeIff r (d ≤ t) (t - d) → r ≡ start_of b
  starts t d (Some x) l e f s =
      let k : d ≡ number (part (length b - trailer_length) trailer_length b) = rw e at f in
      ap Some (s.1 ∙ rw e (program-at d l k)) ∙ starts-at (somewhere d l k (omega (arith, s.0)))
  starts t d None l e f s =
      let k : d ≡ number (part (length b - trailer_length) trailer_length b) = rw e at f in
      starts-nowhere (nowhere-beyond d l k (omega (arith, s)))

  -- what the answer of `start_of` says
  pub record Somewhere (at : ℕ) : Type 0 where
    pub there : nowhere b ≡ false
    pub is : at ≡ program_at b
    pub long : trailer_length ≤ length b
    pub below : at ≤ length b - trailer_length
    pub program : take (length b - trailer_length - at) (drop at b) ≡ program_in b
    pub front : take at b ≡ before_program b

  pub nothing : start_of b ≡ None → nowhere b ≡ true
  unfolding start_of
  nothing e = go (nowhere b) refl
    where
      go : (t : Bool) → nowhere b ≡ t → nowhere b ≡ true
      go true q = q
      go false q = absurd (let x = starts-at q in let z : ◌≡◌ {A = ℕ} 0 1 = cc in omega arith)

  pub found : (at : ℕ) → start_of b ≡ Some at → Somewhere at
  unfolding nowhere trailer_at program_at program_in before_program
  found at e = go (nowhere b) refl
    where
      go : (t : Bool) → nowhere b ≡ t → Somewhere at
      go true q = absurd (let x = starts-nowhere q in let z : ◌≡◌ {A = ℕ} 0 1 = cc in omega arith)
      go false q =
          let x = starts-at q in
          let o = or-false (ltb (length b) trailer_length) _ q in
          let near : distance b ≤ length b - trailer_length = ltb-false _ _ o.1 in
          let i : at ≡ length b - trailer_length - distance b = cc in
          let k : length b - trailer_length - at ≡ distance b = omega arith in
          record {
            there = q;
            is = i;
            long = ltb-false (length b) trailer_length o.0;
            below = omega arith;
            program = ap₂ {C = List ℕ} (λ (n f : ℕ). take n (drop f b)) k i;
            front = ap (λ (f : ℕ). take f b) i;
          }
