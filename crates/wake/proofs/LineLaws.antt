-- A line, up to its LF.
use mathlib.Core.Path.{◌≡◌, refl, ap}
use mathlib.Core.Bool.{Bool, true, false, cond}
use mathlib.Core.List.{List, [], ◌∷◌, ◌++◌}
use Prim.Native.Nat.{ℕ, suc, ◌+◌, ◌≤◌, ◌<◌}
use native.Mathlib.Omega.{arith}
use lib.Dec.{eqb}
use lib.ListN.{length, take, drop, length-append}
use native.Mathlib.Decide.{dec_lt}
use borrow.Author.Tests.{eqb-true, lt-ltb, le-ltb}
use Rattle.std.specs.Prelude.{position}
use Rattle.std.specs.List.{position_or_len}
use Rattle.std.specs.Option.{unwrap_or}
use Rattle.std.proofs.lemmas.List.Recursion.{is_position_or_len}
use Rattle.wake.specs.Wake.{LF, before_lf}

-- a line and what stands behind its LF
pub line-take : (s : List ℕ) → take (length (before_lf s)) s ≡ before_lf s
unfolding before_lf
line-take [] = refl
line-take (b ∷ bs) = go (eqb b 10) (line-take bs)
  where
    go : (e : Bool) → take (length (before_lf bs)) bs ≡ before_lf bs → take (length (cond e [] (b ∷ before_lf bs))) (b ∷ bs) ≡ cond e [] (b ∷ before_lf bs)
    go true ih = refl
    go false ih = ap (λ l. b ∷ l) ih

pub line-split : (s : List ℕ) → length (before_lf s) < length s → s ≡ before_lf s ++ 10 ∷ drop (suc (length (before_lf s))) s
unfolding before_lf
line-split [] h = absurd (omega arith)
line-split (b ∷ bs) h = go (eqb b 10) refl h (line-split bs)
  where
    go : (e : Bool) → eqb b 10 ≡ e → length (cond e [] (b ∷ before_lf bs)) < suc (length bs)
        → (length (before_lf bs) < length bs → bs ≡ before_lf bs ++ 10 ∷ drop (suc (length (before_lf bs))) bs)
        → b ∷ bs ≡ cond e [] (b ∷ before_lf bs) ++ 10 ∷ drop (suc (length (cond e [] (b ∷ before_lf bs)))) (b ∷ bs)
    go true f g ih = ap (λ x. x ∷ bs) (eqb-true b 10 f)
    go false f g ih = ap (λ l. b ∷ l) (ih (omega arith))

pub line-few : (s : List ℕ) → length (before_lf s) ≤ length s
unfolding before_lf
line-few [] = omega arith
line-few (b ∷ bs) = go (eqb b 10) (line-few bs)
  where
    go : (e : Bool) → length (before_lf bs) ≤ length bs → length (cond e [] (b ∷ before_lf bs)) ≤ suc (length bs)
    go true ih = omega arith
    go false ih = omega arith

-- the first LF, or the end where there is none
pub line-position : (s : List ℕ) → unwrap_or (position (λ b. eqb b 10) s) (length s) ≡ length (before_lf s)
unfolding before_lf
line-position s =
    let p : ℕ → Bool = λ b. eqb b 10 in
    let is : length (before_lf s) ≡ position_or_len p s =
    is_position_or_len (λ xs. length (before_lf xs)) p refl (λ x xs. go (eqb x 10) x xs) s in
    by (dec_lt (position_or_len p s) (length s)) is (omega (arith, is, line-few s))
  where
    go : (e : Bool) (x : ℕ) (xs : List ℕ) → length (cond e [] (x ∷ before_lf xs)) ≡ cond e 0 (1 + length (before_lf xs))
    go true x xs = refl
    go false x xs = omega arith

    by : Dec (position_or_len (λ b. eqb b 10) s < length s) → length (before_lf s) ≡ position_or_len (λ b. eqb b 10) s → position_or_len (λ b. eqb b 10) s ≤ length s
        → unwrap_or (position (λ b. eqb b 10) s) (length s) ≡ length (before_lf s)
    by (yes h) is le = rw (lt-ltb (position_or_len (λ b. eqb b 10) s) (length s) h) (cc)
    by (no h) is le = rw (le-ltb (position_or_len (λ b. eqb b 10) s) (length s) (omega arith)) (omega arith)

-- two lines have their bytes and two LFs
pub length_two : (a b : List ℕ) → length (a ++ LF ++ b ++ LF) ≡ length a + 1 + length b + 1
length_two a b = simp length-append refl
