-- Lists of refusals: two that begin alike, and one in which a refusal stands once.
use mathlib.Core.Path.{◌≡◌, refl, sym, ap, ◌∙◌}
use mathlib.Core.Logic.{◌⊎◌, inl, inr}
use mathlib.Core.Bool.{Bool, true, false, not, ◌&&◌, true≢false}
use mathlib.Core.List.{List, [], ◌∷◌, ◌++◌}
use Rattle.std.specs.Prelude.{Option, None, Some}
use Prim.Native.Nat.{ℕ}
use native.Mathlib.Omega.{arith}
use lib.Dec.{eqb}
use borrow.Author.Tests.{eq-eqb, not-true}
use Rattle.wire.specs.declared.refusal.Refusal.{Refusal}
use Rattle.wire.specs.Refusal.{refusal_number, first_that_applies}
use Rattle.wire.proofs.SizeLaws.{and-true}
use Rattle.machine.proofs.RefusalLaws.{behind-piece, in-piece, of-first}

-- what stands behind a beginning counts only where no test of that applies
pub same-behind : (es fs gs : List (Refusal × Bool)) → (first_that_applies es ≡ None → first_that_applies fs ≡ first_that_applies gs)
    → first_that_applies (es ++ fs) ≡ first_that_applies (es ++ gs)
same-behind es fs gs same = go (first_that_applies es) refl
  where
    go : (r : Option Refusal) → first_that_applies es ≡ r → first_that_applies (es ++ fs) ≡ first_that_applies (es ++ gs)
    go None e = behind-piece es fs e ∙ same e ∙ sym (behind-piece es gs e)
    go (Some r) e = in-piece es fs e ∙ sym (in-piece es gs e)

-- where no test of a list applies: of another with the same beginning, the test behind that does, or it does not and what stands behind it counts
pub next-test : (es fs rest : List (Refusal × Bool)) (r : Refusal) (t : Bool) → first_that_applies (es ++ fs) ≡ None
    → (first_that_applies (es ++ ((r, t) ∷ rest)) ≡ Some r) ⊎ ((t ≡ false) × (first_that_applies (es ++ ((r, t) ∷ rest)) ≡ first_that_applies rest))
unfolding first_that_applies
next-test es fs rest r true a = inl (behind-piece es _ (of-first es fs a))
next-test es fs rest r false a = inr (refl, behind-piece es _ (of-first es fs a))

-- refusals among which r is not
unfoldable pub lacks : Refusal → List (Refusal × Bool) → Bool
lacks r [] = true
lacks r (e ∷ es) = not (eqb (refusal_number e.0) (refusal_number r)) && lacks r es

-- it is not given there
pub never : (r : Refusal) (es : List (Refusal × Bool)) → lacks r es ≡ true → first_that_applies es ≡ Some r → ⊥
unfolding lacks first_that_applies
never r [] n a = let z : ◌≡◌ {A = ℕ} 0 1 = cc in omega arith
never r (e ∷ es) n a = go e.1 refl (never r es)
  where
    others : (not (eqb (refusal_number e.0) (refusal_number r)) ≡ true) × (lacks r es ≡ true)
    others = and-true _ _ n

    go : (t : Bool) → e.1 ≡ t → (lacks r es ≡ true → first_that_applies es ≡ Some r → ⊥) → ⊥
    go true q ih =
        let x : Some e.0 ≡ Some r = rw (q, first_that_applies) at a in
        let same : e.0 ≡ r = cc in
        true≢false (sym (eq-eqb _ _ (ap refusal_number same)) ∙ not-true _ others.0)
    go false q ih = ih others.1 (rw (q, first_that_applies) at a)

-- where it is given and stands once, its own test is the first that applies
pub its_own : (r : Refusal) (before behind : List (Refusal × Bool)) (t : Bool) → lacks r before ≡ true → lacks r behind ≡ true
    → first_that_applies (before ++ ((r, t) ∷ behind)) ≡ Some r → (first_that_applies before ≡ None) × (t ≡ true)
unfolding first_that_applies
its_own r before behind t n k a = go (first_that_applies before) refl
  where
    own : (t : Bool) → first_that_applies ((r, t) ∷ behind) ≡ Some r → t ≡ true
    own true b = refl
    own false b = absurd (never r behind k b)

    go : (x : Option Refusal) → first_that_applies before ≡ x → (x ≡ None) × (t ≡ true)
    go None q = (refl, own t (sym (behind-piece before ((r, t) ∷ behind) q) ∙ a))
    go (Some x) q = absurd (never r before n (q ∙ sym (in-piece before ((r, t) ∷ behind) q) ∙ a))
