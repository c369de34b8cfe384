-- The lines of a text, judged one by one.
use mathlib.Core.Path.{◌≡◌, refl, sym, ap, ◌∙◌}
use mathlib.Core.Bool.{Bool, true, false, cond}
use mathlib.Core.List.{List, [], ◌∷◌}
use Rattle.std.specs.Prelude.{Option, None, Some, is_some, Ok, Err}
use Prim.Native.Nat.{ℕ, zero, suc, ◌+◌, ◌/◌, ◌%◌, ◌^◌, ◌≤◌, ◌<◌}
use native.Mathlib.Numerals.{add-one}
use native.Mathlib.Omega.{arith}
use lib.Pow.{shr_le}
use lib.ListN.{length, get_or, replicate, length-replicate}
use borrow.Author.Tests.{ne_eqb}
use Rattle.wire.specs.declared.refusal.Refusal.{Refusal}
use Rattle.wire.specs.declared.refusal.Refusal.TheVariants.{Text}
use Rattle.wire.specs.Refusal.{first_that_applies}
use Rattle.ihex.specs.Line.{content, record_in, Line, line_of}
use Rattle.ihex.specs.Text.{lines, is_named}
use Rattle.ihex.specs.Read.{Read, Refused, Before, start, upper_after, is_end, after, refusals, names, fault, judge, judged}
use Rattle.ihex.specs.Code.{bit, Seen, Step, state_of, step_of, Steps, text_answer}
use Rattle.ihex.proofs.LineLaws.{Cut, lines-none, lines-some}

-- no bit is set at first
zero-at : (n i : ℕ) → ◌≡◌ {A = ℕ} (get_or (replicate n 0) i 0) 0
zero-at zero i = refl
zero-at (suc n) zero = refl
zero-at (suc n) (suc i) = zero-at n i

nothing_seen : (base k n : ℕ) → Seen base k [] (replicate n 0)
unfolding bit is_named
nothing_seen base k n i h = rw (zero-at n (i / 8)) (ne_eqb (0 / 2 ^ (i % 8) % 2) 1 (λ e. omega (arith, shr_le 0 (i % 8))))

pub no_record : record_in [] ≡ None
unfolding record_in content
no_record = refl

-- what a step says of a line's refusals
step-fault : (o : Option Refusal) (b : Before) (x : Option Line) (r : Refusal) → Err r ≡ step_of o b x → o ≡ Some r
step-fault (Some q) b x r e = cc
step-fault None b x r e = cc

step-next : (o : Option Refusal) (b : Before) (x : Option Line) (v : Option ℕ) → Ok v ≡ step_of o b x → (o ≡ None) × (v ≡ cond (is_end x) None (Some (upper_after b.upper x)))
step-next (Some q) b x v e = (cc, cc)
step-next None b x v e = (refl, cc)

module _ (base k : ℕ) where
  -- a line that no refusal applies to, and one that one applies to
  judge-on : (b : Before) (n : ℕ) (l : List ℕ) (ls : List (List ℕ)) → first_that_applies (refusals base k b (line_of l)) ≡ None
      → judge base k b n (l ∷ ls) ≡ judge base k (after b (line_of l)) (suc n) ls
  unfolding judge
  judge-on b n l ls e = rw (e, judge)

  judge-fault : (b : Before) (n : ℕ) (l : List ℕ) (ls : List (List ℕ)) (r : Refusal) → first_that_applies (refusals base k b (line_of l)) ≡ Some r → judge base k b n (l ∷ ls) ≡ fault r n
  unfolding judge
  judge-fault b n l ls r e = rw (e, judge)

  judge-behind : (b : Before) (n : ℕ) (l : List ℕ) (ls : List (List ℕ)) → b.ended ≡ true → judge base k b n (l ∷ ls) ≡ fault Text n
  unfolding refusals first_that_applies
  judge-behind b n l ls e = judge-fault b n l ls Text (rw e)

-- Before the lines of `rest`, the first of which has number n: what the lines before them left, and what is left to judge.
pub record Judging (text : List ℕ) (base k : ℕ) (seen : List ℕ) (u : Option ℕ) (n : ℕ) (rest : List ℕ) : Type 0 where
  pub before : Before
  pub state : u ≡ state_of before
  pub marks : Seen base k before.named seen
  pub size : length seen ≡ 4096
  pub number : n + length rest ≤ length text + 1
  pub same : judge base k before n (lines rest) ≡ judged base k text

pub judging-start : (text : List ℕ) (base k : ℕ) → Judging text base k (replicate 4096 0) (Some 0) 1 text
unfolding judged start
judging-start text base k =
    record { before = start; state = refl; marks = nothing_seen base k 4096; size = length-replicate {A = ℕ} 4096 0; number = omega arith; same = refl }

module _ {text : List ℕ} {base k : ℕ} {seen : List ℕ} {u : Option ℕ} {n : ℕ} {rest : List ℕ} (j : Judging text base k seen u n rest) where
  -- after the last line
  module _ (h : length rest ≡ 0) where
    last : (t : Bool) → j.before.ended ≡ t → cond t (names j.before.named) (fault Text n) ≡ judged base k text
    unfolding judge
    last t e = rw (← e) (ap (judge base k j.before n) (sym (lines-none rest h)) ∙ j.same)

    pub judging-missing : is_some u ≡ true → Refused Text n ≡ text_answer (judged base k text)
    judging-missing e = go j.before.ended refl (rw j.state at e)
      where
        go : (t : Bool) → j.before.ended ≡ t → is_some (cond t None (Some j.before.upper)) ≡ true → Refused Text n ≡ text_answer (judged base k text)
        go true f g = cc
        go false f g = ap text_answer (last false f)

    pub judging-done : is_some u ≡ false → Read ≡ text_answer (judged base k text)
    judging-done e = go j.before.ended refl (rw j.state at e)
      where
        go : (t : Bool) → j.before.ended ≡ t → is_some (cond t None (Some j.before.upper)) ≡ false → Read ≡ text_answer (judged base k text)
        go true f g = ap text_answer (last true f)
        go false f g = cc

  -- behind the end record
  pub judging-behind : 0 < length rest → is_some u ≡ false → Refused Text n ≡ text_answer (judged base k text)
  judging-behind h e = go j.before.ended refl (rw j.state at e)
    where
      go : (t : Bool) → j.before.ended ≡ t → is_some (cond t None (Some j.before.upper)) ≡ false → Refused Text n ≡ text_answer (judged base k text)
      go true f g =
          let some = lines-some rest h in
          ap text_answer (sym (judge-behind base k j.before n some.0 some.1 f) ∙ ap (judge base k j.before n) (sym some.2) ∙ j.same)
      go false f g = cc

  module _ {line left : List ℕ} (cut : Cut rest line left) {r : Step} {next : List ℕ} (s : Steps base k u (line_of line) seen r next) where
    abbrev b : Before
    b = j.before

    split : judge base k b n (line ∷ lines left) ≡ judged base k text
    split = ap (judge base k b n) (sym cut.lines) ∙ j.same

    pub judging-fault : (f : Refusal) → r ≡ Err f → Refused f n ≡ text_answer (judged base k text)
    judging-fault f e = ap text_answer (sym (judge-fault base k b n line (lines left) f (step-fault _ b (line_of line) f (sym e ∙ s.answered b j.state j.marks))) ∙ split)

    pub judging-next : (v : Option ℕ) → r ≡ Ok v → length next ≡ 4096 → Judging text base k next v (n + 1) left
    unfolding after
    judging-next v e m =
        let a = step-next _ b (line_of line) v (sym e ∙ s.answered b j.state j.marks) in
        record {
          before = after b (line_of line);
          state = a.1;
          marks = s.seen b j.state j.marks a.0;
          size = m;
          number = omega (arith, j.number, cut.shorter);
          same = rw (add-one n) (sym (judge-on base k b n line (lines left) a.0) ∙ split);
        }
