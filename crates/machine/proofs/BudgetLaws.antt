-- A budget of what the due block message costs is enough, and that is what it reports; one for the costliest is never spent.
use mathlib.Core.Path.{◌≡◌, refl}
use mathlib.Core.Bool.{Bool}
use mathlib.Core.List.{List, [], ◌∷◌, ◌++◌}
use Rattle.std.specs.Prelude.{Option, None, Some}
use Prim.Native.Nat.{ℕ, ◌≤◌}
use native.Mathlib.Omega.{arith}
use lib.ListN.{length}
use borrow.Author.Tests.{eqb-true, ltb-true, ltb-false, not-false}
use Rattle.merkle.specs.Limits.{hash_length}
use Rattle.merkle.specs.Cost.{most_cost}
use Rattle.wire.specs.declared.kind.Kind.{Kind}
use Rattle.wire.specs.declared.kind.Kind.TheVariants.{Program, Block, Update, PathUpdate, Unknown}
use Rattle.wire.specs.declared.refusal.Refusal.{Refusal}
use Rattle.wire.specs.declared.refusal.Refusal.TheVariants as refusal
use Rattle.wire.specs.Refusal.{first_that_applies}
use Rattle.wire.specs.Cost.{block_cost, cost_due}
use Rattle.wire.specs.Message.{kind}
use Rattle.wire.proofs.CostLaws.{costs-due}
use Rattle.machine.specs.declared.state.Device.{Device}
use Rattle.machine.specs.Answer.{Accepted, Refused}
use Rattle.machine.specs.Device.{next_of}
use Rattle.machine.specs.Refusals.{too_small, not_loading, not_next, wrong_length, mismatch, last_altered, spent, of_manifest, always, of_program, of_block, of_successor, of_update, of_path_update, of_kind, refusals}
use Rattle.machine.specs.Step.{total, outcome, refusal_of, step}
use Rattle.machine.specs.Claims.{DueSuffices, NeverSpent}
use Rattle.machine.proofs.RefusalLaws.{test_of, clear, awaits, block-passed}
use Rattle.machine.proofs.TestLaws.{lacks, never, its_own}

module _ (H : List ℕ → List ℕ) (hash-long : (x : List ℕ) → length (H x) ≡ hash_length) (valid : (key message signature : List ℕ) → Bool) (budget : ℕ) (d : Device) (flash m : List ℕ) where
  abbrev i : ℕ
  i = next_of d.stage

  -- the tests before 20, and those behind it
  abbrev before : List (Refusal × Bool)
  before =
      always Block d m
      ++ ((refusal.Stage, not_loading d.stage) ∷ (refusal.Area, too_small d.manifest flash) ∷ (refusal.Turn, not_next i m) ∷ (refusal.Length, wrong_length d.manifest i m) ∷ [])

  abbrev behind : List (Refusal × Bool)
  behind = (refusal.Mismatch, mismatch H d i m) ∷ (refusal.Altered, last_altered H d.manifest i flash m) ∷ []

  -- where none before it applies, the total is what is known
  known : first_that_applies before ≡ None → (block_cost H d.manifest i flash m ≡ cost_due H d.manifest i) × (cost_due H d.manifest i ≤ most_cost)
  unfolding always test_of too_small wrong_length
  known e =
      let w = awaits d (clear refusal.State before e) (clear refusal.Stage before e) refl in
      let c = costs-due H hash-long d.manifest i w.size w.low w.high in
      (c.known flash m (ltb-false _ _ (clear refusal.Area before e)) (eqb-true _ _ (not-false _ (clear refusal.Length before e))), c.most)

  by_kind : (first_that_applies before ≡ None → cost_due H d.manifest i ≤ budget) → (k : Kind) → first_that_applies (refusals H valid budget k d flash m) ≡ Some refusal.Spent → ⊥
  unfolding refusals always of_kind of_manifest of_program of_block of_successor of_update of_path_update spent lacks
  by_kind enough Program e = never refusal.Spent (refusals H valid budget Program d flash m) refl e
  by_kind enough Block e =
      let q = its_own refusal.Spent before behind (spent H budget d.manifest i flash m) refl refl e in
      omega (arith, enough q.0, known q.0, ltb-true budget (block_cost H d.manifest i flash m) q.1)
  by_kind enough Update e = never refusal.Spent (refusals H valid budget Update d flash m) refl e
  by_kind enough PathUpdate e = never refusal.Spent (refusals H valid budget PathUpdate d flash m) refl e
  by_kind enough Unknown e = never refusal.Spent (refusals H valid budget Unknown d flash m) refl e

  unspent : (first_that_applies before ≡ None → cost_due H d.manifest i ≤ budget) → refusal_of H valid budget d flash m ≡ Some refusal.Spent → ⊥
  unfolding refusal_of
  unspent enough e = by_kind enough (kind m) e

  reported : kind m ≡ Block → (step H valid budget d flash m).answer ≡ Accepted → (step H valid budget d flash m).compressions ≡ cost_due H d.manifest i
  unfolding step outcome total
  reported k a = go (refusal_of H valid budget d flash m) refl
    where
      total-is : refusal_of H valid budget d flash m ≡ None → total H (kind m) d flash m ≡ cost_due H d.manifest i
      total-is e =
          let p = block-passed H valid d flash m budget k e in
          let w = p.awaited in
          rw k ((costs-due H hash-long d.manifest i w.size w.low w.high).known flash m p.room p.long)

      go : (r : Option Refusal) → refusal_of H valid budget d flash m ≡ r → (step H valid budget d flash m).compressions ≡ cost_due H d.manifest i
      go None e = rw (e, outcome) (total-is e)
      go (Some x) e = absurd (let z : Refused x ≡ Accepted = rw (e, outcome) at a in let w : ◌≡◌ {A = ℕ} 0 1 = cc in omega arith)

pub due-suffices : DueSuffices
due-suffices H hash-long valid budget d flash m = record { enough = λ h. unspent H hash-long valid budget d flash m (λ e. h); reports = reported H hash-long valid budget d flash m }

pub never-spent : NeverSpent
never-spent H hash-long valid budget enough d flash m = unspent H hash-long valid budget d flash m (λ e. omega (arith, (known H hash-long valid budget d flash m e).1))
