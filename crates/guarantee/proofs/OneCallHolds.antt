-- What one call shows by itself, in every state and over every flash.
use Rattle.std.proofs.Common.{◌≡◌, refl, sym, ap, subst, ◌⊎◌, inl, inr, Bool, true, List, Option, None, Some, ℕ, arith, length}
use Rattle.wire.specs.declared.kind.Kind.{Kind}
use Rattle.wire.specs.declared.kind.Kind.TheVariants.{Program, Block, Update, PathUpdate, Unknown}
use Rattle.wire.specs.declared.refusal.Refusal.{Refusal}
use Rattle.wire.specs.Message.{kind, manifest_in, due_length}
use Rattle.wire.proofs.MessageLaws.{length-block}
use Rattle.machine.specs.declared.state.Stage.TheVariants.{Complete}
use Rattle.machine.specs.declared.state.Device.{Device}
use Rattle.machine.specs.Answer.{Accepted}
use Rattle.machine.specs.Device.{next_of, OutcomeOf, Situation}
use Rattle.machine.specs.Flash.{stored}
use Rattle.machine.specs.Refusals.{of_kind, refusals}
use Rattle.machine.specs.Step.{accept_program, accept_block, accept_update, accept, total, outcome, refusal_of, step, step_call}
use Rattle.machine.proofs.RefusalLaws.{alike-lengths, BlockPassed, UpdatePassed, Passed, took-program, took-block, took-update, took-path, passed-block, passed-update}
use Rattle.guarantee.specs.Part.{Part, whole, call}
use Rattle.guarantee.specs.Run.{empty, after, answer_to}
use Rattle.guarantee.specs.Behind.{goes_by}
use Rattle.guarantee.specs.OneCall.{Rooted, EachCall, BudgetUnread}
use Rattle.guarantee.proofs.InvariantLaws.{complete-last, length-placed, length-updated}
use Rattle.guarantee.proofs.RunLaws.{goes_by_lem, slot, Serves}
use Rattle.guarantee.proofs.DeviceLaws.{serves, calls}

module _ (H : List ℕ → List ℕ) (valid : (key message signature : List ℕ) → Bool) (d : Device) (flash m : List ℕ) where
  length-stored : BlockPassed H valid d flash m → length (stored d.manifest (next_of d.stage) flash m) ≡ length flash
  unfolding stored due_length
  length-stored p = length-placed d.manifest (next_of d.stage) flash _ p.awaited.low p.awaited.high p.room (length-block _ m (omega (arith, p.long)))

  by-update : UpdatePassed H valid d flash m → Rooted H (manifest_in m) (accept_update d flash m).flash
  unfolding accept_update
  by-update p = record { room = rw (length-updated H valid d flash m p.successor p.successor.long) p.successor.room; root = p.rooted }

  by-block : BlockPassed H valid d flash m → (accept_block d flash m).device.stage ≡ Complete → Rooted H d.manifest (accept_block d flash m).flash
  unfolding accept_block
  by-block p c = record { room = rw (length-stored p) p.room; root = p.whole (let h = p.awaited.high in omega (arith, complete-last _ _ c)) }

  -- What an accepted message leaves, of the device and flash t after it.
  pub record Leaves (t : Situation) : Type 0 where
    pub manifest : t.device.manifest ≡ goes_by d m
    pub before : kind m ≡ Update → Rooted H d.manifest flash
    pub update : kind m ≡ Update → Rooted H (manifest_in m) t.flash
    pub last : kind m ≡ Block → t.device.stage ≡ Complete → Rooted H d.manifest t.flash
    pub only : t.device.stage ≡ Complete → (kind m ≡ Block) ⊎ ((kind m ≡ Update) ⊎ (kind m ≡ PathUpdate))

  only : Passed H valid d flash m → (accept (kind m) d flash m).device.stage ≡ Complete → (kind m ≡ Block) ⊎ ((kind m ≡ Update) ⊎ (kind m ≡ PathUpdate))
  unfolding accept accept_program
  only (took-program q p) = rw q (λ c. absurd cc)
  only (took-block q p) = λ c. inl q
  only (took-update q p) = λ c. inr (inl q)
  only (took-path q p) = λ c. inr (inr q)

  leaves : Passed H valid d flash m → Leaves (accept (kind m) d flash m)
  unfolding accept goes_by
  leaves p =
      record {
        manifest = goes_by_lem d flash m (kind m);
        before = λ e.
            let u = passed-update H valid d flash m e p in
            record { room = rw (alike-lengths _ _ u.successor.alike).1 at u.successor.room; root = u.intact };
        update = λ e. rw e (by-update (passed-update H valid d flash m e p));
        last = λ e. rw e (by-block (passed-block H valid d flash m e p));
        only = only p;
      }

-- So it is of one part of any step, in every state.
pub part-leaves : (H : List ℕ → List ℕ) (valid : (key message signature : List ℕ) → Bool) {D F C : Type 0} (part : Part D F C) (any : D → F → C → OutcomeOf D F) → Serves H valid part any
    → (d : D) (flash : F) (c : C) → part.names c ≡ true → (any d flash c).answer ≡ Accepted
    → Leaves H valid (part.device d) (part.flash flash) (part.message c) (slot part (any d flash c).device (any d flash c).flash)
part-leaves H valid part any serves d flash c n a =
    subst (Leaves H valid (part.device d) (part.flash flash) (part.message c)) (sym (serves.accepts d flash c n a)) (leaves H valid (part.device d) (part.flash flash) (part.message c) (serves.passes d flash c n a))

pub each-call : (H : List ℕ → List ℕ) (valid : (key message signature : List ℕ) → Bool) → EachCall H valid (step H valid)
unfolding after answer_to step_call
each-call H valid budget d flash m =
    let c = call budget m in
    let one = calls H valid d flash empty in
    let l = part-leaves H valid (whole H valid) (step_call H valid) (serves H valid) d flash c refl in
    record {
      answers = one.answers c;
      reports = one.reports c refl;
      refused = λ r e. let s = one.refused c r e in (ap (λ (x : Situation). x.device) s, ap (λ (x : Situation). x.flash) s);
      manifest = λ a. (l a).manifest;
      before = λ k a. (l a).before k;
      update = λ k a. (l a).update k;
      last = λ k a c. (l a).last k c;
      only = λ a c. (l a).only c;
    }

-- the budget stands in the tests of a block alone
by_kind : (H : List ℕ → List ℕ) (valid : (key message signature : List ℕ) → Bool) (a b : ℕ) (d : Device) (flash m : List ℕ) (k : Kind) → (k ≡ Block → ⊥)
    → of_kind H valid b k d flash m ≡ of_kind H valid a k d flash m
unfolding of_kind
by_kind H valid a b d flash m Program n = refl
by_kind H valid a b d flash m Block n = absurd (n refl)
by_kind H valid a b d flash m Update n = refl
by_kind H valid a b d flash m PathUpdate n = refl
by_kind H valid a b d flash m Unknown n = refl

pub budget-unread : (H : List ℕ → List ℕ) (valid : (key message signature : List ℕ) → Bool) → BudgetUnread H valid
unfolding step refusal_of refusals outcome
budget-unread H valid a b d flash m n = rw (by_kind H valid a b d flash m (kind m) n) (go (refusal_of H valid a d flash m))
  where
    go : (r : Option Refusal)
        → (let t = total H (kind m) d flash m in
        let o = outcome r a t d flash (accept (kind m) d flash m) in
        outcome r b t d flash (accept (kind m) d flash m)
        ≡ record { answer = o.answer; compressions = o.compressions; budget = b; device = o.device; flash = o.flash })
    go None = refl
    go (Some r) = refl
