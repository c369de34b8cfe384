-- No message reads or writes what stands behind the program.
use Rattle.std.proofs.Common.{◌≡◌, refl, ap, subst, Bool, cond, List, Option, None, Some, ℕ, length, take, drop}
use Rattle.wire.specs.declared.kind.Kind.{Kind}
use Rattle.wire.specs.declared.kind.Kind.TheVariants.{Program, Block, Update, PathUpdate, Unknown}
use Rattle.wire.specs.declared.manifest.Manifest.{Manifest}
use Rattle.wire.specs.declared.refusal.Refusal.{Refusal}
use Rattle.wire.specs.declared.refusal.Refusal.TheVariants as refusal
use Rattle.wire.specs.Refusal.{first_that_applies}
use Rattle.wire.specs.Geometry.{blocks_of, tree_over}
use Rattle.wire.specs.Message.{kind, carries, manifest_in}
use Rattle.wire.specs.Cost.{tree_cost, last_cost, block_cost}
use Rattle.wire.proofs.GeometryLaws.{with-run}
use Rattle.machine.specs.declared.state.Device.{Device}
use Rattle.machine.specs.Device.{next_of, Outcome}
use Rattle.machine.specs.Flash.{stored, updated}
use Rattle.machine.specs.Refusals.{too_small, spent, lacks_root, last_altered, always, of_manifest, of_program, of_block, of_successor, of_update, of_path_update, of_kind, refusals}
use Rattle.machine.specs.Step.{accept_program, accept_block, accept_update, total, accept, outcome, refusal_of, step}
use Rattle.machine.proofs.RefusalLaws.{test_of, clear, alike-lengths, passed}
use Rattle.guarantee.specs.Behind.{goes_by, BehindUnread}
use Rattle.machine.proofs.TestLaws.{same-behind}
use Rattle.guarantee.proofs.RunLaws.{goes_by_lem}
use Rattle.guarantee.proofs.BeyondLaws.{kept}

-- the image's length that a message of this kind goes by
abbrev by : Device → List ℕ → Kind → ℕ
by d m k = (cond (carries k) (manifest_in m) d.manifest).image_len

-- what stands behind stays
module _ (H : List ℕ → List ℕ) (valid : (key message signature : List ℕ) → Bool) (budget : ℕ) (d : Device) (flash m : List ℕ) where
  stays : drop (by d m (kind m)) (step H valid budget d flash m).flash ≡ drop (by d m (kind m)) flash
  unfolding step outcome
  stays = go (refusal_of H valid budget d flash m) refl
    where
      go : (r : Option Refusal) → refusal_of H valid budget d flash m ≡ r
          → drop (by d m (kind m)) (outcome r budget (total H (kind m) d flash m) d flash (accept (kind m) d flash m)).flash ≡ drop (by d m (kind m)) flash
      go None e = subst (λ T. drop T (accept (kind m) d flash m).flash ≡ drop T flash) (ap (λ (s : Manifest). s.image_len) (goes_by_lem d flash m (kind m))) (kept H valid d flash m (passed H valid d flash m budget e))
      go (Some r) e = refl

module _ (H : List ℕ → List ℕ) (valid : (key message signature : List ℕ) → Bool) (budget : ℕ) (d : Device) (f g m : List ℕ) (long : length f ≡ length g) where
  -- the first bytes are the same in both
  abbrev Same : Kind → Type 0
  Same k = take (by d m k) f ≡ take (by d m k) g

  -- a block written to either
  stored_same : (s : Manifest) (i : ℕ) → take s.image_len f ≡ take s.image_len g → take s.image_len (stored s i f m) ≡ take s.image_len (stored s i g m)
  unfolding stored
  stored_same s i same = with-run s.block_len s.image_len i f g _ long same

  updated-same : (s : Manifest) → take s.image_len f ≡ take s.image_len g → take s.image_len (updated s f m) ≡ take s.image_len (updated s g m)
  unfolding updated
  updated-same s same = with-run s.block_len s.image_len _ f g _ long same

  -- 19 of an update reads as many bytes as the current manifest has: where 13 does not apply, its own manifest has as many
  current-same : first_that_applies (of_successor d g (manifest_in m)) ≡ None → Same Update → take d.manifest.image_len f ≡ take d.manifest.image_len g
  unfolding carries of_manifest of_successor test_of
  current-same e same = rw (alike-lengths (manifest_in m) d.manifest (clear refusal.Unlike _ e)).1 at same

  -- the refusal, what is reported, and what acceptance does
  refused : (k : Kind) → kind m ≡ k → Same k → refusal_of H valid budget d f m ≡ refusal_of H valid budget d g m
  unfolding carries refusal_of refusals of_kind of_program of_block of_successor of_update of_path_update too_small spent block_cost last_cost tree_cost stored lacks_root last_altered tree_over blocks_of
  refused Program e same = rw (e, long)
  refused Block e same = rw (e, long, stored_same d.manifest (next_of d.stage) same)
  refused Update e same =
      rw (e, long)
      (same-behind (always Update d m) _ _ (λ _. same-behind (of_successor d g (manifest_in m)) _ _ (λ a. rw (current-same a same, updated-same (manifest_in m) same))))
  refused PathUpdate e same = rw (e, long, same)
  refused Unknown e same = rw e

  totals : (k : Kind) → Same k → total H k d f m ≡ total H k d g m
  unfolding carries total block_cost last_cost tree_cost blocks_of stored
  totals Program same = refl
  totals Block same = rw (stored_same d.manifest (next_of d.stage) same)
  totals Update same = refl
  totals PathUpdate same = refl
  totals Unknown same = refl

  accepted : (k : Kind) → Same k → ((accept k d f m).device ≡ (accept k d g m).device) × (take (by d m k) (accept k d f m).flash ≡ take (by d m k) (accept k d g m).flash)
  unfolding carries accept accept_program accept_block accept_update
  accepted Program same = (refl, same)
  accepted Block same = (refl, stored_same d.manifest (next_of d.stage) same)
  accepted Update same = (refl, updated-same (manifest_in m) same)
  accepted PathUpdate same = (refl, updated-same (manifest_in m) same)
  accepted Unknown same = (refl, same)

  abbrev Matches : Outcome → Outcome → Type 0
  Matches a b =
      (a.answer ≡ b.answer) × ((a.compressions ≡ b.compressions) × (a.budget ≡ b.budget)) × (a.device ≡ b.device) × (take (by d m (kind m)) a.flash ≡ take (by d m (kind m)) b.flash)

  alike : Same (kind m) → Matches (step H valid budget d f m) (step H valid budget d g m)
  unfolding step outcome
  alike same = rw (refused (kind m) refl same) (go (refusal_of H valid budget d g m))
    where
      go : (r : Option Refusal)
          → Matches (outcome r budget (total H (kind m) d f m) d f (accept (kind m) d f m)) (outcome r budget (total H (kind m) d g m) d g (accept (kind m) d g m))
      go None = let a = accepted (kind m) same in (refl, (totals (kind m) same, refl), a.0, a.1)
      go (Some r) = (refl, (refl, refl), refl, same)

pub behind-unread : (H : List ℕ → List ℕ) (valid : (key message signature : List ℕ) → Bool) → BehindUnread H valid
unfolding goes_by
behind-unread H valid budget d f g m long same =
    let a = alike H valid budget d f g m long same in
    record { answer = a.0; reported = a.1; device = a.2; program = a.3; behind = (stays H valid budget d f m, stays H valid budget d g m) }
