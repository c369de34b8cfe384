-- What the boot check tells, and when a flash is found altered.
use Rattle.std.proofs.Common.{◌≡◌, refl, sym, ap, ◌∙◌, subst, ◌⊎◌, inl, inr, ⊎_elim, Bool, true, false, ◌&&◌, true≢false, List, [], None, Some, ℕ, zero, suc, ◌≤◌, length, eqb-true, le-ltb, ltb-false}
use borrow.Author.Tests.{not-false}
use Rattle.merkle.specs.Limits.{hash_length}
use Rattle.wire.specs.declared.kind.Kind.{Kind}
use Rattle.wire.specs.declared.kind.Kind.TheVariants.{Program, Block, Update, PathUpdate, Unknown}
use Rattle.wire.specs.declared.refusal.Refusal.TheVariants as refusal
use Rattle.wire.specs.Refusal.{first_that_applies}
use Rattle.wire.specs.Geometry.{tree_over}
use Rattle.wire.specs.Message.{kind, manifest_in, number_in, update_number, due_length, least_update}
use Rattle.wire.proofs.SizeLaws.{sized}
use Rattle.machine.specs.declared.state.Stage.{Stage}
use Rattle.machine.specs.declared.state.Stage.TheVariants.{Idle, Loading, Complete}
use Rattle.machine.specs.declared.state.Device.{Device}
use Rattle.machine.specs.Answer.{Accepted, Refused}
use Rattle.machine.specs.Device.{Fresh, next_of, OutcomeOf, Situation, Outcome}
use Rattle.machine.specs.Flash.{stored, updated}
use Rattle.machine.specs.Refusals.{senseless, too_small, not_loading, not_complete, not_next, wrong_length, mismatch, lacks_root, last_altered, of_manifest, always, of_program, of_block, of_successor, of_update, of_path_update, of_kind, refusals}
use Rattle.machine.specs.Step.{accept_block, accept_update, accept, answer_of, refusal_of, step, step_call}
use Rattle.machine.specs.BootCheck.{of_boot, boot_check}
use Rattle.machine.proofs.RefusalLaws.{test_of, ahead, behind, clear, answer-none, answer-some, start, ◌past◌, has-root, lacks-none, Successor, block-passed, update-passed, path-passed, path-block}
use Rattle.machine.proofs.SenseLaws.{not-complete, complete-size, sense-complete}
use Rattle.guarantee.specs.Part.{Part, whole}
use Rattle.guarantee.specs.Run.{Trace, Messages, after, answer_to}
use Rattle.guarantee.specs.Demand3.{Clash, Misled, FirstHalf}
use Rattle.guarantee.specs.OneCall.{Rooted}
use Rattle.guarantee.specs.Altered.{BootProves, BootAfter, BootKept, Untouched, NobodyElse}
use Rattle.machine.proofs.TestLaws.{lacks, never, its_own}
use Rattle.guarantee.proofs.PathLaws.{path-tree}
use Rattle.guarantee.proofs.InvariantLaws.{length-updated, Holds, last-loaded}
use Rattle.guarantee.proofs.RunLaws.{Serves, now, taken}
use Rattle.guarantee.proofs.DeviceLaws.{accepted-step, serves, answered, unrefused}
use Rattle.guarantee.proofs.FirstHalf.{bound-image, invariant, first-half}
use Rattle.guarantee.proofs.Demand3Holds.{demand3-for}
use Rattle.guarantee.proofs.RecoveryHolds.{makes-sense}
use Rattle.guarantee.proofs.OneCallHolds.{each-call}

-- what passes the boot check
boots : (H : List ℕ → List ℕ) (d : Device) (flash : List ℕ) → senseless d ≡ false → d.stage ≡ Complete → Rooted H d.manifest flash → boot_check H d flash ≡ Accepted
unfolding boot_check of_boot not_complete too_small answer_of first_that_applies
boots H d flash sense stage r =
    ap answer_of (start (of_boot H d flash) past sense past (rw (stage, not_complete)) past le-ltb (length flash) _ r.room past lacks-none H d.manifest flash r.root).same

pub boot-proves : (H : List ℕ → List ℕ) → ((x : List ℕ) → length (H x) ≡ hash_length) → BootProves H
unfolding boot_check of_boot test_of too_small
boot-proves H hash-long d flash e =
    let a = answer-none (first_that_applies (of_boot H d flash)) e in
    let stage = clear refusal.Stage (of_boot H d flash) a in
    let size = complete-size d (clear refusal.State (of_boot H d flash) a) (not-complete d.stage stage) in
    let root = has-root H d.manifest flash (clear refusal.Altered (of_boot H d flash) a) in
    record {
      complete = not-complete d.stage stage;
      room = ltb-false _ _ (clear refusal.Area (of_boot H d flash) a);
      intact = record { rooted = root; image = λ x long q. bound-image H hash-long d.manifest flash x (sized _ _ size) root long q };
    }

-- an accepted call, and the boot check after it
module _ (H : List ℕ → List ℕ) (valid : (key message signature : List ℕ) → Bool) (budget : ℕ) (d : Device) (flash m : List ℕ)
    (e : refusal_of H valid budget d flash m ≡ None) where
  abbrev o : Outcome
  o = step H valid budget d flash m

  -- an update of either kind leaves a complete device that makes sense
  boots-updated : {least : ℕ} {signature : List ℕ} → Successor H valid d flash m least signature
      → least_update (manifest_in m).block_len (manifest_in m).image_len (update_number m) ≤ length m → accept (kind m) d flash m ≡ accept_update d flash m
      → tree_over H (manifest_in m) (updated (manifest_in m) flash m) ≡ (manifest_in m).root → boot_check H o.device o.flash ≡ Accepted
  unfolding accept_update
  boots-updated p long is root =
      let stage : d.stage ≡ Complete = not-complete d.stage p.complete in
      rw (accepted-step H valid budget d flash m e, is)
      (boots H (accept_update d flash m).device _ (sense-complete (accept_update d flash m).device p.version p.size stage) stage
      (record { room = rw (length-updated H valid d flash m p long) p.room; root = root }))

  -- so does a last block
  boots-last : kind m ≡ Block → Rooted H d.manifest o.flash → o.device.stage ≡ Complete → boot_check H o.device o.flash ≡ Accepted
  unfolding accept accept_block
  boots-last k =
      let w = (block-passed H valid d flash m budget k e).awaited in
      rw (accepted-step H valid budget d flash m e, k)
      (λ r c. boots H (accept_block d flash m).device _ (sense-complete (accept_block d flash m).device w.version (sized _ _ w.size) c) c r)

  boots-update : kind m ≡ Update → boot_check H o.device o.flash ≡ Accepted
  unfolding accept
  boots-update k = let p = update-passed H valid d flash m budget k e in boots-updated p.successor p.successor.long (rw k) p.rooted

  boots-path : ((x : List ℕ) → length (H x) ≡ hash_length) → kind m ≡ PathUpdate → tree_over H d.manifest flash ≡ d.manifest.root
      → (boot_check H o.device o.flash ≡ Accepted) ⊎ Clash H flash m
  unfolding accept
  boots-path hash-long k root =
      let p = path-passed H valid d flash m budget k e in
      ⊎_elim (λ r. inl (boots-updated p.successor (path-block H valid d flash m p) (rw k) r)) (λ c. inr c) (path-tree H hash-long valid d flash m p root)

pub boot-after : (H : List ℕ → List ℕ) (valid : (key message signature : List ℕ) → Bool) → BootAfter H valid
boot-after H valid budget d flash m a (inl k) = boots-update H valid budget d flash m (unrefused H valid budget d flash m a) k
boot-after H valid budget d flash m a (inr (k, c)) = boots-last H valid budget d flash m (unrefused H valid budget d flash m a) k ((each-call H valid budget d flash m).last k a c) c

pub boot-kept : (H : List ℕ → List ℕ) → ((x : List ℕ) → length (H x) ≡ hash_length) → (valid : (key message signature : List ℕ) → Bool) → BootKept H valid
boot-kept H hash-long valid budget d flash m b k a =
    boots-path H valid budget d flash m (unrefused H valid budget d flash m a) hash-long k (boot-proves H hash-long d flash b).intact.rooted

-- two tests of which the second is false where the first is true
not-both : (s t : Bool) → (s ≡ true → t ≡ false) → s && t ≡ false
not-both true t e = e refl
not-both false t e = refl

-- What a message passed that finds the flash altered: a last block up to 14, or an update up to 8.
pub data FoundAltered (H : List ℕ → List ℕ) (d : Device) (flash m : List ℕ) : Type 0 where
  at_block : kind m ≡ Block → not_loading d.stage ≡ false → number_in m ≡ next_of d.stage
      → length m ≡ due_length d.manifest.block_len d.manifest.image_len (next_of d.stage) → mismatch H d (next_of d.stage) m ≡ false
      → last_altered H d.manifest (next_of d.stage) flash m ≡ true → FoundAltered H d flash m
  at-update : kind m ≡ Update → not_complete d.stage ≡ false → lacks_root H d.manifest flash ≡ true → FoundAltered H d flash m

module _ (H : List ℕ → List ℕ) (valid : (key message signature : List ℕ) → Bool) (budget : ℕ) (d : Device) (flash m : List ℕ) where
  -- 19 is the first of the refusals of kind k
  abbrev First : Kind → Type 0
  First k = first_that_applies (refusals H valid budget k d flash m) ≡ Some refusal.Altered

  found-block : kind m ≡ Block → First Block → FoundAltered H d flash m
  unfolding refusals always of_kind of_block lacks test_of ahead not_next wrong_length
  found-block e f =
      let before = ahead refusal.Altered (refusals H valid budget Block d flash m) in
      let o = its_own refusal.Altered before [] _ refl refl f in
      at_block e (clear refusal.Stage before o.0) (eqb-true _ _ (not-false _ (clear refusal.Turn before o.0))) (eqb-true _ _ (not-false _ (clear refusal.Length before o.0)))
      (clear refusal.Mismatch before o.0) o.1

  found-update : kind m ≡ Update → First Update → FoundAltered H d flash m
  unfolding refusals always of_kind of_manifest of_successor of_update lacks test_of ahead behind
  found-update e f =
      let before = ahead refusal.Altered (refusals H valid budget Update d flash m) in
      let o = its_own refusal.Altered before (behind refusal.Altered (refusals H valid budget Update d flash m)) _ refl refl f in
      at-update e (clear refusal.Stage before o.0) o.1

  by_kind : (k : Kind) → kind m ≡ k → First k → FoundAltered H d flash m
  unfolding refusals always of_kind of_manifest of_program of_successor of_path_update lacks
  by_kind Program e f = absurd (never refusal.Altered _ refl f)
  by_kind Block e f = found-block e f
  by_kind Update e f = found-update e f
  by_kind PathUpdate e f = absurd (never refusal.Altered _ refl f)
  by_kind Unknown e f = absurd (never refusal.Altered _ refl f)

  pub found-altered : refusal_of H valid budget d flash m ≡ Some refusal.Altered → FoundAltered H d flash m
  unfolding refusal_of
  found-altered a = by_kind (kind m) refl a

-- A list from a fresh device, for one part of any step; `finds` is what its refusals owe.
module _ (H : List ℕ → List ℕ) (hash-long : (x : List ℕ) → length (H x) ≡ hash_length) (valid : (key message signature : List ℕ) → Bool) {D F C : Type 0} (part : Part D F C)
    (step : D → F → C → OutcomeOf D F) (serves : Serves H valid part step)
    (finds : (d : D) (f : F) (c : C) → part.names c ≡ true → (step d f c).answer ≡ Refused refusal.Altered → FoundAltered H (part.device d) (part.flash f) (part.message c))
    (d : D) (fresh : Fresh (part.device d)) (flash : F) (cs : Trace C) where
  abbrev at : Situation
  at = now H valid part step d flash serves cs

  abbrev list : Messages
  list = taken H valid part step d flash serves cs

  first : FirstHalf H valid part step d flash cs
  first = first-half H hash-long valid part step d flash serves fresh cs

  -- a block that passed up to 14: where it is the last, the flash with it has the root
  whole-last : (m : List ℕ) → kind m ≡ Block → not_loading at.device.stage ≡ false → number_in m ≡ next_of at.device.stage
      → length m ≡ due_length at.device.manifest.block_len at.device.manifest.image_len (next_of at.device.stage)
      → mismatch H at.device (next_of at.device.stage) m ≡ false → last_altered H at.device.manifest (next_of at.device.stage) at.flash m ≡ false
  unfolding last_altered stored next_of not_loading
  whole-last m e loading turn long same = go at.device.stage refl (invariant H hash-long valid part step d flash serves fresh cs).holds
    where
      go : (t : Stage) → at.device.stage ≡ t → Holds H valid (part.device d).key t at.device.manifest at.device.hashes at.flash list
          → last_altered H at.device.manifest (next_of at.device.stage) at.flash m ≡ false
      go Idle q w = absurd (true≢false (rw q at loading))
      go (Loading zero) q w = absurd w
      go (Loading (suc k)) q w =
          let l = rw q at long in
          let f = subst (λ i. mismatch H at.device i m ≡ false) (ap next_of q) same in
          rw q
          (not-both _ _
          (λ n. lacks-none H at.device.manifest _ (last-loaded H valid (part.device d).key hash-long at.device at.flash m list k e q l f w (eqb-true _ _ n))))
      go Complete q w = absurd (true≢false (rw q at loading))

  no_block : (m : List ℕ) → kind m ≡ Block → FoundAltered H at.device at.flash m → ⊥
  no_block m e (at_block k loading turn long same altered) = true≢false (sym altered ∙ whole-last m k loading turn long same)
  no_block m e (at-update k complete lacks) = cc

  misled : (m : List ℕ) → FoundAltered H at.device at.flash m → Misled H valid part step d flash cs
  misled m (at_block k loading turn long same altered) = absurd (no_block m k (at_block k loading turn long same altered))
  misled m (at-update k complete lacks) =
      ⊎_elim (λ t. absurd (true≢false (sym lacks ∙ lacks-none H _ _ t.rooted))) (λ w. w) (first.bound (first.exactly.0 (not-complete _ complete))).tree

  still-boots : senseless at.device ≡ false → at.device.stage ≡ Complete → (boot_check H at.device at.flash ≡ Accepted) ⊎ Misled H valid part step d flash cs
  still-boots sense c =
      let b = first.bound (first.exactly.0 c) in
      ⊎_elim (λ t. inl (boots H at.device at.flash sense c (record { room = b.room; root = t.rooted }))) (λ w. inr w) b.tree

  pub untouched : senseless at.device ≡ false → Untouched H valid part step d flash cs
  unfolding answer_to
  untouched sense =
      let s = after step d flash cs in
      record {
        block = λ c n k a. no_block (part.message c) k (finds s.device s.flash c n a);
        update = λ c n a. misled (part.message c) (finds s.device s.flash c n a);
        boot = still-boots sense;
      }

pub nobody-else : (H : List ℕ → List ℕ) → ((x : List ℕ) → length (H x) ≡ hash_length) → (valid : (key message signature : List ℕ) → Bool) → NobodyElse H valid (whole H valid) (step_call H valid)
unfolding step_call
nobody-else H hash-long valid d fresh flash cs =
    untouched H hash-long valid (whole H valid) (step_call H valid) (serves H valid)
    (λ d f c n a. found-altered H valid c.budget d f c.message (answer-some _ _ (sym (answered H valid c.budget d f c.message) ∙ a))) d fresh flash cs
    (makes-sense H valid (step_call H valid) (demand3-for H hash-long valid) d fresh flash cs)
