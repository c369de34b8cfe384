-- What is known of a message that has passed some tests.
use mathlib.Core.Path.{◌≡◌, refl, sym}
use mathlib.Core.Bool.{Bool, true, false, cond}
use mathlib.Core.List.{List, [], ◌∷◌}
use Rattle.std.specs.Prelude.{None, Ok, Err}
use Prim.Native.Nat.{ℕ, ◌≤◌}
use borrow.Author.Tests.{ltb-false}
use Rattle.wire.specs.declared.manifest.Manifest.{Manifest}
use Rattle.wire.specs.declared.refusal.Refusal.TheVariants as refusal
use Rattle.wire.specs.Refusal.{first_that_applies}
use Rattle.wire.specs.Size.{wrong_size}
use Rattle.wire.specs.Cost.{block_cost}
use Rattle.sha256.specs.Sha256.{digest}
use Rattle.machine.specs.declared.state.Stage.TheVariants.{Loading}
use Rattle.machine.specs.Answer.{Accepted}
use Rattle.machine.specs.Device.{next_of}
use Rattle.machine.specs.Refusals.{not_loading, too_small, wrong_length, mismatch, last_altered, spent, of_manifest, of_block, of_successor}
use Rattle.machine.specs.Step.{answer_of}
use Rattle.machine.proofs.RefusalLaws.{test_of, clear, answer-none, behind-piece, alike-lengths, Awaits, awaits}
use Rattle.device.specs.declared.view.View.{View}
use Rattle.device.specs.Fields.{device_of, lent}
use Rattle.device.specs.Judged.{verdict}
use Rattle.device.specs.Inner.{Sensible, of_unhashed}

-- An update that passed its first tests has a manifest of an allowed size, and room; and so has the current manifest, with the same lengths.
abbrev pub Known : Manifest → List ℕ → Type 0
Known s f = (wrong_size s.block_len s.image_len ≡ false) × (too_small s f ≡ false)

module _ (v : View) (f : List ℕ) (s : Manifest) (e : (hashes : List ℕ) → Accepted ≡ answer_of (first_that_applies (of_successor (lent v hashes) f s))) where
  none-applies : first_that_applies (of_successor (lent v []) f s) ≡ None
  none-applies = answer-none (first_that_applies (of_successor (lent v []) f s)) (sym (e []))

  pub successor-known : Known s f
  unfolding of_successor of_manifest test_of
  successor-known = (clear refusal.Size (of_successor (lent v []) f s) none-applies, clear refusal.Area (of_successor (lent v []) f s) none-applies)

  pub current-known : Known v.manifest f
  unfolding of_successor of_manifest test_of too_small
  current-known =
      let z = alike-lengths s v.manifest (clear refusal.Unlike (of_successor (lent v []) f s) none-applies) in
      let k = successor-known in
      (rw (z.0, z.1) at k.0, rw z.1 at k.1)

-- A device that makes sense and is loading awaits a block.
pub awaited : (v : View) {i : ℕ} → Sensible v → not_loading v.stage ≡ false → i ≡ next_of v.stage → Awaits (lent v []) i
awaited v sense loading next = awaits (lent v []) (sense []) loading next

-- The block i that it awaits came with a message that meets none of 10, 8, 11, 12, 20: it is of the due length, and what it costs is within the budget.
pub record Unhashed (budget : ℕ) (v : View) (f m : List ℕ) (i : ℕ) : Type 0 where
  pub awaits : Awaits (lent v []) i
  pub room : too_small v.manifest f ≡ false
  pub due : wrong_length v.manifest i m ≡ false
  pub covered : block_cost digest v.manifest i f m ≤ budget
  pub none : first_that_applies (of_unhashed budget v.stage v.manifest f m i) ≡ None

pub unhashed : (budget : ℕ) (v : View) (f m : List ℕ) {i : ℕ} → Sensible v → i ≡ next_of v.stage
    → Accepted ≡ answer_of (first_that_applies (of_unhashed budget v.stage v.manifest f m (next_of v.stage))) → Unhashed budget v f m i
unfolding of_unhashed test_of spent
unhashed budget v f m {i} sense next e =
    let none : first_that_applies (of_unhashed budget v.stage v.manifest f m i) ≡ None = rw next (answer-none _ (sym e)) in
    let es = of_unhashed budget v.stage v.manifest f m i in
    record {
      awaits = awaited v sense (clear refusal.Stage es none) next;
      room = clear refusal.Area es none;
      due = clear refusal.Length es none;
      covered = ltb-false _ _ (clear refusal.Spent es none);
      none = none;
    }

-- .. which leaves 14 and 19
pub block-verdict : {budget : ℕ} {v : View} {f m : List ℕ} {i : ℕ} → Unhashed budget v f m i → (hashes : List ℕ) {s t x y : Bool} {k n : ℕ} → s ≡ mismatch digest (device_of v.model v.key.now (Loading i) v.manifest hashes) i m
    → t ≡ last_altered digest v.manifest i f m → s ≡ x → t ≡ y → k ≡ n
    → cond x (Err refusal.Mismatch) (cond y (Err refusal.Altered) (Ok k)) ≡ verdict (first_that_applies (of_block digest budget (lent v hashes) f m i)) n
unfolding of_block of_unhashed first_that_applies verdict
block-verdict {budget} {v} {f} {m} {i} u hashes {s} {t} {x} {y} {k} {n} es et ex ey en =
    let rest = (refusal.Mismatch, mismatch digest (lent v hashes) i m) ∷ (refusal.Altered, last_altered digest v.manifest i f m) ∷ [] in
    let e : first_that_applies (of_block digest budget (lent v hashes) f m i) ≡ first_that_applies rest = behind-piece (of_unhashed budget v.stage v.manifest f m i) rest u.none in
    let m : s ≡ mismatch digest (lent v hashes) i m = rw u.awaits.stage es in
    rw (e, ← m, ← et, ex, ey, en) (go x y)
  where
    go : (x y : Bool) → cond x (Err refusal.Mismatch) (cond y (Err refusal.Altered) (Ok n)) ≡ verdict (first_that_applies ((refusal.Mismatch, x) ∷ (refusal.Altered, y) ∷ [])) n
    go true y = refl
    go false true = refl
    go false false = refl
