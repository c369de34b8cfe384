-- The whole output, from its parts.
use mathlib.Core.Path.{◌≡◌, refl, sym, ap, ap₂, ◌∙◌, subst}
use mathlib.Core.List.{List, ◌++◌}
use Prim.Native.Nat.{ℕ, ◌≤◌, ◌<◌}
use native.Mathlib.Omega.{arith}
use lib.ListN.{length, take}
use borrow.Author.Tests.{lt-ltb, le-ltb, eq-eqb, ne_eqb}
use Rattle.octets.specs.Octets.{number, part}
use Rattle.octets.proofs.CopyLaws.{paste-front}
use Rattle.decimal.specs.Decimal.{ascii}
use Rattle.decimal.specs.Buffer.{Appended}
use Rattle.decimal.proofs.WritingLaws.{line-short}
use Rattle.decimal.proofs.AppendedLaws.{length-kept, retold, joined}
use Rattle.lms.specs.Lms.{key_length}
use Rattle.wire.specs.declared.refusal.Refusal.TheVariants.{Area}
use Rattle.wire.specs.Message.{at_start}
use Rattle.sender.specs.Send as sent
use Rattle.sender.specs.Send.{Sent}
use Rattle.machine.specs.declared.state.Device.{Device}
use Rattle.machine.specs.Device.{fresh_with}
use Rattle.bundle.specs.Text.{bundle_line, state_line}
use Rattle.bundle.specs.Load.{key_file_length, max_bundle, output_room, Printed, ◌before◌, stop, messages, with_state, device_for, printed_for, LoadOutcome, load}
use Rattle.bundle.specs.Steps.{Ran}
use Rattle.bundle.proofs.RunLaws.{before-stop}

pub device-is : (key : List ℕ) {d : Device} {m : ℕ} {k : List ℕ} → d ≡ fresh_with m k → m ≡ number (part key_length 4 key) → k ≡ take key_length key → d ≡ device_for key
unfolding device_for
device-is key e f g = e ∙ ap₂ {C = Device} fresh_with f g

-- after the first line
pub first-line : {out out' : List ℕ} {a : ℕ} (n : ℕ) → Appended out 0 out' a (bundle_line n) → n < 18446744073709551616 → output_room ≤ length out → (a ≤ 28) × (length out' ≡ length out)
first-line n w h room = let l = line-short (ascii "bundle ") n h in (omega (arith, w.end), length-kept w (omega arith))

module _ (key bundle flash : List ℕ) where
  key-alone : (length key ≡ key_file_length → ⊥) → printed_for key bundle flash ≡ ascii "key\n" before stop (device_for key) flash
  unfolding printed_for
  key-alone h = rw (ne_eqb (length key) key_file_length h, printed_for)

  over : length key ≡ key_file_length → max_bundle < length bundle → printed_for key bundle flash ≡ ascii "bundle over\n" before stop (device_for key) flash
  unfolding printed_for
  over e h = rw (eq-eqb (length key) key_file_length e, printed_for, lt-ltb max_bundle (length bundle) h)

  pub all-printed : length key ≡ key_file_length → length bundle ≤ max_bundle → printed_for key bundle flash ≡ bundle_line (length bundle) before with_state (messages (device_for key) flash bundle)
  unfolding printed_for
  all-printed e h = rw (eq-eqb (length key) key_file_length e, printed_for, le-ltb max_bundle (length bundle) h)

module _ (key bundle flash out : List ℕ) where
  -- what the contract of `load` says
  abbrev Loads : Sent → (flash' out' : List ℕ) → Type 0
  Loads r flash' out' = load key bundle flash out ≡ record { answer = r; flash = flash'; out = out' }

  pub load-short : length out < output_room → Loads (sent.Refused Area) flash out
  unfolding load
  load-short h = rw (lt-ltb (length out) output_room h, load)

  -- a text that is all written
  told : output_room ≤ length out → {p : Printed} {out' : List ℕ} {r : ℕ} → printed_for key bundle flash ≡ p → Appended out 0 out' r p.text → Loads (sent.Written r) p.flash out'
  unfolding load
  told h {p} {out'} {r} e w =
      let whole : load key bundle flash out
      ≡ (let q = printed_for key bundle flash in record { answer = sent.Written (length q.text); flash = q.flash; out = at_start q.text out }) =
      rw (le-ltb (length out) output_room h, load) in
      let n : length p.text ≡ r = omega (arith, w.end) in
      whole
      ∙ ap (λ (q : Printed). record { answer = sent.Written (length q.text); flash = q.flash; out = at_start q.text out }) e
      ∙ ap₂ {C = LoadOutcome} (λ (x : ℕ) (y : List ℕ). record { answer = sent.Written x; flash = p.flash; out = y }) n (sym (w.bytes ∙ paste-front out p.text (length p.text) refl))

  module _ (room : output_room ≤ length out) {out' : List ℕ} {r : ℕ} where
    pub load-key : (length key ≡ key_file_length → ⊥) → Appended out 0 out' r (ascii "key\n") → Loads (sent.Written r) flash out'
    load-key h w = told room (key-alone key bundle flash h ∙ before-stop (ascii "key\n") (device_for key) flash) w

    pub load-over : length key ≡ key_file_length → max_bundle < length bundle → Appended out 0 out' r (ascii "bundle over\n") → Loads (sent.Written r) flash out'
    load-over e h w = told room (over key bundle flash e h ∙ before-stop (ascii "bundle over\n") (device_for key) flash) w

  pub load-all : output_room ≤ length out → length key ≡ key_file_length → length bundle ≤ max_bundle
      → {d d' : Device} {out₁ out₂ out₃ f : List ℕ} {a b r : ℕ} → d ≡ device_for key → Appended out 0 out₁ a (bundle_line (length bundle)) → length out₁ ≡ length out
      → Ran (messages d flash bundle) out₁ a out₂ b d' f → Appended out₂ b out₃ r (state_line d') → r ≤ length out
      → Loads (sent.Written r) f out₃
  unfolding ◌before◌ with_state
  load-all room e h {d} {d'} {out₁} {out₂} {out₃} {f} {a} {b} {r} same w size m v small =
      let p : Printed = messages d flash bundle in
      let t : List ℕ = bundle_line (length bundle) in
      let last : Appended out₂ b out₃ r (state_line p.device) = retold v (ap state_line m.device) in
      let rest : Appended out₁ a out₃ r (p.text ++ state_line p.device) = joined m.appended last (omega (arith, m.appended.end, last.end)) in
      let all : Appended out 0 out₃ r (t ++ (p.text ++ state_line p.device)) = joined w rest (omega (arith, w.end, rest.end)) in
      let is : printed_for key bundle flash ≡ t before with_state p = all-printed key bundle flash e h ∙ ap (λ (x : Device). t before with_state (messages x flash bundle)) (sym same) in
      subst (λ (x : List ℕ). Loads (sent.Written r) x out₃) (sym m.flash) (told room is all)

-- what `load` needs
pub ruleset loading = (load-short, line-short)
