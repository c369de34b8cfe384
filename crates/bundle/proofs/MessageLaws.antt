-- The kind 1 message, and what follows if it is accepted.
use mathlib.Core.Path.{◌≡◌, refl, sym, ap, ap₂, ◌∙◌}
use mathlib.Core.Bool.{Bool, true, false, true≢false}
use mathlib.Core.List.{List, ◌++◌}
use Rattle.std.specs.Prelude.{Option, None, Some, is_err}
use Prim.Native.Nat.{ℕ, ◌+◌, ◌-◌, ◌≤◌}
use native.Mathlib.Omega.{arith}
use lib.ListN.{length, take, drop}
use borrow.Author.Tests.{le-ltb}
use Rattle.decimal.specs.Buffer.{Appended}
use Rattle.decimal.proofs.AppendedLaws.{joined}
use Rattle.sha256.specs.Sha256.{digest}
use Rattle.merkle.specs.Limits.{max_blocks}
use Rattle.merkle.specs.Blocks.{block_count}
use Rattle.lms.specs.Lms.{valid}
use Rattle.wire.specs.declared.kind.Kind.{Kind}
use Rattle.wire.specs.declared.kind.Kind.TheVariants.{Program, Block, Update, PathUpdate, Unknown}
use Rattle.wire.specs.declared.refusal.Refusal.{Refusal}
use Rattle.wire.specs.Message.{kind}
use Rattle.wire.specs.Size.{wrong_size}
use Rattle.wire.proofs.SizeLaws.{Sized, wrong-count}
use Rattle.machine.specs.declared.state.Stage.TheVariants.{Idle}
use Rattle.machine.specs.declared.state.Device.{Device}
use Rattle.machine.specs.Answer.{Accepted, Refused}
use Rattle.machine.specs.Device.{Outcome}
use Rattle.machine.specs.Refusals.{not_loading, not_complete}
use Rattle.machine.specs.Step.{accept_program, accept, total, outcome, refusal_of, step}
use Rattle.machine.specs.Readers.{number_of}
use Rattle.machine.proofs.RefusalLaws.{program-passed, block-passed, update-passed, path-passed, unknown-refused}
use Rattle.bundle.specs.Text.{slip_line}
use Rattle.bundle.specs.Parts.{trailer_length, nowhere, program_in, before_program}
use Rattle.bundle.specs.Load.{loader_budget, Printed, ◌before◌, stop, if_accepted, blocks, messages}
use Rattle.bundle.specs.Steps.{Ran}
use Rattle.bundle.proofs.PartLaws.{Somewhere}
use Rattle.bundle.proofs.RunLaws.{before-stop, if-accepted, if-refused, ran}

size-right : (L T : ℕ) → Sized L T → wrong_size L T ≡ false
size-right L T z = sym (wrong-count L T (block_count L T) (λ e. omega (arith, z.some)) (sym z.allowed) refl) ∙ le-ltb max_blocks (block_count L T) z.count

-- refusal 5, of a device's manifest
abbrev size_of : Device → Bool
size_of d = wrong_size d.manifest.block_len d.manifest.image_len

module _ (d : Device) (flash m : List ℕ) (idle : d.stage ≡ Idle) where
  by_kind : (k : Kind) → kind m ≡ k → refusal_of digest valid loader_budget d flash m ≡ None → size_of (accept k d flash m).device ≡ false
  unfolding accept accept_program not_loading not_complete
  by_kind Program e q = size-right _ _ (program-passed digest valid d flash m loader_budget e q).size
  by_kind Block e q = absurd (true≢false (rw (idle, not_loading) at (block-passed digest valid d flash m loader_budget e q).loading))
  by_kind Update e q = absurd (true≢false (rw (idle, not_complete) at (update-passed digest valid d flash m loader_budget e q).successor.complete))
  by_kind PathUpdate e q = absurd (true≢false (rw (idle, not_complete) at (path-passed digest valid d flash m loader_budget e q).successor.complete))
  by_kind Unknown e q = absurd (unknown-refused digest valid d flash m loader_budget e q)

  -- an idle device accepts a kind 1 message alone, and so a manifest of an allowed size
  pub accepted-size : (o : Outcome) → step digest valid loader_budget d flash m ≡ o → o.answer ≡ Accepted → size_of o.device ≡ false
  unfolding step outcome
  accepted-size o e a = go (refusal_of digest valid loader_budget d flash m) refl
    where
      by-refusal : Option Refusal → Outcome
      by-refusal r = outcome r loader_budget (total digest (kind m) d flash m) d flash (accept (kind m) d flash m)

      go : (r : Option Refusal) → refusal_of digest valid loader_budget d flash m ≡ r → size_of o.device ≡ false
      go None q = let same : by-refusal None ≡ o = ap by-refusal (sym q) ∙ e in ap (λ (x : Outcome). size_of x.device) (sym same) ∙ by_kind (kind m) refl q
      go (Some x) q =
          let same : by-refusal (Some x) ≡ o = ap by-refusal (sym q) ∙ e in
          let other : Refused x ≡ o.answer = ap (λ (x : Outcome). x.answer) same in
          absurd (let z : ◌≡◌ {A = ℕ} 0 1 = cc in omega arith)

module _ (d : Device) (flash b : List ℕ) where
  no_program : nowhere b ≡ true → messages d flash b ≡ slip_line 3 before stop d flash
  unfolding messages
  no_program e = rw (e, messages)

  with-program : nowhere b ≡ false
      → messages d flash b
      ≡ (let o = step digest valid loader_budget d flash (program_in b) in slip_line (number_of o.answer) before if_accepted o (blocks o.device o.flash (before_program b)))
  unfolding messages
  with-program e = rw (e, messages)

  pub ran-nowhere : {out out' : List ℕ} {at next : ℕ} → nowhere b ≡ true → Appended out at out' next (slip_line 3) → Ran (messages d flash b) out at out' next d flash
  ran-nowhere e w = ran (sym (before-stop _ d flash) ∙ sym (no_program e)) w

  module _ (start : ℕ) (z : Somewhere b start) (o : Outcome) (done : step digest valid loader_budget d flash (take (length b - trailer_length - start) (drop start b)) ≡ o) (answer : ℕ)
      (answer-is : answer ≡ number_of o.answer) where
    follows : slip_line answer before if_accepted o (blocks o.device o.flash (take start b)) ≡ messages d flash b
    follows =
        let q : step digest valid loader_budget d flash (program_in b) ≡ o = ap (step digest valid loader_budget d flash) (sym z.program) ∙ done in
        let after : Outcome → ℕ → List ℕ → Printed = λ x y f. slip_line y before if_accepted x (blocks x.device x.flash f) in
        ap (λ (y : ℕ). after o y (take start b)) answer-is
        ∙ ap₂ {C = Printed} (λ (x : Outcome) (f : List ℕ). after x (number_of x.answer) f) (sym q) z.front
        ∙ sym (with-program z.there)

    pub ran-refused : {out out' : List ℕ} {at next : ℕ} → Appended out at out' next (slip_line answer) → is_err o.answer ≡ true
        → Ran (messages d flash b) out at out' next o.device o.flash
    ran-refused w e =
        ran (sym (before-stop _ o.device o.flash) ∙ ap (λ (p : Printed). slip_line answer before p) (sym (if-refused o _ e)) ∙ follows) w

    pub ran_on : {out out' out'' f : List ℕ} {at next last : ℕ} {d' : Device} → Appended out at out' next (slip_line answer) → o.answer ≡ Accepted
        → Ran (blocks o.device o.flash (take start b)) out' next out'' last d' f
        → at + length (slip_line answer) + length (blocks o.device o.flash (take start b)).text ≤ length out
        → Ran (messages d flash b) out at out'' last d' f
    unfolding ◌before◌
    ran_on {f = f} {d' = d'} w e r room =
        let p : Printed = blocks o.device o.flash (take start b) in
        let all : slip_line answer before p ≡ messages d flash b = ap (λ (p : Printed). slip_line answer before p) (sym (if-accepted o _ e)) ∙ follows in
        let same : record { text = slip_line answer ++ p.text; device = d'; flash = f } ≡ slip_line answer before p =
        ap₂ {C = Printed} (λ (x : Device) (y : List ℕ). record { text = slip_line answer ++ p.text; device = x; flash = y }) r.device r.flash in
        ran (same ∙ all) (joined w r.appended room)
