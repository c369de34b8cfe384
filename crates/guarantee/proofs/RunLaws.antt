-- One call more: what it adds to a list for one part, and what no list changes.
use Rattle.std.proofs.Common.{◌≡◌, refl, sym, ◌∙◌, Bool, true, false, cond, true≢false, List, ℕ, Ok, Err}
use Rattle.wire.specs.declared.kind.Kind.{Kind}
use Rattle.wire.specs.declared.kind.Kind.TheVariants.{Program, Block, Update, PathUpdate, Unknown}
use Rattle.wire.specs.declared.refusal.Refusal.{Refusal}
use Rattle.wire.specs.Message.{kind, carries, manifest_in}
use Rattle.machine.specs.declared.state.Device.{Device}
use Rattle.machine.specs.Answer.{Answer, Accepted, Refused}
use Rattle.machine.specs.Device.{SituationOf, OutcomeOf, Situation}
use Rattle.machine.specs.Step.{accept_program, accept_block, accept_update, accept}
use Rattle.machine.proofs.RefusalLaws.{Passed}
use Rattle.guarantee.specs.Part.{Part}
use Rattle.guarantee.specs.Run.{Trace, Messages, empty, ◌▷◌, after, answer_to, accepted}

pub accept-keeps : (k : Kind) (d : Device) (flash m : List ℕ) → ((accept k d flash m).device.model ≡ d.model) × ((accept k d flash m).device.key ≡ d.key)
unfolding accept accept_program accept_block accept_update
accept-keeps Program d flash m = (refl, refl)
accept-keeps Block d flash m = (refl, refl)
accept-keeps Update d flash m = (refl, refl)
accept-keeps PathUpdate d flash m = (refl, refl)
accept-keeps Unknown d flash m = (refl, refl)

-- an accepted message of each kind leaves the manifest that it goes by
pub goes_by_lem : (d : Device) (flash m : List ℕ) (k : Kind) → (accept k d flash m).device.manifest ≡ cond (carries k) (manifest_in m) d.manifest
unfolding carries accept accept_program accept_block accept_update
goes_by_lem d flash m Program = refl
goes_by_lem d flash m Block = refl
goes_by_lem d flash m Update = refl
goes_by_lem d flash m PathUpdate = refl
goes_by_lem d flash m Unknown = refl

-- the part by itself
abbrev pub slot : {D F C : Type 0} → Part D F C → D → F → Situation
slot part d f = record { device = part.device d; flash = part.flash f }

module _ (H : List ℕ → List ℕ) (valid : (key message signature : List ℕ) → Bool) {D F C : Type 0} (part : Part D F C) (step : D → F → C → OutcomeOf D F) where
  -- the part after a call
  abbrev pub then : D → F → C → Situation
  then d f c = slot part (step d f c).device (step d f c).flash

  -- what is known of the part and an accepted message for it
  abbrev pub PassedBy : D → F → C → Type 0
  PassedBy d f c = Passed H valid (part.device d) (part.flash f) (part.message c)

  -- All that demand 3 needs of a step for the part: another part's call and a refused one leave it; an accepted one passed the tests of its kind, and does what it should.
  pub record Serves : Type 0 where
    pub elsewhere : (d : D) (f : F) (c : C) → part.names c ≡ false → then d f c ≡ slot part d f
    pub refused : (d : D) (f : F) (c : C) (r : Refusal) → (step d f c).answer ≡ Refused r → then d f c ≡ slot part d f
    pub passes : (d : D) (f : F) (c : C) → part.names c ≡ true → (step d f c).answer ≡ Accepted → PassedBy d f c
    pub accepts : (d : D) (f : F) (c : C) → part.names c ≡ true → (step d f c).answer ≡ Accepted
        → then d f c ≡ accept (kind (part.message c)) (part.device d) (part.flash f) (part.message c)

module _ (H : List ℕ → List ℕ) (valid : (key message signature : List ℕ) → Bool) {D F C : Type 0} (part : Part D F C) (step : D → F → C → OutcomeOf D F) (d : D) (flash : F)
    (serves : Serves H valid part step) where
  abbrev pub state : Trace C → SituationOf D F
  state cs = after step d flash cs

  abbrev pub now : Trace C → Situation
  now cs = slot part (state cs).device (state cs).flash

  abbrev pub taken : Trace C → Messages
  taken cs = accepted step d flash part cs

  abbrev pub accepting : Trace C → C → Situation
  accepting cs c = accept (kind (part.message c)) (now cs).device (now cs).flash (part.message c)

  module _ (cs : Trace C) (c : C) where
    pub record More : Type 0 where
      pub passed : PassedBy H valid part step (state cs).device (state cs).flash c
      pub after_is : now (cs ▷ c) ≡ accepting cs c
      pub taken_is : taken (cs ▷ c) ≡ taken cs ▷ part.message c

    pub more : part.names c ≡ true → answer_to step d flash cs c ≡ Accepted → More
    unfolding after accepted answer_to
    more n e =
        record {
          passed = serves.passes (state cs).device (state cs).flash c n e;
          after_is = serves.accepts (state cs).device (state cs).flash c n e;
          taken_is = rw (n, accepted, e, accepted);
        }

    pub record Same : Type 0 where
      pub after_is : now (cs ▷ c) ≡ now cs
      pub taken_is : taken (cs ▷ c) ≡ taken cs

    away : part.names c ≡ false → Same
    unfolding after accepted
    away n = record { after_is = serves.elsewhere (state cs).device (state cs).flash c n; taken_is = rw (n, accepted) }

    same : (r : Refusal) → answer_to step d flash cs c ≡ Refused r → Same
    unfolding after accepted answer_to
    same r e = record { after_is = serves.refused (state cs).device (state cs).flash c r e; taken_is = go (part.names c) refl }
      where
        go : (t : Bool) → part.names c ≡ t → taken (cs ▷ c) ≡ taken cs
        go true n = rw (n, accepted, e, accepted)
        go false n = rw (n, accepted)

    -- what a call does to the part: it accepts a message for it, or leaves it
    pub data Does : Type 0 where
      takes : part.names c ≡ true → answer_to step d flash cs c ≡ Accepted → Does
      stays : (part.names c ≡ true → answer_to step d flash cs c ≡ Accepted → ⊥) → Same → Does

    pub does : Does
    does = named (part.names c) refl
      where
        answered : part.names c ≡ true → (a : Answer) → answer_to step d flash cs c ≡ a → Does
        answered n (Ok _) e = takes n e
        answered n (Err r) e = stays (λ t a. cc) (same r e)

        named : (t : Bool) → part.names c ≡ t → Does
        named true n = answered n (answer_to step d flash cs c) refl
        named false n = stays (λ t a. true≢false (sym t ∙ n)) (away n)

    pub untaken : ((part.names c ≡ true) × (answer_to step d flash cs c ≡ Accepted) → ⊥) → Same
    untaken n = go does
      where
        go : Does → Same
        go (takes m e) = absurd (n (m, e))
        go (stays m s) = s

  -- What an accepted message for the part keeps, and a call that leaves the part, every list keeps.
  module _ (P : Situation → Messages → Trace C → Type 0)
      (keep : (cs : Trace C) (c : C) → part.names c ≡ true → answer_to step d flash cs c ≡ Accepted → P (now cs) (taken cs) cs → P (accepting cs c) (taken cs ▷ part.message c) (cs ▷ c))
      (stay : (cs : Trace C) (c : C) → (part.names c ≡ true → answer_to step d flash cs c ≡ Accepted → ⊥) → P (now cs) (taken cs) cs → P (now cs) (taken cs) (cs ▷ c)) where
    one_more : (cs : Trace C) (c : C) → P (now cs) (taken cs) cs → P (now (cs ▷ c)) (taken (cs ▷ c)) (cs ▷ c)
    one_more cs c p = go (does cs c)
      where
        go : Does cs c → P (now (cs ▷ c)) (taken (cs ▷ c)) (cs ▷ c)
        go (takes n e) = let a = more cs c n e in rw (a.after_is, a.taken_is) (keep cs c n e p)
        go (stays n a) = rw (a.after_is, a.taken_is) (stay cs c n p)

    pub every-list : P (slot part d flash) empty empty → (cs : Trace C) → P (now cs) (taken cs) cs
    unfolding after accepted
    every-list start empty = start
    every-list start (cs ▷ c) = one_more cs c (every-list start cs)

  pub keeps : (cs : Trace C) → ((now cs).device.model ≡ (part.device d).model) × ((now cs).device.key ≡ (part.device d).key)
  keeps cs =
      every-list (λ s taken list. (s.device.model ≡ (part.device d).model) × (s.device.key ≡ (part.device d).key))
      (λ cs c n e p. let a = accept-keeps (kind (part.message c)) (now cs).device (now cs).flash (part.message c) in (a.0 ∙ p.0, a.1 ∙ p.1)) (λ cs c n p. p) (refl, refl) cs
