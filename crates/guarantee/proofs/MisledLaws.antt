-- Path updates that misled a device, of any step.
use Rattle.std.proofs.Common.{◌≡◌, refl, ◌⊎◌, inl, inr, ⊎_elim, Bool, true, false, List, ℕ, suc, ◌≤◌, ◌<◌, arith, Ok, Err}
use Rattle.wire.specs.declared.kind.Kind.{Kind}
use Rattle.wire.specs.declared.kind.Kind.TheVariants.{Program, Block, Update, PathUpdate, Unknown}
use Rattle.wire.specs.Message.{kind, carries}
use Rattle.machine.specs.Answer.{Answer, Accepted}
use Rattle.machine.specs.Device.{OutcomeOf}
use Rattle.guarantee.specs.Part.{Part}
use Rattle.guarantee.specs.Run.{Trace, ◌▷◌, after, answer_to, accepted, paths_since}
use Rattle.guarantee.specs.Demand3.{Clash, Since, here, later, Misled}
use Rattle.guarantee.specs.Claims.{Unmisled, WithoutPaths}

-- a message that carries no manifest, or is of kind 4, takes no path update away
none-less : (k : Kind) (n : ℕ) → (carries k ≡ true → k ≡ PathUpdate) → n ≤ elim k [ Program ↦ 0 | Block ↦ n | Update ↦ 0 | PathUpdate ↦ suc n | Unknown ↦ n ]
unfolding carries
none-less Program n e = absurd (cc (e refl))
none-less Block n e = omega arith
none-less Update n e = absurd (cc (e refl))
none-less PathUpdate n e = omega arith
none-less Unknown n e = omega arith

module _ (H : List ℕ → List ℕ) (valid : (key message signature : List ℕ) → Bool) {D F C : Type 0} (part : Part D F C) (any : D → F → C → OutcomeOf D F) (d : D) (flash : F) where
  -- Once misled, a device stays so while no accepted message of another kind carries a manifest.
  pub still-misled : (cs : Trace C) (c : C)
      → ((part.names c ≡ true) × (answer_to any d flash cs c ≡ Accepted) → carries (kind (part.message c)) ≡ true → kind (part.message c) ≡ PathUpdate)
      → Misled H valid part any d flash cs → Misled H valid part any d flash (cs ▷ c)
  still-misled cs c e w = record { before = w.before; call = w.call; path = w.path; taken = w.taken; since = later w.since e; clash = w.clash }

  still-counted : {start cs : Trace C} → Since H valid part any d flash start cs → 0 < paths_since (accepted any d flash part start) → 0 < paths_since (accepted any d flash part cs)
  still-counted here p = p
  still-counted (later {cs} {x} s e) p = named (part.names x) refl (still-counted s p)
    where
      go : part.names x ≡ true → (a : Answer) → answer_to any d flash cs x ≡ a → 0 < paths_since (accepted any d flash part cs) → 0 < paths_since (accepted any d flash part (cs ▷ x))
      go n (Ok _) q p = unfold accepted paths_since in rw (n, accepted, q, accepted, paths_since)
          (omega (arith, none-less (kind (part.message x)) (paths_since (accepted any d flash part cs)) (e (n, q))))
      go n (Err r) q p = unfold accepted in rw (n, accepted, q, accepted) p

      named : (t : Bool) → part.names x ≡ t → 0 < paths_since (accepted any d flash part cs) → 0 < paths_since (accepted any d flash part (cs ▷ x))
      named true n p = go n (answer_to any d flash cs x) refl p
      named false n p = unfold accepted in rw (n, accepted) p

  pub none-misled : (cs : Trace C) → paths_since (accepted any d flash part cs) ≡ 0 → Misled H valid part any d flash cs → ⊥
  unfolding accepted paths_since
  none-misled cs e w =
      let t : 0 < paths_since (accepted any d flash part (w.before ▷ w.call)) = rw (w.taken.0, accepted, w.taken.1, accepted, w.path, paths_since) (omega arith) in
      omega (arith, still-counted w.since t)

  newest : {before cs : Trace C} {x c : C} → Since H valid part any d flash (before ▷ x) (cs ▷ c) → Clash H (part.flash (after any d flash before).flash) (part.message x)
      → Clash H (part.flash (after any d flash cs).flash) (part.message c) ⊎ Since H valid part any d flash (before ▷ x) cs
  newest here c = inl c
  newest (later s e) c = inr s

  -- Nor did the first one since then, where its path does not clash.
  pub first-path : (cs : Trace C) (c : C) → paths_since (accepted any d flash part cs) ≡ 0 → (Clash H (part.flash (after any d flash cs).flash) (part.message c) → ⊥)
      → Misled H valid part any d flash (cs ▷ c) → ⊥
  first-path cs c e n w =
      ⊎_elim n (λ s. none-misled cs e (record { before = w.before; call = w.call; path = w.path; taken = w.taken; since = s; clash = w.clash }))
      (newest w.since w.clash)

module _ (H : List ℕ → List ℕ) (valid : (key message signature : List ℕ) → Bool) {D F C : Type 0} (part : Part D F C) (any : D → F → C → OutcomeOf D F) where
  pub unmisled : Unmisled H valid part any
  unmisled d flash cs = none-misled H valid part any d flash cs

  pub without-paths : WithoutPaths H valid part any
  without-paths d flash cs h c e = ⊎_elim (λ t. t) (λ w. absurd (unmisled d flash cs e w)) (h.bound c).tree
