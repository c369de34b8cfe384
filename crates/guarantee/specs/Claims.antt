-- What is shown of lists of calls besides demand 3 and recovery (in proofs/).
use Rattle.std.specs.Prelude.{◌≡◌, ◌⊎◌, Bool, false, List, ℕ, ◌≤◌}
use Rattle.sender.specs.Job.{Job}
use Rattle.machine.specs.Device.{Fresh, OutcomeOf}
use Rattle.machine.specs.Refusals.{senseless}
use Rattle.guarantee.specs.Part.{Part}
use Rattle.guarantee.specs.Run.{Trace, ◌▷◌, after, accepted, paths_since, Completed}
use Rattle.guarantee.specs.Demand3.{Intact, Misled, Honest, FirstHalf}

pub data Beginning {C : Type 0} (cs : Trace C) : Trace C → Type 0 where
  all : Beginning cs cs
  shorter : {more : Trace C} {x : C} → Beginning cs more → Beginning cs (more ▷ x)

module _ (H : List ℕ → List ℕ) (valid : (key message signature : List ℕ) → Bool) {D F C : Type 0} (part : Part D F C) (step : D → F → C → OutcomeOf D F) where
  -- A beginning of an honest list is a beginning of what came before the manifest, or an honest list itself: so the second half counts for it as well.
  abbrev pub EachBeginning : Type 0
  EachBeginning =
      (d : D) (flash : F) (job : Job) (before : Trace C) (c : C) (j : ℕ) (cs fewer : Trace C) → Honest H valid part step d flash job before c j cs
      → Beginning fewer cs → Beginning fewer before ⊎ ((i : ℕ) × (i ≤ j) × Honest H valid part step d flash job before c i fewer)

  -- Refusal 1 never applies after a list from a fresh device.
  abbrev pub MakesSense : Type 0
  MakesSense = (d : D) → Fresh (part.device d) → (flash : F) (cs : Trace C) → senseless (part.device (after step d flash cs).device) ≡ false

  -- Where no kind 4 was accepted since the last manifest in a message of another kind, none misled the device: so demand 3 says of a complete one that its flash has the
  -- manifest's tree, as if there were no kind 4.
  abbrev pub Unmisled : Type 0
  Unmisled = (d : D) (flash : F) (cs : Trace C) → paths_since (accepted step d flash part cs) ≡ 0 → Misled H valid part step d flash cs → ⊥

  abbrev pub WithoutPaths : Type 0
  WithoutPaths =
      (d : D) (flash : F) (cs : Trace C) → FirstHalf H valid part step d flash cs → Completed (accepted step d flash part cs)
      → paths_since (accepted step d flash part cs) ≡ 0 → (let now = after step d flash cs in Intact H (part.device now.device).manifest (part.flash now.flash))
