-- The example of document 01, by computation.
use mathlib.Core.Path.{ap}
use mathlib.Core.List.{[], ◌∷◌}
use native.Mathlib.Omega.{arith}
use Rattle.octets.specs.Octets.{number}
use Rattle.decimal.specs.Decimal.{decimal_within, decimal, line}
use Rattle.wire.specs.Refusal.{first_that_applies}
use Rattle.wire.specs.Message.{kind}
use Rattle.machine.specs.Device.{fresh_with}
use Rattle.machine.specs.Refusals.{senseless, no_kind, always, refusals}
use Rattle.machine.specs.Step.{outcome, refusal_of, step}
use Rattle.machine.specs.Readers.{accepted_blocks}
use Rattle.bundle.specs.Text.{message_line, state_words, state_line}
use Rattle.bundle.specs.Parts.{trailer_at, distance, nowhere, program_at, program_in, before_program}
use Rattle.bundle.specs.Load.{Printed, ◌before◌, if_accepted, messages, with_state, device_for}
use Rattle.bundle.specs.Claims.{Sample}
use Rattle.bundle.proofs.LoadLaws.{all-printed}

pub sample : Sample
unfolding number first_that_applies kind fresh_with senseless no_kind always refusals outcome refusal_of step accepted_blocks decimal_within decimal line message_line state_words state_line trailer_at distance nowhere program_at program_in before_program ◌before◌ if_accepted messages with_state device_for
sample key flash e = ap (λ (p : Printed). p.text) (all-printed key (0 ∷ 0 ∷ 0 ∷ 0 ∷ []) flash e (omega arith))
