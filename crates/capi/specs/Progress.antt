-- For the code alone: the fields of a state that a message may change, but for the hashes; it writes them by themselves.
use Rattle.std.specs.Prelude.{List, [], ◌∷◌, ℕ}
use Rattle.octets.specs.Octets.{bytes}
use Rattle.wire.specs.declared.manifest.Manifest.{Manifest}
use Rattle.wire.specs.Manifest.{written}
use Rattle.machine.specs.declared.state.Stage.{Stage}
use Rattle.machine.specs.Device.{next_of}
use Rattle.capi.specs.State.{stage_number}

abbrev pub progress_of : Stage → Manifest → List (List ℕ)
progress_of stage manifest = bytes 2 (stage_number stage) ∷ bytes 2 (next_of stage) ∷ written manifest ∷ []
