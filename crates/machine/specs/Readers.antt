-- What a caller reads of an answer and of a device (01, 'Bundle and loader').
use Rattle.std.specs.Prelude.{Ok, Err, ℕ, pred}
use Rattle.wire.specs.Refusal.{refusal_number}
use Rattle.wire.specs.Geometry.{count_of}
use Rattle.machine.specs.declared.state.Stage.TheVariants.{Idle, Loading, Complete}
use Rattle.machine.specs.declared.state.Device.{Device}
use Rattle.machine.specs.Answer.{Answer}

-- "0 if accepted or the refusal number"
abbrev pub number_of : Answer → ℕ
number_of (Ok x) = 0
number_of (Err r) = refusal_number r

-- "the accepted blocks": those before the next number, or all
unfoldable pub accepted_blocks : Device → ℕ
accepted_blocks d = elim d.stage [ Idle ↦ 0 | Loading i ↦ pred i | Complete ↦ count_of d.manifest ]
