-- The lines that the loader prints, as bytes (01, 'Bundle and loader'). Every line ends in one line feed.
use Rattle.std.specs.Prelude.{List, ◌++◌, ℕ}
use Rattle.decimal.specs.Decimal.{ascii, decimal, line}
use Rattle.machine.specs.declared.state.Stage.{Stage}
use Rattle.machine.specs.declared.state.Stage.TheVariants.{Idle, Loading, Complete}
use Rattle.machine.specs.declared.state.Device.{Device}
use Rattle.machine.specs.Readers.{accepted_blocks}

-- words and two numbers
unfoldable pub message_line : List ℕ → ℕ → ℕ → List ℕ
message_line words i answer = words ++ decimal i ++ line (ascii " ") answer

-- "`bundle` and the file's length"
abbrev pub bundle_line : ℕ → List ℕ
bundle_line n = line (ascii "bundle ") n

-- "`slip 0` or `block` and the number due, then 0 if accepted or the refusal number"
abbrev pub slip_line : ℕ → List ℕ
slip_line answer = message_line (ascii "slip ") 0 answer

abbrev pub block_line : (i answer : ℕ) → List ℕ
block_line i answer = message_line (ascii "block ") i answer

-- "last `state`, the stage's name, the accepted blocks"
unfoldable pub state_words : Stage → List ℕ
state_words t = elim t [ Idle ↦ ascii "state idle " | Loading i ↦ ascii "state loading " | Complete ↦ ascii "state complete " ]

unfoldable pub state_line : Device → List ℕ
state_line d = line (state_words d.stage) (accepted_blocks d)
