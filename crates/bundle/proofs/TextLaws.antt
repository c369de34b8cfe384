-- How long the loader's lines are.
use mathlib.Core.Path.{◌≡◌, refl, ap₂}
use mathlib.Core.List.{List, [], ◌∷◌}
use Prim.Native.Nat.{ℕ, ◌+◌, ◌≤◌, ◌<◌}
use native.Mathlib.Omega.{arith}
use lib.ListN.{length, length-append}
use Rattle.decimal.specs.Decimal.{decimal, line}
use Rattle.decimal.proofs.WritingLaws.{decimal-short, length-line, line-short}
use Rattle.decimal.proofs.AppendedLaws.{retold}
use Rattle.machine.specs.declared.state.Device.{Device}
use Rattle.machine.specs.Readers.{accepted_blocks}
use Rattle.bundle.specs.Text.{message_line, state_words, state_line}

pub length-message : (words : List ℕ) (i answer : ℕ) → length (message_line words i answer) ≡ length words + length (decimal i) + length (line (32 ∷ []) answer)
unfolding message_line
length-message words i answer = simp length-append refl

-- a message's line has at most 9 bytes and its words, its number having at most four digits, and its answer three
pub message-short : (words : List ℕ) (i answer : ℕ) → i < 10000 → answer < 1000 → length (message_line words i answer) ≤ length words + 9
message-short words i answer h g =
    omega (arith, length-message words i answer, length-line (32 ∷ []) answer, decimal-short 3 i h, decimal-short 2 answer g)

-- the last line, its words told in another way
pub state-is : (d : Device) {words : List ℕ} {n : ℕ} → words ≡ state_words d.stage → n ≡ accepted_blocks d → line words n ≡ state_line d
unfolding state_line
state-is d e f = ap₂ {C = List ℕ} line e f

-- what `put_state` needs
pub ruleset state_lines = (state-is, line-short, retold)
