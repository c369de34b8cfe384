-- What the loader does with key.bin and bundle.bin (01, 'Bundle and loader'): the text that it prints, and the flash that it leaves.
use Rattle.std.specs.Prelude.{cond, not, Ok, Err, List, [], ◌++◌, ℕ, zero, suc, ◌+◌, eqb, ltb, length, take, drop}
use Rattle.octets.specs.Octets.{number, part}
use Rattle.decimal.specs.Decimal.{ascii}
use Rattle.sha256.specs.Sha256.{digest}
use Rattle.lms.specs.Lms.{key_length, valid}
use Rattle.merkle.specs.Cost.{most_cost}
use Rattle.wire.specs.Geometry.{count_of}
use Rattle.wire.specs.declared.refusal.Refusal.TheVariants.{Area}
use Rattle.wire.specs.Message.{due_length, at_start}
use Rattle.sender.specs.Send as sent
use Rattle.sender.specs.Send.{Sent}
use Rattle.machine.specs.declared.state.Device.{Device}
use Rattle.machine.specs.Device.{fresh_with, Outcome}
use Rattle.machine.specs.Step.{step}
use Rattle.machine.specs.Readers.{number_of}
use Rattle.bundle.specs.Text.{bundle_line, slip_line, block_line, state_line}
use Rattle.bundle.specs.Parts.{nowhere, program_in, before_program}

-- "key.bin (56 key bytes, 4 model bytes)"
abbrev pub key_file_length : ℕ
key_file_length = key_length + 4

-- "bundle.bin (at most 65,536 bytes)"
abbrev pub max_bundle : ℕ
max_bundle = 65536

-- room for the longest output
abbrev pub output_room : ℕ
output_room = 65536

-- "The loader's budgets always suffice" (02, change 7; machine/specs/Claims, `NeverSpent`): one number, enough for every program.
abbrev pub loader_budget : ℕ
loader_budget = most_cost

-- Text printed so far or from here on, with device and flash at its end.
pub record Printed : Type 0 where
  pub text : List ℕ
  pub device : Device
  pub flash : List ℕ

-- what p prints, with the text before it
infixr 15 ◌before◌
unfoldable pub ◌before◌ : List ℕ → Printed → Printed
text before p = record { text = text ++ p.text; device = p.device; flash = p.flash }

-- nothing is printed; device and flash are these
abbrev pub stop : Device → List ℕ → Printed
stop d flash = record { text = []; device = d; flash = flash }

-- "until one is refused or all are accepted": what follows after an outcome
unfoldable pub if_accepted : Outcome → Printed → Printed
if_accepted o then = elim o.answer [ Ok t ↦ then | Err r ↦ stop o.device o.flash ]

-- `left` block messages, from number i on, of an image of T bytes in blocks of L; bytes are those left before the kind 1 message.
-- "Each block message is cut at its due length, or at the bytes left before the slip." "`block` and the number due, then 0 if accepted or the refusal number"
unfoldable pub blocks_from : (L T left i : ℕ) → Device → (flash bytes : List ℕ) → Printed
blocks_from L T zero i d flash bytes = stop d flash
blocks_from L T (suc left) i d flash bytes =
    let due = due_length L T i in
    let o = step digest valid loader_budget d flash (take due bytes) in
    block_line i (number_of o.answer) before if_accepted o (blocks_from L T left (suc i) o.device o.flash (drop due bytes))

-- all blocks of the device's manifest
unfoldable pub blocks : Device → (flash bytes : List ℕ) → Printed
blocks d flash bytes = let s = d.manifest in blocks_from s.block_len s.image_len (count_of s) 1 d flash bytes

-- "hands over the slip, and if that is accepted the blocks"; where there is no slip, "the line `slip 0 3`"
unfoldable pub messages : Device → (flash bundle : List ℕ) → Printed
messages d flash bundle =
    cond (nowhere bundle)
    (slip_line 3 before stop d flash)
    (let o = step digest valid loader_budget d flash (program_in bundle) in slip_line (number_of o.answer) before if_accepted o (blocks o.device o.flash (before_program bundle)))

-- "last `state`, the stage's name, the accepted blocks"
unfoldable pub with_state : Printed → Printed
with_state p = record { text = p.text ++ state_line p.device; device = p.device; flash = p.flash }

-- the "fresh drive" with the key and the model of key.bin
unfoldable pub device_for : List ℕ → Device
device_for key = fresh_with (number (part key_length 4 key)) (take key_length key)

-- "A key.bin that has not 60 bytes is noticed first, and `key` is printed alone." "For a file over 65,536 bytes it prints `bundle over` alone."
unfoldable pub printed_for : (key bundle flash : List ℕ) → Printed
printed_for key bundle flash =
    let d = device_for key in
    cond (not (eqb (length key) key_file_length))
    (ascii "key\n" before stop d flash)
    (cond (ltb max_bundle (length bundle))
    (ascii "bundle over\n" before stop d flash)
    (bundle_line (length bundle) before with_state (messages d flash bundle)))

-- The text goes to the start of a buffer, which must have room for the longest; else it is refused 8 and nothing is done. The answer is the text's length.
pub record LoadOutcome : Type 0 where
  pub answer : Sent
  pub flash : List ℕ
  pub out : List ℕ

unfoldable pub load : (key bundle flash out : List ℕ) → LoadOutcome
load key bundle flash out =
    let p = printed_for key bundle flash in
    let n = length p.text in
    cond (ltb (length out) output_room)
    (record { answer = sent.Refused Area; flash = flash; out = out })
    (record { answer = sent.Written n; flash = p.flash; out = at_start p.text out })
