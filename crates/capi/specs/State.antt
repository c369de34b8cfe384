-- A device's state as bytes, which the caller keeps. Numbers are big-endian.
use Rattle.std.specs.Prelude.{cond, List, [], ◌∷◌, ℕ, ◌+◌, eqb, length, Option, None, Some}
use Rattle.octets.specs.Octets.{bytes, number, part, joined}
use Rattle.merkle.specs.Limits.{held_bytes}
use Rattle.lms.specs.Lms.{key_length}
use Rattle.wire.specs.Manifest.{manifest_length, written, read}
use Rattle.machine.specs.declared.state.Stage.{Stage}
use Rattle.machine.specs.declared.state.Stage.TheVariants.{Idle, Loading, Complete}
use Rattle.machine.specs.declared.state.Device.{Device}
use Rattle.machine.specs.Device.{next_of}

-- Where a state's fields start: model (4 bytes), key, stage (2), next number (2), manifest, held hashes.
abbrev pub key_at : ℕ
key_at = 4

abbrev pub stage_at : ℕ
stage_at = key_at + key_length

abbrev pub next_at : ℕ
next_at = stage_at + 2

abbrev pub manifest_at : ℕ
manifest_at = next_at + 2

abbrev pub hashes_at : ℕ
hashes_at = manifest_at + manifest_length

abbrev pub state_length : ℕ
state_length = hashes_at + held_bytes

unfoldable pub stage_number : Stage → ℕ
stage_number t = elim t [ Idle ↦ 0 | Loading i ↦ 1 | Complete ↦ 2 ]

-- The next number is 0 unless the device is loading.
unfoldable pub encode : Device → List ℕ
encode d =
    joined (bytes 4 d.model ∷ d.key ∷ bytes 2 (stage_number d.stage) ∷ bytes 2 (next_of d.stage) ∷ written d.manifest ∷ d.hashes ∷ [])

-- the stage that a number stands for, with this next number if it is loading; no number above 2 stands for one
unfoldable pub stage_from : ℕ → ℕ → Option Stage
stage_from k next = cond (eqb k 0) (Some Idle) (cond (eqb k 1) (Some (Loading next)) (cond (eqb k 2) (Some Complete) None))

-- the stage of the state that bytes encode; those of another length, or with an unknown stage, encode none
unfoldable pub stage_in : List ℕ → Option Stage
stage_in b = cond (eqb (length b) state_length) (stage_from (number (part stage_at 2 b)) (number (part next_at 2 b))) None

-- the device at this stage whose other fields stand in b
unfoldable pub device_in : List ℕ → Stage → Device
device_in b t =
    record {
      model = number (part 0 4 b);
      key = part key_at key_length b;
      stage = t;
      manifest = read (part manifest_at manifest_length b);
      hashes = part hashes_at held_bytes b;
    }

unfoldable pub decode : List ℕ → Option Device
decode b = elim (stage_in b) [ None ↦ None | Some t ↦ Some (device_in b t) ]
