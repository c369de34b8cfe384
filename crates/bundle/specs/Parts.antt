-- Where the parts of a bundle stand (01, 'Bundle and loader'): "the n block messages, any filler, the kind 1 message, and a 4-byte trailer".
use Rattle.std.specs.Prelude.{Bool, ◌||◌, List, ℕ, ◌-◌, ltb, length, take}
use Rattle.octets.specs.Octets.{number, part}

-- "a 4-byte trailer"
abbrev pub trailer_length : ℕ
trailer_length = 4

-- the trailer's first byte
unfoldable pub trailer_at : List ℕ → ℕ
trailer_at b = length b - trailer_length

-- "the distance back from the trailer's first byte to the kind 1 message's first byte"
unfoldable pub distance : List ℕ → ℕ
distance b = number (part (trailer_at b) trailer_length b)

-- "A file under 4 bytes, or a distance beyond its start"
unfoldable pub nowhere : List ℕ → Bool
nowhere b = ltb (length b) trailer_length || ltb (trailer_at b) (distance b)

-- where the kind 1 message (01: the slip) starts, and the message
unfoldable pub program_at : List ℕ → ℕ
program_at b = trailer_at b - distance b

unfoldable pub program_in : List ℕ → List ℕ
program_in b = part (program_at b) (distance b) b

-- what stands before the kind 1 message: block messages and filler
unfoldable pub before_program : List ℕ → List ℕ
before_program b = take (program_at b) b
