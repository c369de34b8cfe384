-- The numbers that the papers fix. A change of a limit is a change here.
use Rattle.std.specs.Prelude.{ℕ, ◌*◌}

-- "The largest image that any showroom has sent has 1,536 blocks. Make that the limit" (02, change 6).
abbrev pub max_blocks : ℕ
max_blocks = 1536

-- "A label is 32 bytes."
abbrev pub hash_length : ℕ
hash_length = 32

-- "At most 11 labels are then held" (02, change 6), in one flat array.
abbrev pub max_held : ℕ
max_held = 11

abbrev pub held_bytes : ℕ
held_bytes = hash_length * max_held
