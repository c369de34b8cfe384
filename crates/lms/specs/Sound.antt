-- What the functions for a general row of table 1 ask of it, and every row has: digits of a byte or less, all of them within a hash value and two bytes,
-- and a checksum of two bytes
use Rattle.std.specs.Prelude.{◌-◌, ◌*◌, ◌/◌, ◌^◌, ◌≤◌, ◌<◌}
use Rattle.lms.specs.Ots.{Row}

pub record Sound (t : Row) : Type 0 where
  pub some_bits : 1 ≤ t.w
  pub a_byte : t.w ≤ 8
  pub within : t.p * t.w ≤ 8 * 34
  pub shift : t.ls < 16
  pub two_bytes : (256 / t.w) * (2 ^ t.w - 1) * 2 ^ t.ls < 2 ^ 16
