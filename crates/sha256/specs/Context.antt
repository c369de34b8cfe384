-- For the code alone: what a context stands for, a message in progress. A caller needs of `Absorbed` no more than the contracts of `new`, `update` and `finish` say.
use Rattle.std.specs.Prelude.{◌≡◌, ℕ, ◌*◌, ◌/◌, ◌%◌, ◌^◌, List, length, take, drop}
use Rattle.sha256.specs.Sha256.{hash_value, H0}
use Rattle.sha256.specs.declared.context.Context.{Context}

-- H is the hash value after the whole blocks of m, rest the bytes that wait after them, and total the length of m in bytes, modulo 2 ^ 64
pub record Pending (H rest : List ℕ) (total : ℕ) (m : List ℕ) : Type 0 where
  pub compressed : H ≡ hash_value H0 (length m / 64) m
  pub waiting : rest ≡ drop (64 * (length m / 64)) m
  pub counted : total ≡ length m % 2 ^ 64

-- the context c has absorbed the message m: its buffer begins with what waits
abbrev pub Absorbed : Context → List ℕ → Type 0
Absorbed c m = Pending c.H (take (c.length % 64) c.buffer) c.length m
