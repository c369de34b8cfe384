-- A text that is written into a buffer, behind what stands there already.
use Rattle.std.specs.Prelude.{◌≡◌, List, ℕ, ◌+◌, length}
use Rattle.std.proofs.Math.Seq.{paste}

-- The text stands in the buffer from index at on, all else is as before, and next is behind it.
pub record Appended (out : List ℕ) (at : ℕ) (out' : List ℕ) (next : ℕ) (text : List ℕ) : Type 0 where
  pub end : next ≡ at + length text
  pub bytes : out' ≡ paste out at text (length text)
