-- For the code alone: what it learns from the sender's answer, and from the reader's.
use Rattle.std.specs.Prelude.{◌≡◌, List, ℕ, Option, None, Some, Ok, Err}
use Rattle.ihex.specs.Read as ihex
use Rattle.sender.specs.Send.{Sent}

-- how many bytes were made, where nothing was refused
abbrev pub made : Sent → Option ℕ
made (Ok k) = Some k
made (Err r) = None

abbrev pub made_image : ℕ → ihex.TextAnswer → Option ℕ
made_image k (Ok u) = Some k
made_image k (Err f) = None

-- what is made of a text, and the buffer then
pub record ImageRead (k : ℕ) (o : ihex.TextOutcome) (r : Option ℕ) (buffer : List ℕ) : Type 0 where
  pub answered : r ≡ made_image k o.answer
  pub left : buffer ≡ o.buffer
