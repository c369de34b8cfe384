-- The answer to a message (01): accepted, or refused, and why.
use Rattle.std.specs.Prelude.{Result, Ok, Err, ⊤}
use Rattle.wire.specs.declared.refusal.Refusal.{Refusal}

abbrev pub Answer : Type 0
Answer = Result ⊤ Refusal

abbrev pub Accepted : Answer
Accepted = Ok tt

abbrev pub Refused : Refusal → Answer
Refused r = Err r
