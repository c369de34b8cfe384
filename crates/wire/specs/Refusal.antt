-- The refusals (01, 'The drive's refusals', and 02, changes 1, 3, 5 and 7): their numbers, and which of several is given.
use Rattle.std.specs.Prelude.{Bool, cond, List, [], ◌∷◌, ℕ}
use Rattle.std.specs.Prelude.{Option, None, Some}
use Rattle.wire.specs.declared.refusal.Refusal.{Refusal}
use Rattle.wire.specs.declared.refusal.Refusal.TheVariants.{State, Kind, Short, Version, Size, Model, Serial, Area, Unsigned, Stage, Turn, Length, Unlike, Mismatch, Path, Text, Place, Twice, Altered, Spent}

-- the papers' number of each refusal
abbrev pub refusal_number : Refusal → ℕ
refusal_number State = 1
refusal_number Kind = 2
refusal_number Short = 3
refusal_number Version = 4
refusal_number Size = 5
refusal_number Model = 6
refusal_number Serial = 7
refusal_number Area = 8
refusal_number Unsigned = 9
refusal_number Stage = 10
refusal_number Turn = 11
refusal_number Length = 12
refusal_number Unlike = 13
refusal_number Mismatch = 14
refusal_number Path = 15
refusal_number Text = 16
refusal_number Place = 17
refusal_number Twice = 18
refusal_number Altered = 19
refusal_number Spent = 20

-- "Order, first that applies": of refusals in order, each with whether it applies
unfoldable pub first_that_applies : List (Refusal × Bool) → Option Refusal
first_that_applies [] = None
first_that_applies (e ∷ es) = cond e.1 (Some e.0) (first_that_applies es)
