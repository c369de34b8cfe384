-- The lengths that signatures have, whatever the key's types.
use Rattle.std.specs.Prelude.{◌≡◌, Bool, true, false, ◌||◌, List, ℕ, eqb, length}
use Rattle.std.specs.Prelude.{None, Some}
use Rattle.lms.specs.Ots.{table1}
use Rattle.lms.specs.Tree.{table2}
use Rattle.lms.specs.Lms.{signature_length, valid}

-- whether signatures of these types have n bytes
unfoldable pub of_types : (ots tree n : ℕ) → Bool
of_types ots tree n = elim (table1 ots) [ None ↦ false | Some t ↦ elim (table2 tree) [ None ↦ false | Some h ↦ eqb n (signature_length t h) ] ]

unfoldable pub of_ots : (ots n : ℕ) → Bool
of_ots ots n = of_types ots 5 n || of_types ots 6 n || of_types ots 7 n || of_types ots 8 n || of_types ots 9 n

-- whether signatures of some types have n bytes
unfoldable pub possible_length : ℕ → Bool
possible_length n = of_ots 3 n || of_ots 4 n

-- Every valid signature has a possible length.
abbrev pub LengthPossible : Type 0
LengthPossible = (key message signature : List ℕ) → valid key message signature ≡ true → possible_length (length signature) ≡ true
