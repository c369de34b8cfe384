-- What is shown of the definitions (in proofs/).
use Rattle.std.specs.Prelude.{◌≡◌, ℕ, ◌≤◌, Some}
use Rattle.decimal.specs.Decimal.{parsed, decimal}

-- a number as it is written is read as itself
abbrev pub ReadsPrinted : Type 0
ReadsPrinted = (n : ℕ) → n ≤ 4294967295 → parsed (decimal n) ≡ Some n
