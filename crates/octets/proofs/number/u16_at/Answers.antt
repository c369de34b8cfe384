use native.Mathlib.Omega.{arith}
use Rattle.octets.proofs.NumberLaws.{number-two}
use Rattle.octets.proofs.number.u16_at.Goals as goal

pub returns : goal.returns
returns c = let a = c.args in omega (arith, c.from_be_bytes.ensures, number-two a.s.now a.at c.requires)
