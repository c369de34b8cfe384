use mathlib.Core.Path.{◌≡◌}
use mathlib.Core.List.{◌++◌}
use Prim.Native.Nat.{◌-◌}
use lib.ListN.{drop}
use Rattle.lms.specs.Notation.{u16str, u32str}
use Rattle.lms.specs.Ots.{chain}
use Rattle.octets.proofs.BufferLaws.{Begun}
use Rattle.lms.proofs.ChainLaws.{padding55}
use Rattle.lms.proofs.ots.chain.Given as goal

abbrev pub invariant-loop-j : goal.invariant-loop-j
invariant-loop-j l =
    Begun 64 l.block (l.leaf.id ++ u32str l.leaf.q ++ u16str l.i) × (drop 55 l.block ≡ padding55) × (l.tmp ≡ chain l.leaf.id l.leaf.q l.i l.a l.y (l.j - l.a))
