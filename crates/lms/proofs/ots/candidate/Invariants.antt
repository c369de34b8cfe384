use mathlib.Core.List.{◌++◌}
use Prim.Native.Nat.{◌*◌}
use Rattle.sha256.specs.Context.{Absorbed}
use Rattle.octets.specs.Octets.{part}
use Rattle.lms.specs.Notation.{u16str, u32str, D_PBLC}
use Rattle.lms.specs.Ots.{zs}
use Rattle.lms.proofs.ots.candidate.Given as goal

abbrev pub invariant-loop-i : goal.invariant-loop-i
invariant-loop-i l =
    Absorbed l.context (l.leaf.id ++ u32str l.leaf.q ++ u16str D_PBLC ++ zs l.leaf.id l.leaf.q l.t.w l.digits (part 36 (32 * l.t.p) l.signature) l.i)
