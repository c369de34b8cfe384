use mathlib.Core.Path.{◌≡◌, sym, ◌∙◌}
use Rattle.std.specs.Prelude.{Some}
use Prim.Native.Nat.{◌<◌}
use native.Mathlib.Omega.{arith}
use lib.ListN.{length, length-set, get_or}
use Rattle.octets.proofs.CopyLaws.{paste-next}
use Rattle.ihex.specs.Line.{line_of}
use Rattle.ihex.specs.Code.{data_in}
use Rattle.ihex.proofs.LineReadLaws.{data-at}
use Rattle.ihex.proofs.write.put.Goals as goal

pub known_octet-requires : goal.known_octet-requires
known_octet-requires c =
    let d = data-at c.args.line.now c.loop-i.i (omega (arith, c.requires.0)) in
    (omega (arith, d.long), rw d.is)

pub loop-i-preserved : goal.loop-i-preserved
loop-i-preserved c =
    let l = c.loop-i in
    let h : l.i < length (data_in (line_of c.args.line.now)) = omega (arith, c.requires.0) in
    let e : Some c.known_octet.result ≡ Some (get_or (data_in (line_of c.args.line.now)) l.i 0) = sym c.known_octet.ensures ∙ (data-at _ l.i h).is in
    (simp length-set l.invariant.0, paste-next _ _ _ _ _ l.invariant.1 (omega (arith, c.requires.1)) h (cc))
