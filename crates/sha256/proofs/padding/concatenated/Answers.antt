use Rattle.std.proofs.Common.{◌≡◌, ◌*◌, length, get_or, refl, ap, ◌∙◌, arith, rules}
use lib.Seq.{length-paste}
use Rattle.octets.specs.Octets.{bytes, joined}
use Rattle.octets.proofs.BigEndianLaws.{be_bytes_32}
use Rattle.octets.proofs.NumberLaws.{length-bytes}
use Rattle.sha256.specs.Sha256.{concatenated}
use Rattle.sha256.proofs.DigestLaws.{concatenated-more, concatenated-all}
use Rattle.sha256.proofs.padding.concatenated.Goals as goal

pub loop-i-init : goal.loop-i-init
unfolding concatenated joined
loop-i-init c = (search rules, refl, refl)

pub loop-i-preserved : goal.loop-i-preserved
loop-i-preserved c =
    let l = c.loop-i in
    let h = c.args.H in
    let b = c.to_be_bytes.result in
    let f : b ≡ bytes 4 (get_or h l.i 0) = c.to_be_bytes.ensures ∙ be_bytes_32 (get_or h l.i 0) in
    let n : length b ≡ 4 = ap length f ∙ length-bytes 4 (get_or h l.i 0) in
    let e = c.copy.ensures in (
      search rules,
      ap length e ∙ length-paste l.out (4 * l.i) b (length b) (omega arith) (omega arith) ∙ l.invariant.1,
      rw e (concatenated-more h l.out l.i l.invariant.2 b (omega arith) (omega arith) f),
    )

pub returns : goal.returns
returns c = let l = c.loop-i in concatenated-all _ _ l.i l.invariant.2 (search rules) l.invariant.1 c.loop-i-test.false
