use Rattle.std.proofs.Common.{ℕ, List, ◌++◌, ap, ◌∙◌, arith, rules}
use Rattle.octets.specs.Octets.{bytes}
use Rattle.octets.proofs.BigEndianLaws.{be_bytes_16}
use Rattle.lms.specs.Ots.{checked}
use Rattle.lms.specs.Types.{row}
use Rattle.lms.proofs.DigitLaws.{checksum-small, checksum-shift}
use Rattle.lms.proofs.HashLaws.{filled-two}
use Rattle.lms.proofs.ots.checked.Goals as goal

pub overflow_cast-checksum : goal.overflow_cast-checksum
overflow_cast-checksum c =
    let t = c.args.t in
    let e = checksum-shift (row t) c.args.digest.now t.sound c.steps-sum.ensures in
    record { fits = omega (arith, e, checksum-small (row t) c.args.digest.now t.sound) }

pub returns : goal.returns
unfolding checked
returns c =
    let t = c.args.t in
    let digest = c.args.digest.now in
    filled-two 34 32 digest c.to_be_bytes.result (search rules) (search rules) c.copy.ensures c.copy-2.ensures
    ∙ ap (λ (x : List ℕ). digest ++ x) (c.to_be_bytes.ensures ∙ be_bytes_16 _ ∙ ap (bytes 2) (checksum-shift (row t) digest t.sound c.steps-sum.ensures))
