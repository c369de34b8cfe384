use Rattle.std.proofs.Common.{◌∙◌, arith}
use Rattle.bundle.proofs.PartLaws.{starts-nowhere, nowhere-short, starts}
use Rattle.bundle.proofs.parts.start_of.Goals as goal

pub returns-in_err-trailer : goal.returns-in_err-trailer
returns-in_err-trailer c = c.from_residual.ensures ∙ starts-nowhere _ (nowhere-short _ (omega (arith, c.in_err-trailer.ensures)))

pub returns : goal.returns
returns c = let k = c.in_ok-trailer.ensures in starts _ _ _ _ k.0 k.1 c.u32_at-distance.ensures c.checked_sub-2.ensures
