use Rattle.std.proofs.Common.{◌+◌, ◌/◌, sym, ap, ◌∙◌, arith}
use Rattle.sha256.proofs.HashLaws.{finished}
use Rattle.sha256.proofs.PaddingLaws.{padding-mod, compressions-is}
use Rattle.sha256.proofs.context.Context.finish.Goals as goal

pub returns : goal.returns
returns c =
    let e = rw (← c.padding_len-n.ensures) at c.padding-p.ensures in
    λ m p. (
      c.concatenated.ensures ∙ finished m _ (e ∙ padding-mod _ _ p.counted) (c.update-c.ensures m p),
      λ h. c.compressions.ensures ∙ ap (λ k. (k + 9 + 63) / 64) (omega (arith, p.counted)) ∙ sym (compressions-is m),
    )
