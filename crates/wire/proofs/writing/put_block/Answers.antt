use Rattle.std.proofs.Common.{ℕ, ◌+◌, List, length, arith, refl, ap, ◌∙◌}
use Rattle.octets.proofs.BigEndianLaws.{be_bytes_16}
use Rattle.wire.specs.declared.kind.Kind.TheVariants.{Block}
use Rattle.wire.specs.Message.{least_length, at_start}
use Rattle.wire.proofs.MessageLaws.{block-parts}
use Rattle.wire.proofs.PutLaws.{put_first, put-more, put_all}
use Rattle.wire.proofs.writing.put_block.Goals as goal

pub returns : goal.returns
returns c =
    let a = c.args in
    let digits = c.to_be_bytes in
    -- the buffer after each copy: number, block
    let put_1 = put-more (put_first a.out.now 2 (omega (arith, c.requires))) digits.result (least_length Block) (omega (arith, c.requires)) (omega arith) c.copy.ensures in
    let put_2 = put-more put_1 a.block.now (least_length Block + length a.block.now) (omega (arith, c.requires)) refl c.copy-2.ensures in
    (refl, (rw (digits.ensures ∙ be_bytes_16 a.number) at (put_all put_2)) ∙ ap (λ (p : List ℕ). at_start p a.out.now) (block-parts a.number a.block.now))
