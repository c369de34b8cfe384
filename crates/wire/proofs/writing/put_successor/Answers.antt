use Rattle.std.proofs.Common.{ℕ, ◌+◌, List, length, arith, refl, ap, ◌∙◌}
use Rattle.octets.proofs.BigEndianLaws.{be_bytes_16}
use Rattle.wire.specs.declared.kind.Kind.TheVariants.{Program, Update}
use Rattle.wire.specs.Message.{least_length, at_start}
use Rattle.wire.proofs.MessageLaws.{successor-parts}
use Rattle.wire.proofs.PutLaws.{put_first, put-more, put_all}
use Rattle.wire.proofs.writing.put_successor.Goals as goal

pub returns : goal.returns
returns c =
    let a = c.args in
    let t = c.to_bytes in
    let digits = c.to_be_bytes in
    -- the buffer after each copy: manifest, number, block
    let put_1 = put-more (put_first a.out.now a.kind (omega (arith, c.requires))) t.result (least_length Program) (omega (arith, c.requires)) (omega arith) c.copy.ensures in
    let put_2 = put-more put_1 digits.result (least_length Update) (omega (arith, c.requires)) (omega arith) c.copy-2.ensures in
    let put_3 = put-more put_2 a.block.now (least_length Update + length a.block.now) (omega (arith, c.requires)) refl c.copy-3.ensures in
    (refl, (rw (t.ensures, digits.ensures ∙ be_bytes_16 a.number) at (put_all put_3)) ∙ ap (λ (p : List ℕ). at_start p a.out.now) (successor-parts a.kind a.manifest a.number a.block.now))
