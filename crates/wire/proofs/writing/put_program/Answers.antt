use Rattle.std.proofs.Common.{ℕ, ◌+◌, List, length, arith, refl, ap, ◌∙◌}
use Rattle.wire.specs.declared.kind.Kind.TheVariants.{Program}
use Rattle.wire.specs.Message.{least_length, at_start}
use Rattle.wire.proofs.MessageLaws.{program-parts}
use Rattle.wire.proofs.PutLaws.{put_first, put-more, put_all}
use Rattle.wire.proofs.writing.put_program.Goals as goal

pub returns : goal.returns
returns c =
    let a = c.args in
    -- the buffer after each copy: manifest, signature
    let put_1 = put-more (put_first a.out.now 1 (omega (arith, c.requires))) c.to_bytes.result (least_length Program) (omega (arith, c.requires)) (omega arith) c.copy.ensures in
    let put_2 = put-more put_1 a.signature.now (least_length Program + length a.signature.now) (omega (arith, c.requires)) refl c.copy-2.ensures in
    (rw c.to_bytes.ensures at (put_all put_2)) ∙ ap (λ (p : List ℕ). at_start p a.out.now) (program-parts a.manifest a.signature.now)
