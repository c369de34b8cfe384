use Rattle.std.proofs.Common.{◌≤◌, refl, sym, ap, ◌∙◌, arith, length, length-take-le}
use Rattle.ihex.specs.Read.{TextOutcome}
use Rattle.ihex.proofs.ReadLaws.{read-room}
use Rattle.pack.specs.Make.{made_image}
use Rattle.pack.proofs.hex.image.Goals as goal

pub returns-in-Ok : goal.returns-in-Ok
returns-in-Ok g c =
    let a = c.args in
    let e = ap (λ (o : TextOutcome). o.answer) c.read.ensures ∙ c.in-Ok.is in
    let h : a.len ≤ length c.read.new.out = omega (arith, read-room _ _ _ _ e) in
    record {
      image_read = record { answered = sym (ap (made_image a.len) e); left = sym (ap (λ (o : TextOutcome). o.buffer) c.read.ensures) };
      prefix_len = (h, sym (length-take-le _ _ h));
    }

pub returns-in-Err : goal.returns-in-Err
returns-in-Err g c =
    let e = ap (λ (o : TextOutcome). o.answer) c.read.ensures ∙ c.in-Err.is in
    record {
      image_read = record { answered = sym (ap (made_image c.args.len) e); left = sym (ap (λ (o : TextOutcome). o.buffer) c.read.ensures) };
      prefix_len = tt;
    }
