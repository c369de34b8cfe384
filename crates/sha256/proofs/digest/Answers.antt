use Rattle.std.proofs.Common.{◌≡◌, ◌-◌, ◌*◌, ◌%◌, ◌^◌, ◌∷◌, ◌++◌, length, take, set, replicate, refl, sym, ap, ◌∙◌, arith, rules}
use Rattle.octets.specs.Octets.{bytes}
use Rattle.octets.proofs.BigEndianLaws.{be_bytes_64}
use Rattle.sha256.specs.Sha256.{H0, compress, concatenated, digest}
use Rattle.sha256.specs.Context.{Pending}
use Rattle.sha256.proofs.HashLaws.{length_rest}
use Rattle.sha256.proofs.PaddingLaws.{marked, closed, digest-one, digest-two, compressions-is}
use Rattle.sha256.proofs.digest.Goals.{then-used-ge56, else-used-ge56}
use Rattle.sha256.proofs.digest.Goals as goal

pub returns : goal.returns
unfolding H0
returns c =
    let s = c.args.message.now in
    let rest = c.compress_all-rest.result.now in
    let used = length rest in
    let n : length s ≡ length s % 2 ^ 64 = omega arith in
    let p : Pending c.compress_all-rest.new.H rest (length s) s = record { compressed = c.compress_all-rest.ensures.0; waiting = c.compress_all-rest.ensures.1; counted = n } in
    let l = length_rest p in
    -- the block with the rest's bytes and 0x80
    let first : set c.copy.new.dst used 0x80 ≡ rest ++ (0x80 ∷ replicate (63 - length rest) 0) =
    rw c.copy.ensures (marked rest used refl (omega arith)) in
    -- the last block, before its length is written, and the digest once it is
    let j = c.if-used-ge56 in
    let full : length j.b ≡ 64 = elim j.branch [ then-used-ge56 w ↦ ap length w.b-is ∙ search rules | else-used-ge56 w ↦ ap length w.b-is ∙ search rules ] in
    let ended : concatenated (compress j.H (take 56 j.b ++ bytes 8 (8 * length s))) ≡ digest s =
    elim j.branch [
      | then-used-ge56 w ↦ rw (w.H-is, w.b-is, w.compress.ensures) (digest-two p (omega (arith, w.if-used-ge56.true)) (omega arith) _ first)
      | else-used-ge56 w ↦ rw (w.H-is, w.b-is) (digest-one p (omega (arith, w.if-used-ge56.false)) _ first)
    ] in (
      c.concatenated.ensures
          ∙ ap concatenated (c.compress-2.ensures ∙ ap (compress j.H) (c.copy-2.ensures ∙ closed j.b c.to_be_bytes.result (length s) full (c.to_be_bytes.ensures ∙ be_bytes_64 _)))
          ∙ ended,
      c.compressions.ensures ∙ sym (compressions-is s),
    )
