use Rattle.std.proofs.Common.{◌≡◌, ◌∙◌, [], ◌∷◌, arith, length}
use Rattle.octets.proofs.NumberLaws.{length-bytes}
use Rattle.octets.proofs.JoinedLaws.{copied-over, copy, none}
use Rattle.octets.proofs.BigEndianLaws.{be_bytes_16}
use Rattle.wire.specs.Manifest.{manifest_length}
use Rattle.capi.proofs.StateLaws.{progress_lengths}
use Rattle.capi.proofs.state.put_progress.Goals as goal

pub returns : goal.returns
returns c =
    let es = c.to_be_bytes.ensures ∙ be_bytes_16 _ in
    let en = c.to_be_bytes-2.ensures ∙ be_bytes_16 _ in
    let lw : length c.to_bytes.result ≡ manifest_length = omega (arith, c.to_bytes.type_inv) in
    copied-over progress_lengths (c.to_be_bytes.result ∷ c.to_be_bytes-2.result ∷ c.to_bytes.result ∷ []) (rw (es, en, lw) (simp length-bytes))
    c.requires (copy c.copy.ensures (copy c.copy-2.ensures (copy c.copy-3.ensures none)))
    ∙ cc (es, c.stage_number.ensures, en, c.next_of.ensures, c.to_bytes.ensures)
