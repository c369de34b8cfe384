use Rattle.std.proofs.Common.{◌≡◌, ◌∙◌, arith}
use Rattle.merkle.specs.Blocks.{block_count}
use Rattle.wire.proofs.SizeLaws.{sized}
use Rattle.capi.proofs.status.with_manifest.Goals as goal

pub overflow_cast-count : goal.overflow_cast-count
overflow_cast-count c =
    let m = c.args.manifest in
    let g = c.known_geometry.ensures in
    let e : c.count-count.result ≡ block_count m.block_len m.image_len = c.count-count.ensures ∙ rw (g.0, g.1) in
    omega (arith, e, (sized _ _ c.requires).count)
