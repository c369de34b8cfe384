use Rattle.std.proofs.Common.{arith}
use Rattle.wire.proofs.SizeLaws.{sized}
use Rattle.sender.specs.Job.{manifest_for, root_of, blocks}
use Rattle.sender.proofs.send.Job.to_manifest.Goals as goal

pub overflow_cast-result : goal.overflow_cast-result
overflow_cast-result c = let g = c.args.geometry in omega (arith, (sized _ _ g.allowed).most)

pub overflow_cast-result-2 : goal.overflow_cast-result-2
overflow_cast-result-2 c = let g = c.args.geometry in omega (arith, (sized _ _ g.allowed).total)

pub returns : goal.returns
unfolding manifest_for root_of blocks
returns c = cc (c.root.ensures.0, c.blocks-blocks.ensures.0, c.blocks-blocks.ensures.1, c.blocks-blocks.ensures.2, c.requires.block_len, c.requires.image_len)
