use mathlib.Core.Path.{◌∙◌, ap}
use Prim.Native.Nat.{ℕ, ◌≤◌}
use lib.ListN.{take}
use lib.Seq.{take-length}
use native.Mathlib.Omega.{arith}
use Rattle.sender.proofs.BlockLaws.{counted}
use Rattle.sender.proofs.send.Image.blocks.Goals as goal

pub blocks-requires : goal.blocks-requires
blocks-requires c = omega (arith, c.requires.image_len)

pub returns : goal.returns
returns c = (c.blocks-2.ensures.0 ∙ ap (λ (n : ℕ). take n c.args.self.now.bytes.now) c.requires.image_len ∙ take-length _, c.blocks-2.ensures.1 ∙ c.requires.block_len, c.blocks-2.ensures.2 ∙ counted c.requires)
