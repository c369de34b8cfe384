use Rattle.std.proofs.Common.{◌≡◌, List, ℕ, ◌+◌, ◌*◌, ◌≤◌, pred, length, ap, ◌∙◌}
use Rattle.merkle.specs.Limits.{hash_length}
use Rattle.merkle.specs.Path.{leaf_depth}
use Rattle.wire.specs.declared.kind.Kind.TheVariants.{Update}
use Rattle.wire.specs.Message.{least_length, path_in}
use Rattle.wire.proofs.MessageLaws.{length-path-in}
use Rattle.device.proofs.view.View.judge_path.Goals as goal

-- the siblings, as they stand in the message, are as many as the leaf is deep
siblings-long : (k d n i : ℕ) (m siblings : List ℕ) → siblings ≡ path_in k d m → d ≡ leaf_depth n (pred i) → least_length Update + k + hash_length * d ≤ length m
    → length siblings ≡ hash_length * leaf_depth n (pred i)
siblings-long k d n i m siblings es ed long = ap length es ∙ length-path-in k m d long ∙ ap (λ (x : ℕ). hash_length * x) ed

pub strays-requires : goal.strays-requires
strays-requires c = siblings-long c.args.len c.args.depth _ c.args.place.now.number _ _ c.path_in-siblings.ensures c.requires.1 c.requires.2

pub strays-requires-2 : goal.strays-requires-2
strays-requires-2 c = siblings-long c.args.len c.args.depth _ c.args.place.now.number _ _ c.path_in-siblings.ensures c.requires.1 c.requires.2
