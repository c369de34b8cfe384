-- For the code alone: the turns of a block's way as one number.
use Rattle.std.specs.Prelude.{ℕ, ◌+◌, ◌*◌, Bool, cond, List, [], ◌∷◌}
use Rattle.merkle.specs.Shape.{Place}

-- A bit for each node above the block, the lowest bit for the lowest node: 1 where the block goes right, so that the sibling stands on the left.
unfoldable pub turns_of : List (Place × Bool) → ℕ
turns_of [] = 0
turns_of (w ∷ ws) = cond w.1 0 1 + 2 * turns_of ws
