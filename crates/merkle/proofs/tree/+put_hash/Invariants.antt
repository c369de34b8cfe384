-- The measure is the number of blocks, which falls at both calls.
use Rattle.merkle.proofs.tree.+put_hash.Given as goal

abbrev pub decreases-put_hash : goal.decreases-put_hash
decreases-put_hash l = l.n
