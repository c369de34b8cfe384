-- `merkle::frontier::begin` meets its contract: zeros, and the root at the end.
use Rattle.std.proofs.Common.{ℕ, ◌≡◌, ◌-◌, List, [], ◌∷◌, ◌++◌, replicate, length, refl, ap, ◌∙◌, append-nil, arith}
use Rattle.octets.specs.Octets.{joined}
use Rattle.octets.proofs.JoinedLaws.{copied-over, copy, none}
use Rattle.merkle.specs.Limits.{hash_length, held_bytes}
use Rattle.merkle.specs.Held.{begun}
use Rattle.merkle.proofs.frontier.begin.Goals as goal

pub returns : goal.returns
unfolding begun joined
returns c =
    let root = c.args.root.now in
    let root_long : length root ≡ hash_length = omega arith in
    let zeros = replicate {A = ℕ} (held_bytes - hash_length) 0 in
    copied-over ((held_bytes - hash_length) ∷ hash_length ∷ []) (zeros ∷ root ∷ []) (rw root_long refl) {d = c.args.hashes.now} (omega arith) (copy c.copy.ensures (copy c.copy-2.ensures none))
    ∙ ap (λ (x : List ℕ). zeros ++ x) (append-nil root)
