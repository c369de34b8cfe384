-- A block message against the flat array: what one that fits keeps, and that the sender's fit, one after the other.
use Rattle.std.proofs.Common.{◌≡◌, ℕ, suc, ◌*◌, ◌<◌, ◌≤◌, true, List, [], ◌∷◌, ◌++◌, length, sym, ap, ◌∙◌, ap₂, arith}
use mathlib.Core.List.{head-eq_of_cons-eq, tail-eq_of_cons-eq}
use Rattle.octets.proofs.EqualLaws.{equal-self, equal-true}
use Rattle.octets.specs.Octets.{joined}
use Rattle.merkle.specs.Limits.{hash_length, max_blocks, held_bytes}
use Rattle.merkle.specs.Shape.{Place, shape}
use Rattle.merkle.specs.Hash.{Hashing, hashes, climb}
use Rattle.merkle.specs.Frontier.{siblings, frontier, carried_count}
use Rattle.merkle.specs.Held.{hashes_in, held_in, next_held, advanced, fits, sent}
use Rattle.merkle.specs.Claims.{Advance}
use Rattle.merkle.proofs.ShapeLaws.{size-shape}
use Rattle.merkle.proofs.HashLaws.{length-hashes, length-hash}
use Rattle.merkle.proofs.LoadingLaws.{NextHashes, next-hashes, Loaded, loaded-step}
use Rattle.merkle.proofs.HeldLaws.{length-hashes_in, Sized, none, more, length-joined, hashes_in-joined, advance}

module _ (H : Hashing) where
  -- A block that fits keeps the array loaded.
  pub loaded-fits : (n i : ℕ) (root array message : List ℕ) (before after : ℕ → List ℕ) → i < n → n ≤ max_blocks → length array ≡ held_bytes
      → length message ≡ hash_length * carried_count n (suc i) → ((j : ℕ) → j < i → after j ≡ before j) → fits H n i array (after i) message ≡ true
      → Loaded H (shape n) root i before (held_in n i array) → Loaded H (shape n) root (suc i) after (held_in n (suc i) (advanced n i array message))
  unfolding fits carried_count
  loaded-fits n i root array message before after h le la lm same ok loaded =
      let a : Advance n i array message = advance n i array message h le la lm in
      let e : next_held n i array ≡ climb H (after i) (hashes_in (carried_count n (suc i)) message) = equal-true (next_held n i array) _ ok in
      rw a.then
      (loaded-step H (shape n) root i before after a.others (hashes_in (carried_count n (suc i)) message) (rw (size-shape n (omega arith)) h) same
      (length-hashes_in (carried_count n (suc i)) message) (rw (sym e) (rw a.first at loaded)))

  module _ (sized : (x : List ℕ) → length (H.function x) ≡ hash_length) where
    pub sized-hashes : (f : ℕ → List ℕ) (ps : List Place) → Sized (hashes H f ps)
    unfolding hashes
    sized-hashes f [] = none
    sized-hashes f (x ∷ ps) = more (length-hash H sized f x.0 x.1) (sized-hashes f ps)

    -- Their bytes, one behind the other, give the hashes back.
    pub hashes-back : (f : ℕ → List ℕ) (ps : List Place) → hashes_in (length ps) (joined (hashes H f ps)) ≡ hashes H f ps
    hashes-back f ps = ap (λ c. hashes_in c (joined (hashes H f ps))) (sym (length-hashes H f ps)) ∙ hashes_in-joined (sized-hashes f ps)

    pub length-sent : (n : ℕ) (f : ℕ → List ℕ) (i : ℕ) → length (sent H n f i) ≡ hash_length * carried_count n (suc i)
    unfolding sent carried_count
    length-sent n f i =
        length-joined (sized-hashes f (siblings 0 (shape n) i)) ∙ ap (λ c. hash_length * c) (length-hashes H f (siblings 0 (shape n) i))

    hashes_in-sent : (n : ℕ) (f : ℕ → List ℕ) (i : ℕ) → hashes_in (carried_count n (suc i)) (sent H n f i) ≡ hashes H f (siblings 0 (shape n) i)
    unfolding sent carried_count
    hashes_in-sent n f i = hashes-back f (siblings 0 (shape n) i)

    -- The image's hashes at the frontier are held.
    abbrev pub Holds : ℕ → (ℕ → List ℕ) → ℕ → List ℕ → Type 0
    Holds n f i array = held_in n i array ≡ hashes H f (frontier 0 (shape n) i)

    -- The sender's message fits, and afterwards the image's hashes at the next frontier are held.
    pub record SentFits (n : ℕ) (f : ℕ → List ℕ) (i : ℕ) (array : List ℕ) : Type 0 where
      pub accepted : fits H n i array (f i) (sent H n f i) ≡ true
      pub holds : Holds n f (suc i) (advanced n i array (sent H n f i))
      pub size : length (advanced n i array (sent H n f i)) ≡ held_bytes

    pub sent-fits : (n : ℕ) (f : ℕ → List ℕ) (i : ℕ) (array : List ℕ) → i < n → n ≤ max_blocks → length array ≡ held_bytes → Holds n f i array → SentFits n f i array
    unfolding fits
    sent-fits n f i array h le la holds =
        let a : Advance n i array (sent H n f i) = advance n i array (sent H n f i) h le la (length-sent n f i) in
        let k : NextHashes H f (shape n) i = next-hashes H f (shape n) i (rw (size-shape n (omega arith)) h) in
        let both = sym a.first ∙ holds ∙ k.first in
        record {
          accepted = rw (hashes_in-sent n f i, head-eq_of_cons-eq both) (equal-self _);
          holds = a.then ∙ ap₂ {C = List (List ℕ)} (λ x y. x ++ y) (hashes_in-sent n f i) (tail-eq_of_cons-eq both) ∙ sym k.then;
          size = a.size;
        }
