-- Loading and the honest run, both from one law on the hashes at two frontiers that follow each other.
use Rattle.std.proofs.Common.{◌≡◌, ℕ, suc, ◌<◌, List, [], ◌∷◌, ◌++◌, length, sym, refl, ap, ◌∙◌, ap₂, zero-add, arith}
use mathlib.Core.List.{head-eq_of_cons-eq}
use Rattle.merkle.specs.Shape.{Shape, size}
use Rattle.merkle.specs.Hash.{Hashing, hash, hashes, climb}
use Rattle.merkle.specs.Frontier.{largest, siblings, frontier}
use Rattle.merkle.specs.Claims.{Next}
use Rattle.merkle.proofs.FrontierLaws.{next, frontier-zero, frontier-all}
use Rattle.merkle.proofs.HashLaws.{append_inj, length-hashes, hashes-append, hash-climb}

module _ (H : Hashing) where
  -- The first hash at a frontier is worked out from the next block and its siblings' hashes, which take its place at the next frontier.
  pub record NextHashes (f : ℕ → List ℕ) (s : Shape) (i : ℕ) : Type 0 where
    pub others : List (List ℕ)
    pub first : hashes H f (frontier 0 s i) ≡ climb H (f i) (hashes H f (siblings 0 s i)) ∷ others
    pub then : hashes H f (frontier 0 s (suc i)) ≡ hashes H f (siblings 0 s i) ++ others

  pub next-hashes : (f : ℕ → List ℕ) (s : Shape) (i : ℕ) → i < size s → NextHashes f s i
  unfolding siblings hashes
  next-hashes f s i h =
      let n : Next 0 s i = next 0 s i h in
      let at : (largest 0 s i).0 ≡ i = n.starts ∙ zero-add i in
      record {
        others = hashes H f n.others;
        first = ap (hashes H f) n.first
            ∙ ap {B = List (List ℕ)} (λ x. x ∷ hashes H f n.others)
            (hash-climb H f (largest 0 s i).0 (largest 0 s i).1 ∙ ap (λ k. climb H (f k) (hashes H f (siblings 0 s i))) at);
        then = ap (hashes H f) n.then ∙ hashes-append H f (siblings 0 s i) n.others;
      }

  -- After i accepted blocks: any blocks that agree with the accepted ones, and whose hashes at the frontier are the held ones, have the root.
  unfoldable pub Loaded : Shape → List ℕ → ℕ → (ℕ → List ℕ) → List (List ℕ) → Type 0
  Loaded s root i accepted held =
      (f : ℕ → List ℕ) → ((j : ℕ) → j < i → f j ≡ accepted j) → hashes H f (frontier 0 s i) ≡ held → hash H f 0 s ≡ root

  -- Before the first block the root is held.
  pub hashes-zero : (f : ℕ → List ℕ) (s : Shape) → hashes H f (frontier 0 s 0) ≡ hash H f 0 s ∷ []
  unfolding hashes
  hashes-zero f s = ap (hashes H f) (frontier-zero 0 s)

  pub loaded-start : (s : Shape) (root : List ℕ) (accepted : ℕ → List ℕ) → Loaded s root 0 accepted (root ∷ [])
  unfolding Loaded
  loaded-start s root accepted f same e = head-eq_of_cons-eq (sym (hashes-zero f s) ∙ e)

  -- A block whose hash, worked out with the message's hashes, is the first held one.
  pub loaded-step : (s : Shape) (root : List ℕ) (i : ℕ) (before after : ℕ → List ℕ) (held message : List (List ℕ))
      → i < size s → ((j : ℕ) → j < i → after j ≡ before j) → length message ≡ length (siblings 0 s i)
      → Loaded s root i before (climb H (after i) message ∷ held) → Loaded s root (suc i) after (message ++ held)
  unfolding Loaded
  loaded-step s root i before after held message h same count loaded f agree e =
      let k : NextHashes f s i = next-hashes f s i h in
      let mine : List (List ℕ) = hashes H f (siblings 0 s i) in
      let w : (mine ≡ message) × (k.others ≡ held) =
      append_inj mine message (length-hashes H f (siblings 0 s i) ∙ sym count) (sym k.then ∙ e) in
      loaded f (λ j g. agree j (omega arith) ∙ same j g)
      (k.first ∙ ap₂ {C = List (List ℕ)} (λ x y. x ∷ y) (ap₂ (climb H) (agree i (omega arith)) w.0) w.1)

  -- After the last block the tree over the accepted ones has the root.
  pub loaded-end : (s : Shape) (root : List ℕ) (accepted : ℕ → List ℕ) → Loaded s root (size s) accepted [] → hash H accepted 0 s ≡ root
  unfolding Loaded hashes
  loaded-end s root accepted loaded = loaded accepted (λ j g. refl) (rw (frontier-all 0 s))
