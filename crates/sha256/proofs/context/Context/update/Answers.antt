use Rattle.std.proofs.Common.{◌≡◌, ℕ, ◌+◌, ◌-◌, ◌%◌, ◌^◌, List, [], ◌++◌, length, take, refl, sym, ap, ◌∙◌, arith, length-take-le, take-append-drop, rules}
use denote.Ref.{Bor}
use Rattle.octets.proofs.CopyLaws.{part-from}
use Rattle.sha256.specs.Sha256.{compress}
use Rattle.sha256.specs.Context.{Pending, Absorbed}
use Rattle.sha256.specs.declared.context.Context.{Context}
use Rattle.sha256.proofs.ContextLaws.{stored, completed, none-waits, continued}
use Rattle.sha256.proofs.context.Context.update.Goals.{then-used-gt0, else-used-gt0}
use Rattle.sha256.proofs.context.Context.update.Goals as goal

pub returns-then-piece-room : goal.returns-then-piece-room
returns-then-piece-room c =
    let a = c.args in
    λ m p. rw c.copy.ensures (stored a.self.buffer (search rules) p a.piece.now (omega (arith, c.if-piece-room.true)) refl)

pub returns : goal.returns
returns c =
    let a = c.args in
    let s = a.piece.now in
    let j = c.if-used-gt0 in
    let room = 64 - a.self.length % 64 in
    let full : length a.self.buffer ≡ 64 = search rules in
    -- the part of the piece that completes the block
    let part_length : length (take room s) ≡ room = length-take-le room s c.if-piece-room.false in
    -- what is left of the piece starts a block
    let started : (f : List ℕ) × ((s ≡ f ++ j.left.now) × ((m : List ℕ) → Absorbed a.self m → Pending j.self.H [] ((a.self.length + length f) % 2 ^ 64) (m ++ f))) =
    elim j.branch [
      | then-used-gt0 w ↦ (
        take room s,
        (
          sym (take-append-drop room s) ∙ ap (λ l. take room s ++ l) (sym (ap (λ (b : Bor (List ℕ)). b.now) w.left-is ∙ part-from s room)),
          λ m p. completed a.self.buffer full p (take room s) (omega arith)
              (ap (λ (x : Context). x.H) w.self-is ∙ w.compress.ensures ∙ ap (compress a.self.H) w.copy-then-used-gt0.ensures),
        ),
      )
      | else-used-gt0 w ↦ ([], (ap (λ (b : Bor (List ℕ)). b.now) (sym w.left-is), λ m p. rw (ap (λ (x : Context). x.H) w.self-is) (none-waits a.self.buffer (omega (arith, w.if-used-gt0.false)) p)))
    ] in
    let same_length : j.self.length ≡ (a.self.length + length s) % 2 ^ 64 =
    elim j.branch [ then-used-gt0 w ↦ ap (λ (x : Context). x.length) w.self-is | else-used-gt0 w ↦ ap (λ (x : Context). x.length) w.self-is ] in
    λ m p. rw (c.copy-2.ensures, started.1.0)
    (continued j.self.buffer a.self.length m started.0 j.left.now (started.1.1 m p) c.compress_all-rest.ensures.0 c.compress_all-rest.ensures.1
    (same_length ∙ ap (λ l. (a.self.length + length l) % 2 ^ 64) started.1.0))
