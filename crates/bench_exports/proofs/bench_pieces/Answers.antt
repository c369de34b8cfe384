use Rattle.std.proofs.Common.{◌≡◌, ◌∙◌, sym, ap, List, ℕ, [], ◌++◌, append_assoc, append-nil}
use Rattle.std.proofs.lemmas.List.{nil_from_length}
use Rattle.std.specs.declared.slice.Chunks.{Chunks}
use Rattle.sha256.specs.Sha256.{digest}
use Rattle.bench_exports.proofs.bench_pieces.Goals as goal

pub loop-part-init : goal.loop-part-init
loop-part-init c =
    ([], (sym (ap (λ (p : Chunks ℕ). p.rest.now) c.into_iter-part-iterator.ensures.into_iter_gives ∙ c.chunks-part-items.ensures.rest), c.new-context.ensures))

pub loop-part-preserved : goal.loop-part-preserved
loop-part-preserved c =
    let m = c.loop-part.invariant.0 in
    let i = c.loop-part.invariant.1 in
    let part = c.in-Some.part.now in
    (m ++ part, (i.0 ∙ ap (λ (l : List ℕ). m ++ l) c.in-Some.ensures.steps.1.0 ∙ sym (append_assoc m part c.next.new.self.rest.now), c.update-context.ensures m i.1))

pub returns : goal.returns
returns c =
    let m = c.loop-part.invariant.0 in
    let i = c.loop-part.invariant.1 in
    let none : c.loop-part.part-iterator.rest.now ≡ [] = nil_from_length _ c.in-None.ensures.steps.1.0 in
    (c.finish.ensures m i.1).0 ∙ ap digest (sym (i.0 ∙ ap (λ (l : List ℕ). m ++ l) none ∙ append-nil m))
