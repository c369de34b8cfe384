use Rattle.std.proofs.Common.{◌≡◌, rules, refl, sym, ap, ◌∙◌, ◌++◌, Err, arith, length}
use Rattle.octets.specs.Octets.{Bytes}
use Rattle.octets.proofs.NumberLaws.{part_bytes}
use Rattle.merkle.specs.Limits.{held_bytes}
use Rattle.machine.specs.declared.state.Device.{Device}
use Rattle.capi.specs.State.{hashes_at}
use Rattle.capi.proofs.StateLaws.{stage_length, view-is, encode-back}
use Rattle.capi.proofs.CallLaws.{unknown, unchanged, refused, accepted}
use Rattle.capi.proofs.received.Goals as goal

pub returns-in_default : goal.returns-in_default
returns-in_default c before = unknown _ (sym c.stage_in.ensures ∙ c.in_default.is) _ _ _ before

pub split_at_mut-fields-requires : goal.split_at_mut-fields-requires
split_at_mut-fields-requires c = let l = stage_length _ (sym c.stage_in.ensures ∙ c.in-Some.is) in omega arith

pub returns-in_err-after : goal.returns-in_err-after
returns-in_err-after c before =
    let split = c.split_at_mut-fields in
    let f = split.result.0.now in
    let h = split.result.1.now in
    let e = sym c.stage_in.ensures ∙ c.in-Some.is in
    let l = stage_length _ e in
    let lf : length f ≡ hashes_at = split.ensures.front_len in
    let lh : length h ≡ held_bytes = omega (arith, l, split.ensures.back_len) in
    let d = c.view_in-view.ensures h ∙ rw (sym split.ensures.value) at (view-is f h lf lh c.in-Some.stage) in
    let z = c.in_err-after.was in
    let r : c.from_residual.result ≡ Err c.in_err-after.field-0.0 = search rules in
    let same : f ++ c.receive_in_place-after.new.hashes ≡ c.args.state.now =
    ap (λ (x : Device). f ++ x.hashes) (unchanged _ e d _ _ _ lh c.receive_in_place-after.ensures z) ∙ sym split.ensures.value in
    rw r (refused _ e d _ _ _ lh c.receive_in_place-after.ensures before z same)

pub returns : goal.returns
returns c before =
    let split = c.split_at_mut-fields in
    let f = split.result.0.now in
    let h = split.result.1.now in
    let e = sym c.stage_in.ensures ∙ c.in-Some.is in
    let l = stage_length _ e in
    let lf : length f ≡ hashes_at = split.ensures.front_len in
    let lh : length h ≡ held_bytes = omega (arith, l, split.ensures.back_len) in
    let known = c.view_in-view.ensures h in
    let d = known ∙ rw (sym split.ensures.value) at (view-is f h lf lh c.in-Some.stage) in
    let whole : Bytes c.args.state.now = search rules in
    let bytes : Bytes f = rw split.ensures.front (part_bytes c.args.state.now whole 0 hashes_at (omega arith)) in
    accepted _ e d _ _ _ lh c.receive_in_place-after.ensures before c.in_ok-after.was
    (encode-back f _ bytes lf _ (ap (λ (x : Device). x.model) known) (ap (λ (x : Device). x.key) known) c.put_progress.ensures refl)
