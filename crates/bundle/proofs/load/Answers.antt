use mathlib.Core.Path.{ap}
use native.Mathlib.Omega.{arith}
use lib.ListN.{length}
use borrow.Author.Rules.{rules}
use Rattle.decimal.proofs.AppendedLaws.{length-kept}
use Rattle.machine.specs.declared.state.Device.{Device}
use Rattle.machine.specs.Device.{fresh_with}
use Rattle.bundle.proofs.LoadLaws.{device-is, first-line, load-key, load-over, load-all}
use Rattle.bundle.proofs.load.Goals as goal

pub returns-then-key-ne-KEY_FILE_LEN-clause-out_value : goal.returns-then-key-ne-KEY_FILE_LEN-clause-out_value
returns-then-key-ne-KEY_FILE_LEN-clause-out_value c = load-key _ _ _ _ (omega arith) c.if-key-ne-KEY_FILE_LEN.true (search rules)

pub returns-then-bundle-gt-BUNDLE_LEN-clause-out_value : goal.returns-then-bundle-gt-BUNDLE_LEN-clause-out_value
returns-then-bundle-gt-BUNDLE_LEN-clause-out_value c = load-over _ _ _ _ (omega arith) (omega arith) (omega arith) (search rules)

pub messages-last-requires : goal.messages-last-requires
unfolding fresh_with
messages-last-requires c =
    let l = first-line (length c.args.bundle.now) c.put_line.ensures.put (omega arith) (omega (arith, c.if-out-lt-OUT_LEN.false)) in
    (ap (λ (d : Device). d.stage) c.fresh-device.ensures, omega (arith, l.0, l.1, c.if-out-lt-OUT_LEN.false))

pub put_state-requires : goal.put_state-requires
put_state-requires c =
    let l = first-line (length c.args.bundle.now) c.put_line.ensures.put (omega arith) (omega (arith, c.if-out-lt-OUT_LEN.false)) in
    let m = c.messages-last.ensures in
    let k = length-kept m.ran.appended (omega (arith, l.0, l.1, m.short, m.ran.appended.end, c.if-out-lt-OUT_LEN.false)) in
    omega (arith, l.0, l.1, m.short, k, c.if-out-lt-OUT_LEN.false)

pub returns-clause-out_value : goal.returns-clause-out_value
returns-clause-out_value c =
    let w = c.put_line.ensures.put in
    let l = first-line (length c.args.bundle.now) w (omega arith) (omega (arith, c.if-out-lt-OUT_LEN.false)) in
    let m = c.messages-last.ensures in
    let v = c.put_state.ensures in
    let d = device-is c.args.key.now c.fresh-device.ensures c.u32_at.ensures c.array_at.ensures in
    load-all _ _ _ _ (omega (arith, c.if-out-lt-OUT_LEN.false)) (omega (arith, c.if-key-ne-KEY_FILE_LEN.false)) (omega (arith, c.if-bundle-gt-BUNDLE_LEN.false)) d w l.1 m.ran (search rules)
    (omega (arith, v.short, m.short, l.0, c.if-out-lt-OUT_LEN.false))
