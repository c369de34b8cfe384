use Rattle.std.proofs.Common.{sym, ◌∙◌}
use Rattle.wire.proofs.SizeLaws.{or-false}
use Rattle.wire.specs.Geometry.{count_of}
use Rattle.machine.specs.Refusals.{wrong_version, senseless}
use Rattle.device.proofs.conditions.senseless.Goals as goal

pub returns-then-broken : goal.returns-then-broken
unfolding senseless
returns-then-broken c model key hashes = rw (c.in-Loading.is, ← c.broken.ensures, c.if-broken.true)

pub known_geometry-requires : goal.known_geometry-requires
known_geometry-requires c = (or-false (wrong_version c.args.manifest) _ (sym c.broken.ensures ∙ c.if-broken.false)).1

pub returns-in-Idle : goal.returns-in-Idle
unfolding senseless
returns-in-Idle c model key hashes = rw c.in-Idle.is

pub returns-else-broken : goal.returns-else-broken
unfolding senseless count_of
returns-else-broken c model key hashes =
    let g = c.known_geometry.ensures in
    rw (c.in-Loading.is, ← c.broken.ensures, c.if-broken.false) (rw (c.count.ensures, g.0, g.1, c.from.ensures) at c.outside.ensures)

pub returns-in-Complete : goal.returns-in-Complete
unfolding senseless
returns-in-Complete c model key hashes = rw c.in-Complete.is c.broken-in-Complete.ensures
