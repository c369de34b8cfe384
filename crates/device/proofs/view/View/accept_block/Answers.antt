use Rattle.std.proofs.Common.{◌+◌, ◌≤◌, Bool, length, sym, ap, ◌∙◌, subst, arith}
use Rattle.wire.specs.Message.{hashes_after}
use Rattle.device.specs.Fields.{lent}
use Rattle.device.specs.Inner.{head_of}
use Rattle.device.proofs.ConditionLaws.{room}
use Rattle.device.proofs.AcceptLaws.{length-brought, begun, brought, siblings, update-is, block_is}
use Rattle.device.proofs.view.View.accept_block.Goals as goal

pub program_of-manifest-requires : goal.program_of-manifest-requires
program_of-manifest-requires c = let q = c.requires in begun c.args.self.now _ _ _ _ q.0 q.1 q.2 _ c.updates-update.ensures

pub number_of-requires : goal.number_of-requires
number_of-requires c = let q = c.requires in begun c.args.self.now _ _ _ _ q.0 q.1 q.2 _ c.updates-update.ensures

-- a place in its program, whose size was tested
pub invariant_of-place : goal.invariant_of-place
invariant_of-place c =
    let q = c.requires in
    let b = brought c.args.self.now _ _ _ _ q.0 q.1 q.2 _ c.updates-update.ensures c.program_of-manifest.ensures c.number_of.ensures in
    record { sized = b.size; low = b.low; high = b.high }

pub block_of-requires : goal.block_of-requires
block_of-requires c =
    let q = c.requires in
    let b = brought c.args.self.now _ _ _ _ q.0 q.1 q.2 _ c.updates-update.ensures c.program_of-manifest.ensures c.number_of.ensures in
    rw c.own_len-len.ensures b.long

pub write_block-requires : goal.write_block-requires
write_block-requires c =
    let a = c.args in
    let q = c.requires in
    let b = brought a.self.now _ _ _ _ q.0 q.1 q.2 _ c.updates-update.ensures c.program_of-manifest.ensures c.number_of.ensures in
    let long : head_of c.updates-update.result + c.own_len-len.result ≤ length a.message.now = rw c.own_len-len.ensures b.long in
    let l = ap length c.block_of.ensures ∙ length-brought _ _ a.message.now long ∙ c.own_len-len.ensures in
    rw c.from.ensures (b.low, omega (arith, l, room c.program_of-manifest.result a.flash.now _ b.room b.low b.high))

pub returns-then-update : goal.returns-then-update
returns-then-update c =
    let a = c.args in
    update-is (lent a.self.now a.hashes.now) a.flash.now a.message.now a.kind c.updates-update.ensures c.program_of-manifest.ensures c.number_of.ensures c.own_len-len.ensures c.block_of.ensures
    (rw c.from.ensures at c.write_block.ensures) c.if-update.true

pub hashes_after-requires : goal.hashes_after-requires
unfolding head_of
hashes_after-requires c =
    let q = c.requires in
    let b = brought c.args.self.now _ _ _ _ q.0 q.1 q.2 _ c.updates-update.ensures c.program_of-manifest.ensures c.number_of.ensures in
    let long : head_of c.updates-update.result + c.own_len-len.result ≤ length c.args.message.now = rw c.own_len-len.ensures b.long in
    subst (λ (u : Bool). head_of u + c.own_len-len.result ≤ length c.args.message.now) c.if-update.false long

pub advance-stage-requires : goal.advance-stage-requires
advance-stage-requires c =
    let q = c.requires in
    let s = siblings c.args.self.now _ _ _ _ q.0 q.1 q.2 _ c.updates-update.ensures c.program_of-manifest.ensures c.number_of.ensures c.if-update.false in
    ap length c.hashes_after.ensures ∙ ap (λ k. length (hashes_after k c.args.message.now)) c.own_len-len.ensures ∙ s

pub returns : goal.returns
returns c =
    let a = c.args in
    let z = c.if-update.false in
    block_is (lent a.self.now a.hashes.now) a.flash.now a.message.now a.kind c.updates-update.ensures c.program_of-manifest.ensures c.number_of.ensures c.own_len-len.ensures c.block_of.ensures
    (rw c.from.ensures at c.write_block.ensures) (c.requires.1 (sym c.updates-update.ensures ∙ z)) z c.hashes_after.ensures c.advance-stage.ensures.0 c.advance-stage.ensures.1
