use mathlib.Core.Path.{◌≡◌, refl, sym, ◌∙◌}
use mathlib.Core.List.{List, [], ◌∷◌, append-nil}
use Prim.Native.Nat.{ℕ, ◌-◌}
use native.Mathlib.Omega.{arith}
use lib.ListN.{length}
use borrow.Rule.Slice.PartMut.{put_mid, same_len_mid, mid_len}
use Rattle.octets.specs.Octets.{joined}
use Rattle.octets.proofs.BigEndianLaws.{be_bytes_32}
use Rattle.octets.proofs.NumberLaws.{length-bytes}
use Rattle.octets.proofs.JoinedLaws.{copied, copy, none}
use Rattle.merkle.specs.Limits.{held_bytes}
use Rattle.lms.specs.Lms.{key_length}
use Rattle.capi.specs.State.{stage_at, hashes_at, state_length}
use Rattle.capi.proofs.StateLaws.{lent-copied, encode-is}
use borrow.Author.Rules.{rules}
use Rattle.capi.proofs.state.to_bytes.Goals as goal

-- what is lent to put_progress comes back as long, and so does the array
array_long : (s p : List ℕ) → length s ≡ state_length → length p ≡ hashes_at - stage_at → length (put_mid stage_at (hashes_at - stage_at) s p) ≡ state_length
array_long s p l lp = same_len_mid stage_at (hashes_at - stage_at) s p (lp ∙ sym (mid_len stage_at hashes_at s (omega arith))) ∙ l

pub slice_bounds-copy-end-5 : goal.slice_bounds-copy-end-5
slice_bounds-copy-end-5 c = sym (array_long c.copy-2.new.dst c.put_progress.new.bytes (search rules) (search rules))

pub copy-requires-3 : goal.copy-requires-3
copy-requires-3 c =
    let l : length c.args.device.hashes ≡ held_bytes = search rules in
    let n = array_long c.copy-2.new.dst c.put_progress.new.bytes (search rules) (search rules) in
    omega arith

pub returns : goal.returns
unfolding joined
returns c =
    let d = c.args.device in
    let em = c.to_be_bytes.ensures ∙ be_bytes_32 _ in
    let p = c.put_progress.new.bytes in
    let lk : length d.key ≡ key_length = search rules in
    let lh : length d.hashes ≡ held_bytes = search rules in
    let lp : length p ≡ hashes_at - stage_at = search rules in
    copied (4 ∷ key_length ∷ (hashes_at - stage_at) ∷ held_bytes ∷ []) (c.to_be_bytes.result ∷ d.key ∷ p ∷ d.hashes ∷ []) (rw (em, lk, lp, lh) (simp length-bytes))
    (copy c.copy.ensures (copy c.copy-2.ensures (copy (lent-copied c.copy-2.new.dst p stage_at lp) (copy c.copy-3.ensures none))))
    ∙ rw (append-nil d.hashes) (encode-is d em refl c.put_progress.ensures refl)
