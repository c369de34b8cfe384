-- A buffer that is written piece by piece.
use mathlib.Core.Path.{◌≡◌, sym, ap, ap₂, ◌∙◌}
use mathlib.Core.List.{List, [], ◌++◌, append_assoc}
use Prim.Native.Nat.{ℕ, ◌+◌, ◌≤◌}
use native.Mathlib.Omega.{arith}
use lib.ListN.{length, take, drop, length-append}
use lib.Seq.{paste, paste-zero, length-paste, length_paste_head, take-paste, take-length}
use Rattle.octets.proofs.CopyLaws.{paste-behind}
use Rattle.decimal.specs.Buffer.{Appended}

-- nothing
pub appended-none : (out : List ℕ) (at : ℕ) → Appended out at out at []
appended-none out at = record { end = omega arith; bytes = paste-zero out at [] }

module _ {out out' text : List ℕ} {at next : ℕ} (w : Appended out at out' next text) where
  pub length-kept : at + length text ≤ length out → length out' ≡ length out
  length-kept h = ap length w.bytes ∙ length-paste out at text (length text) h (omega arith)

  -- k bytes more have room
  pub room : (k : ℕ) → at + length text + k ≤ length out → next + k ≤ length out'
  room k h = omega (arith, w.end, length-kept (omega arith))

  -- the same text, told in another way
  pub retold : {text' : List ℕ} → text ≡ text' → Appended out at out' next text'
  retold e = record { end = rw (← e) w.end; bytes = rw (← e) w.bytes }

  -- one text behind another
  pub joined : {out'' more : List ℕ} {last : ℕ} → Appended out' next out'' last more → at + length text + length more ≤ length out → Appended out at out'' last (text ++ more)
  joined {out''} {more} {last} v h =
      let k : ℕ = at + length text in
      let p : List ℕ = take at out ++ take (length text) text in
      let l : length (text ++ more) ≡ length text + length more = length-append text more in
      let z : k + length more ≡ at + length (text ++ more) = omega arith in
      record {
        end = v.end ∙ omega (arith, w.end);
        bytes = v.bytes
            ∙ ap₂ {C = List ℕ} (λ (o : List ℕ) (n : ℕ). paste o n more (length more)) w.bytes w.end
            ∙ paste-behind out p more k (length_paste_head out at text (length text) (omega arith) (omega arith)) h
            ∙ ap₂ {C = List ℕ} (λ (x : List ℕ) (n : ℕ). x ++ drop n out)
            (append_assoc (take at out) (take (length text) text) more
            ∙ ap (λ (x : List ℕ). take at out ++ x) (ap (λ (x : List ℕ). x ++ more) (take-length text) ∙ sym (take-length (text ++ more))))
            z;
      }

-- written at the start, it is what the buffer begins with
pub begins : {out out' text : List ℕ} {next : ℕ} → Appended out 0 out' next text → take next out' ≡ text
begins {out} {out'} {text} w =
    ap₂ {C = List ℕ} take w.end w.bytes ∙ take-paste out 0 text (length text) (omega arith) (omega arith) ∙ take-length text
