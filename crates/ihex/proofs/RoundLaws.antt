-- The text for an image keeps the rules and denotes that image, and so is read back.
use mathlib.Core.Path.{◌≡◌, refl, sym, ap, ap₂, ◌∙◌}
use mathlib.Core.Bool.{Bool, true, false, cond}
use mathlib.Core.List.{List, [], ◌∷◌, ◌++◌, append-nil}
use Rattle.std.specs.Prelude.{Some}
use Prim.Native.Nat.{ℕ, zero, suc, ◌+◌, ◌-◌, ◌*◌, ◌/◌, ◌%◌, ◌^◌, ◌≤◌, ◌<◌}
use native.Mathlib.Omega.{arith}
use lib.Dec.{eqb}
use lib.ListN.{length, take, drop, length-take, length-drop}
use lib.Seq.{get_or-take, get_or-drop, ext_get_or}
use borrow.Author.Tests.{eqb-true}
use Rattle.octets.specs.Octets.{Bytes, bytes}
use Rattle.octets.proofs.NumberLaws.{number-back}
use Rattle.ihex.specs.Line.{data00, end01, upper04, meaning, line_of}
use Rattle.ihex.specs.Text.{lines, Byte, placed, Names, ended, named, under, image_of}
use Rattle.ihex.specs.Read.{TextAnswer, wrong_length, TextOutcome}
use Rattle.ihex.specs.Write.{record_line, text_from, text_of}
use Rattle.ihex.specs.Claims.{Denotes, RoundTrip}
use Rattle.ihex.proofs.NamedLaws.{image-length, image-at, at-placed, placed-once, placed-value}
use Rattle.ihex.proofs.StepLaws.{fits}
use Rattle.ihex.proofs.ReadLaws.{all_read}
use Rattle.ihex.proofs.WriteLaws.{lines-line, line-back}

-- data in two pieces
placed-split : (n a : ℕ) (s : List ℕ) → placed a (take n s) ++ placed (a + n) (drop n s) ≡ placed a s
unfolding placed
placed-split zero a s = ap (λ (x : ℕ). placed x s) (omega arith)
placed-split (suc n) a [] = refl
placed-split (suc n) a (v ∷ s) = let e : a + suc n ≡ suc a + n = omega arith in rw (e, placed-split n (suc a) s)

-- what the written lines say
end_read : line_of (record_line 0 1 []) ≡ Some end01
unfolding line_of meaning
end_read = rw (line-back 0 1 [] (omega arith) (omega arith) (omega arith) (λ i l. absurd (omega arith)))

data-read : (a : ℕ) (s : List ℕ) → a < 65536 → length s < 256 → Bytes s → line_of (record_line a 0 s) ≡ Some (data00 a s)
unfolding line_of meaning
data-read a s h l b = rw (line-back a 0 s h (omega arith) l b)

two_bytes : (x : ℕ) → Bytes (bytes 2 x)
unfolding bytes
two_bytes x zero l = omega arith
two_bytes x (suc zero) l = omega arith
two_bytes x (suc (suc i)) l = absurd (omega arith)

upper-read : (v : ℕ) → v < 65536 → line_of (record_line 0 4 (bytes 2 v)) ≡ Some (upper04 v)
unfolding line_of meaning bytes
upper-read v h = rw (line-back 0 4 (bytes 2 v) (omega arith) (omega arith) (omega arith) (two_bytes v), number-back 2 v refl h)

-- a record 04 where the upper half h is another than u
names-under : (u h : ℕ) (text : List ℕ) {bs : List Byte} → h < 65536 → Names h (lines text) bs → Names u (lines (cond (eqb h u) [] (record_line 0 4 (bytes 2 h)) ++ text)) bs
names-under u h text {bs} l d = go (eqb h u) (eqb-true h u)
  where
    go : (t : Bool) → (t ≡ true → h ≡ u) → Names u (lines (cond t [] (record_line 0 4 (bytes 2 h)) ++ text)) bs
    go true e = rw (e refl) at d
    go false e = rw lines-line (under (upper-read h l) d)

names-end : (u : ℕ) → Names u (lines (record_line 0 1 [])) []
unfolding lines
names-end u =
    let e : lines (record_line 0 1 []) ≡ record_line 0 1 [] ∷ [] = ap lines (sym (append-nil (record_line 0 1 []))) ∙ lines-line 0 1 [] [] in
    rw e (ended end_read)

bytes_take : (n : ℕ) (s : List ℕ) → Bytes s → Bytes (take n s)
bytes_take n s b i l = let m = length-take n s in rw (get_or-take n s i 0 (omega arith)) (b i (omega arith))

bytes_drop : (n : ℕ) (s : List ℕ) → Bytes s → Bytes (drop n s)
bytes_drop n s b i l = rw get_or-drop (b (n + i) (omega (arith, length-drop n s)))

names-text : (k u a : ℕ) (s : List ℕ) → length s ≤ k → a + length s ≤ 2 ^ 32 → Bytes s → Names u (lines (text_from k u a s)) (placed a s)
unfolding text_from placed
names-text zero u a [] l h b = names-end u
names-text zero u a (v ∷ s) l h b = absurd (omega arith)
names-text (suc k) u a [] l h b = names-end u
names-text (suc k) u a (v ∷ s) l h b =
    let n = 16 - a % 16 in
    let e : a / 65536 * 65536 + a % 65536 ≡ a = omega arith in
    let taken = length-take n (v ∷ s) in
    let left = length-drop n (v ∷ s) in
    let first = data-read (a % 65536) (take n (v ∷ s)) (omega arith) (omega arith) (bytes_take n (v ∷ s) b) in
    let rest = names-text k (a / 65536) (a + n) (drop n (v ∷ s)) (omega arith) (omega arith) (bytes_drop n (v ∷ s) b) in
    let d = named first rest in
    names-under u (a / 65536) _ (omega arith) (rw lines-line (rw (e, placed-split n a (v ∷ s)) at d))

own : (image : List ℕ) (base : ℕ) → Bytes image → wrong_length base (length image) ≡ false → Denotes (text_of base image) base (length image) (placed base image)
unfolding text_of
own image base b w =
    let f = (fits base (length image) w).last in
    record {
      rules = names-text (length image) 0 base image (omega arith) f b;
      inside = λ c m. let r = at-placed base image m in (omega arith, omega arith);
      once = placed-once base image (omega arith);
    }

own-image : (image : List ℕ) (base : ℕ) → wrong_length base (length image) ≡ false → image_of base (length image) (placed base image) ≡ image
own-image image base w =
    let f = (fits base (length image) w).last in
    let l = image-length base (length image) (placed base image) in
    ext_get_or 0 (image_of base (length image) (placed base image)) image l
    (λ i h. image-at base (length image) (placed base image) i (omega arith) ∙ placed-value base image f i (omega arith))

pub round_trip : RoundTrip
round_trip image base buffer b w l =
    let r = all_read (text_of base image) base (length image) buffer w l in
    let d = own image base b w in
    ap₂ {C = TextOutcome} (λ (x : TextAnswer) (y : List ℕ). record { answer = x; buffer = y })
    (r.exactly.1 (placed base image, d)) (rw (own-image image base w) at (r.image (placed base image) d))
