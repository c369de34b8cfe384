-- What the code finds in a line, from the record that it was read from.
use mathlib.Core.Path.{◌≡◌, refl, sym, ap, ◌∙◌}
use mathlib.Core.Bool.{Bool, true, false, cond, ◌&&◌}
use mathlib.Core.List.{List, [], ◌∷◌}
use Rattle.std.specs.Prelude.{Option, None, Some, option_and_then}
use Prim.Native.Nat.{ℕ, ◌+◌, ◌*◌, ◌≤◌, ◌<◌}
use native.Mathlib.Omega.{arith}
use lib.Dec.{eqb}
use lib.ListN.{length, drop, get_or}
use lib.Seq.{get_or-take, get_or-drop}
use borrow.Author.Tests.{eq-eqb, ne_eqb}
use Rattle.octets.specs.Octets.{number, part}
use Rattle.ihex.specs.declared.record.Record as code
use Rattle.ihex.specs.declared.line.Line.TheVariants as line
use Rattle.ihex.specs.Line.{Record, record_in, Line, data00, end01, upper04, meaning, line_of}
use Rattle.ihex.specs.Text.{placed}
use Rattle.ihex.specs.Claims.{Once, OnceInLine}
use Rattle.ihex.specs.Code.{octet_at, pair_at, record_read, line_read, data_in}
use Rattle.ihex.proofs.NamedLaws.{placed-once}
use Rattle.ihex.proofs.RecordLaws.{record_with, Parts, of_parts, from-record, parts-size, octet-is, byte_small, pair-is, data-size}

-- What a line says, from the record that the code found in it.
module _ (l : List ℕ) where
  pub read_none : {f : Option code.Record} → f ≡ record_read (record_in l) → f ≡ None → None ≡ line_read (line_of l)
  unfolding line_of
  read_none {f} e b = go (record_in l) (sym b ∙ e)
    where
      go : (o : Option Record) → None ≡ record_read o → None ≡ line_read (option_and_then meaning o)
      go None e = refl
      go (Some r) e = let z : ◌≡◌ {A = ℕ} 0 1 = cc in absurd (omega arith)

  -- the record that was found, and what it was read from
  pub record Finds (x : code.Record) : Type 0 where
    pub bs : List ℕ
    pub parts : Parts l bs
    pub address : x.address ≡ (record_with bs).address
    pub type : x.kind ≡ (record_with bs).type
    pub count : x.count ≡ get_or bs 0 0

  pub finds : {f : Option code.Record} {x : code.Record} → f ≡ record_read (record_in l) → f ≡ Some x → Finds x
  finds {f} {x} e s = go (record_in l) refl (sym s ∙ e)
    where
      go : (o : Option Record) → record_in l ≡ o → Some x ≡ record_read o → Finds x
      go None g e = let z : ◌≡◌ {A = ℕ} 0 1 = cc in absurd (omega arith)
      go (Some r) g e =
          let h = from-record l r g in
          let k : x ≡ record { address = r.address; kind = r.type; count = length r.bytes } = cc in
          record {
            bs = h.bs;
            parts = h.parts;
            address = ap (λ (y : code.Record). y.address) k ∙ ap (λ (y : Record). y.address) h.is;
            type = ap (λ (y : code.Record). y.kind) k ∙ ap (λ (y : Record). y.type) h.is;
            count = ap (λ (y : code.Record). y.count) k ∙ ap (λ (y : Record). length y.bytes) h.is ∙ data-size h.parts;
          }

  module _ {x : code.Record} (f : Finds x) where
    abbrev r : Record
    r = record_with f.bs

    line-is : line_of l ≡ meaning r
    unfolding line_of
    line-is = ap (λ (o : Option Record). option_and_then meaning o) (of_parts l f.bs f.parts)

    count-of : length r.bytes ≡ x.count
    count-of = data-size f.parts ∙ sym f.count

    type-is : {t : ℕ} → x.kind ≡ t → r.type ≡ t
    type-is e = sym f.type ∙ e

    pub read-data : x.kind ≡ 0 → Some (line.Data x.address x.count) ≡ line_read (line_of l)
    unfolding meaning
    read-data e = rw (line-is, type-is e, f.address, sym count-of)

    pub read-end : x.kind ≡ 1 → x.count ≡ 0 → Some line.End ≡ line_read (line_of l)
    unfolding meaning
    read-end e k = rw (line-is, type-is e, eq-eqb (length r.bytes) 0 (count-of ∙ k))

    pub read-long-end : x.kind ≡ 1 → (x.count ≡ 0 → ⊥) → None ≡ line_read (line_of l)
    unfolding meaning
    read-long-end e k = rw (line-is, type-is e, ne_eqb (length r.bytes) 0 (λ g. k (sym count-of ∙ g)))

    pub read_upper : {v : ℕ} → x.kind ≡ 4 → x.count ≡ 2 → pair_at l 4 ≡ Some v → Some (line.Upper v) ≡ line_read (line_of l)
    unfolding meaning
    read_upper {v} e k g =
        let c : get_or f.bs 0 0 ≡ 2 = sym f.count ∙ k in
        let p = pair-is f.parts 4 (omega (arith, f.parts.count)) in
        let h : number r.bytes ≡ v = ap (λ (n : ℕ). number (part 4 n f.bs)) c ∙ (cc) in
        rw (line-is, type-is e, eq-eqb (length r.bytes) 2 (count-of ∙ k), h)

    pub no-upper : x.kind ≡ 4 → x.count ≡ 2 → pair_at l 4 ≡ None → None ≡ line_read (line_of l)
    no-upper e k g =
        let c : get_or f.bs 0 0 ≡ 2 = sym f.count ∙ k in
        let p = pair-is f.parts 4 (omega (arith, f.parts.count)) in
        cc

    pub read-wrong-upper : x.kind ≡ 4 → (x.count ≡ 2 → ⊥) → None ≡ line_read (line_of l)
    unfolding meaning
    read-wrong-upper e k = rw (line-is, type-is e, ne_eqb (length r.bytes) 2 (λ g. k (sym count-of ∙ g)))

    pub read-other : (x.kind ≡ 0 → ⊥) → (x.kind ≡ 1 → ⊥) → (x.kind ≡ 4 → ⊥) → None ≡ line_read (line_of l)
    unfolding meaning
    read-other a b c =
        rw (line-is, ne_eqb r.type 0 (λ e. a (f.type ∙ e)), ne_eqb r.type 1 (λ e. b (f.type ∙ e)), ne_eqb r.type 4 (λ e. c (f.type ∙ e)))

    pub read-long : 12 + 2 * x.count ≤ length l
    read-long = omega (arith, parts-size f.parts, f.parts.count, f.parts.ended, f.count)

-- The data of a line of type 00, byte by byte.
abbrev says : (s t u : Bool) → Record → Option Line
says s t u r = cond s (Some (data00 r.address r.bytes)) (cond t (Some end01) (cond u (Some (upper04 (number r.bytes))) None))

data-whole : (r : Record) → 0 < length (data_in (meaning r)) → data_in (meaning r) ≡ r.bytes
unfolding meaning
data-whole r = go (eqb r.type 0) (eqb r.type 1 && eqb (length r.bytes) 0) (eqb r.type 4 && eqb (length r.bytes) 2)
  where
    go : (s t u : Bool) → 0 < length (data_in (says s t u r)) → data_in (says s t u r) ≡ r.bytes
    go true t u h = refl
    go false true u h = absurd (omega arith)
    go false false true h = absurd (omega arith)
    go false false false h = absurd (omega arith)

pub record DataAt (l : List ℕ) (i : ℕ) : Type 0 where
  pub is : octet_at l (4 + i) ≡ Some (get_or (data_in (line_of l)) i 0)
  pub long : 12 + 2 * i < length l
  pub short : length (data_in (line_of l)) < 256

data-in : (l bs : List ℕ) (i : ℕ) → Parts l bs → data_in (line_of l) ≡ (record_with bs).bytes → i < length (data_in (line_of l)) → DataAt l i
data-in l bs i p e h =
    let k : i < get_or bs 0 0 = omega (arith, ap length e, data-size p) in
    let g : 4 + i < length bs = omega (arith, p.count) in
    record {
      is = octet-is p (4 + i) g ∙ ap Some (sym (ap (λ (s : List ℕ). get_or s i 0) e ∙ get_or-take (get_or bs 0 0) (drop 4 bs) i 0 k ∙ get_or-drop 4 bs i 0));
      long = omega (arith, parts-size p, p.count, p.ended);
      short = omega (arith, ap length e, data-size p, byte_small p 0 (omega arith));
    }

pub data-at : (l : List ℕ) (i : ℕ) → i < length (data_in (line_of l)) → DataAt l i
unfolding line_of
data-at l i h = go (record_in l) refl
  where
    go : (o : Option Record) → record_in l ≡ o → DataAt l i
    go None e = absurd (omega (arith, h, ap (λ (p : Option Record). length (data_in (option_and_then meaning p))) e))
    go (Some r) e =
        let f = from-record l r e in
        let d : data_in (line_of l) ≡ data_in (meaning r) = ap (λ (p : Option Record). data_in (option_and_then meaning p)) e in
        data-in l f.bs i f.parts (d ∙ data-whole r (omega (arith, h, ap length d)) ∙ ap (λ (q : Record). q.bytes) f.is) h

pub once-in-line : OnceInLine
unfolding Once placed
once-in-line u a l [] e = tt
once-in-line u a l (v ∷ vs) e =
    let d : data_in (line_of l) ≡ v ∷ vs = ap data_in e in
    placed-once (u * 65536 + a) (v ∷ vs) (omega (arith, ap length d, (data-at l 0 (omega (arith, ap length d))).short))
