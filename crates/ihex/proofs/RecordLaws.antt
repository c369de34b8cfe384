-- The record in a line: what there is to it, and what the code reads of it.
use mathlib.Core.Path.{◌≡◌, refl, sym, ap, ◌∙◌}
use mathlib.Core.Bool.{Bool, true, false, cond, ◌&&◌}
use mathlib.Core.List.{List, [], ◌∷◌}
use Rattle.std.specs.Prelude.{Option, None, Some, option_and_then}
use Prim.Native.Nat.{ℕ, zero, suc, ◌+◌, ◌-◌, ◌*◌, ◌%◌, ◌<◌}
use native.Mathlib.Omega.{arith}
use lib.Dec.{ltb, eqb}
use lib.ListN.{length, drop, get_or}
use lib.Seq.{get_or-take, get_or-drop}
use borrow.Author.Tests.{lt-ltb, eq-eqb, ltb-true, eqb-true}
use Rattle.octets.specs.Octets.{number, part}
use Rattle.octets.proofs.CopyLaws.{length_part}
use Rattle.octets.proofs.NumberLaws.{number-two}
use Rattle.ihex.specs.Line.{colon, line_end, content, digit, byte_and, octets, Record, sum, record_of, record_in}
use Rattle.ihex.specs.Code.{byte_of, octet_at, pair_at, sum_of, record_read}
use Rattle.ihex.proofs.DigitLaws.{Small, digit-small}

-- The bytes bs that pairs of digits d stand for.
record Spelled (d bs : List ℕ) : Type 0 where
  size : length d ≡ 2 * length bs
  at : (i : ℕ) → i < length bs → byte_of (digit (get_or d (2 * i) 0)) (digit (get_or d (suc (2 * i)) 0)) ≡ Some (get_or bs i 0)
  small : (i : ℕ) → i < length bs → get_or bs i 0 < 256

spelled-more : (h l x y : ℕ) (s cs : List ℕ) → digit h ≡ Some x → digit l ≡ Some y → Small (Some x) → Small (Some y) → Spelled s cs → Spelled (h ∷ l ∷ s) ((16 * x + y) ∷ cs)
spelled-more h l x y s cs e f sx sy p = record { size = omega (arith, p.size); at = at; small = small }
  where
    at : (i : ℕ) → i < suc (length cs)
        → byte_of (digit (get_or (h ∷ l ∷ s) (2 * i) 0)) (digit (get_or (h ∷ l ∷ s) (suc (2 * i)) 0)) ≡ Some (get_or ((16 * x + y) ∷ cs) i 0)
    at zero k = rw (e, f)
    at (suc i) k = let g : 2 * suc i ≡ suc (suc (2 * i)) = omega arith in rw g (p.at i (omega arith))

    small : (i : ℕ) → i < suc (length cs) → get_or ((16 * x + y) ∷ cs) i 0 < 256
    small zero k = omega arith
    small (suc i) k = p.small i (omega arith)

octets-spelled : (d bs : List ℕ) → octets d ≡ Some bs → Spelled d bs
unfolding octets
octets-spelled [] bs e = let f : [] ≡ bs = cc in rw (← f) (record { size = refl; at = λ i k. absurd (omega arith); small = λ i k. absurd (omega arith) })
octets-spelled (h ∷ []) bs e = let z : ◌≡◌ {A = ℕ} 0 1 = cc in absurd (omega arith)
octets-spelled (h ∷ l ∷ s) bs e = go (digit h) (digit l) (octets s) refl refl (digit-small h) (digit-small l) (octets-spelled s) e
  where
    go : (x y : Option ℕ) (o : Option (List ℕ)) → digit h ≡ x → digit l ≡ y → Small x → Small y → ((cs : List ℕ) → o ≡ Some cs → Spelled s cs) → byte_and x y o ≡ Some bs
        → Spelled (h ∷ l ∷ s) bs
    go None y o ex ey sx sy ih f = let z : ◌≡◌ {A = ℕ} 0 1 = cc in absurd (omega arith)
    go (Some x) None o ex ey sx sy ih f = let z : ◌≡◌ {A = ℕ} 0 1 = cc in absurd (omega arith)
    go (Some x) (Some y) None ex ey sx sy ih f = let z : ◌≡◌ {A = ℕ} 0 1 = cc in absurd (omega arith)
    go (Some x) (Some y) (Some cs) ex ey sx sy ih f = let g : (16 * x + y) ∷ cs ≡ bs = cc in rw (← g) (spelled-more h l x y s cs ex ey sx sy (ih cs refl))

-- the record of these bytes, where count and checksum are right
abbrev pub record_with : List ℕ → Record
record_with bs = record { address = number (part 1 2 bs); type = get_or bs 3 0; bytes = part 4 (get_or bs 0 0) bs }

-- A line has a record, of bytes bs.
pub record Parts (l bs : List ℕ) : Type 0 where
  pub begun : get_or l 0 0 ≡ colon
  pub ended : 0 < line_end l
  pub digits : octets (part 1 (length l - 1 - line_end l) l) ≡ Some bs
  pub count : length bs ≡ get_or bs 0 0 + 5
  pub zero : sum bs % 256 ≡ 0

module _ (l : List ℕ) where
  abbrev written : List ℕ
  written = part 1 (length l - 1 - line_end l) l

  pub of_parts : (bs : List ℕ) → Parts l bs → record_in l ≡ Some (record_with bs)
  unfolding record_in content record_of
  of_parts bs p =
      rw (eq-eqb (get_or l 0 0) colon p.begun, lt-ltb 0 (line_end l) p.ended, p.digits, eq-eqb (length bs) (get_or bs 0 0 + 5) p.count, eq-eqb (sum bs % 256) 0 p.zero)

  -- what a record was read from
  pub record From (r : Record) : Type 0 where
    pub bs : List ℕ
    pub parts : Parts l bs
    pub is : r ≡ record_with bs

  from_bytes : (r : Record) (bs : List ℕ) → get_or l 0 0 ≡ colon → 0 < line_end l → octets written ≡ Some bs → record_of bs ≡ Some r → From r
  unfolding record_of
  from_bytes r bs e f g h = go (eqb (length bs) (get_or bs 0 0 + 5)) (eqb (sum bs % 256) 0) refl refl h
    where
      go : (s t : Bool) → eqb (length bs) (get_or bs 0 0 + 5) ≡ s → eqb (sum bs % 256) 0 ≡ t → cond (s && t) (Some (record_with bs)) None ≡ Some r → From r
      go false t es et k = let z : ◌≡◌ {A = ℕ} 0 1 = cc in absurd (omega arith)
      go true false es et k = let z : ◌≡◌ {A = ℕ} 0 1 = cc in absurd (omega arith)
      go true true es et k =
          record { bs = bs; parts = record { begun = e; ended = f; digits = g; count = eqb-true _ _ es; zero = eqb-true _ _ et }; is = cc }

  from-digits : (r : Record) → get_or l 0 0 ≡ colon → 0 < line_end l → (o : Option (List ℕ)) → octets written ≡ o → option_and_then record_of o ≡ Some r → From r
  from-digits r e f None g h = let z : ◌≡◌ {A = ℕ} 0 1 = cc in absurd (omega arith)
  from-digits r e f (Some bs) g h = from_bytes r bs e f g h

  pub from-record : (r : Record) → record_in l ≡ Some r → From r
  unfolding record_in content
  from-record r h = go (eqb (get_or l 0 0) colon) (ltb 0 (line_end l)) refl refl h
    where
      go : (s t : Bool) → eqb (get_or l 0 0) colon ≡ s → ltb 0 (line_end l) ≡ t → option_and_then record_of (option_and_then octets (cond (s && t) (Some written) None)) ≡ Some r → From r
      go false t es et k = let z : ◌≡◌ {A = ℕ} 0 1 = cc in absurd (omega arith)
      go true false es et k = let z : ◌≡◌ {A = ℕ} 0 1 = cc in absurd (omega arith)
      go true true es et k = from-digits r (eqb-true _ _ es) (ltb-true _ _ et) (octets written) refl k

module _ (l bs : List ℕ) (begun : get_or l 0 0 ≡ colon) (digits : octets (part 1 (length l - 1 - line_end l) l) ≡ Some bs) where
  some_bytes : 0 < length l
  some_bytes = go l begun
    where
      go : (s : List ℕ) → get_or s 0 0 ≡ colon → 0 < length s
      go [] e = absurd (omega arith)
      go (x ∷ s) e = omega arith

  spelled : Spelled (part 1 (length l - 1 - line_end l) l) bs
  spelled = octets-spelled _ bs digits

  digits-size : length l - 1 - line_end l ≡ 2 * length bs
  digits-size = sym (length_part l 1 (length l - 1 - line_end l) (omega (arith, some_bytes))) ∙ spelled.size

  digits-octet : (i : ℕ) → i < length bs → octet_at l i ≡ Some (get_or bs i 0)
  unfolding octet_at
  digits-octet i h =
      let m = length l - 1 - line_end l in
      let high : get_or (part 1 m l) (2 * i) 0 ≡ get_or l (1 + 2 * i) 0 = get_or-take m (drop 1 l) (2 * i) 0 (omega (arith, digits-size)) ∙ get_or-drop 1 l (2 * i) 0 in
      let low : get_or (part 1 m l) (suc (2 * i)) 0 ≡ get_or l (1 + suc (2 * i)) 0 =
      get_or-take m (drop 1 l) (suc (2 * i)) 0 (omega (arith, digits-size)) ∙ get_or-drop 1 l (suc (2 * i)) 0
      in
      let e : 1 + suc (2 * i) ≡ 2 + 2 * i = omega arith in
      rw (high, low, e) at (spelled.at i h)

module _ {l bs : List ℕ} (p : Parts l bs) where
  pub parts-size : length l - 1 - line_end l ≡ 2 * length bs
  parts-size = digits-size l bs p.begun p.digits

  pub octet-is : (i : ℕ) → i < length bs → octet_at l i ≡ Some (get_or bs i 0)
  octet-is = digits-octet l bs p.begun p.digits

  pub byte_small : (i : ℕ) → i < length bs → get_or bs i 0 < 256
  byte_small = (spelled l bs p.begun p.digits).small

  pub pair-is : (i : ℕ) → i + 1 < length bs → pair_at l i ≡ Some (number (part i 2 bs))
  pair-is i h = rw (octet-is i (omega arith), octet-is (i + 1) h) (ap Some (sym (number-two bs i (omega arith))))

  pub data-size : length (part 4 (get_or bs 0 0) bs) ≡ get_or bs 0 0
  data-size = length_part bs 4 (get_or bs 0 0) (omega (arith, p.count))

  -- the record, as the code reads it
  pub reads : {a t k : ℕ} → pair_at l 1 ≡ Some a → octet_at l 3 ≡ Some t → octet_at l 0 ≡ Some k → Some (record { address = a; kind = t; count = k }) ≡ record_read (record_in l)
  reads {a} {t} {k} ea et ek =
      let address : a ≡ number (part 1 2 bs) = let e = pair-is 1 (omega (arith, p.count)) in cc in
      let type : t ≡ get_or bs 3 0 = let e = octet-is 3 (omega (arith, p.count)) in cc in
      let count : k ≡ get_or bs 0 0 = let e = octet-is 0 (omega (arith, p.count)) in cc in
      rw (of_parts l bs p, address, type, count, data-size)

-- a line without a record
module _ (l : List ℕ) where
  broken : ((bs : List ℕ) → Parts l bs → ⊥) → None ≡ record_read (record_in l)
  broken f = go (record_in l) (λ r e. let s = from-record l r e in f s.bs s.parts)
    where
      go : (o : Option Record) → ((r : Record) → o ≡ Some r → ⊥) → None ≡ record_read o
      go None g = refl
      go (Some r) g = absurd (g r refl)

  pub too_short : length l < 11 + line_end l → None ≡ record_read (record_in l)
  too_short h = broken (λ bs p. omega (arith, parts-size p, p.count))

  pub no_end : line_end l ≡ 0 → None ≡ record_read (record_in l)
  no_end e = broken (λ bs p. omega (arith, p.ended))

  pub no-colon : (get_or l 0 0 ≡ colon → ⊥) → None ≡ record_read (record_in l)
  no-colon f = broken (λ bs p. f p.begun)

  pub no-octet : (i : ℕ) → i < 5 → octet_at l i ≡ None → None ≡ record_read (record_in l)
  no-octet i h e = broken (λ bs p. let f = octet-is p i (omega (arith, p.count)) in cc)

  pub no-pair : pair_at l 1 ≡ None → None ≡ record_read (record_in l)
  no-pair e = broken (λ bs p. let f = pair-is p 1 (omega (arith, p.count)) in cc)

  pub wrong-count : {k : ℕ} → octet_at l 0 ≡ Some k → (length l - 1 - line_end l ≡ 2 * (k + 5) → ⊥) → None ≡ record_read (record_in l)
  wrong-count {k} e f =
      broken
      (λ bs p.
      let g : k ≡ get_or bs 0 0 = let d = octet-is p 0 (omega (arith, p.count)) in cc in
      f (omega (arith, parts-size p, p.count)))

  module _ (n : ℕ) (e : length l - 1 - line_end l ≡ 2 * n) where
    pub wrong-sum : (sum_of 0 (octets (part 1 (2 * n) l)) ≡ Some 0 → ⊥) → None ≡ record_read (record_in l)
    wrong-sum f = broken (λ bs p. f (rw (← e) (ap (sum_of 0) p.digits ∙ ap Some (omega (arith, p.zero)))))

    pub right : {k : ℕ} → get_or l 0 0 ≡ colon → 0 < line_end l → octet_at l 0 ≡ Some k → n ≡ k + 5 → sum_of 0 (octets (part 1 (2 * n) l)) ≡ Some 0 → (bs : List ℕ) × Parts l bs
    right {k} b f o c s = go (octets (part 1 (2 * n) l)) refl s
      where
        go : (o : Option (List ℕ)) → octets (part 1 (2 * n) l) ≡ o → sum_of 0 o ≡ Some 0 → (bs : List ℕ) × Parts l bs
        go None d z = let y : ◌≡◌ {A = ℕ} 0 1 = cc in absurd (omega arith)
        go (Some bs) d z =
            let g : octets (part 1 (length l - 1 - line_end l) l) ≡ Some bs = rw e d in
            let first : get_or bs 0 0 ≡ k = let q = digits-octet l bs b g 0 (omega (arith, digits-size l bs b g)) in cc in
            let zero : (0 + sum bs) % 256 ≡ 0 = cc in
            (bs, record { begun = b; ended = f; digits = g; count = omega (arith, digits-size l bs b g); zero = omega arith })
