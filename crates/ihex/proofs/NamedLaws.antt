-- Lists of named bytes: which are among them, at which value, and the image.
use mathlib.Core.Path.{◌≡◌, refl, sym, ap, ◌∙◌}
use mathlib.Core.Bool.{Bool, true, false, cond, ◌&&◌, ◌||◌, or_assoc, or-true, true≢false, not-eq-not}
use mathlib.Core.List.Memᴰ
use mathlib.Core.List.{List, [], ◌∷◌, ◌++◌, append-nil, Memᴰ}
use Prim.Native.Nat.{ℕ, zero, suc, ◌+◌, ◌-◌, ◌%◌, ◌^◌, ◌≤◌, ◌<◌}
use native.Mathlib.Nat.{add-zero}
use native.Mathlib.Decide.{dec_lt}
use native.Mathlib.Omega.{arith}
use lib.Dec.{leb, ltb, eqb}
use lib.ListN.{length, get_or, replicate}
use borrow.Author.Tests.{eqb-true, eqb-false, eq-eqb, ne_eqb, lt-ltb, le-ltb, le-leb, lt-leb, ltb-false, leb-false}
use Rattle.wire.proofs.SizeLaws.{or-false}
use Rattle.ihex.specs.Text.{Byte, placed, outside, any_outside, is_named, any_repeated, value_at, image_of}
use Rattle.ihex.specs.Claims.{Inside, Once}

module _ (a : ℕ) where
  pub is_named-append : (bs cs : List Byte) → is_named a (bs ++ cs) ≡ is_named a bs || is_named a cs
  unfolding is_named
  is_named-append [] cs = refl
  is_named-append (b ∷ bs) cs = rw (is_named-append bs cs) (sym (or_assoc (eqb b.address a) (is_named a bs) (is_named a cs)))

  value-append : (bs cs : List Byte) → value_at a (bs ++ cs) ≡ cond (is_named a bs) (value_at a bs) (value_at a cs)
  unfolding is_named value_at
  value-append [] cs = refl
  value-append (b ∷ bs) cs = rw (value-append bs cs) (go (eqb b.address a))
    where
      go : (t : Bool) → cond t b.value (cond (is_named a bs) (value_at a bs) (value_at a cs)) ≡ cond (t || is_named a bs) (cond t b.value (value_at a bs)) (value_at a cs)
      go true = refl
      go false = refl

  pub value-named : (bs cs : List Byte) → is_named a bs ≡ true → value_at a (bs ++ cs) ≡ value_at a bs
  value-named bs cs e = rw (value-append bs cs, e)

  pub value-unnamed : (bs cs : List Byte) → is_named a bs ≡ false → value_at a (bs ++ cs) ≡ value_at a cs
  value-unnamed bs cs e = rw (value-append bs cs, e)

  pub value_none : (bs : List Byte) → is_named a bs ≡ false → value_at a bs ≡ 255
  unfolding value_at
  value_none bs e = rw (append-nil bs) at (value-unnamed bs [] e)

pub image-length : (base k : ℕ) (bs : List Byte) → length (image_of base k bs) ≡ k
unfolding image_of
image-length base zero bs = refl
image-length base (suc k) bs = ap suc (image-length (suc base) k bs)

pub image-at : (base k : ℕ) (bs : List Byte) (i : ℕ) → i < k → get_or (image_of base k bs) i 0 ≡ value_at (base + i) bs
unfolding image_of
image-at base zero bs i h = absurd (omega arith)
image-at base (suc k) bs zero h = rw (add-zero base)
image-at base (suc k) bs (suc i) h = image-at (suc base) k bs i (omega arith) ∙ ap (λ (a : ℕ). value_at a bs) (omega arith)

pub image-none : (base k : ℕ) → image_of base k [] ≡ replicate k 255
unfolding image_of value_at
image-none base zero = refl
image-none base (suc k) = rw (image-none (suc base) k)

-- What the tests say of the bytes in a list.
pub member-named : {b : Byte} {bs : List Byte} → Memᴰ b bs → is_named b.address bs ≡ true
unfolding is_named
member-named {b} (Memᴰ.head {x} e) = rw (eq-eqb x.address b.address (cc))
member-named {b} (Memᴰ.tail {x} m) = rw (member-named m) (or-true (eqb x.address b.address))

pub named-member : (a : ℕ) (bs : List Byte) → is_named a bs ≡ true → (b : Byte) × Memᴰ b bs × (b.address ≡ a)
unfolding is_named
named-member a [] e = absurd (true≢false (sym e))
named-member a (b ∷ bs) e = go (eqb b.address a) refl (named-member a bs)
  where
    go : (t : Bool) → eqb b.address a ≡ t → (is_named a bs ≡ true → (c : Byte) × Memᴰ c bs × (c.address ≡ a)) → (c : Byte) × Memᴰ c (b ∷ bs) × (c.address ≡ a)
    go true q ih = (b, Memᴰ.head refl, eqb-true b.address a q)
    go false q ih = let i = ih (rw q at e) in (i.0, Memᴰ.tail i.1, i.2)

pub unnamed : (a : ℕ) (bs : List Byte) → ((b : Byte) → Memᴰ b bs → b.address ≡ a → ⊥) → is_named a bs ≡ false
unnamed a bs f = not-eq-not.0 (λ e. let n = named-member a bs e in f n.0 n.1 n.2)

-- no byte of cs is at an address of bs
abbrev pub Apart : (bs cs : List Byte) → Type 0
Apart bs cs = (c : Byte) → Memᴰ c cs → is_named c.address bs ≡ false

apart_cons : (bs : List Byte) (c : Byte) (cs : List Byte) → is_named c.address bs ≡ false → Apart bs cs → Apart bs (c ∷ cs)
apart_cons bs c cs e f d (Memᴰ.head q) = rw q e
apart_cons bs c cs e f d (Memᴰ.tail m) = f d m

module _ (a : ℕ) (bs : List Byte) (c : Byte) where
  unnamed-last : is_named a bs ≡ false → (c.address ≡ a → ⊥) → is_named a (bs ++ (c ∷ [])) ≡ false
  unfolding is_named
  unnamed-last e f = rw (is_named-append a bs (c ∷ []), e, ne_eqb c.address a f)

  last-unnamed : is_named a (bs ++ (c ∷ [])) ≡ false → (is_named a bs ≡ false) × (c.address ≡ a → ⊥)
  unfolding is_named
  last-unnamed e =
      let p = or-false (is_named a bs) _ (rw (is_named-append a bs (c ∷ [])) at e) in
      (p.0, eqb-false c.address a (or-false (eqb c.address a) false p.1).0)

pub unrepeated : (bs cs : List Byte) → any_repeated bs cs ≡ false → Apart bs cs × Once cs
unfolding any_repeated Once
unrepeated bs [] e = (λ c m. absurd (Memᴰ.not-nil m), tt)
unrepeated bs (c ∷ cs) e =
    let p = or-false (is_named c.address bs) _ e in
    let r = unrepeated (bs ++ (c ∷ [])) cs p.1 in
    (apart_cons bs c cs p.0 (λ d m. (last-unnamed d.address bs c (r.0 d m)).0), (λ d m q. (last-unnamed d.address bs c (r.0 d m)).1 (sym q), r.1))

pub apart-unrepeated : (bs cs : List Byte) → Apart bs cs → Once cs → any_repeated bs cs ≡ false
unfolding any_repeated Once
apart-unrepeated bs [] f o = refl
apart-unrepeated bs (c ∷ cs) f o =
    rw (f c (Memᴰ.head refl))
    (apart-unrepeated (bs ++ (c ∷ [])) cs (λ d m. unnamed-last d.address bs c (f d (Memᴰ.tail m)) (λ q. o.0 d m (sym q))) o.1)

pub value-member : {b : Byte} {bs : List Byte} → Once bs → Memᴰ b bs → value_at b.address bs ≡ b.value
unfolding Once value_at
value-member {b} o (Memᴰ.head {x} e) = rw (eq-eqb x.address b.address (cc)) (cc)
value-member {b} o (Memᴰ.tail {x} m) = rw (ne_eqb x.address b.address (λ e. o.0 b m (sym e))) (value-member o.1 m)

-- Data at x.
pub placed_at : (x : ℕ) (vs : List ℕ) (i : ℕ) → i < length vs → Memᴰ (record { address = (x + i) % 2 ^ 32; value = get_or vs i 0 }) (placed x vs)
unfolding placed
placed_at x [] i h = absurd (omega arith)
placed_at x (v ∷ vs) zero h = rw (add-zero x) (Memᴰ.head refl)
placed_at x (v ∷ vs) (suc i) h = let e : x + suc i ≡ suc x + i = omega arith in rw e (Memᴰ.tail (placed_at (suc x) vs i (omega arith)))

pub at-placed : (x : ℕ) (vs : List ℕ) {b : Byte} → Memᴰ b (placed x vs) → (i : ℕ) × (i < length vs) × (b.address ≡ (x + i) % 2 ^ 32)
unfolding placed
at-placed x [] m = absurd (Memᴰ.not-nil m)
at-placed x (v ∷ vs) (Memᴰ.head e) = (0, omega arith, ap (λ (c : Byte). c.address) e ∙ omega arith)
at-placed x (v ∷ vs) (Memᴰ.tail m) = let i = at-placed (suc x) vs m in (suc i.0, omega arith, i.2 ∙ omega arith)

pub placed-once : (x : ℕ) (vs : List ℕ) → length vs ≤ 2 ^ 32 → Once (placed x vs)
unfolding Once placed
placed-once x [] h = tt
placed-once x (v ∷ vs) h = (λ c m e. let i = at-placed (suc x) vs m in omega arith, placed-once (suc x) vs (omega arith))

module _ (x : ℕ) (vs : List ℕ) (whole : x + length vs ≤ 2 ^ 32) where
  pub placed-named : (a : ℕ) → is_named a (placed x vs) ≡ leb x a && ltb a (x + length vs)
  placed-named a = go (dec_lt a x) (dec_lt a (x + length vs))
    where
      away : (x ≤ a → x + length vs ≤ a) → is_named a (placed x vs) ≡ false
      away f = unnamed a (placed x vs) (λ b m e. let i = at-placed x vs m in omega (arith, f (omega arith)))

      go : Dec (a < x) → Dec (a < x + length vs) → is_named a (placed x vs) ≡ leb x a && ltb a (x + length vs)
      go (yes l) h = rw (lt-leb x a l) (away (λ g. absurd (omega arith)))
      go (no l) (yes h) =
          let e : (x + (a - x)) % 2 ^ 32 ≡ a = omega arith in
          rw (le-leb x a (omega arith), lt-ltb a (x + length vs) h) (rw e at (member-named (placed_at x vs (a - x) (omega arith))))
      go (no l) (no h) = rw (le-leb x a (omega arith), le-ltb a (x + length vs) (omega arith)) (away (λ g. omega arith))

  pub repeated-none : (bs : List Byte) → ((i : ℕ) → i < length vs → is_named (x + i) bs ≡ false) → any_repeated bs (placed x vs) ≡ false
  repeated-none bs f = apart-unrepeated bs (placed x vs) apart (placed-once x vs (omega arith))
    where
      apart : Apart bs (placed x vs)
      apart c m = let i = at-placed x vs m in let e : c.address ≡ x + i.0 = omega arith in rw e (f i.0 i.1)

  module _ (i : ℕ) (h : i < length vs) where
    unwrapped : (x + i) % 2 ^ 32 ≡ x + i
    unwrapped = omega arith

    pub placed-value : value_at (x + i) (placed x vs) ≡ get_or vs i 0
    placed-value = rw unwrapped at (value-member (placed-once x vs (omega arith)) (placed_at x vs i h))

    pub repeated-one : (bs : List Byte) → is_named (x + i) bs ≡ true → any_repeated bs (placed x vs) ≡ true
    repeated-one bs n = not-eq-not.0 (λ q. true≢false (sym n ∙ (rw unwrapped at ((unrepeated bs (placed x vs) q).0 _ (placed_at x vs i h)))))

-- The test of places.
module _ (base k : ℕ) where
  pub inside-tested : (bs : List Byte) → Inside base k bs → any_outside base k bs ≡ false
  unfolding any_outside outside
  inside-tested [] f = refl
  inside-tested (b ∷ bs) f =
      let g = f b (Memᴰ.head refl) in
      rw (le-ltb b.address base g.0, lt-leb (base + k) b.address g.1) (inside-tested bs (λ c m. f c (Memᴰ.tail m)))

  inside_at : (b : Byte) (bs : List Byte) → any_outside base k bs ≡ false → Memᴰ b bs → (base ≤ b.address) × (b.address < base + k)
  unfolding any_outside outside
  inside_at b bs e (Memᴰ.head {x} q) =
      let p = or-false (ltb x.address base) _ (or-false (outside base k x.address) _ e).0 in
      rw q (ltb-false x.address base p.0, leb-false (base + k) x.address p.1)
  inside_at b bs e (Memᴰ.tail {x} {xs} m) = inside_at b xs (or-false (outside base k x.address) _ e).1 m

  pub tested-inside : (bs : List Byte) → any_outside base k bs ≡ false → Inside base k bs
  tested-inside bs e b m = inside_at b bs e m

  -- a record that runs over the last address is outside too: its bytes go on at 0, and the image does not
  pub placed-outside : (x : ℕ) (vs : List ℕ) → base + k ≤ 2 ^ 32 → x < 2 ^ 32 → 0 < length vs → k ≤ 32768
      → any_outside base k (placed x vs) ≡ ltb x base || ltb (base + k) (x + length vs)
  placed-outside x vs end small some short = go (dec_lt x base) (dec_lt (base + k) (x + length vs))
    where
      one : (i : ℕ) → i < length vs → (base ≤ (x + i) % 2 ^ 32 → (x + i) % 2 ^ 32 < base + k → ⊥) → any_outside base k (placed x vs) ≡ true
      one i h f = not-eq-not.0 (λ q. let g = tested-inside (placed x vs) q _ (placed_at x vs i h) in f g.0 g.1)

      go : Dec (x < base) → Dec (base + k < x + length vs) → any_outside base k (placed x vs) ≡ ltb x base || ltb (base + k) (x + length vs)
      go (yes l) h = rw (lt-ltb x base l) (one 0 some (λ p q. omega arith))
      go (no l) (yes h) = rw (le-ltb x base (omega arith), lt-ltb (base + k) (x + length vs) h) (one (base + k - x) (omega arith) (λ p q. omega arith))
      go (no l) (no h) =
          rw (le-ltb x base (omega arith), le-ltb (base + k) (x + length vs) (omega arith))
          (inside-tested (placed x vs) (λ b m. let i = at-placed x vs m in omega arith))
