-- An image has each named byte at its place, and depends on nothing but which bytes are named.
use mathlib.Core.Path.{◌≡◌, refl, sym, ◌∙◌}
use mathlib.Core.Logic.{◌↔◌}
use mathlib.Core.Bool.{Bool, true, false, true≢false}
use mathlib.Core.List.{List, Memᴰ}
use Prim.Native.Nat.{ℕ, ◌+◌, ◌-◌}
use native.Mathlib.Omega.{arith}
use lib.Seq.{ext_get_or}
use Rattle.ihex.specs.Text.{Byte, is_named, value_at, image_of}
use Rattle.ihex.specs.Claims.{Once, ImageHolds, SameImage}
use Rattle.ihex.proofs.ReadLaws.{read_names, denoted}
use Rattle.ihex.proofs.NamedLaws.{value_none, image-length, image-at, member-named, named-member, unnamed, value-member}

pub image_holds : ImageHolds
image_holds base k bs inside once =
    record {
      size = image-length base k bs;
      named = λ b m.
          let i = inside b m in
          let e : base + (b.address - base) ≡ b.address = omega arith in
          rw (image-at base k bs (b.address - base) (omega arith), e) (value-member once m);
      unnamed = λ i h f. rw (image-at base k bs i h) (value_none (base + i) bs (unnamed (base + i) bs f));
    }

same-value : (a : ℕ) (bs cs : List Byte) → Once bs → Once cs → ((b : Byte) → Memᴰ b bs ↔ Memᴰ b cs) → value_at a bs ≡ value_at a cs
same-value a bs cs o p f = go (is_named a bs) refl
  where
    go : (t : Bool) → is_named a bs ≡ t → value_at a bs ≡ value_at a cs
    go true e = let n = named-member a bs e in (rw n.2 at (value-member o n.1)) ∙ sym (rw n.2 at (value-member p ((f n.0).0 n.1)))
    go false e = value_none a bs e ∙ sym (value_none a cs (unnamed a cs (λ b m q. true≢false (sym (rw q at (member-named ((f b).1 m))) ∙ e))))

pub same-image : SameImage
same-image text other base k buffer bs cs w h d c f =
    let same : image_of base k bs ≡ image_of base k cs =
    ext_get_or 0 (image_of base k bs) (image_of base k cs) (image-length base k bs ∙ sym (image-length base k cs))
    (λ i g. let l = image-length base k bs in rw (image-at base k bs i (omega arith), image-at base k cs i (omega arith)) (same-value (base + i) bs cs d.once c.once f))
    in
    read_names base k text buffer bs w h (denoted base k d) ∙ rw same (sym (read_names base k other buffer cs w h (denoted base k c)))
