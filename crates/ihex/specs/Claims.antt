-- What is shown of the definitions (in proofs/).
use Rattle.std.specs.Prelude.{◌≡◌, ◌↔◌, false, ℕ, ◌+◌, ◌-◌, ◌*◌, ◌≤◌, ◌<◌, length, get_or}
use mathlib.Core.List.{List, [], ◌∷◌, Memᴰ}
use Rattle.std.specs.Prelude.{Some}
use Rattle.octets.specs.Octets.{Bytes}
use Rattle.wire.specs.Message.{at_start}
use Rattle.ihex.specs.Line.{data00, line_of}
use Rattle.ihex.specs.Text.{lines, Byte, placed, Names, image_of}
use Rattle.ihex.specs.Read.{Read, wrong_length, read}
use Rattle.ihex.specs.Write.{text_of}

-- no byte outside the k bytes from address base on
abbrev pub Inside : (base k : ℕ) → List Byte → Type 0
Inside base k bs = (b : Byte) → Memᴰ b bs → (base ≤ b.address) × (b.address < base + k)

-- no byte twice
unfoldable pub Once : List Byte → Type 0
Once [] = Unit {0}
Once (b ∷ bs) = ((c : Byte) → Memᴰ c bs → c.address ≡ b.address → ⊥) × Once bs

-- A text keeps the rules, and the bytes bs, which are those that it names, are bytes of the image, none named twice.
pub record Denotes (text : List ℕ) (base k : ℕ) (bs : List Byte) : Type 0 where
  pub rules : Names 0 (lines text) bs
  pub inside : Inside base k bs
  pub once : Once bs

-- "The image is the one that the text denotes, and a text is accepted exactly if it keeps these rules and names no byte outside the image or twice."
pub record Reads (text : List ℕ) (base k : ℕ) (buffer : List ℕ) : Type 0 where
  pub exactly : ((read text base k buffer).answer ≡ Read) ↔ ((bs : List Byte) × Denotes text base k bs)
  pub image : (bs : List Byte) → Denotes text base k bs → (read text base k buffer).buffer ≡ at_start (image_of base k bs) buffer

abbrev pub AllRead : Type 0
AllRead = (text : List ℕ) (base k : ℕ) (buffer : List ℕ) → wrong_length base k ≡ false → k ≤ length buffer → Reads text base k buffer

-- An image has each named byte at its place, and 0xFF elsewhere.
pub record Holds (base k : ℕ) (bs : List Byte) (image : List ℕ) : Type 0 where
  pub size : length image ≡ k
  pub named : (b : Byte) → Memᴰ b bs → get_or image (b.address - base) 0 ≡ b.value
  pub unnamed : (i : ℕ) → i < k → ((b : Byte) → Memᴰ b bs → b.address ≡ base + i → ⊥) → get_or image i 0 ≡ 0xFF

abbrev pub ImageHolds : Type 0
ImageHolds = (base k : ℕ) (bs : List Byte) → Inside base k bs → Once bs → Holds base k bs (image_of base k bs)

-- The order of records does not matter: accepted texts that name the same bytes are read alike.
abbrev pub SameImage : Type 0
SameImage = (text other : List ℕ) (base k : ℕ) (buffer : List ℕ) (bs cs : List Byte) → wrong_length base k ≡ false → k ≤ length buffer
    → Denotes text base k bs → Denotes other base k cs → ((b : Byte) → Memᴰ b bs ↔ Memᴰ b cs) → read text base k buffer ≡ read other base k buffer

-- One line never names a byte twice.
abbrev pub OnceInLine : Type 0
OnceInLine = (u a : ℕ) (l vs : List ℕ) → line_of l ≡ Some (data00 a vs) → Once (placed (u * 65536 + a) vs)

-- The text for an image is read back as that image.
abbrev pub RoundTrip : Type 0
RoundTrip = (image : List ℕ) (base : ℕ) (buffer : List ℕ) → Bytes image → wrong_length base (length image) ≡ false → length image ≤ length buffer
    → read (text_of base image) base (length image) buffer ≡ record { answer = Read; buffer = at_start image buffer }
