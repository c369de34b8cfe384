-- The hashes of places, written into a buffer from the last one down.
use Rattle.std.proofs.Common.{◌≡◌, ℕ, suc, ◌+◌, ◌-◌, ◌*◌, ◌<◌, ◌≤◌, List, [], ◌∷◌, ◌++◌, length, take, drop, sym, refl, ap, ◌∙◌, ap₂, append_assoc, append-nil, arith, take-append-drop, length-take-le, take_all, take-take, drop_at}
use lib.Seq.{paste, length-paste, take-append-le}
use Rattle.octets.specs.Octets.{joined}
use Rattle.merkle.specs.Limits.{hash_length}
use Rattle.merkle.specs.Shape.{Shape, Place}
use Rattle.merkle.specs.Hash.{Hashing, hash, hashes}
use Rattle.merkle.proofs.HashLaws.{length-hash}
use Rattle.merkle.proofs.PathLaws.{length_last}

module _ (H : Hashing) (f : ℕ → List ℕ) (all : List Place) (out : List ℕ) where
  -- Of the hashes of all these places, those of the c on the left are still to be written.
  pub record Filling (now : List ℕ) (left : List Place) (c : ℕ) : Type 0 where
    pub done : List Place
    pub parts : all ≡ left ++ done
    pub count : c ≡ length left
    pub room : hash_length * c ≤ length out
    pub stands : now ≡ take (hash_length * c) out ++ (joined (hashes H f done) ++ drop (hash_length * length all) out)
    pub same : length now ≡ length out

  pub filling-none : (c : ℕ) → c ≡ length all → hash_length * c ≤ length out → Filling out all c
  unfolding joined hashes
  filling-none c e h =
      record {
        done = [];
        parts = sym (append-nil all);
        count = e;
        room = h;
        stands = sym (take-append-drop (hash_length * c) out) ∙ ap (λ x. take (hash_length * c) out ++ drop (hash_length * x) out) e;
        same = refl;
      }

module _ {H : Hashing} {f : ℕ → List ℕ} {all : List Place} {out now : List ℕ} where
  -- The last one, (o, s), is written next.
  module _ {left : List Place} {c : ℕ} (w : Filling H f all out now left c) (ps : List Place) (o : ℕ) (s : Shape) (last : left ≡ ps ++ ((o, s) ∷ [])) where
    one_more : c ≡ suc (length ps)
    one_more = w.count ∙ ap length last ∙ length_last ps (o, s)

    pub filling-room : (0 < c) × (hash_length * (c - 1) + hash_length ≤ length now)
    filling-room = let e = one_more in let r = w.room in let l = w.same in (omega arith, omega arith)

    pub filling-one : ((x : List ℕ) → length (H.function x) ≡ hash_length)
        → Filling H f all out (paste now (hash_length * (c - 1)) (hash H f o s) hash_length) ps (c - 1)
    unfolding joined hashes
    filling-one sized =
        let r = w.room in
        let e = one_more in
        let x = hash H f o s in
        let lx : length x ≡ hash_length = length-hash H sized f o s in
        let rest = joined (hashes H f w.done) ++ drop (hash_length * length all) out in
        let len : length (take (hash_length * c) out) ≡ hash_length * c = length-take-le (hash_length * c) out r in
        let end : hash_length * (c - 1) + hash_length ≡ hash_length * c = omega arith in
        record {
          done = (o, s) ∷ w.done;
          parts = w.parts ∙ ap (λ (qs : List Place). qs ++ w.done) last ∙ append_assoc ps ((o, s) ∷ []) w.done;
          count = omega arith;
          room = omega arith;
          stands = ap (λ (z : List ℕ). paste z (hash_length * (c - 1)) x hash_length) w.stands
              ∙ rw (
                end,
                take-append-le (hash_length * (c - 1)) (take (hash_length * c) out) rest (omega arith),
                take-take (hash_length * (c - 1)) (hash_length * c) out (omega arith),
                drop_at (take (hash_length * c) out) rest (hash_length * c) len,
                take_all hash_length x (omega arith),
              )
              (append_assoc (take (hash_length * (c - 1)) out) x rest
              ∙ ap (λ (z : List ℕ). take (hash_length * (c - 1)) out ++ z) (sym (append_assoc x (joined (hashes H f w.done)) (drop (hash_length * length all) out))));
          same = length-paste now (hash_length * (c - 1)) x hash_length (let v = filling-room in omega arith) (omega arith) ∙ w.same;
        }

  pub filling-all : {c : ℕ} → Filling H f all out now [] c → now ≡ joined (hashes H f all) ++ drop (hash_length * length all) out
  filling-all w =
      w.stands ∙ ap₂ {C = List ℕ} (λ k qs. take (hash_length * k) out ++ (joined (hashes H f qs) ++ drop (hash_length * length all) out)) w.count (sym w.parts)
