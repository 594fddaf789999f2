-- The ways through `number` and `copy`.
use Rattle.std.proofs.Common.{◌≡◌, ℕ, ◌+◌, ◌-◌, ◌*◌, ◌<◌, ◌≤◌, List, length, get_or, take, drop, refl, ap, ◌∙◌, arith, length-drop, length-take-le, get_or-drop, take-add}
use lib.Seq.{sets, sets-eq, length-sets}
use Rattle.blockfile.specs.Bytes.{pg, be16, be32}
use Rattle.laws.proofs.Lists.{sets-append}
use Rattle.entries.specs.declared.place.Place.{Place}
use Rattle.entries.specs.declared.place.Got.{Got}
use Rattle.entries.specs.Places.{Rest, Enough, Stepped, Numbered, Copied}
use Rattle.entries.proofs.Rests.{rest-one, rest-take}
use Rattle.entries.proofs.Places.{Going, going_start, going_next}

-- ---- number: four steps

pub step-on : {img : List ℕ} {at : Place} (n : ℕ) {g : Got} → Enough img at (n + 1) → Stepped img at g → Enough img g.after n
step-on n e t = record { bytes = drop 1 e.bytes; rest = t.moved.to e.bytes e.rest; long = rw length-drop (omega (arith, e.long)) }

pub enough-less : {img : List ℕ} {at : Place} (n : ℕ) {m : ℕ} → n ≤ m → Enough img at m → Enough img at n
enough-less n h e = record { bytes = e.bytes; rest = e.rest; long = omega (arith, e.long) }

pub number-done : {img : List ℕ} {at : Place} {a b c d : Got} → Stepped img at a → Stepped img a.after b → Stepped img b.after c → Stepped img c.after d
    → {w x y z : ℕ} → w ≡ a.byte → x ≡ b.byte → y ≡ c.byte → z ≡ d.byte → (w * 256 + x) * 65536 + (y * 256 + z) < 4294967296 → Numbered img at ((w * 256 + x) * 65536 + (y * 256 + z))
unfolding be32 be16
number-done {img} {at} {a} {b} {c} {d} t u v q {w} {x} {y} {z} e f g h low =
    record {
      below = low;
      is = λ s r.
          let r1 : Rest img a.after (drop 1 s) = t.moved.to s r in
          let r2 : Rest img b.after (drop 1 (drop 1 s)) = u.moved.to (drop 1 s) r1 in
          let r3 : Rest img c.after (drop 1 (drop 1 (drop 1 s))) = v.moved.to (drop 1 (drop 1 s)) r2 in
          let b0 : w ≡ get_or s 0 0 = e ∙ t.byte s r in
          let b1 : x ≡ get_or s 1 0 = f ∙ u.byte (drop 1 s) r1 ∙ get_or-drop 1 s 0 0 in
          let b2 : y ≡ get_or s 2 0 = g ∙ v.byte (drop 1 (drop 1 s)) r2 ∙ get_or-drop 1 (drop 1 s) 0 0 ∙ get_or-drop 1 s 1 0 in
          let b3 : z ≡ get_or s 3 0 = h ∙ q.byte (drop 1 (drop 1 (drop 1 s))) r3 ∙ get_or-drop 1 (drop 1 (drop 1 s)) 0 0 ∙ get_or-drop 1 (drop 1 s) 1 0 ∙ get_or-drop 1 s 2 0 in
          rw (b0, b1, b2, b3);
    }

-- ---- copy: of n bytes, `left` are still to be copied from here on

pub record Copying (img : List ℕ) (at : Place) (n : ℕ) (old : List ℕ) (here : Place) (left : ℕ) (new : List ℕ) : Type 0 where
  pub going : Going img at n here left
  pub room : n ≤ length old
  pub long : length new ≡ length old
  pub is : (s : List ℕ) → Rest img at s → new ≡ sets old 0 (take (n - left) s)

pub copying-start : {img : List ℕ} {at : Place} {n : ℕ} {old : List ℕ} → Enough img at n → n ≤ length old → Copying img at n old at n old
copying-start {n = n} e h = let none : n - n ≡ 0 = omega arith in record { going = going_start e; room = h; long = refl; is = λ s r. rw none }

module _ {img : List ℕ} {at : Place} {n : ℕ} {old : List ℕ} {here : Place} {left : ℕ} {new : List ℕ} (c : Copying img at n old here left new) where
  -- w bytes of this page are stored behind those copied
  copying-part : (w i j : ℕ) (out : List ℕ) → here.offset + w ≤ 1024 → w ≤ left → i ≡ 1024 * (here.page - 1) + here.offset → j ≡ i + w
      → out ≡ sets new (n - left) (take (j - i) (drop i img)) → (s : List ℕ) → Rest img at s → out ≡ sets old 0 (take (n - (left - w)) s)
  copying-part w i j out f h ei ej e s r =
      let bs : List ℕ = c.going.bytes in
      let d : ℕ = n - left in
      let ld : length (take d bs) ≡ d = length-take-le d bs (omega (arith, c.going.long)) in
      let wide : j - i ≡ w = omega arith in
      let sum : n - (left - w) ≡ d + w = omega (arith, c.going.less) in
      let start : 0 + d ≡ d = omega arith in
      let part : take w (drop d bs) ≡ take w (drop i img) = rw ei (rest-take img here (drop d bs) c.going.rest w f) in
      rw (← rest-one img at bs c.going.start s r)
      (e ∙ rw (wide, ← part, c.is bs c.going.start, sum, take-add d w bs, sets-append (take d bs) (take w (drop d bs)) old 0, ld, start))

  module _ (i j : ℕ) (out : List ℕ) (ei : i ≡ 1024 * (here.page - 1) + here.offset) (e : out ≡ sets new (n - left) (take (j - i) (drop i img))) where
    pub copying-next : 1024 - here.offset < left → j ≡ 1024 * here.page → (p : ℕ) → p ≡ be32 (pg img here.page) 4
        → Copying img at n old (record { page = p; offset = 8 }) (left - (1024 - here.offset)) out
    copying-next h ej p is =
        record {
          going = going_next c.going h p is;
          room = c.room;
          long = ap length e ∙ simp length-sets c.long;
          is = copying-part (1024 - here.offset) i j out (omega (arith, c.going.rest.high)) (omega arith) ei
              (omega (arith, c.going.rest.high, c.going.rest.page.low)) e;
        }

    pub copying-end : left ≤ 1024 - here.offset → j ≡ i + left → Copied img at n old out
    copying-end h ej =
        record {
          is = λ s r.
              let none : n - (left - left) ≡ n = omega arith in
              let some : n ≤ length s = omega (arith, ap length (rest-one img at c.going.bytes c.going.start s r), c.going.long) in
              let ln : length (take n s) ≡ n = length-take-le n s some in
              let start : 0 + n ≡ n = omega arith in
              let whole : out ≡ sets old 0 (take n s) = rw none at (copying-part left i j out (omega (arith, c.going.rest.high)) (omega arith) ei ej e s r) in
              whole ∙ sets-eq (take n s) old 0 (omega (arith, c.room)) ∙ rw (ln, start);
        }
