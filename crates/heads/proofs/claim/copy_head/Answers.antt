-- `heads::claim::copy_head` meets its contract: both parts of the head, and its first byte.
use Prim.Native.Nat.{ℕ, ◌+◌, ◌*◌, ◌-◌, ◌<◌}
use native.Mathlib.Omega.{arith}
use mathlib.Core.Path.{◌≡◌, refl, sym}
use mathlib.Core.List.{List}
use lib.ListN.{length, take, drop, length-take}
use lib.Seq.{length-take-le}
use Rattle.std.proofs.lemmas.List.Edits.{sets}
use Rattle.heads.specs.Claims.{Room, pages_in}
use Rattle.heads.proofs.Claims.{InParts, copied, copied-open, copied-zero}
use Rattle.heads.proofs.claim.copy_head.Goals as goal

-- the head stands in both parts of the scratch
parts : (img scr : List ℕ) (j : ℕ) (own : List ℕ) {head mid out : List ℕ} → Room img scr × (20 * j < length scr)
    → length own ≡ 20 → length head ≡ 20
    → head ≡ sets own 0 (take (1024 * j + 20 - 1024 * j) (drop (1024 * j) img))
    → mid ≡ sets scr (16 * j) (take 16 (drop 0 head))
    → out ≡ sets mid (16 * pages_in scr + 4 * j) (take 4 (drop 16 head))
    → InParts img scr j out
parts img scr j own {head} r start wide all first last =
    let room = r.0 in
    let n : 1024 * j + 20 - 1024 * j ≡ 20 = omega arith in
    let mid = copied head 0 (16 * j) 16 first (omega (arith, wide)) (omega (arith, room.whole, r.1)) in
    record {
      own = _;
      head = _;
      mid = _;
      all = copied img (1024 * j) 0 20 (rw n at all) (omega (arith, room.size, room.whole, r.1)) (omega arith);
      first = mid;
      last = copied head 16 (16 * pages_in scr + 4 * j) 4 last (omega (arith, wide)) (omega (arith, room.whole, r.1, mid.long));
    }

pub slice_bounds-copy_bytes-end-3 : goal.slice_bounds-copy_bytes-end-3
slice_bounds-copy_bytes-end-3 c = sym (length-take-le 16 c.copy_bytes.new.into (omega (arith, c.copy_bytes.auto.into)))

pub copy_bytes-requires-2 : goal.copy_bytes-requires-2
copy_bytes-requires-2 c =
    let p = c.requires in
    omega (arith, length-take 16 c.copy_bytes.new.into, p.0.whole, p.1)

pub returns-then-scratch-index-eq0 : goal.returns-then-scratch-index-eq0
returns-then-scratch-index-eq0 c =
    copied-zero c.requires.1 c.requires.0.whole
    (parts c.args.image.now c.args.scratch.now c.args.index _ c.requires refl c.copy_bytes.auto.into c.copy_bytes.ensures c.copy_bytes-2.ensures c.copy_bytes-3.ensures)
    c.if-scratch-index-eq0.true

pub shape_of-scratch-then-scratch-index-eq0 : goal.shape_of-scratch-then-scratch-index-eq0
shape_of-scratch-then-scratch-index-eq0 c = (returns-then-scratch-index-eq0 c).long

pub returns-else-scratch-index-eq0 : goal.returns-else-scratch-index-eq0
returns-else-scratch-index-eq0 c =
    copied-open c.requires.1 c.requires.0.whole
    (parts c.args.image.now c.args.scratch.now c.args.index _ c.requires refl c.copy_bytes.auto.into c.copy_bytes.ensures c.copy_bytes-2.ensures c.copy_bytes-3.ensures)
    c.if-scratch-index-eq0.false
