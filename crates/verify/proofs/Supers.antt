-- The tests of the superblock.
use Prim.Native.Nat.{ℕ, ◌+◌, ◌*◌, ◌-◌, ◌≤◌, ◌<◌}
use native.Mathlib.Omega.{arith}
use mathlib.Core.Path.{◌≡◌, refl, sym, ◌∙◌, subst}
use mathlib.Core.Bool.{Bool, true, false, true≢false}
use mathlib.Core.List.{List, []}
use lib.ListN.{get_or}
use lib.Dec.{lit<}
use Rattle.std.proofs.Common.{Some, None}
use Rattle.blockfile.specs.Bytes.{pg, be16, be32, be64}
use Rattle.blockfile.specs.Marks.{super_mark}
use Rattle.blockfile.specs.Order.{Within}
use Rattle.blockfile.specs.Fields.{IsSuperblock}
use Rattle.blockfile.specs.WellFormed.{superblock}
use Rattle.laws.proofs.Pages.{pg-at}
use Rattle.heads.specs.Claims.{pages_in, claimable, claimed, Claimed}
use Rattle.pages.proofs.Begins.{begins-take, take_begins}
use Rattle.walks.specs.Found.{Decides, FindsAt}
use Rattle.walks.proofs.Founds.{same_start, finds-none, finds-done, found_none, claimable-open}
use Rattle.walks.proofs.Pieces.{Single, found-claimable, found-rest, found-cons, claim-done, claim-not}
use Rattle.verify.specs.Superblock.{Fixed, SuperFound}

-- ---- The fields that are the same in every image

-- as they are read
pub record Numbers (p version high low size : ℕ) : Type 0 where
  pub is_version : version ≡ 0x0102
  pub is_high : high ≡ 0
  pub is_low : low ≡ 1024 * p
  pub is_size : size ≡ 1024

pub numbers_fixed : {p version high low size : ℕ} (img : List ℕ) {r : Bool} → p ≤ 4096 → ((i : ℕ) → get_or img i 0 < 256)
    → version ≡ be16 (pg img 1) 6 → high ≡ be32 (pg img 1) 8 → low ≡ be32 (pg img 1) 12 → size ≡ be32 (pg img 1) 24
    → Decides (Numbers p version high low size) r → Decides (Fixed p (pg img 1)) r
unfolding be16 be64
numbers_fixed img few bytes v h l s d =
    let small : get_or (pg img 1) 7 0 < 256 = omega (arith, pg-at img 1 7 (omega arith) (lit< tt), bytes (1024 * (1 - 1) + 7)) in
    record {
      sound = λ e.
          let x = d.sound e in
          record {
            major = omega (arith, v, x.is_version);
            minor = omega (arith, v, x.is_version);
            file_length = omega (arith, h, l, x.is_high, x.is_low);
            page_size = sym s ∙ x.is_size;
          };
      complete = λ f. d.complete (record {
        is_version = omega (arith, v, f.major, f.minor);
        is_high = omega (arith, h, f.file_length);
        is_low = omega (arith, l, f.file_length);
        is_size = s ∙ f.page_size;
      });
    }

-- ---- Page 1

super-single : (img : List ℕ) (p f z : ℕ) → Single img (superblock p f z) 1 0
unfolding super_mark
super-single img p f z = record { page = refl; mark = λ b. take_begins super_mark (pg img 1) b.mark }

module _ (img scr : List ℕ) where
  none : (s : List ℕ) → ((a : ℕ) (t : List ℕ) → SuperFound img scr a t → ⊥) → FindsAt Some (SuperFound img scr) None s
  none s n = finds-none (same_start (SuperFound img scr)) n

  fields : (a : ℕ) (t : List ℕ) (f : SuperFound img scr a t) → IsSuperblock (pages_in scr) a f.size (pg img 1)
  fields a t f = f.found.bears.0

  module _ (r : Bool) (s : List ℕ) (c : Claimed img scr 1 0 r s) where
    pub super-no : r ≡ false → FindsAt Some (SuperFound img scr) None s
    super-no e =
        none s (λ a t f. true≢false
        (sym (found-claimable img scr (superblock (pages_in scr) a f.size) 1 0 (super-single img _ _ _) [] t f.found) ∙ claim-not img scr 1 0 r s c e))

    module _ (e : r ≡ true) (n : ℕ) (is : n ≡ pages_in scr) (q : Bool) (d : Decides (Fixed n (pg img 1)) q) where
      pub super-done : q ≡ true → be16 (pg img 1) 20 ≤ 1 → (a : ℕ) → a ≡ be32 (pg img 1) 16 → (z : ℕ) → z ≡ be16 (pg img 1) 22 → Within 2 128 z
          → FindsAt Some (SuperFound img scr) (Some a) s
      unfolding super_mark
      super-done h m a fr z sz w =
          let k : (claimable img scr 1 0 ≡ true) × (s ≡ claimed scr 1) = claim-done img scr 1 0 r s c e in
          let x : Fixed (pages_in scr) (pg img 1) = subst (λ (p : ℕ). Fixed p (pg img 1)) is (d.sound h) in
          let b : IsSuperblock (pages_in scr) a z (pg img 1) =
          record {
            mark = begins-take super_mark (pg img 1) (claimable-open img scr 1 0 k.0).1;
            major = x.major;
            minor = x.minor;
            file_length = x.file_length;
            free = sym fr;
            mounted = m;
            span_size = sym sz;
            page_size = x.page_size;
          } in
          finds-done (same_start (SuperFound img scr)) a
          (record {
            size = z;
            range = w;
            found = rw k.1 (found-cons img scr (superblock (pages_in scr) a z) 1 0 (super-single img _ _ _) [] (claimed scr 1) k.0 b (found_none img (claimed scr 1)));
          })
          (λ o t f.
          let i : IsSuperblock (pages_in scr) o f.size (pg img 1) = fields o t f in (
            fr ∙ i.free,
            k.1 ∙ sym (found-rest img scr (superblock (pages_in scr) o f.size) 1 0 (super-single img _ _ _) [] t f.found).left,
          ))
