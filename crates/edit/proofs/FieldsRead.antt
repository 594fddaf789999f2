-- The fields that the code reads are those of the table and of the span.
use Prim.Native.Nat.{ℕ, ◌+◌, ◌≤◌}
use mathlib.Core.Path.{◌≡◌, ap, sym, ◌∙◌, subst}
use mathlib.Core.List.{List}
use Rattle.blockfile.specs.Bytes.{pg, be16, be32}
use Rattle.blockfile.specs.Fields.{IsSkipList, IsSpan}
use Rattle.blockfile.specs.WellFormed.{skip_list_of}
use Rattle.pages.specs.Places.{Inside}
use Rattle.entries.specs.Places.{IsPage}
use Rattle.search.specs.Tables.{Reading}
use Rattle.edit.specs.declared.fields.SkipList.{SkipList}
use Rattle.edit.specs.declared.fields.Links.{Links}
use Rattle.edit.specs.Fields.{ListOf, LinksRead}
use Rattle.edit.proofs.Stands.{head-borne}

pub links-read : (img : List ℕ) (page : ℕ) (x : Links)
    → x.first ≡ be32 (pg img page) 4 → x.prev ≡ be32 (pg img page) 8 → x.next ≡ be32 (pg img page) 12 → x.size ≡ be16 (pg img page) 18 → LinksRead img page x
links-read img page x a b c d =
    record {
      is = λ y.
          let s : IsSpan y.linked (pg img y.linked.span.page) _ = y.borne.0 in
          let e : pg img page ≡ pg img y.linked.span.page = ap (pg img) (sym y.at) in
          record {
            prev = b ∙ ap (λ (l : List ℕ). be32 l 8) e ∙ s.prev;
            next = c ∙ ap (λ (l : List ℕ). be32 l 12) e ∙ s.next;
            first = a ∙ ap (λ (l : List ℕ). be32 l 4) e ∙ s.cont;
            size = d ∙ ap (λ (l : List ℕ). be16 l 18) e ∙ s.size;
          };
    }

module _ {img : List ℕ} {root : ℕ} (t : Reading img root) where
  list-shown : IsSkipList (skip_list_of t.table) (pg img root)
  list-shown = subst (λ (p : ℕ). IsSkipList (skip_list_of t.table) (pg img p)) t.root t.readable.borne.0.0

  -- the page that the skip-list page names as the first level is the head's, and a page of the image
  pub head-inside : (n : ℕ) → n ≡ be32 (pg img root) 12 → (o w : ℕ) → o + w ≤ 1024 → Inside img n o w
  head-inside n e o w l =
      let p : IsPage img t.table.head.page = (head-borne t.readable).1.0 in
      subst (λ (m : ℕ). Inside img m o w) (sym (e ∙ list-shown.level)) (record { small = t.readable.small; low = p.low; high = p.high; fits = l })

  pub list_of : (x : SkipList) → x.head ≡ be32 (pg img root) 12
      → x.size ≡ be32 (pg img root) 16 → x.spans ≡ be32 (pg img root) 20 → x.levels ≡ be32 (pg img root) 24 → x.most ≡ be16 (pg img root) 28
      → x.max ≡ be16 (pg img x.head) 8 → x.top ≡ be16 (pg img x.head) 10 → ListOf t.table x
  list_of x a b c d e f g =
      let h : x.head ≡ t.table.head.page = a ∙ list-shown.level in
      record {
        head = h;
        size = b ∙ list-shown.size;
        spans = c ∙ list-shown.spans;
        levels = d ∙ list-shown.levels;
        most = e ∙ list-shown.span_size;
        max = f ∙ ap (λ (n : ℕ). be16 (pg img n) 8) h ∙ (head-borne t.readable).0.max_height;
        top = g ∙ ap (λ (n : ℕ). be16 (pg img n) 10) h ∙ (head-borne t.readable).0.height;
      }
