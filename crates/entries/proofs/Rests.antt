-- What stands from a place on: it is one list, and reading on leaves the rest of it.
use Rattle.std.proofs.Common.{◌≡◌, ℕ, zero, suc, ◌+◌, ◌-◌, ◌*◌, ◌<◌, ◌≤◌, List, [], ◌∷◌, ◌++◌, map, length, get_or, take, drop, sym, refl, ap, ◌∙◌, subst, ap₂, add_assoc, arith, length-append, length-drop, get_or-drop, take-take, drop-drop, drop_at}
use lib.ListN.{get_or-append}
use lib.Seq.{drop-append-le, take-append-le}
use Rattle.blockfile.specs.Bytes.{pg, be16, be32, Every, first_of}
use Rattle.blockfile.specs.Fields.{AreConts}
use Rattle.laws.proofs.Numbers.{be16-agree}
use Rattle.laws.proofs.Pages.{length-pg, pg-from}
use Rattle.entries.specs.declared.place.Place.{Place}
use Rattle.entries.specs.Places.{IsPage, stream_of, Rest}

pub length-stream : (img ps : List ℕ) → Every (IsPage img) ps → length (stream_of img ps) ≡ 1016 * length ps
length-stream img [] h = refl
length-stream img (q ∷ ps) h = simp (length-append, length-drop, length-pg img q h.0.low h.0.high, length-stream img ps h.1) (omega arith)

-- continuation pages are one list
pub conts-one : (img l m : List ℕ) → Every (IsPage img) l → Every (IsPage img) m → first_of l ≡ first_of m → AreConts l (map (pg img) l) → AreConts m (map (pg img) m) → l ≡ m
conts-one img [] [] u v e a b = refl
conts-one img [] (r ∷ m) u v e a b = absurd (omega (arith, v.0.low))
conts-one img (q ∷ l) [] u v e a b = absurd (omega (arith, u.0.low))
conts-one img (q ∷ l) (r ∷ m) u v e a b =
    ap₂ (λ (x : ℕ) (xs : List ℕ). x ∷ xs) e
    (conts-one img l m u.1 v.1 (sym a.1 ∙ ap (λ (n : ℕ). be32 (pg img n) 4) e ∙ b.1) a.2 b.2)

-- a part of the first w bytes
take_part : (o n w : ℕ) (b : List ℕ) → o + n ≤ w → take n (drop o (take w b)) ≡ take n (drop o b)
take_part zero n w b h = take-take n w b (omega arith)
take_part (suc o) n zero b h = absurd (omega arith)
take_part (suc o) n (suc w) [] h = refl
take_part (suc o) n (suc w) (x ∷ b) h = take_part o n w b (omega arith)

module _ (img : List ℕ) (at : Place) (s : List ℕ) (r : Rest img at s) where
  pub rest-one : (t : List ℕ) → Rest img at t → s ≡ t
  rest-one t u =
      r.is
      ∙ ap (λ (l : List ℕ). drop at.offset (pg img at.page) ++ stream_of img l)
      (conts-one img r.more u.more r.inside u.inside (sym r.linked ∙ u.linked) r.conts u.conts)
      ∙ sym u.is

  on-page : length (drop at.offset (pg img at.page)) ≡ 1024 - at.offset
  on-page = simp (length-drop, length-pg img at.page r.page.low r.page.high)

  pub rest-length : length s ≡ 1024 - at.offset + 1016 * length r.more
  rest-length = ap length r.is ∙ simp (length-append, on-page, length-stream img r.more r.inside)

  -- the bytes on this page
  pub rest_at : (i : ℕ) → at.offset + i < 1024 → get_or s i 0 ≡ get_or (pg img at.page) (at.offset + i) 0
  rest_at i h =
      ap (λ (l : List ℕ). get_or l i 0) r.is
      ∙ get_or-append (drop at.offset (pg img at.page)) (stream_of img r.more) 0 i (omega (arith, on-page))
      ∙ get_or-drop at.offset (pg img at.page) i 0

  pub rest-16 : (i : ℕ) → at.offset + (i + 2) ≤ 1024 → be16 s i ≡ be16 (pg img at.page) (at.offset + i)
  rest-16 i h =
      be16-agree s i (pg img at.page) (at.offset + i) (λ k q. rest_at (i + k) (omega arith) ∙ ap (λ (j : ℕ). get_or (pg img at.page) j 0) (sym (add_assoc at.offset i k)))

  pub rest-take : (n : ℕ) → at.offset + n ≤ 1024 → take n s ≡ take n (drop (1024 * (at.page - 1) + at.offset) img)
  rest-take n h =
      ap (take n) r.is
      ∙ take-append-le n (drop at.offset (pg img at.page)) (stream_of img r.more) (omega (arith, on-page))
      ∙ ap (λ (b : List ℕ). take n (drop at.offset b)) (pg-from img at.page r.page.low)
      ∙ take_part at.offset n 1024 (drop (1024 * (at.page - 1)) img) h
      ∙ ap (take n) (drop-drop at.offset (1024 * (at.page - 1)) img)

  -- on, on this page
  pub rest_in : (n : ℕ) → at.offset + n ≤ 1024 → Rest img (record { page = at.page; offset = at.offset + n }) (drop n s)
  rest_in n h = record {
    small = r.small;
    page = r.page;
    low = omega (arith, r.low);
    high = h;
    more = r.more;
    linked = r.linked;
    conts = r.conts;
    inside = r.inside;
    is = ap (drop n) r.is
        ∙ drop-append-le n (drop at.offset (pg img at.page)) (stream_of img r.more) (omega (arith, on-page))
        ∙ ap (λ (l : List ℕ). l ++ stream_of img r.more) (drop-drop n at.offset (pg img at.page));
  }

  -- on to the next page
  pub rest-next : (p : ℕ) → p ≡ be32 (pg img at.page) 4 → 1024 - at.offset < length s → Rest img (record { page = p; offset = 8 }) (drop (1024 - at.offset) s)
  rest-next p e h = go r.more r.linked r.conts r.inside r.is
    where
      go : (l : List ℕ) → be32 (pg img at.page) 4 ≡ first_of l → AreConts l (map (pg img) l) → Every (IsPage img) l
          → s ≡ drop at.offset (pg img at.page) ++ stream_of img l → Rest img (record { page = p; offset = 8 }) (drop (1024 - at.offset) s)
      go [] f c w q = absurd (omega (arith, ap length q, length-append (drop at.offset (pg img at.page)) [], on-page))
      go (n ∷ l) f c w q =
          subst (λ (x : ℕ). Rest img (record { page = x; offset = 8 }) (drop (1024 - at.offset) s)) (sym (e ∙ f))
          (record {
            small = r.small;
            page = w.0;
            low = omega arith;
            high = omega arith;
            more = l;
            linked = c.1;
            conts = c.2;
            inside = w.1;
            is = ap (drop (1024 - at.offset)) q ∙ drop_at (drop at.offset (pg img at.page)) (stream_of img (n ∷ l)) (1024 - at.offset) on-page;
          })
