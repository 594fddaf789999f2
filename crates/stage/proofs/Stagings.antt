-- The ways through `stage_entry` and `stage`.
use Prim.Native.Nat.{ℕ, ◌+◌, ◌≤◌, ◌<◌}
use native.Mathlib.Omega.{arith}
use mathlib.Core.Path.{◌≡◌, ap, sym, ◌∙◌, subst}
use mathlib.Core.List.{List, [], ◌∷◌, ◌++◌, append-nil}
use lib.ListN.{length, take, drop, drop_of_length-le}
use lib.Seq.{sets, sets-eq, drop_at, length-take-le}
use Rattle.blockfile.specs.Layout.{Entry, entries_from, entry_end, entries_end}
use Rattle.blockfile.specs.Encode.{entries_bytes}
use Rattle.laws.proofs.Lists.{sets-append}
use Rattle.laws.proofs.Encodes.{length-entries}
use Rattle.entries.specs.declared.place.Sizes.{Sizes}
use Rattle.stage.specs.declared.change.Change.{Change}
use Rattle.stage.specs.declared.change.Cursor.{Cursor}
use Rattle.stage.specs.declared.change.Next.{Next}
use Rattle.stage.specs.declared.change.Next.TheVariants.{New, Old}
use Rattle.stage.specs.declared.measure.Part.{Part}
use Rattle.stage.specs.Changes.{spliced, Stands, Has, Kept, NextOf}
use Rattle.stage.specs.Parts.{part, Gone, EntryPut, Copyable, OldPut, EntryStageable, StagesEntry, EntryStaged, Stageable, Staged}
use Rattle.stage.proofs.Sections.{part-next, end-next, end-most, turned-part, gone-next, bytes-append}

-- ---- stage_entry

module _ {img : List ℕ} {c : Change} {u : Cursor} {k v : List ℕ} {end : ℕ} {stream : List ℕ} {r : Next} (p : EntryStageable img c u k v end stream) (t : NextOf img c u r) where
  abbrev e : Entry
  e = record { key = k; value = v }

  pub new-room-for : (w : Cursor) → r ≡ New w → entry_end end e ≤ length stream
  new-room-for w q = p.room e (turned-part (t.new w q e p.entries p.stands p.has))

  pub old-room-for : (g : Sizes) (w : Cursor) → r ≡ Old g w → Copyable img g stream end
  old-room-for g w q =
      let l : Kept img c e p.entries u g w = t.old g w q e p.entries p.stands p.has in
      record { entry = l.entry; more = l.more; at = l.at; room = p.room l.entry (turned-part l.turned) }

module _ {img : List ℕ} {c : Change} {u w : Cursor} {k v : List ℕ} {end far : ℕ} {old new : List ℕ} {r : Next} (t : NextOf img c u r) where
  pub stage-new : r ≡ New w → EntryPut old end (record { key = k; value = v }) new far → EntryStaged img c u k v end old new (record { end = far; after = w })
  stage-new q p =
      record {
        is = λ es s h.
            let e : Entry = record { key = k; value = v } in
            record { entry = e; turned = t.new w q e es s h; put = p };
      }

  pub stage-old : {g : Sizes} → r ≡ Old g w → OldPut img g old end new far → EntryStaged img c u k v end old new (record { end = far; after = w })
  stage-old {g} q p =
      record {
        is = λ es s h.
            let e : Entry = record { key = k; value = v } in
            let l : Kept img c e es u g w = t.old g w q e es s h in
            record { entry = l.entry; turned = l.turned; put = p.is l.entry l.more l.at };
      }

-- ---- stage: of n entries from u on, i stand in the buffer

-- entries gone through, and their bytes behind the header
pub record Wrote (img : List ℕ) (c : Change) (e : Entry) (es : List Entry) (u : Cursor) (i : ℕ) (old new : List ℕ) (w : Cursor) (end : ℕ) : Type 0 where
  pub gone : Gone img c e es u i w end
  pub bytes : new ≡ sets old entries_from (entries_bytes entries_from (part c e es u i))

pub record Staging (img : List ℕ) (c : Change) (u : Cursor) (k v : List ℕ) (n : ℕ) (old new : List ℕ) (w : Cursor) (end i : ℕ) : Type 0 where
  pub most : i ≤ n
  pub long : length new ≡ length old
  pub is : (es : List Entry) → Stands img c es u → Has c es u n → Wrote img c (record { key = k; value = v }) es u i old new w end

wrote-next : {img : List ℕ} {c : Change} {e : Entry} {es : List Entry} {u : Cursor} {i : ℕ} {old mid new : List ℕ} {w : Cursor} {end : ℕ} {r : Part}
    → Wrote img c e es u i old mid w end → StagesEntry img c e es w end mid new r → Wrote img c e es u (i + 1) old new r.after r.end
wrote-next {c = c} {e = e} {es = es} {u = u} {i = i} {old = old} {w = w} {end = end} g t =
    let ps : List Entry = part c e es u i in
    let x : Entry = t.entry in
    let at : entries_from + length (entries_bytes entries_from ps) ≡ end = length-entries ps entries_from ∙ sym g.gone.is in
    record {
      gone = gone-next g.gone t.turned t.put.ends;
      bytes = t.put.is
          ∙ ap (λ (l : List ℕ). sets l end (entries_bytes end (x ∷ []))) g.bytes
          ∙ ap (λ (j : ℕ). sets (sets old entries_from (entries_bytes entries_from ps)) j (entries_bytes end (x ∷ []))) (sym at)
          ∙ sym (sets-append (entries_bytes entries_from ps) (entries_bytes end (x ∷ [])) old entries_from)
          ∙ ap (λ (j : ℕ). sets old entries_from (entries_bytes entries_from ps ++ entries_bytes j (x ∷ []))) g.gone.is
          ∙ ap (sets old entries_from) (sym (bytes-append entries_from ps (x ∷ [])))
          ∙ ap (λ (l : List Entry). sets old entries_from (entries_bytes entries_from l))
          (sym (part-next (spliced c e es) u.index i w.index x g.gone.index (turned-part t.turned)));
    }

module _ {img : List ℕ} {c : Change} {u : Cursor} {k v : List ℕ} {n : ℕ} {old new : List ℕ} {w : Cursor} {end i : ℕ} (s : Staging img c u k v n old new w end i) where
  pub staging-next : i < n → (out : List ℕ) (r : Part) → length out ≡ length new → EntryStaged img c w k v end new out r
      → Staging img c u k v n old out r.after r.end (i + 1)
  staging-next h out r l t =
      record {
        most = omega arith;
        long = l ∙ s.long;
        is = λ es a b. let g = s.is es a b in wrote-next g (t.is es g.gone.stands (omega (arith, g.gone.index)));
      }

  pub staging-end : n ≤ i → Staged img c u k v n old new w
  staging-end h =
      let q : i ≡ n = omega (arith, s.most) in
      record {
        is = λ es a b l.
            let e : Entry = record { key = k; value = v } in
            let g : Wrote img c e es u n old new w end = subst (λ (j : ℕ). Wrote img c e es u j old new w end) q (s.is es a b) in
            let bs : List ℕ = entries_bytes entries_from (part c e es u n) in
            let far : entries_from + length bs ≡ length old = length-entries (part c e es u n) entries_from ∙ sym l in
            let past : length old ≤ entries_from + length bs = omega arith in
            let whole : new ≡ take entries_from old ++ bs
            = g.bytes ∙ sets-eq bs old entries_from (omega arith) ∙ ap (λ (x : List ℕ). (take entries_from old ++ bs) ++ x) (drop_of_length-le old past)
            ∙ append-nil (take entries_from old ++ bs) in
            record {
              is = whole;
              behind = ap (drop entries_from) whole ∙ drop_at (take entries_from old) bs entries_from (length-take-le entries_from old (omega arith));
              index = g.gone.index;
              stands = g.gone.stands;
            };
      }

  pub staging-room : Stageable img c u k v n old → i < n → EntryStageable img c w k v end new
  staging-room p h =
      let e : Entry = record { key = k; value = v } in
      let g : Wrote img c e p.entries u i old new w end = s.is p.entries p.stands p.has in
      record {
        entries = p.entries;
        stands = g.gone.stands;
        has = omega (arith, g.gone.index, p.has);
        room = λ x one.
            let far : entries_end entries_from (part c e p.entries u (i + 1)) ≡ entry_end end x
            = end-next (spliced c e p.entries) u.index i w.index x g.gone.index one ∙ ap (λ (j : ℕ). entry_end j x) (sym g.gone.is) in
            omega (arith, end-most c e p.entries u (i + 1) n (omega arith), p.long, s.long);
      }
