-- A plan with a tower written.
use Prim.Native.Nat.{ℕ, ◌+◌, ◌*◌}
use native.Mathlib.Omega.{arith}
use mathlib.Core.Path.{◌≡◌, refl, ap, sym, ◌∙◌}
use mathlib.Core.List.{List, [], ◌∷◌, ◌++◌}
use lib.ListN.{length}
use Rattle.blockfile.specs.Bytes.{be32, apply}
use Rattle.laws.proofs.Writes.{apply-append}
use Rattle.entries.specs.Places.{IsPage}
use Rattle.pages.specs.Places.{Inside}
use Rattle.edit.specs.declared.plan.Plan.{Plan}
use Rattle.edit.specs.declared.tower.NewTower.{NewTower}
use Rattle.edit.specs.Cuts.{span_writes, tower_writes}
use Rattle.edit.specs.Towers.{rise_of, TowerReady}
use Rattle.edit.specs.Plans.{WroteSpans}
use Rattle.edit.specs.Counts.{counts_of, CountsReady}
use Rattle.edit.specs.Applies.{TallReady, rise_for, WroteTall}
use Rattle.edit.proofs.Risings.{page-of, linkable-in}

-- the tower that the plan has, with these pages
abbrev pub new_for : Plan → (page span : ℕ) → NewTower
new_for x p s = record { page = p; span = s; height = x.shape.height; max = x.list.max; head = x.list.head; top = x.list.top }

module _ {img b : List ℕ} {x : Plan} {before : List ℕ} where
  pub tower-ready : (r : TallReady img b x before) (p s : ℕ) → p ≡ be32 b (4 * (1 + x.wants.conts + x.wants.span)) → (out : List ℕ) → length out ≡ length img
      → TowerReady out (new_for x p s) before
  tower-ready r p s e out l =
      let q : IsPage img r.number = r.tower.page in
      record {
        page = record { low = omega (arith, e, r.tower.listed, q.low); high = omega (arith, e, r.tower.listed, q.high, l) };
        head = page-of out l r.head;
        links = linkable-in out l r.links;
      }

  pub counts-ready : (r : TallReady img b x before) (out : List ℕ) → length out ≡ length img → CountsReady out x
  counts-ready r out l =
      let k : CountsReady img x = r.counts in
      let i : Inside img x.root 16 12 = k.root in
      record {
        root = record { small = omega (arith, i.small); low = i.low; high = omega (arith, i.high); fits = i.fits };
        among = k.among;
        size = k.size;
        spans = k.spans;
        levels = k.levels;
        entries = k.entries;
        tower = k.tower;
      }

  pub tall-written : (after : List ℕ) (p s : ℕ) → p ≡ be32 b (4 * (1 + x.wants.conts + x.wants.span)) → s ≡ be32 b (4 * (1 + x.wants.conts)) → (a t out : List ℕ)
      → WroteSpans img b x a → t ≡ apply (tower_writes (rise_of (new_for x p s) before after) (p ∷ [])) a → out ≡ apply (counts_of x ∷ []) t → WroteTall img b x before after out
  tall-written after p s e f a t out w o u =
      record {
        image = λ c q qs n h g.
            let i : p ≡ n = e ∙ g.listed in
            let j : s ≡ q = f ∙ ap (λ (m : ℕ). be32 b (4 * (1 + m))) h.stay.conts ∙ (h.split q qs refl).moved.listed.0 in
            u
            ∙ ap (apply (counts_of x ∷ [])) (o ∙ (λ k. apply (tower_writes (rise_for x (j k) before after) (i k ∷ [])) a))
            ∙ sym (apply-append (tower_writes (rise_for x q before after) (n ∷ [])) (counts_of x ∷ []) a)
            ∙ ap (apply (tower_writes (rise_for x q before after) (n ∷ []) ++ (counts_of x ∷ []))) (w.image c (q ∷ qs) h)
            ∙ sym (apply-append (span_writes c (q ∷ qs)) (tower_writes (rise_for x q before after) (n ∷ []) ++ (counts_of x ∷ [])) img);
      }
