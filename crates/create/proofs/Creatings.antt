-- The ways through `create`: the change at the name's spot in the metaindex.
use Prim.Native.Nat.{ℕ, ◌+◌, ◌≤◌, ◌<◌}
use mathlib.Core.Path.{◌≡◌, ap, sym, ◌∙◌, subst}
use mathlib.Core.Bool.{false}
use mathlib.Core.List.{List}
use lib.ListN.{length}
use Rattle.std.specs.Prelude.{Option, Result}
use Rattle.blockfile.specs.Layout.{Entry, Layout, columns}
use Rattle.blockfile.specs.Order.{name_rule, insert}
use Rattle.blockfile.specs.Put.{target, span_at}
use Rattle.laws.proofs.Orders.{names-ordered}
use Rattle.laws.proofs.Targets.{target_is}
use Rattle.laws.proofs.TablePut.{put-few}
use Rattle.order.specs.declared.sort.Sort.TheVariants.{Bytes}
use Rattle.search.specs.Spans.{SpanBy}
use Rattle.search.specs.declared.path.Path.{Path}
use Rattle.search.specs.Tables.{ReadingBy, metaindex, TargetIn}
use Rattle.search.specs.Paths.{PathIn}
use Rattle.search.proofs.Readables.{meta_by}
use Rattle.search.proofs.Tables.{target-span, said-target}
use Rattle.links.proofs.Leading.{path-target}
use Rattle.stage.specs.declared.change.Change.{Change}
use Rattle.stage.specs.Changes.{Fits, put_at, Spotted, SpottedOn}
use Rattle.edit.proofs.Stands.{meta-standing}
use Rattle.edit.specs.Rewrites.{changed}
use Rattle.create.specs.Creates.{NoTable, Enters, EnterReady, Entered, CreateReady, Created}

module _ {img : List ℕ} {free : ℕ} {L : Layout} {name : List ℕ} (a : NoTable img free L name) where
  abbrev pub reading : ReadingBy img metaindex
  reading = meta_by img L a.well

  abbrev place : ℕ
  place = target name_rule name L.meta

  inside : place < length (columns L.meta)
  inside = (target_is name_rule names-ordered name L.meta a.well.meta_ok).place

  module _ {path : Path} (p : PathIn img metaindex name false path) (page : ℕ) (f : TargetIn img metaindex name page) (s : Result ℕ ℕ) (g : SpottedOn img page Bytes name s)
      (ch : Change) (made : ch ≡ put_at s) where
    spotted : Spotted name_rule name (span_at L.meta place).entries s
    spotted = said-target reading name page f (λ r es. Spotted r name es s) g.is

    entered-by : (v : List ℕ) → changed L.meta place ch name v ≡ insert name_rule name v (span_at L.meta place).entries
    entered-by v = ap (λ (x : Change). changed L.meta place x name v) made ∙ sym (spotted.put v)

    enters : Enters img page free ch name path.pages L
    enters =
        record {
          none = a;
          rewrite = λ v.
              record {
                standing = meta-standing img L a.well;
                at = sym a.well.meta_page;
                change = record {
                  inside = inside;
                  at = f.is reading;
                  fits = subst (λ (x : Change). Fits x (span_at L.meta place).entries) (sym made) (record { inside = spotted.inside; few = spotted.few });
                };
                few = subst (λ (es : List Entry). length es ≤ L.meta.span_size + 1) (sym (entered-by v)) (put-few name_rule names-ordered L.meta a.well.meta_ok name v);
              };
          puts = entered-by;
          passed = path-target reading name p;
        }

module _ {img b : List ℕ} {free : ℕ} {name : List ℕ} (h : CreateReady img b free name) (page : ℕ) (f : TargetIn img metaindex name page) where
  pub spot-ready : SpanBy img page Bytes
  spot-ready = target-span (reading h.is) name page f

  pub enter-ready : {path : Path} → PathIn img metaindex name false path → (s : Result ℕ ℕ) → SpottedOn img page Bytes name s → (ch : Change) → ch ≡ put_at s → EnterReady img b page free ch name path.pages
  enter-ready p s g ch made = record { layout = h.layout; enters = enters h.is p page f s g ch made; allowed = h.allowed; lent = h.lent }

pub created : {img : List ℕ} {free : ℕ} {name : List ℕ} {path : Path} → PathIn img metaindex name false path → (page : ℕ) → TargetIn img metaindex name page
    → (s : Result ℕ ℕ) → SpottedOn img page Bytes name s → (ch : Change) → ch ≡ put_at s → (r : Option ℕ) (out : List ℕ) → Entered img page free ch name path.pages r out → Created img free name r out
created p page f s g ch made r out w = record { is = λ L a. w.is L (enters a p page f s g ch made) }
