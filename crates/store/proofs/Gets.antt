-- Get and next: what they share is said once, of any call that reads a table.
use Prim.Native.Nat.{ℕ}
use mathlib.Core.Path.{◌≡◌, refl, sym, ap, ◌∙◌}
use mathlib.Core.List.{List, [], ◌++◌}
use mathlib.Core.Option.{none, get_or}
use mathlib.Core.Bool.{Bool, true, false, not, ◌&&◌, ◌||◌}
use lib.ListN.{length}
use Rattle.std.specs.Prelude.{Option, Result, Ok, Err}
use Rattle.blockfile.specs.declared.Refusal.{Refusal}
use Rattle.blockfile.specs.Layout.{Layout, free_count}
use Rattle.blockfile.specs.Order.{KeyRule, key_rule, same, find, above}
use Rattle.blockfile.specs.Refusals.{Op, get, next, Ledger, plain, ledger_of, sought, rows, lowest, refused, may_lack, handed, done_reply}
use Rattle.blockfile.specs.Answers.{plan_of, refuse, outcome_if, outcome_on}
use Rattle.blockfile.specs.Calls.{got_reply, accepted, Keeps}
use Rattle.order.specs.declared.sort.Sort.{Sort}
use Rattle.order.specs.Sorts.{table_sort, rule_as}
use Rattle.order.proofs.Sorts.{rule-by}
use Rattle.search.specs.declared.span.Extent.{Extent}
use Rattle.search.specs.declared.table.TableRef.{TableRef}
use Rattle.search.specs.Spans.{Answered}
use Rattle.search.specs.Tables.{ReadingBy, FoundIn, AboveIn}
use Rattle.search.proofs.Seeks.{answer-as}
use Rattle.search.proofs.Readables.{table_by}
use Rattle.laws.proofs.Determined.{determined}
use Rattle.refusals.specs.Table.{table_rows, OnTable, Entering}
use Rattle.refusals.specs.Answer.{answer_rows, Hands}
use Rattle.refusals.proofs.Tables.{rows_left, its_map}

-- ---- A call that reads: it hands out the bytes sought in a table, and writes nothing on the image

pub record ReadCall (op : Op) (name : List ℕ) (legal : Bool) : Type 0 where
  pub are : (l : Ledger) (room : ℕ) → lowest (rows l op room) ≡ lowest (table_rows l name legal true ++ answer_rows (sought l op) room)
  pub gives : (l : Ledger) → handed l op ≡ get_or (sought l op) []
  pub replies : (l : Ledger) (free : ℕ) → done_reply l free op ≡ plain 0 (length (get_or (sought l op) []))
  pub has_room : may_lack op ≡ false
  pub still : (L : Layout) → plan_of L op ≡ none

not-or : (a b : Bool) → not (a || b) ≡ (not a && not b)
not-or true b = refl
not-or false b = refl

-- the key is allowed in a table whose keys sort so
module _ (name key : List ℕ) {sort : Sort} (by : sort ≡ table_sort name) {legal : Bool} where
  allowed-by : legal ≡ (rule_as sort).allowed key → legal ≡ (key_rule name).allowed key
  allowed-by e = e ∙ ap (λ (r : KeyRule). r.allowed key) (rule-by name by)

  pub get-reads : legal ≡ (rule_as sort).allowed key → ReadCall (get name key) name legal
  get-reads e =
      record { are = λ l room. rw (allowed-by e); gives = λ l. refl; replies = λ l free. refl; has_room = refl; still = λ L. refl }

  pub next-reads : legal ≡ (same key [] || (rule_as sort).allowed key) → ReadCall (next name key) name legal
  next-reads e =
      record {
        are = λ l room.
            rw (e ∙ ap (λ (r : KeyRule). same key [] || r.allowed key) (rule-by name by), not-or (same key []) ((key_rule name).allowed key));
        gives = λ l. refl;
        replies = λ l free. refl;
        has_room = refl;
        still = λ L. refl;
      }

-- ---- What the promise takes

module _ {op : Op} {name : List ℕ} {legal : Bool} (reads : ReadCall op name legal) where
  abbrev pub read_on : OnTable op name legal true
  read_on = record { more = λ l. answer_rows (sought l op); are = reads.are }

  module _ {img s out : List ℕ} {page : ℕ} (h : Entering img s name legal page out) where
    -- the rows that are left are those of the answer
    answer-left : (room : ℕ) → refused (ledger_of h.layout) op room ≡ lowest (answer_rows (sought (ledger_of h.layout) op) room)
    answer-left room = rows_left read_on h.layout room h.passed

    pub read-answers : (b : List ℕ) (r : Result ℕ Refusal) (new : List ℕ) → Hands (sought (ledger_of h.layout) op) b r new → Keeps op img s b (got_reply r) img out new
    unfolding outcome_on
    read-answers b (Err f) new a =
        record {
          outcome = refuse f;
          called = accepted h.sized h.enough h.layout h.well (sym (ap (outcome_if h.layout op) (answer-left (length b) ∙ a.0))) h.clear;
          result = refl;
          image = refl;
          answer = a.1;
        }
    read-answers b (Ok n) new a =
        let l = ledger_of h.layout in
        record {
          outcome = record { reply = plain 0 n; bytes = get_or (sought l op) []; writes = [] };
          called = accepted h.sized h.enough h.layout h.well
              (rw (answer-left (length b), a.0, reads.has_room, reads.still h.layout, reads.replies l (free_count h.layout.free), reads.gives l, a.1))
              h.clear;
          result = refl;
          image = refl;
          answer = a.2;
        }

-- ---- The searches

module _ {img s name : List ℕ} {legal : Bool} {page : ℕ} {out : List ℕ} (h : Entering img s name legal page out) {sort : Sort} (by : sort ≡ table_sort name) where
  abbrev table : TableRef
  table = record { root = page; sort = sort }

  abbrev pub reading : ReadingBy img table
  reading = table_by img h.layout h.well name h.there.table h.there.found table h.there.root by

  module _ {key : List ℕ} {found : Option Extent} where
    pub get-finds : FoundIn img table key found → Answered img (sought (ledger_of h.layout) (get name key)) found
    get-finds f = answer-as (ap (find key) (its_map h.layout name h.there.table h.there.found)) (f.is reading)

    pub next-finds : AboveIn img table key found → Answered img (sought (ledger_of h.layout) (next name key)) found
    next-finds f = answer-as (ap (above (key_rule name) key) (its_map h.layout name h.there.table h.there.found)) (f.is reading)

-- ---- The promise determines the numbers of the answer and every byte of scratch and answer buffer

pub read-determined : (op : Op) (img s b : List ℕ) (r q : Result ℕ Refusal) (t u c d : List ℕ)
    → Keeps op img s b (got_reply r) img t c → Keeps op img s b (got_reply q) img u d → (got_reply r ≡ got_reply q) × (t ≡ u) × (c ≡ d)
read-determined op img s b r q t u c d k h =
    let e = determined op img s b (got_reply r) (got_reply q) img img t u c d k h in
    (e.0, e.2, e.3)
