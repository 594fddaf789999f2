-- Lists of writes that turn what is held into something else, and several things written one after another.
use Prim.Native.Nat.{ℕ, zero, suc, ◌+◌, ◌*◌, ◌≤◌, ◌<◌, max}
use native.Mathlib.Omega.{arith}
use mathlib.Core.Path.{◌≡◌, refl, ap, sym, subst, subst₂}
use mathlib.Core.Bool.{Bool, true, false, cond}
use mathlib.Core.List.{List, [], ◌∷◌, ◌++◌, map, append_assoc}
use lib.ListN.{length, take, replicate, length-replicate}
use lib.Dec.{ltb}
use borrow.Author.Tests.{ltb-false}
use Rattle.blockfile.specs.Bytes.{pg, Write, on, word16, apply, Every, gather}
use Rattle.blockfile.specs.Layout.{Span, Tower, Block}
use Rattle.blockfile.specs.Fields.{SkipList, LinkedSpan, LinkedTower}
use Rattle.blockfile.specs.Encode.{whole_span, whole_tower}
use Rattle.blockfile.specs.Put.{prev_link, raise}
use Rattle.laws.proofs.Writes.{apply-append}
use Rattle.laws.proofs.State.{Held, Shows, span_pages, tower_pages}
use Rattle.laws.proofs.Opens.{held}
use Rattle.laws.proofs.Written.{numbers_of, length-numbers}
use Rattle.laws.proofs.Edits.{forget-tower, prev-written, height-written, entries-extended}
use Rattle.laws.proofs.Encodes.{SpanFits, TowerFits, whole-span, whole-tower}
use Rattle.laws.proofs.Rewritten.{raised}
use Rattle.laws.proofs.SpanLinks.{link_between}
use Rattle.laws.proofs.TowerLinks.{Link, set_entry, set_next, set_nexts, stretch, head_as}
use Rattle.laws.proofs.Inside.{Word}

-- an image that shows h shows k after these writes
pub record Turns (p z : ℕ) (ws : List Write) (h k : Held) : Type 0 where
  pub turn : (img : List ℕ) → Shows p z img h → Shows p z (apply ws img) k

-- nothing written
pub stays : {p z : ℕ} {h : Held} → Turns p z [] h h
stays = record { turn = λ img s. s }

-- one list of writes after another
pub and_then : {p z : ℕ} {ws vs : List Write} {h k l : Held} → Turns p z ws h k → Turns p z vs k l → Turns p z (ws ++ vs) h l
and_then {p} {z} {ws} {vs} {h} {k} {l} a b =
    record { turn = λ img s. subst (λ (i : List ℕ). Shows p z i l) (sym (apply-append ws vs img)) (b.turn (apply ws img) (a.turn img s)) }

-- the same writes, and what is held, under other names
pub turns_as : {p z : ℕ} {ws vs : List Write} {h k h' k' : Held} → vs ≡ ws → h' ≡ h → k ≡ k' → Turns p z ws h k → Turns p z vs h' k'
turns_as {p} {z} {ws} {vs} {h} {k} {h'} {k'} e a b t =
    subst₂ (λ (u : List Write) (l : Held). Turns p z u h' l) (sym e) b (subst (λ (l : Held). Turns p z ws l k) (sym a) t)

-- ---- Spans

module _ {p z : ℕ} {ks : List SkipList} {ts : List LinkedTower} {bs : List Block} where
  -- spans are written whole to pages in hand
  pub whole-spans : (xs ys ns : List LinkedSpan) (sp : List ℕ) → Every SpanFits ns
      → Turns p z (gather whole_span ns) (held ks (xs ++ ys) ts bs (span_pages ns ++ sp)) (held ks (xs ++ (ns ++ ys)) ts bs sp)
  whole-spans xs ys [] sp f = stays
  whole-spans xs ys (x ∷ ns) sp f =
      and_then {ws = whole_span x}
      (record {
        turn = λ img s.
            whole-span xs ys x f.0
            (subst (λ (l : List ℕ). Shows p z img (held ks (xs ++ ys) ts bs (x.span.page ∷ l))) (append_assoc x.span.conts (span_pages ns) sp) s);
      })
      (turns_as refl (ap (λ (l : List LinkedSpan). held ks l ts bs (span_pages ns ++ sp)) (sym (append_assoc xs (x ∷ []) ys)))
      (ap (λ (l : List LinkedSpan). held ks l ts bs sp) (append_assoc xs (x ∷ []) (ns ++ ys)))
      (whole-spans (xs ++ x ∷ []) ys ns sp f.1))

  -- the first of some spans gets another previous link, where n is 1; where n is 0 it has it already
  pub prevs-written : (xs ys : List LinkedSpan) (sp : List ℕ) (c a b n : ℕ) (ss : List Span) → n ≤ 1 → (n ≡ 0 → a ≡ b) → Word b
      → Turns p z (map prev_link (take n (link_between c b 0 ss))) (held ks (xs ++ (link_between c a 0 ss ++ ys)) ts bs sp) (held ks (xs ++ (link_between c b 0 ss ++ ys)) ts bs sp)
  prevs-written xs ys sp c a b zero ss l e w =
      turns_as refl (ap (λ (m : ℕ). held ks (xs ++ (link_between c m 0 ss ++ ys)) ts bs sp) (e refl)) refl stays
  prevs-written xs ys sp c a b (suc zero) [] l e w = stays
  prevs-written xs ys sp c a b (suc zero) (s ∷ ss) l e w =
      record { turn = λ img h. prev-written xs (link_between c s.page 0 ss ++ ys) _ b w h }
  prevs-written xs ys sp c a b (suc (suc n)) ss l e w = absurd (omega arith)

-- ---- Towers

module _ {p z : ℕ} {ks : List SkipList} {xs : List LinkedSpan} {bs : List Block} where
  -- towers are written whole to pages in hand
  pub whole-towers : (ts us ns : List LinkedTower) (sp : List ℕ) → Every TowerFits ns
      → Turns p z (gather whole_tower ns) (held ks xs (ts ++ us) bs (tower_pages ns ++ sp)) (held ks xs (ts ++ (ns ++ us)) bs sp)
  whole-towers ts us [] sp f = stays
  whole-towers ts us (x ∷ ns) sp f =
      and_then {ws = whole_tower x} (record { turn = λ img s. whole-tower ts us x f.0 s })
      (turns_as refl (ap (λ (l : List LinkedTower). held ks xs l bs (tower_pages ns ++ sp)) (sym (append_assoc ts (x ∷ []) us)))
      (ap (λ (l : List LinkedTower). held ks xs l bs sp) (append_assoc ts (x ∷ []) (ns ++ us)))
      (whole-towers (ts ++ x ∷ []) us ns sp f.1))

  -- towers are let go
  pub forget-towers : {img : List ℕ} (ts us ns : List LinkedTower) (sp : List ℕ) → Shows p z img (held ks xs (ts ++ (ns ++ us)) bs sp)
      → Shows p z img (held ks xs (ts ++ us) bs (tower_pages ns ++ sp))
  forget-towers ts us [] sp s = s
  forget-towers {img} ts us (x ∷ ns) sp s =
      forget-tower ts us x
      (subst (λ (l : List LinkedTower). Shows p z img (held ks xs l bs (tower_pages ns ++ sp))) (append_assoc ts (x ∷ []) us)
      (forget-towers (ts ++ x ∷ []) us ns sp (subst (λ (l : List LinkedTower). Shows p z img (held ks xs l bs sp)) (sym (append_assoc ts (x ∷ []) (ns ++ us))) s)))

  -- the first tower's links are followed by k numbers that its page holds
  pub stretched : {img : List ℕ} (ts us : List LinkedTower) (sp : List ℕ) (ws : List LinkedTower) (k : ℕ)
      → Shows p z img (held ks xs (ts ++ (ws ++ us)) bs sp) → (ms : List ℕ) × (length ms ≡ k) × Shows p z img (held ks xs (ts ++ (stretch ms ws ++ us)) bs sp)
  stretched ts us sp [] k s = (replicate k 0, length-replicate {A = ℕ} k 0, s)
  stretched {img} ts us sp (x ∷ ws) k s =
      (numbers_of (pg img x.tower.page) (16 + 4 * length x.nexts) k, length-numbers (pg img x.tower.page) (16 + 4 * length x.nexts) k, entries-extended ts (ws ++ us) x k s)

  -- the first tower's current height rises to h, if lower
  pub raise-written : (ts us : List LinkedTower) (sp : List ℕ) (x : LinkedTower) (ws : List LinkedTower) (h : ℕ) → max x.tower.height h < 65536
      → Turns p z (raise x.tower (raised h x.tower)) (held ks xs (ts ++ ((x ∷ ws) ++ us)) bs sp) (held ks xs (ts ++ (head_as (raised h x.tower) (x ∷ ws) ++ us)) bs sp)
  raise-written ts us sp x ws h small = go (ltb x.tower.height (max x.tower.height h)) refl
    where
      n : ℕ
      n = max x.tower.height h

      go : (b : Bool) → ltb x.tower.height n ≡ b
          → Turns p z (cond b (on x.tower.page 10 (word16 n) ∷ []) []) (held ks xs (ts ++ ((x ∷ ws) ++ us)) bs sp) (held ks xs (ts ++ (head_as (raised h x.tower) (x ∷ ws) ++ us)) bs sp)
      go true e = record { turn = λ img s. height-written ts (ws ++ us) x n small s }
      go false e =
          let q : x.tower.height ≡ n = omega (arith, ltb-false x.tower.height n e) in
          turns_as refl refl
          (ap (λ (m : ℕ). held ks xs (ts ++ (record { tower = record { page = x.tower.page; max_height = x.tower.max_height; height = m }; span_page = x.span_page; nexts = x.nexts } ∷ (ws ++ us))) bs sp) q)
          stays

-- the first tower is w, with some links
pub record Headed (w : Tower) (ws : List LinkedTower) : Type 0 where
  pub first : LinkedTower
  pub others : List LinkedTower
  pub is : ws ≡ first ∷ others
  pub tower : first.tower ≡ w

-- edits of links keep the first tower, but for its links
pub sets-headed : (ls : List Link) (x : LinkedTower) (ws : List LinkedTower) → Headed x.tower (set_nexts ls (x ∷ ws))
sets-headed [] x ws = record { first = x; others = ws; is = refl; tower = refl }
sets-headed (l ∷ ls) x ws = sets-headed ls (set_entry l.page l.level l.to x) (set_next l.page l.level l.to ws)
