-- A span's bytes as one stream: position v stands at offset `offset_of v` of page `page_of v`.
use Prim.Native.Nat.{ℕ, suc, ◌+◌, ◌*◌, ◌-◌, ◌/◌, ◌%◌, ◌<◌}
use native.Mathlib.Omega.{arith}
use native.Mathlib.Decide.{dec_lt}
use mathlib.Core.Path.{◌≡◌, ap, sym, ◌∙◌}
use mathlib.Core.Logic.{by_cases}
use mathlib.Core.List.{List, [], ◌∷◌, ◌++◌}
use lib.ListN.{length, get_or, drop, length-drop, get_or-append}
use lib.Seq.{get_or-drop, get_or-append-add}
use Rattle.blockfile.specs.Bytes.{Every, gather}
use Rattle.blockfile.specs.Layout.{page_of, offset_of}

-- the stream of pages, by their bytes
abbrev pub stream : List (List ℕ) → List ℕ
stream bs = gather (λ b. drop 8 b) bs

pub stream_at : (bs : List (List ℕ)) → Every (λ b. length b ≡ 1024) bs → (v : ℕ) → v < 1016 * length bs
    → get_or (stream bs) v 0 ≡ get_or (get_or bs (page_of v) []) (offset_of v) 0
stream_at [] h v l = absurd (omega arith)
stream_at (b ∷ bs) h v l = by_cases (dec_lt v 1016) here (later (stream_at bs h.1))
  where
    long : length (drop 8 b) ≡ 1016
    long = simp length-drop (omega (arith, h.0))

    here : v < 1016 → get_or (drop 8 b ++ stream bs) v 0 ≡ get_or (get_or (b ∷ bs) (page_of v) []) (offset_of v) 0
    here k =
        let p : v / 1016 ≡ 0 = omega arith in
        let o : 8 + v % 1016 ≡ 8 + v = omega arith in
        rw (p, o) (get_or-append (drop 8 b) (stream bs) 0 v (omega (arith, long)) ∙ get_or-drop 8 b v 0)

    later : ((u : ℕ) → u < 1016 * length bs → get_or (stream bs) u 0 ≡ get_or (get_or bs (page_of u) []) (offset_of u) 0) → (v < 1016 → ⊥)
        → get_or (drop 8 b ++ stream bs) v 0 ≡ get_or (get_or (b ∷ bs) (page_of v) []) (offset_of v) 0
    later ih k =
        let u : ℕ = v - 1016 in
        let s : v ≡ length (drop 8 b) + u = omega (arith, long) in
        let p : v / 1016 ≡ suc (u / 1016) = omega arith in
        let o : 8 + v % 1016 ≡ 8 + u % 1016 = omega arith in
        ap (λ (i : ℕ). get_or (drop 8 b ++ stream bs) i 0) s
        ∙ get_or-append-add (drop 8 b) (stream bs) u 0
        ∙ ih u (omega arith)
        ∙ sym (rw (p, o))
