-- Handing over the answer: one law for each way out.
use Prim.Native.Nat.{ℕ, ◌≤◌, ◌<◌}
use mathlib.Core.Path.{◌≡◌, refl}
use mathlib.Core.List.{List}
use mathlib.Core.Option.{Option as TextOption}
use borrow.Author.Tests.{lt-ltb, le-ltb}
use lib.ListN.{length}
use Rattle.blockfile.specs.declared.Refusal.TheVariants.{NoKey, BufferShort}
use Rattle.std.specs.Prelude.{Option, Some, None, Ok, Err}
use Rattle.entries.specs.Places.{Enough, Copied}
use Rattle.search.specs.declared.span.Extent.{Extent}
use Rattle.search.specs.Spans.{Answered}
use Rattle.search.proofs.Entries.{bytes-enough, bytes-length, bytes-copied}
use Rattle.refusals.specs.Answer.{Hands}

module _ {img : List ℕ} {o : TextOption (List ℕ)} {found : Option Extent} (a : Answered img o found) where
  pub hand-none : found ≡ None → (old : List ℕ) → Hands o old (Err NoKey) old
  hand-none e old = (rw (a.missing e), refl)

  module _ (x : Extent) (e : found ≡ Some x) where
    pub hand-enough : Enough img x.at x.length
    hand-enough = bytes-enough (a.found x e).2

    pub hand-short : (old : List ℕ) → length old < x.length → Hands o old (Err (BufferShort x.length)) old
    hand-short old h = let v = a.found x e in (rw (v.1, bytes-length v.2, lt-ltb (length old) x.length h), refl)

    pub hand-done : (old new : List ℕ) → x.length ≤ length old → Copied img x.at x.length old new → Hands o old (Ok x.length) new
    hand-done old new h c =
        let v = a.found x e in
        let long = bytes-length v.2 in
        (rw (v.1, long, le-ltb (length old) x.length h), rw (v.1, long), rw (v.1, long) (bytes-copied v.2 old new c))
