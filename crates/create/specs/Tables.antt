-- A new table, as the code has it.
use Rattle.std.specs.Prelude.{ℕ, ◌+◌, ◌<◌, ◌≡◌, List, []}
use Rattle.blockfile.specs.Bytes.{pg, be16}
use Rattle.blockfile.specs.Fields.{LinkedSpan}
use Rattle.pages.specs.Places.{Inside}
use Rattle.pages.specs.Taking.{TakenAfter}
use Rattle.create.specs.declared.table.NewTable.{NewTable}

-- its pages are those taken after j others, and its span size is the superblock's
pub record TableFor (img : List ℕ) (j : ℕ) (x : NewTable) : Type 0 where
  pub root : TakenAfter img j x.root
  pub span : TakenAfter img (j + 1) x.span
  pub head : TakenAfter img (j + 2) x.head
  pub most : x.most ≡ be16 (pg img 1) 22
  pub few : x.most < 65536

-- they are pages of the image
pub record TableReady (img : List ℕ) (x : NewTable) : Type 0 where
  pub root : Inside img x.root 0 1024
  pub span : Inside img x.span 0 1024
  pub head : Inside img x.head 0 1024
  pub few : x.most < 65536

-- a span without entries on page n, with no span before it or behind it
abbrev pub empty_span : (n most : ℕ) → LinkedSpan
empty_span n most = record { span = record { page = n; conts = []; entries = [] }; prev = 0; next = 0; max_keys = most }
