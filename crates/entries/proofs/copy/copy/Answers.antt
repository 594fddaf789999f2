use Rattle.std.proofs.Common.{refl, ◌∙◌, arith, length-drop, length-take}
use Rattle.entries.proofs.Copies.{copying-start, copying-next, copying-end}
use Rattle.entries.proofs.copy.copy.Goals as goal

pub loop-offset-init : goal.loop-offset-init
loop-offset-init c = copying-start c.requires.0 c.requires.1

pub copy_bytes-requires : goal.copy_bytes-requires
copy_bytes-requires c = simp (length-take, length-drop) (omega arith)

pub loop-offset-preserved : goal.loop-offset-preserved
loop-offset-preserved c = copying-next c.loop-offset.invariant _ _ _ refl c.copy_bytes.ensures c.loop-offset-test.true refl _ c.get-page.ensures.is

pub copy_bytes-requires-2 : goal.copy_bytes-requires-2
copy_bytes-requires-2 c = simp (length-take, length-drop) (omega arith)

pub shape_of-into : goal.shape_of-into
shape_of-into c = c.copy_bytes-2.auto.into ∙ c.loop-offset.invariant.long

pub returns : goal.returns
returns c = copying-end c.loop-offset.invariant _ _ _ refl c.copy_bytes-2.ensures c.loop-offset-test.false refl

pub get-page-requires : goal.get-page-requires
get-page-requires c = record { small = omega arith; low = omega arith; high = omega arith; fits = omega arith }
