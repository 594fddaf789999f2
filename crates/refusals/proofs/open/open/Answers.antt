use mathlib.Core.Path.{refl, sym, ◌∙◌}
use Rattle.blockfile.specs.Calls.{bad_length, short_scratch}
use Rattle.refusals.proofs.Opens.{Fits, part-long, room, kept, bad, good}
use Rattle.refusals.proofs.open.open.Goals as goal

pub returns-then-not-is_length : goal.returns-then-not-is_length
returns-then-not-is_length c = λ op room. bad_length (sym c.is_length.ensures ∙ c.if-not-is_length.true) refl refl

pub returns-then-scratch-image : goal.returns-then-scratch-image
returns-then-scratch-image c = λ op room. short_scratch (sym c.is_length.ensures ∙ c.if-not-is_length.false) c.if-scratch-image.true refl refl

pub slice_bounds-verify-end-2 : goal.slice_bounds-verify-end-2
slice_bounds-verify-end-2 c =
    let f : Fits c.args.image.now c.args.scratch.now = record { sized = sym c.is_length.ensures ∙ c.if-not-is_length.false; enough = c.if-scratch-image.false } in
    sym (part-long _ _ f)

pub verify-requires : goal.verify-requires
verify-requires c =
    let f : Fits c.args.image.now c.args.scratch.now = record { sized = sym c.is_length.ensures ∙ c.if-not-is_length.false; enough = c.if-scratch-image.false } in
    room _ _ f

pub returns-in_default : goal.returns-in_default
returns-in_default c =
    let f : Fits c.args.image.now c.args.scratch.now = record { sized = sym c.is_length.ensures ∙ c.if-not-is_length.false; enough = c.if-scratch-image.false } in
    bad _ _ f _ c.verify.ensures c.in_default.is _ _ (kept _ _ f c.verify.new.scratch (c.verify.auto.scratch ∙ part-long _ _ f)).1 c.clear.ensures

pub returns : goal.returns
returns c =
    let f : Fits c.args.image.now c.args.scratch.now = record { sized = sym c.is_length.ensures ∙ c.if-not-is_length.false; enough = c.if-scratch-image.false } in
    good _ _ f _ c.verify.ensures _ c.in-Some.is _ (kept _ _ f c.verify.new.scratch (c.verify.auto.scratch ∙ part-long _ _ f)).0 (kept _ _ f c.verify.new.scratch (c.verify.auto.scratch ∙ part-long _ _ f)).1
