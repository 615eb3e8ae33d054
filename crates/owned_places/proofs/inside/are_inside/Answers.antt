use Rattle.std.proofs.Common.{sym, pos, subst}
use Rattle.course_forms.specs.declared.course.Course.TheVariants.{Fixed}
use Rattle.course_forms.specs.Views.{course_of}
use Rattle.owned_places.specs.Dims.{AreInsideFrom}
use Rattle.owned_places.proofs.HeldDims.{next-course}
use Rattle.owned_places.proofs.inside.are_inside.Goals as goal

pub loop-k-preserved : goal.loop-k-preserved
loop-k-preserved c = λ rest.
    let dims = c.args.dims.now in
    let extents = c.args.extents.now in
    let courses = c.args.courses.now in
    let k = c.loop-k.k in
    c.loop-k.invariant (subst (AreInsideFrom dims extents k) (sym (next-course course_of (λ cs. cs) courses k (Fixed (pos 0)) c.loop-k-test.true))
    (c.is_course_inside.ensures c.if-not-is_course_inside.false, rest))
