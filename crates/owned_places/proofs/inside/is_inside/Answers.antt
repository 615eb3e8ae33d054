use Rattle.std.proofs.Common.{subst}
use Rattle.course_forms.specs.Views.{courses_of, named_of}
use Rattle.owned_places.specs.Dims.{AreInsideFrom}
use Rattle.owned_places.proofs.AllInside.{all-inside}
use Rattle.owned_places.proofs.inside.is_inside.Goals as goal

pub returns : goal.returns
returns c = λ inside.
    let r = named_of c.args.reference.now in
    all-inside r.dims c.args.extents.now r.courses
    (subst (λ ds. AreInsideFrom ds c.args.extents.now 0 r.courses) c.as_slice.ensures.value
    (subst (λ cs. AreInsideFrom c.as_slice.result.now c.args.extents.now 0 (courses_of cs)) c.as_slice-2.ensures.value (c.are_inside.ensures inside)))
