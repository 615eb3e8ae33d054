use Rattle.std.proofs.Common.{◌+◌, ◌&&◌, ◌∷◌, [], get_or, pos, refl, subst, take}
use Rattle.std.proofs.lemmas.List.{take_all}
use Rattle.courses.specs.Subscripts.{axis_pass}
use Rattle.course_forms.specs.declared.course.Course.TheVariants.{Fixed}
use Rattle.course_forms.specs.Views.{course_of, courses_of}
use Rattle.owned_places.specs.Candidates.{AreCandidates}
use Rattle.owned_places.specs.Dims.{held_dim}
use Rattle.owned_places.proofs.HeldDims.{axis-taken}
use Rattle.owned_places.proofs.KeptPlaces.{candidates-same}
use Rattle.owned_places.proofs.candidates.candidates_on.Goals as goal

pub loop-k-init : goal.loop-k-init
loop-k-init c =
    c.all_places-found.ensures (axis_pass (held_dim c.args.dims.now c.args.mapping.now c.args.node) 0 (courses_of (take 0 c.args.courses.now)) c.args.axis)
    (λ is place below. refl)

pub loop-k-preserved : goal.loop-k-preserved
loop-k-preserved c =
    let test = held_dim c.args.dims.now c.args.mapping.now c.args.node in
    let courses = c.args.courses.now in
    let axis = c.args.axis in
    let k = c.loop-k.k in
    candidates-same (axis_pass test 0 (courses_of (take (k + 1) courses)) axis)
    (λ place. axis_pass test 0 (courses_of (take k courses)) axis place && axis_pass test k (course_of (get_or courses k (Fixed (pos 0))) ∷ []) axis place)
    c.args.extent c.fewer-found.result
    (λ place. axis-taken course_of test courses k (Fixed (pos 0)) axis place c.loop-k-test.true)
    (c.fewer-found.ensures _ _ c.loop-k.invariant c.in_ok-candidates.ensures)

pub returns : goal.returns
returns c =
    subst (λ cs. AreCandidates (axis_pass (held_dim c.args.dims.now c.args.mapping.now c.args.node) 0 (courses_of cs) c.args.axis) c.args.extent c.loop-k.found)
    (take_all c.loop-k.k c.args.courses.now c.loop-k-test.false) c.loop-k.invariant
