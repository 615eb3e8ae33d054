use Rattle.std.proofs.Common.{◌∷◌, [], FitsSigned, rules, sym, ◌∙◌, ap}
use Rattle.std.proofs.lemmas.Int.{to_z-of_z}
use Rattle.std.specs.Int.{w64}
use Rattle.courses.specs.AxisTables.{subscript_on}
use Rattle.courses.specs.Subscripts.{axis_pass}
use Rattle.course_forms.specs.Views.{course_of}
use Rattle.owned_places.specs.Dims.{held_dim}
use Rattle.owned_places.proofs.HeldDims.{moving-is, other-passes}
use Rattle.owned_places.proofs.KeptPlaces.{candidates-same}
use Rattle.owned_places.proofs.candidates.candidates_by.Goals as goal

pub returns-in-Fixed : goal.returns-in-Fixed
returns-in-Fixed c =
    let test = held_dim c.args.dims.now c.args.mapping.now c.args.node in
    c.all_places.ensures (axis_pass test c.args.k (course_of c.args.course.now ∷ []) c.args.axis)
    (λ is place below. ap (λ h. axis_pass test c.args.k (course_of h ∷ []) c.args.axis place) c.in-Fixed.is)

pub returns-then-along-axis : goal.returns-then-along-axis
returns-then-along-axis c =
    let test = held_dim c.args.dims.now c.args.mapping.now c.args.node in
    let k = c.args.k in
    let axis = c.args.axis in
    c.all_places-then-along-axis.ensures (axis_pass test k (course_of c.args.course.now ∷ []) axis)
    (λ is place below. ap (λ h. axis_pass test k (course_of h ∷ []) axis place) c.in-Moving.is
    ∙ other-passes test k c.in-Moving.along axis c.in-Moving.first c.in-Moving.step place c.if-along-axis.true)

pub returns-then-step-eq0 : goal.returns-then-step-eq0
returns-then-step-eq0 c =
    c.all_places-then-step-eq0.ensures (axis_pass (held_dim c.args.dims.now c.args.mapping.now c.args.node) c.args.k (course_of c.args.course.now ∷ []) c.args.axis)
    (λ never. absurd cc)

pub returns-in_ok-candidates-in-Moving : goal.returns-in_ok-candidates-in-Moving
returns-in_ok-candidates-in-Moving c =
    let test = held_dim c.args.dims.now c.args.mapping.now c.args.node in
    let k = c.args.k in
    let axis = c.args.axis in
    let first-fits : FitsSigned w64 c.in-Moving.first = search rules in
    let step-fits : FitsSigned w64 c.in-Moving.step = search rules in
    let first-is = to_z-of_z w64 c.in-Moving.first first-fits in
    let step-is = to_z-of_z w64 c.in-Moving.step step-fits in
    candidates-same (axis_pass test k (course_of c.args.course.now ∷ []) axis) _ c.args.extent c.in_ok-candidates-in-Moving.candidates
    (λ place. ap (λ h. axis_pass test k (course_of h ∷ []) axis place) c.in-Moving.is
    ∙ moving-is test k c.in-Moving.along axis c.in-Moving.first c.in-Moving.step place c.if-along-axis.false
    ∙ (λ n. test k (subscript_on (sym first-is n) (sym step-is n) place))) c.in_ok-candidates-in-Moving.ensures
