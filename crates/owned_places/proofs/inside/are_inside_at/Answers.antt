use Rattle.std.proofs.Common.{◌+◌, ◌&&◌, drop, get_or, pos, sym, ◌∙◌, ap}
use Rattle.courses.specs.Subscripts.{axis_pass, in_dim}
use Rattle.course_forms.specs.declared.course.Course.TheVariants.{Fixed}
use Rattle.course_forms.specs.Views.{course_of, courses_of}
use Rattle.owned_places.proofs.HeldDims.{axis-next, next-course}
use Rattle.owned_places.proofs.inside.are_inside_at.Goals as goal

pub returns-then-not-is_moving_inside_at : goal.returns-then-not-is_moving_inside_at
returns-then-not-is_moving_inside_at c =
    let test = in_dim c.args.dims.now in
    let k = c.loop-k.k in
    let rest = drop (k + 1) (courses_of c.args.courses.now) in
    sym (c.loop-k.invariant ∙ next-course course_of ((λ cs. axis_pass test k cs c.args.axis c.args.place)) c.args.courses.now k (Fixed (pos 0)) c.loop-k-test.true
    ∙ axis-next test k (course_of (get_or c.args.courses.now k (Fixed (pos 0)))) rest c.args.axis c.args.place
    ∙ ap (λ b. b && axis_pass test (k + 1) rest c.args.axis c.args.place) (sym c.is_moving_inside_at.ensures ∙ c.if-not-is_moving_inside_at.true))

pub loop-k-preserved : goal.loop-k-preserved
loop-k-preserved c =
    let test = in_dim c.args.dims.now in
    let k = c.loop-k.k in
    let rest = drop (k + 1) (courses_of c.args.courses.now) in
    c.loop-k.invariant ∙ next-course course_of ((λ cs. axis_pass test k cs c.args.axis c.args.place)) c.args.courses.now k (Fixed (pos 0)) c.loop-k-test.true
    ∙ axis-next test k (course_of (get_or c.args.courses.now k (Fixed (pos 0)))) rest c.args.axis c.args.place
    ∙ ap (λ b. b && axis_pass test (k + 1) rest c.args.axis c.args.place) (sym c.is_moving_inside_at.ensures ∙ c.if-not-is_moving_inside_at.false)
