use Rattle.std.proofs.Common.{◌+◌, ◌&&◌, drop, get_or, pos, sym, ◌∙◌, ap}
use Rattle.courses.specs.Subscripts.{fixed_pass}
use Rattle.course_forms.specs.declared.course.Course.TheVariants.{Fixed}
use Rattle.course_forms.specs.Views.{course_of, courses_of}
use Rattle.owned_places.specs.Dims.{held_dim}
use Rattle.owned_places.proofs.HeldDims.{fixed-next, next-course}
use Rattle.owned_places.proofs.passing.are_fixed_held.Goals as goal

pub returns-then-not-is_fixed_held : goal.returns-then-not-is_fixed_held
returns-then-not-is_fixed_held c =
    let test = held_dim c.args.dims.now c.args.mapping.now c.args.node in
    let k = c.loop-k.k in
    let rest = drop (k + 1) (courses_of c.args.courses.now) in
    sym (c.loop-k.invariant ∙ next-course course_of (fixed_pass test k) c.args.courses.now k (Fixed (pos 0)) c.loop-k-test.true
    ∙ fixed-next test k (course_of (get_or c.args.courses.now k (Fixed (pos 0)))) rest
    ∙ ap (λ b. b && fixed_pass test (k + 1) rest) (sym c.is_fixed_held.ensures ∙ c.if-not-is_fixed_held.true))

pub loop-k-preserved : goal.loop-k-preserved
loop-k-preserved c =
    let test = held_dim c.args.dims.now c.args.mapping.now c.args.node in
    let k = c.loop-k.k in
    let rest = drop (k + 1) (courses_of c.args.courses.now) in
    c.loop-k.invariant ∙ next-course course_of (fixed_pass test k) c.args.courses.now k (Fixed (pos 0)) c.loop-k-test.true
    ∙ fixed-next test k (course_of (get_or c.args.courses.now k (Fixed (pos 0)))) rest
    ∙ ap (λ b. b && fixed_pass test (k + 1) rest) (sym c.is_fixed_held.ensures ∙ c.if-not-is_fixed_held.false)
