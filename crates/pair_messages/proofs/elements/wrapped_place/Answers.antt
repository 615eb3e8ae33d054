use Rattle.std.proofs.Common.{◌≡◌, ◌∙◌, ◌<◌, ◌≤◌, ◌-◌, length, get_or, ap, sym, pos, arith, FitsSigned, rules}
use Rattle.std.proofs.lemmas.Int.{to_z-of_z}
use Rattle.std.specs.Int.{w128}
use Rattle.array_meaning.specs.State.{offset}
use Rattle.term_values.specs.Places.{in_64_bits}
use Rattle.term_values.proofs.ElementPlaces.{uneven, stop_in, step_in}
use Rattle.axis_products.specs.Products.{places_at}
use Rattle.courses.specs.Courses.{courses_at}
use Rattle.course_forms.specs.declared.course.Course.TheVariants.{Fixed}
use Rattle.course_forms.specs.Views.{courses_of}
use Rattle.expression_rules.specs.declared.dims.Dim.{Dim}
use Rattle.pair_messages.proofs.Subscripts.{as-many, subscript-at}
use Rattle.pair_messages.proofs.elements.wrapped_place.Goals as goal

abbrev zero_dim : Dim
zero_dim = record { lower = pos 0; upper = pos 0 }

pub returns-then-dims-courses : goal.returns-then-dims-courses
returns-then-dims-courses c =
    let places = places_at c.args.extents.now c.args.tuple in
    sym (ap in_64_bits (uneven c.args.dims.now (courses_at places (courses_of c.args.courses.now))
    (λ same. c.if-dims-courses.true (same ∙ as-many places c.args.courses.now))))

pub returns-in_err-above : goal.returns-in_err-above
returns-in_err-above c =
    let places = places_at c.args.extents.now c.args.tuple in
    let subscripts = courses_at places (courses_of c.args.courses.now) in
    let l = c.loop-k.k in
    let long : length c.args.dims.now ≡ length subscripts = c.if-dims-courses.false ∙ sym (as-many places c.args.courses.now) in
    let within : l - 1 < length c.args.courses.now = omega (arith, c.loop-k-test.true, c.loop-k.invariant.0, c.if-dims-courses.false) in
    let fits : FitsSigned w128 c.course_at-subscript.result = search rules in
    c.from_residual.ensures
    ∙ sym (ap in_64_bits (stop_in c.args.dims.now subscripts l zero_dim (pos 0) c.loop-k-test.true c.loop-k.invariant.0 long
    (ap (offset (get_or c.args.dims.now (l - 1) zero_dim)) (subscript-at places c.args.courses.now (l - 1) (Fixed (pos 0)) (pos 0) within ∙ sym c.course_at-subscript.ensures
    ∙ sym (to_z-of_z w128 c.course_at-subscript.result fits))
    ∙ sym c.in_err-above.ensures)))

pub loop-k-preserved : goal.loop-k-preserved
loop-k-preserved c =
    let places = places_at c.args.extents.now c.args.tuple in
    let subscripts = courses_at places (courses_of c.args.courses.now) in
    let l = c.loop-k.k in
    let long : length c.args.dims.now ≡ length subscripts = c.if-dims-courses.false ∙ sym (as-many places c.args.courses.now) in
    let within : l - 1 < length c.args.courses.now = omega (arith, c.loop-k-test.true, c.loop-k.invariant.0, c.if-dims-courses.false) in
    let fits : FitsSigned w128 c.course_at-subscript.result = search rules in (
      let f : l - 1 ≤ length c.args.dims.now = omega (arith, c.loop-k.invariant.0) in f,
      step_in c.args.dims.now subscripts l c.in_ok-above.above c.loop-k.place c.extent.result zero_dim (pos 0) c.loop-k-test.true c.loop-k.invariant.0 long
          (ap (offset (get_or c.args.dims.now (l - 1) zero_dim)) (subscript-at places c.args.courses.now (l - 1) (Fixed (pos 0)) (pos 0) within ∙ sym c.course_at-subscript.ensures
          ∙ sym (to_z-of_z w128 c.course_at-subscript.result fits))
          ∙ sym c.in_ok-above.ensures)
          c.loop-k.invariant.1 c.extent.ensures.value,
    )
