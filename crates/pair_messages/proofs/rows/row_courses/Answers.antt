use Rattle.std.proofs.Common.{pos, ◌+◌, ◌++◌, drop, ◌∙◌, ap}
use Rattle.expression_rules.specs.declared.dims.Dim.{Dim}
use Rattle.course_forms.specs.Views.{courses_of}
use Rattle.pair_messages.specs.Moved.{row_courses}
use Rattle.pair_messages.proofs.OwnRows.{course_next}
use Rattle.pair_messages.proofs.rows.row_courses.Goals as goal

abbrev zero_dim : Dim
zero_dim = record { lower = pos 0; upper = pos 0 }

pub loop-axis-preserved : goal.loop-axis-preserved
loop-axis-preserved c =
    let axis = c.loop-axis.axis in
    let dims = c.args.dims.now in
    ap (λ cs. courses_of cs ++ row_courses (axis + 1) (drop (axis + 1) dims)) c.in_ok-push.ensures.items
    ∙ course_next c.loop-axis.courses.items c.row_course.result axis dims zero_dim c.loop-axis-test.true c.row_course.ensures ∙ c.loop-axis.invariant
