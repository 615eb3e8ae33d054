use Rattle.std.proofs.Common.{Some, None, sym, ap, ◌∙◌}
use Rattle.array_meaning.specs.Terms.{Section}
use Rattle.array_meaning.specs.Resolution.{alone, whole}
use Rattle.resolved_program.proofs.Rows.{section_vec}
use Rattle.program_plan.proofs.expressions.declared.Goals as goal

pub returns-in_ok-subscripts-in-Array : goal.returns-in_ok-subscripts-in-Array
returns-in_ok-subscripts-in-Array c =
    section_vec c.args.place c.in_ok-subscripts-in-Array.subscripts
    ∙ ap (Section c.args.place) c.in_ok-subscripts-in-Array.ensures
    ∙ ap (λ ds. Section c.args.place (whole ds)) c.as_slice.ensures.value
    ∙ ap (λ w. alone None c.args.place (Some w)) (sym c.in-Array.is)
