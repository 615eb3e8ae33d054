use Rattle.std.proofs.Common.{rules, ap, sym, ◌∙◌, to_z-of_z, SFits, w64, unwrap_or, pos}
use Rattle.op_tables.specs.Operators.{operator_value}
use Rattle.array_meaning.specs.Resolution.{constant, constants}
use Rattle.resolved_program.specs.Resolved.{term, terms_of}
use Rattle.resolved_program.proofs.Rows.{apply_vec}
use Rattle.program_plan.proofs.constants.+constant.Goals as goal

pub constant-returns-in_ok-numbers-in-Apply : goal.constant-returns-in_ok-numbers-in-Apply
constant-returns-in_ok-numbers-in-Apply t c =
    let fits : SFits w64 c.value_or_zero.result = search rules in
    to_z-of_z fits
    ∙ c.value_or_zero.ensures
    ∙ ap (λ ns. unwrap_or (operator_value c.in-Apply.op ns) (pos 0)) (c.as_slice.ensures ∙ c.in_ok-numbers-in-Apply.ensures ∙ ap (λ l. constants (terms_of l)) c.deref.ensures.value)
    ∙ ap constant (sym (apply_vec c.in-Apply.op c.in-Apply.operands) ∙ ap term (sym c.in-Apply.is))
