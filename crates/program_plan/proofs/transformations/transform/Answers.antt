use Rattle.std.proofs.Common.{◌≡◌, IfOk, sym, ap, ◌∙◌, subst}
use Rattle.std.specs.Prelude.{option_map, unwrap_or}
use Rattle.syntax_tree.specs.Expression.{arguments_of, expression}
use Rattle.syntax_tree.proofs.Designators.{designated}
use Rattle.syntax_tree.proofs.Rows.{call_vec}
use Rattle.array_meaning.specs.Statements.{Statement}
use Rattle.array_meaning.specs.Resolution.{transform_or, transformation_by, transformation_of}
use Rattle.resolved_program.specs.Resolved.{statement}
use Rattle.program_plan.proofs.transformations.transform.Goals as goal

pub returns-in-Call : goal.returns-in-Call
returns-in-Call c =
    let names = c.args.names.now in
    let same =
    ap (λ e. transformation_of names (expression e)) c.in-Call.is
    ∙ ap (transformation_by names c.in-Call.op) (call_vec c.in-Call.arguments ∙ ap arguments_of (sym c.deref.ensures.value)) in
    subst (λ (whole : Statement → Statement). IfOk c.called.result (λ a. (other : Statement) → unwrap_or (option_map statement a) other ≡ whole other))
    (λ i other. transform_or names (sym (designated c.args.left.now) i) (sym same i) other)
    c.called.ensures
