use Rattle.std.proofs.Common.{◌≡◌, ap, sym, ◌∙◌, subst}
use Rattle.std.specs.Result.{IfOk}
use Rattle.syntax_tree.proofs.Rows.{call_vec}
use Rattle.syntax_tree.specs.Expression.{Call, arguments_of, expression}
use Rattle.expression_rules.specs.declared.types.Context.TheVariants as context
use Rattle.name_table.specs.Places.{is_transformed}
use Rattle.name_table.proofs.rank_judge.is_transformed.Goals as goal

pub returns-in-Call : goal.returns-in-Call
returns-in-Call c =
    let same =
    ap (λ e. is_transformed context.Statement c.args.scope.now c.args.rank (expression e)) c.in-Call.is
    ∙ ap (λ ps. is_transformed context.Statement c.args.scope.now c.args.rank (Call c.in-Call.op ps))
    (call_vec c.in-Call.arguments ∙ ap arguments_of (sym c.deref.ensures.value)) in
    subst (λ t. IfOk c.transforms_to.result (λ b. b ≡ t)) (sym same) c.transforms_to.ensures
