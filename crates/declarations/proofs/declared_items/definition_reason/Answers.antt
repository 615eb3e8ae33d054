use Rattle.std.proofs.Common.{[], ◌∷◌, sym, ap, ◌∙◌}
use Rattle.std.specs.Prelude.{not}
use Rattle.hpf_base.specs.declared.refusal.Reason.TheVariants as reason
use Rattle.syntax_tree.specs.Expression.{expression}
use Rattle.syntax_tree.specs.MainProgram.{named_constant}
use Rattle.declarations.specs.Declaring.{constant_reason, lesser, reason_if}
use Rattle.declarations.proofs.ItemReasons.{definition_by_tests}
use Rattle.declarations.proofs.declared_items.definition_reason.Goals as goal

pub returns : goal.returns
returns c =
    let own = c.reason_if-own.ensures ∙ ap (λ b. reason_if (not b) reason.BadName) c.is_definable.ensures in
    let valued = c.in_ok-of_value.ensures ∙ ap (λ t. constant_reason t (expression c.args.constant.now.value ∷ [])) (c.new-scope.ensures ∙ c.table.ensures) in
    c.lesser.ensures ∙ (λ i. lesser (own i) (valued i)) ∙ sym (definition_by_tests c.args.names.now (named_constant c.args.constant.now))
