use Rattle.std.proofs.Common.{sym, ap, ◌∙◌}
use Rattle.std.specs.Prelude.{option_map}
use Rattle.std.specs.List.{flat_map}
use Rattle.hpf_base.specs.declared.refusal.Reason.TheVariants as reason
use Rattle.syntax_tree.specs.Directive.{entity}
use Rattle.syntax_tree.specs.Expression.{expression}
use Rattle.declarations.specs.Declarations.{bounds_of}
use Rattle.declarations.specs.Declaring.{bounds_held, constant_reason, lesser, reason_if}
use Rattle.expression_rules.specs.Inner.{bound_expressions, present}
use Rattle.declarations.proofs.ItemReasons.{typed_by_tests}
use Rattle.declarations.proofs.declared_items.typed_reason.Goals as goal

pub returns : goal.returns
returns c =
    let scope = c.new-scope.ensures ∙ c.table.ensures in
    let past = c.reason_if.ensures ∙ ap (λ b. reason_if b reason.Limit) c.in_ok-past.ensures in
    let own = c.lesser-own.ensures ∙ (λ i. lesser (c.declared_again-again.ensures i) (past i)) in
    let dimensions = c.in_ok-of_dims.ensures ∙ ap (λ t. constant_reason t (flat_map bound_expressions (bounds_of (bounds_held c.args.dims.now)))) scope in
    let valued = c.in_ok-of_start.ensures ∙ ap (λ t. constant_reason t (present (option_map expression c.args.held.now.start))) scope in
    c.lesser-2.ensures
    ∙ (λ i. lesser (own i) ((c.lesser.ensures ∙ (λ j. lesser (dimensions j) (valued j))) i))
    ∙ sym (typed_by_tests c.args.names.now c.args.constant (bounds_held c.args.dims.now) (entity c.args.held.now))
