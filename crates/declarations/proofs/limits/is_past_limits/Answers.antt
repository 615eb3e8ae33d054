use Rattle.std.proofs.Common.{All, map, sym, ap, subst, ◌∙◌}
use Rattle.std.specs.Prelude.{option_map}
use Rattle.syntax_tree.specs.Directive.{bound}
use Rattle.expression_rules.specs.Dims.{IsDim}
use Rattle.declarations.proofs.ArrayLimits.{each_within}
use Rattle.declarations.proofs.limits.is_past_limits.Goals as goal

pub is_too_large-requires-clause-each : goal.is_too_large-requires-clause-each
is_too_large-requires-clause-each c =
    subst (All IsDim) (sym c.deref.ensures.value)
    (each_within c.new-scope.result (map bound c.args.bounds.now) c.in-Some.dims.items (sym c.in_ok-far.ensures ∙ c.if-far.false)
    (sym c.in_ok-dims.ensures ∙ ap (option_map (λ v. v.items)) c.in-Some.is))
