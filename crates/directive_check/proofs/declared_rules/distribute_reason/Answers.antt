use Rattle.std.proofs.Common.{ap, ◌∙◌}
use Rattle.std.specs.List.{flat_map}
use Rattle.syntax_tree.specs.Directive.{distribution, names_of}
use Rattle.declarations.specs.Declaring.{least_reason}
use Rattle.distribution_rules.specs.DistributionRules.{distributee_reasons}
use Rattle.distribution_rules.specs.Setting.{object}
use Rattle.directive_check.proofs.MappingBreaches.{least_of_distribute}
use Rattle.directive_check.proofs.declared_rules.distribute_reason.Goals as goal

pub returns : goal.returns
returns c =
    let s = c.args.setting.now in
    let v = c.in_ok-values.values in
    least_of_distribute s (distribution c.args.spec.now) v c.bad_distribution.result c.distributees_reason-named.result c.lesser.result
    c.in_ok-values.ensures c.bad_distribution.ensures
    (c.distributees_reason-named.ensures
    ∙ ap (λ l. least_reason (flat_map (λ x. distributee_reasons v (object s x)) (names_of c.args.spec.now.colons l))) c.as_slice.ensures)
    c.lesser.ensures
