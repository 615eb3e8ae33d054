use Rattle.std.proofs.Common.{sym, ap, ◌∙◌}
use Rattle.std.specs.List.{flat_map}
use Rattle.syntax_tree.specs.Directive.{names_of}
use Rattle.declarations.specs.Declaring.{least_reason}
use Rattle.distribution_rules.specs.DistributionRules.{distributee_reasons}
use Rattle.distribution_rules.specs.Setting.{object}
use Rattle.directive_check.proofs.declared_rules.distributees_reason.Goals as goal

pub returns-then-colons : goal.returns-then-colons
returns-then-colons c =
    c.listed_distributees_reason.ensures
    ∙ ap (λ b. least_reason (flat_map (λ x. distributee_reasons c.args.values.now (object c.args.setting.now x)) (names_of b c.args.names.now))) (sym c.if-colons.true)
