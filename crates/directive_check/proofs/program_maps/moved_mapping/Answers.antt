use Rattle.std.proofs.Common.{sym, subst}
use Rattle.std.specs.Prelude.{IfSome}
use Rattle.syntax_tree.specs.Directive.{distribution}
use Rattle.distribution_rules.specs.DistributionRules.{distribution_values}
use Rattle.distribution_rules.specs.Setting.{dims_of}
use Rattle.directive_check.specs.DirectMappings.{IsDirect}
use Rattle.directive_check.proofs.DirectLaws.{direct}
use Rattle.directive_check.proofs.program_maps.moved_mapping.Goals as goal

pub with_root-requires-clause-direct : goal.with_root-requires-clause-direct
with_root-requires-clause-direct c =
    subst (λ m. IfSome m IsDirect) (sym c.in_ok-found.ensures)
    (direct c.args.setting.now (distribution_values c.args.setting.now (distribution c.args.spec.now)) (dims_of c.args.setting.now c.args.root.now))
