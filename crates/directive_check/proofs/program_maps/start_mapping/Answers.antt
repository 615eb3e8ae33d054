use Rattle.std.proofs.Common.{sym, subst}
use Rattle.std.specs.Prelude.{IfSome}
use Rattle.directive_check.specs.DirectMappings.{IsDirect}
use Rattle.directive_check.specs.MappedSteps.{mapped}
use Rattle.directive_check.proofs.DirectLaws.{start_direct}
use Rattle.directive_check.proofs.program_maps.start_mapping.Goals as goal

pub with_root-requires-clause-direct : goal.with_root-requires-clause-direct
with_root-requires-clause-direct c = subst (λ m. IfSome m IsDirect) (sym c.in_ok-root.ensures) (start_direct c.args.setting.now (mapped c.args.objects.now) c.root_of.result)
