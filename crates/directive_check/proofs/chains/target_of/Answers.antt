use Rattle.std.proofs.Common.{None, Some, sym, ap, ◌∙◌}
use Rattle.directive_check.specs.Chains.{target_in}
use Rattle.directive_check.proofs.MappedTurns.{how_found}
use Rattle.directive_check.proofs.chains.target_of.Goals as goal

pub returns-in-Some : goal.returns-in-Some
returns-in-Some c = c.target_in.ensures ∙ ap target_in (sym (how_found c.args.objects.now c.args.name.now (Some c.in-Some.object.now) c.in-Some.ensures))

pub returns-in-None : goal.returns-in-None
returns-in-None c = ap target_in (sym (how_found c.args.objects.now c.args.name.now None c.in-None.ensures))
