use Rattle.std.proofs.Common.{None, Some, sym, ap, ◌∙◌}
use Rattle.directive_check.specs.ProgramMaps.{mapped_as}
use Rattle.directive_check.proofs.MappedTurns.{how_found}
use Rattle.directive_check.proofs.direct_mappings.start_of.Goals as goal

pub returns-in_ok-found-in-Some : goal.returns-in_ok-found-in-Some
returns-in_ok-found-in-Some c =
    c.in_ok-found-in-Some.ensures
    ∙ ap (mapped_as c.args.setting.now c.args.name.now) (sym (how_found c.args.objects.now c.args.name.now (Some c.in-Some.object.now) c.in-Some.ensures))

pub returns-in-None : goal.returns-in-None
returns-in-None c =
    ap Some c.replicated.ensures
    ∙ ap (mapped_as c.args.setting.now c.args.name.now) (sym (how_found c.args.objects.now c.args.name.now None c.in-None.ensures))
