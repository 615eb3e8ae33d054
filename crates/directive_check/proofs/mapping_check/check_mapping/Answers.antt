use Rattle.std.proofs.Common.{◌≤◌, All, length, None, Some, sym, ap, subst, ◌∙◌}
use Rattle.hpf_base.specs.ElementOrder.{product}
use Rattle.hpf_base.specs.FirstBreach.{least}
use Rattle.declarations.specs.declared.limits.TheConstants.{MAX_NAMES}
use Rattle.syntax_tree.specs.MainProgram.{main_program}
use Rattle.array_maps.specs.Maps.{AreMaps}
use Rattle.name_table.specs.Entries.{entries}
use Rattle.statement_walk.specs.Heads.{all_heads}
use Rattle.distribution_rules.specs.Setting.{setting}
use Rattle.directive_check.specs.Limits.{HasFewDims}
use Rattle.directive_check.specs.MappedObjects.{how_mapped, mapped_objects}
use Rattle.directive_check.specs.MappedSteps.{mapped}
use Rattle.directive_check.specs.ProgramMaps.{program_moves, start_maps}
use Rattle.directive_check.proofs.ValidMaps.{valid_maps}
use Rattle.directive_check.specs.MappingRules.{breaches_in, mapping_breaches}
use Rattle.directive_check.proofs.AllMaps.{arrays_as, moves_as, same_maps}
use Rattle.directive_check.proofs.FewNames.{few_dims, few_names}
use Rattle.directive_check.proofs.MappingBreaches.{is_first}
use Rattle.directive_check.proofs.SameMapped.{MapSame}
use Rattle.directive_check.proofs.mapping_check.check_mapping.Goals as goal

pub first_breach-requires-clause-few : goal.first_breach-requires-clause-few
first_breach-requires-clause-few c =
    subst (λ s. length s.names ≤ MAX_NAMES) (sym c.in_ok-setting.ensures) (few_names (main_program c.args.program.now.tree) c.requires.resolved.names)

pub maps_of-requires-clause-few : goal.maps_of-requires-clause-few
maps_of-requires-clause-few c =
    subst (λ s. length s.names ≤ MAX_NAMES) (sym c.in_ok-setting.ensures) (few_names (main_program c.args.program.now.tree) c.requires.resolved.names)

pub maps_of-requires-clause-dims : goal.maps_of-requires-clause-dims
maps_of-requires-clause-dims c = subst (All (λ e. HasFewDims e.what)) (sym c.requires.names) (few_dims (main_program c.args.program.now.tree))

pub returns-in-Some-clause-refused : goal.returns-in-Some-clause-refused
returns-in-Some-clause-refused c =
    let p = main_program c.args.program.now.tree in
    is_first (mapping_breaches c.args.grid.now p) c.in_ok-refusal.field-0 (Some c.in-Some.refusal)
    (c.in_ok-refusal.ensures ∙ ap (λ s. least (breaches_in s p)) c.in_ok-setting.ensures) c.in-Some.is

pub returns-clause-fine : goal.returns-clause-fine
returns-clause-fine c =
    let p = main_program c.args.program.now.tree in
    is_first (mapping_breaches c.args.grid.now p) c.in_ok-refusal.field-0 None
    (c.in_ok-refusal.ensures ∙ ap (λ s. least (breaches_in s p)) c.in_ok-setting.ensures) c.in-None.is

pub returns-clause-arrays : goal.returns-clause-arrays
returns-clause-arrays c =
    let p = main_program c.args.program.now.tree in
    let same : MapSame (mapped c.deref-in-None.result.now) (mapped c.in_ok-objects.objects.items) = λ x.
    ap (λ l. how_mapped (mapped l) x) c.deref-in-None.ensures.value ∙ c.in_ok-firsts.ensures.same x ∙ ap (λ l. how_mapped (mapped l) x) c.deref.ensures.value in
    arrays_as c.in_ok-setting.setting (setting c.args.grid.now p) (mapped c.deref-in-None.result.now) (mapped c.in_ok-objects.objects.items) (mapped_objects p.declarations)
    c.args.program.now.names (entries p) c.in_ok-maps-in-None.maps.arrays
    c.in_ok-setting.ensures same c.in_ok-objects.ensures c.requires.names c.in_ok-maps-in-None.ensures.arrays

pub returns-clause-moves : goal.returns-clause-moves
returns-clause-moves c =
    let p = main_program c.args.program.now.tree in
    let same : MapSame (mapped c.deref-in-None.result.now) (mapped c.in_ok-objects.objects.items) = λ x.
    ap (λ l. how_mapped (mapped l) x) c.deref-in-None.ensures.value ∙ c.in_ok-firsts.ensures.same x ∙ ap (λ l. how_mapped (mapped l) x) c.deref.ensures.value in
    moves_as c.in_ok-setting.setting (setting c.args.grid.now p) (mapped c.deref-in-None.result.now) (mapped c.in_ok-objects.objects.items) (mapped_objects p.declarations)
    c.args.program.now.names (entries p) (all_heads p.body) c.in_ok-maps-in-None.maps.moves
    c.in_ok-setting.ensures same c.in_ok-objects.ensures c.requires.names c.in_ok-maps-in-None.ensures.moves

pub returns-clause-valid : goal.returns-clause-valid
returns-clause-valid c =
    let p = main_program c.args.program.now.tree in
    subst (AreMaps (product c.args.grid.now)) (same_maps c.in_ok-maps-in-None.maps (start_maps c.args.grid.now p) (program_moves c.args.grid.now p)
    (returns-clause-arrays c) (returns-clause-moves c))
    (valid_maps c.args.grid.now p c.dims.ensures.valid (returns-clause-fine c))
