use Rattle.array_maps.specs.declared.maps.Maps.{Maps}
use Rattle.directive_check.specs.ProgramMaps.{program_moves, start_maps}
use Rattle.hpf_base.specs.ElementOrder.{product}
use Rattle.nodes_lowered.proofs.MovesDealt.{moves-dealt}
use Rattle.nodes_lowered.proofs.promises.accepted_moves_are_dealt.Goals as goal

pub returns : goal.returns
returns c = λ grid room p is arrays moves.
    let maps : Maps = record { arrays = start_maps grid p; moves = program_moves grid p } in
    moves-dealt grid room p is (c.line_moves_are_valid.ensures (product grid) maps (record { arrays = arrays; moves = moves }))
