use Rattle.nodes_lowered.specs.NewMappings.{array_places}
use Rattle.compiled_program.proofs.Numbering.{places_next}
use Rattle.compiled_program.proofs.moves.array_places.Goals as goal

pub loop-place-preserved : goal.loop-place-preserved
loop-place-preserved c =
    places_next c.args.names.now c.loop-place.place c.entry_at.result.now c.loop-place.places.items c.push_place.new.places.items (array_places 0 c.args.names.now)
    c.entry_at.ensures c.in_ok-push_place.ensures c.loop-place.invariant
