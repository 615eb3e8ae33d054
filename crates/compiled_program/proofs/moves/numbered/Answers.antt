use Rattle.nodes_lowered.specs.NewMappings.{numbered}
use Rattle.compiled_program.proofs.Numbering.{numbered_next}
use Rattle.compiled_program.proofs.moves.numbered.Goals as goal

pub loop-one-preserved : goal.loop-one-preserved
loop-one-preserved c =
    numbered_next c.args.places.now c.loop-one.made.items c.push.new.self.items c.loop-one.number c.in_ok-number.number c.array_place.result c.args.news.now
    c.loop-one.one-index c.one-item.result (numbered c.args.places.now c.args.first c.args.news.now) c.loop-one-test.true c.one-item.is c.in_ok-push.ensures.items
    c.array_place.ensures c.in_ok-number.ensures c.loop-one.invariant
