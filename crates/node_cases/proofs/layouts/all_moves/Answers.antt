use Rattle.std.proofs.Common.{sym, subst}
use Rattle.std.proofs.lemmas.List.Elements.{All-get_or}
use Rattle.array_maps.specs.Maps.{AreNewMaps}
use Rattle.node_cases.proofs.layouts.all_moves.Goals as goal

pub new_mappings-requires-clause-new : goal.new_mappings-requires-clause-new
new_mappings-requires-clause-new c = subst (λ r. AreNewMaps c.args.nodes c.args.maps.now.arrays r.maps) (sym c.one-item.is)
    (All-get_or (λ r. AreNewMaps c.args.nodes c.args.maps.now.arrays r.maps) c.args.all.now c.loop-one.one-index c.one-item.result c.loop-one-test.true c.requires.all)
