use Rattle.std.proofs.Common.{rules, ◌≡◌, ◌∙◌, ◌++◌, ◌∷◌, [], length, sym, ap, append_assoc}
use Rattle.stations.proofs.Gathered.{gathered_more, gathered_all, next_ended, pairs_of, ends, closes}
use Rattle.stations.proofs.closing.close_stations.Goals as goal

pub loop-station-preserved : goal.loop-station-preserved
loop-station-preserved g c =
    let all : c.args.stations.items ≡ c.loop-station.yielded ++ (c.in-Some.station ∷ c.next.new.self.rest.items) =
    c.loop-station.invariant.1 ∙ ap (λ l. c.loop-station.yielded ++ l) c.in-Some.ensures.steps.0 in
    let parts = c.into_parts-node.ensures.parts in
    let ended = next_ended g.N.PhasedNode.steps c.args.stations.items c.loop-station.yielded c.next.new.self.rest.items c.in-Some.station c.requires.ended all in (
      gathered_more g.N.PhasedNode.steps c.in-Some.station c.into_parts-node.result.0 c.new.result c.new-in-loop-station.result c.loop-station.invariant.0
          (record { stands = c.into_parts-node.ensures.stands; ended = ended })
          parts.0 (c.new.ensures ∙ parts.1) (c.new-in-loop-station.ensures ∙ parts.2) (search rules) (search rules) (search rules),
      all ∙ sym (append_assoc c.loop-station.yielded (c.in-Some.station ∷ []) _),
    )

pub close_pairs-requires : goal.close_pairs-requires
close_pairs-requires g c =
    let count : length c.loop-station.station-iterator.rest.items ≡ c.loop-station.station-iterator.rest.len = search rules in
    let h = gathered_all g.N.PhasedNode.steps c.args.stations.items c.loop-station.station-iterator.rest.items
    c.loop-station.invariant.0 c.loop-station.invariant.1 (count ∙ c.in-None.ensures.steps.0) in
    pairs_of g.N.PhasedNode.steps c.requires.joined.0 c.args.stations.items c.loop-station.outs.items c.loop-station.ins.items c.requires.joined.1 h.outs_are h.ins_are

pub returns-clause-ends : goal.returns-clause-ends
returns-clause-ends g c =
    let count : length c.loop-station.station-iterator.rest.items ≡ c.loop-station.station-iterator.rest.len = search rules in
    let h = gathered_all g.N.PhasedNode.steps c.args.stations.items c.loop-station.station-iterator.rest.items
    c.loop-station.invariant.0 c.loop-station.invariant.1 (count ∙ c.in-None.ensures.steps.0) in
    ends g.N.PhasedNode.steps c.args.stations.items c.loop-station.nodes.items c.loop-station.outs.items c.loop-station.ins.items h
    c.in_ok-closed.closed.items c.in_ok-closed.ensures

pub returns-clause-closed : goal.returns-clause-closed
returns-clause-closed g c =
    let count : length c.loop-station.station-iterator.rest.items ≡ c.loop-station.station-iterator.rest.len = search rules in
    let h = gathered_all g.N.PhasedNode.steps c.args.stations.items c.loop-station.station-iterator.rest.items
    c.loop-station.invariant.0 c.loop-station.invariant.1 (count ∙ c.in-None.ensures.steps.0) in
    closes g.N.PhasedNode.steps c.args.stations.items c.loop-station.nodes.items c.loop-station.outs.items c.loop-station.ins.items h
    c.in_ok-closed.closed.items c.in_ok-closed.ensures
