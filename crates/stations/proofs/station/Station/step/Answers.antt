use Rattle.std.proofs.Common.{sym, ap, ◌∙◌, refl, map}
use Rattle.std.specs.Prelude.{slice_get}
use Rattle.all_pairs.specs.Rows.{in_queue}
use Rattle.stations.specs.Stations.{fixed}
use Rattle.stations.proofs.Lists.{if_some}
use Rattle.stations.proofs.Keeps.{pushes, pushed_queues}
use Rattle.stations.proofs.station.Station.step.Goals as goal

pub push_at-stepped-requires-clause-next : goal.push_at-stepped-requires-clause-next
push_at-stepped-requires-clause-next g c =
    if_some (slice_get c.self.inside.ends.outs.items c.in-Some.kept.to) _
    (λ o at. (c.self.invariant.outs_stand c.in-Some.kept.to o at).next c.in-Some.kept (sym c.take.ensures.value ∙ c.in-Some.is) refl)

pub invariant_of-self : goal.invariant_of-self
invariant_of-self g c = pushes g.N.PhasedNode.steps c.self.invariant (sym c.take.ensures.value ∙ c.in-Some.is) c.push_at-stepped.ensures

pub returns-in-Some-clause-same : goal.returns-in-Some-clause-same
returns-in-Some-clause-same g c =
    ap (λ l. record { id = c.self.inside.ends.id; opening = c.self.inside.opening.value; outs = l; ins = map in_queue c.self.inside.ends.ins.items })
    (pushed_queues c.push_at-stepped.ensures)
    ∙ ap fixed c.self.view_is
