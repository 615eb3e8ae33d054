use Rattle.std.proofs.Common.{sym, ap, ◌∙◌, refl, map}
use Rattle.std.specs.Prelude.{Some, None, slice_get}
use Rattle.all_pairs.specs.Rows.{in_queue, out_queue}
use Rattle.stations.specs.Stations.{fixed}
use Rattle.stations.proofs.Lists.{if_some, some_if}
use Rattle.stations.proofs.Keeps.{works, takes, waits, comes, makes, pushes, next_letter, sends_there, takes_there, pushed_queues, popped_queues}
use Rattle.stations.proofs.station.Station.act.Goals as goal

pub invariant_of-self-in-Local : goal.invariant_of-self-in-Local
invariant_of-self-in-Local g c = works g.N.PhasedNode.steps c.self.invariant (sym c.next_act.ensures ∙ c.in-Local.is) c.in_ok-local-in-Local.ensures.ok

pub push_at-stepped-requires-clause-there : goal.push_at-stepped-requires-clause-there
push_at-stepped-requires-clause-there g c = sends_there g.N.PhasedNode.steps c.in-Send.target.0 c.self.invariant (sym c.next_act.ensures ∙ c.in-Send.is)

pub push_at-stepped-requires-clause-next : goal.push_at-stepped-requires-clause-next
push_at-stepped-requires-clause-next g c =
    if_some (slice_get c.self.inside.ends.outs.items c.in-Send.target.0) _
    (λ o at. next_letter g.N.PhasedNode.steps c.in-Send.target.0 c.send-letter.result o c.self.invariant (ap (λ s. s.kept) c.self.view_is ∙ c.requires)
    (sym c.next_act.ensures ∙ c.in-Send.is) c.send-letter.ensures.letter at)

pub invariant_of-self-in-Send : goal.invariant_of-self-in-Send
invariant_of-self-in-Send g c =
    pushes g.N.PhasedNode.steps
    (makes g.N.PhasedNode.steps c.in-Send.target.0 c.send-letter.result c.self.invariant (ap (λ s. s.kept) c.self.view_is ∙ c.requires)
    (sym c.next_act.ensures ∙ c.in-Send.is) c.send-letter.ensures.letter c.send-letter.ensures.after)
    refl c.push_at-stepped.ensures

pub pop_at-requires : goal.pop_at-requires
pop_at-requires g c = takes_there g.N.PhasedNode.steps c.in-Take.source.0 c.self.invariant (sym c.next_act.ensures ∙ c.in-Take.is)

pub take-requires-clause-awaited : goal.take-requires-clause-awaited
take-requires-clause-awaited g c =
    let pop = c.in-Some.ensures.popped in
    comes g.N.PhasedNode.steps c.in-Take.source.0 c.in-Some.letter pop.0 c.self.invariant (sym c.next_act.ensures ∙ c.in-Take.is) pop.2
    (some_if (slice_get c.self.inside.ends.ins.items c.in-Take.source.0) _ pop.0 pop.2 c.in-Some.ensures.next)

pub invariant_of-self-in-Some : goal.invariant_of-self-in-Some
invariant_of-self-in-Some g c =
    let pop = c.in-Some.ensures.popped in
    takes g.N.PhasedNode.steps c.take.new.self c.in-Take.source.0 c.in-Some.letter pop.0 pop.1 c.self.invariant
    (sym c.next_act.ensures ∙ c.in-Take.is) c.take.ensures pop.2 pop.3 pop.4

pub invariant_of-self-in-None : goal.invariant_of-self-in-None
invariant_of-self-in-None g c =
    let pop = c.in-None.ensures.popped in
    waits g.N.PhasedNode.steps c.in-Take.source.0 pop.0 pop.1 c.self.invariant pop.2 pop.3 pop.4.0

pub returns-in-Send-clause-same : goal.returns-in-Send-clause-same
returns-in-Send-clause-same g c =
    ap (λ l. record { id = c.self.inside.ends.id; opening = c.self.inside.opening.value; outs = l; ins = map in_queue c.self.inside.ends.ins.items })
    (pushed_queues c.push_at-stepped.ensures)
    ∙ ap fixed c.self.view_is

pub returns-in-Some-clause-same : goal.returns-in-Some-clause-same
returns-in-Some-clause-same g c =
    let pop = c.in-Some.ensures.popped in
    ap (λ l. record { id = c.self.inside.ends.id; opening = c.self.inside.opening.value; outs = map out_queue c.self.inside.ends.outs.items; ins = l })
    (popped_queues c.self.inside.ends.ins.items c.in-Take.source.0 (Some c.in-Some.letter) pop.0 pop.1 pop.2 pop.3 pop.4)
    ∙ ap fixed c.self.view_is

pub returns-in-None-clause-same : goal.returns-in-None-clause-same
returns-in-None-clause-same g c =
    let pop = c.in-None.ensures.popped in
    ap (λ l. record { id = c.self.inside.ends.id; opening = c.self.inside.opening.value; outs = map out_queue c.self.inside.ends.outs.items; ins = l })
    (popped_queues c.self.inside.ends.ins.items c.in-Take.source.0 None pop.0 pop.1 pop.2 pop.3 pop.4)
    ∙ ap fixed c.self.view_is
