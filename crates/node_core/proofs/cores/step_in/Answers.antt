-- Each arm of the step is one of the steps of proofs/Stepping.
use Rattle.std.proofs.Common.{◌∙◌, sym, refl, arith, length}
use Rattle.std.proofs.lemmas.Bool.{eqb-true}
use Rattle.node_law.specs.declared.stepped.Stepped.TheVariants.{Moved}
use Rattle.node_core.proofs.Stepping.{send-room, take-some, target-fits, source-fits, local-done, send-done, take-done, take-awaited, send-full, take-empty, done-ends, from-value}
use Rattle.node_core.proofs.cores.step_in.Goals as goal

pub returns-in_ok-local-in-Local-clause-core : goal.returns-in_ok-local-in-Local-clause-core
returns-in_ok-local-in-Local-clause-core g c =
    (local-done c.requires.core refl c.args.node.0 c.requires.there c.index.result.now c.index.ensures c.index_mut.result.now c.local.new.self
    (sym c.next_act.ensures ∙ c.in-Local.is) c.index_mut.ensures.value c.in_ok-local-in-Local.ensures.ok).core

pub returns-in_ok-local-in-Local-clause-step : goal.returns-in_ok-local-in-Local-clause-step
returns-in_ok-local-in-Local-clause-step g c =
    from-value c.requires.core refl c.args.node.0 c.requires.there c.index.result.now c.index.ensures Moved _
    (local-done c.requires.core refl c.args.node.0 c.requires.there c.index.result.now c.index.ensures c.index_mut.result.now c.local.new.self
    (sym c.next_act.ensures ∙ c.in-Local.is) c.index_mut.ensures.value c.in_ok-local-in-Local.ensures.ok)

pub index-requires-in-Send : goal.index-requires-in-Send
index-requires-in-Send g c =
    let h =
    target-fits c.requires.core refl c.args.node.0 c.requires.there c.index.result.now c.index.ensures c.len.result c.in-Send.target
    (c.len.ensures ∙ c.args.nodes.now.ok.0) (sym c.next_act.ensures ∙ c.in-Send.is) in
    omega (arith, c.args.queues.now.ok.0)

pub returns-then-is_full-clause-step : goal.returns-then-is_full-clause-step
returns-then-is_full-clause-step g c =
    send-full c.requires.core refl c.args.node.0 c.requires.there c.index.result.now c.index.ensures c.len.result c.in-Send.target
    c.index-in-Send.result.now (c.len.ensures ∙ c.args.nodes.now.ok.0) (sym c.next_act.ensures ∙ c.in-Send.is) c.index-in-Send.ensures
    (c.is_full.ensures.full c.if-is_full.true)

pub index_mut-requires-in-Send-2 : goal.index_mut-requires-in-Send-2
index_mut-requires-in-Send-2 g c =
    let h =
    target-fits c.requires.core refl c.args.node.0 c.requires.there c.index.result.now c.index.ensures c.len.result c.in-Send.target
    (c.len.ensures ∙ c.args.nodes.now.ok.0) (sym c.next_act.ensures ∙ c.in-Send.is) in
    omega (arith, c.args.queues.now.ok.0)

pub push-requires : goal.push-requires
push-requires g c =
    send-room c.requires.core refl c.args.node.0 c.requires.there c.index.result.now c.index.ensures c.len.result c.in-Send.target
    c.index-in-Send.result.now c.index_mut-in-Send-2.result.now (c.len.ensures ∙ c.args.nodes.now.ok.0) (sym c.next_act.ensures ∙ c.in-Send.is)
    c.index-in-Send.ensures c.index_mut-in-Send-2.ensures.value (c.is_full.ensures.room c.if-is_full.false)

pub returns-else-is_full-clause-core : goal.returns-else-is_full-clause-core
returns-else-is_full-clause-core g c =
    (send-done c.requires.core refl c.args.node.0 c.requires.there c.index.result.now c.index.ensures c.len.result c.in-Send.target
    c.index_mut-in-Send.result.now c.send-letter.new.self c.index_mut-in-Send-2.result.now c.push.new.self c.send-letter.result
    (c.len.ensures ∙ c.args.nodes.now.ok.0) (sym c.next_act.ensures ∙ c.in-Send.is) c.index_mut-in-Send.ensures.value c.send-letter.ensures.after
    c.send-letter.ensures.letter c.index_mut-in-Send-2.ensures.value
    (send-room c.requires.core refl c.args.node.0 c.requires.there c.index.result.now c.index.ensures c.len.result c.in-Send.target
    c.index-in-Send.result.now c.index_mut-in-Send-2.result.now (c.len.ensures ∙ c.args.nodes.now.ok.0) (sym c.next_act.ensures ∙ c.in-Send.is)
    c.index-in-Send.ensures c.index_mut-in-Send-2.ensures.value (c.is_full.ensures.room c.if-is_full.false)) c.push.ensures).core

pub returns-else-is_full-clause-step : goal.returns-else-is_full-clause-step
returns-else-is_full-clause-step g c =
    from-value c.requires.core refl c.args.node.0 c.requires.there c.index.result.now c.index.ensures Moved _
    (send-done c.requires.core refl c.args.node.0 c.requires.there c.index.result.now c.index.ensures c.len.result c.in-Send.target
    c.index_mut-in-Send.result.now c.send-letter.new.self c.index_mut-in-Send-2.result.now c.push.new.self c.send-letter.result
    (c.len.ensures ∙ c.args.nodes.now.ok.0) (sym c.next_act.ensures ∙ c.in-Send.is) c.index_mut-in-Send.ensures.value c.send-letter.ensures.after
    c.send-letter.ensures.letter c.index_mut-in-Send-2.ensures.value
    (send-room c.requires.core refl c.args.node.0 c.requires.there c.index.result.now c.index.ensures c.len.result c.in-Send.target
    c.index-in-Send.result.now c.index_mut-in-Send-2.result.now (c.len.ensures ∙ c.args.nodes.now.ok.0) (sym c.next_act.ensures ∙ c.in-Send.is)
    c.index-in-Send.ensures c.index_mut-in-Send-2.ensures.value (c.is_full.ensures.room c.if-is_full.false)) c.push.ensures)

pub index-requires-in-Take : goal.index-requires-in-Take
index-requires-in-Take g c =
    let h =
    source-fits c.requires.core refl c.args.node.0 c.requires.there c.index.result.now c.index.ensures c.len-in-Take.result c.in-Take.source
    (c.len-in-Take.ensures ∙ c.args.nodes.now.ok.0) (sym c.next_act.ensures ∙ c.in-Take.is) in
    omega (arith, c.args.queues.now.ok.0)

pub returns-then-is_empty-clause-step : goal.returns-then-is_empty-clause-step
returns-then-is_empty-clause-step g c =
    take-empty c.requires.core refl c.args.node.0 c.requires.there c.index.result.now c.index.ensures c.len-in-Take.result c.in-Take.source
    c.index-in-Take.result.now (c.len-in-Take.ensures ∙ c.args.nodes.now.ok.0) (sym c.next_act.ensures ∙ c.in-Take.is) c.index-in-Take.ensures
    (eqb-true (length c.index-in-Take.result.now) 0 (sym c.is_empty.ensures ∙ c.if-is_empty.true))

pub index_mut-requires-in-Take : goal.index_mut-requires-in-Take
index_mut-requires-in-Take g c =
    let h =
    source-fits c.requires.core refl c.args.node.0 c.requires.there c.index.result.now c.index.ensures c.len-in-Take.result c.in-Take.source
    (c.len-in-Take.ensures ∙ c.args.nodes.now.ok.0) (sym c.next_act.ensures ∙ c.in-Take.is) in
    omega (arith, c.args.queues.now.ok.0)

pub pop-letter-requires : goal.pop-letter-requires
pop-letter-requires g c =
    take-some c.requires.core refl c.args.node.0 c.requires.there c.index.result.now c.index.ensures c.len-in-Take.result c.in-Take.source
    c.index-in-Take.result.now c.index_mut-in-Take.result.now (c.len-in-Take.ensures ∙ c.args.nodes.now.ok.0) (sym c.next_act.ensures ∙ c.in-Take.is)
    c.index-in-Take.ensures c.index_mut-in-Take.ensures.value (sym c.is_empty.ensures ∙ c.if-is_empty.false)

pub take-requires-clause-awaited : goal.take-requires-clause-awaited
take-requires-clause-awaited g c =
    take-awaited c.requires.core refl c.args.node.0 c.requires.there c.index.result.now c.index.ensures c.len-in-Take.result c.in-Take.source
    c.index_mut-in-Take-2.result.now c.index_mut-in-Take.result.now c.pop-letter.new.self c.pop-letter.result
    (c.len-in-Take.ensures ∙ c.args.nodes.now.ok.0) (sym c.next_act.ensures ∙ c.in-Take.is) c.index_mut-in-Take-2.ensures.value
    c.index_mut-in-Take.ensures.value c.pop-letter.ensures

pub returns-else-is_empty-clause-core : goal.returns-else-is_empty-clause-core
returns-else-is_empty-clause-core g c =
    (take-done c.requires.core refl c.args.node.0 c.requires.there c.index.result.now c.index.ensures c.len-in-Take.result c.in-Take.source
    c.index_mut-in-Take-2.result.now c.take.new.self c.index_mut-in-Take.result.now c.pop-letter.new.self c.pop-letter.result
    (c.len-in-Take.ensures ∙ c.args.nodes.now.ok.0) (sym c.next_act.ensures ∙ c.in-Take.is) c.index_mut-in-Take-2.ensures.value c.take.ensures
    c.index_mut-in-Take.ensures.value c.pop-letter.ensures).core

pub returns-else-is_empty-clause-step : goal.returns-else-is_empty-clause-step
returns-else-is_empty-clause-step g c =
    from-value c.requires.core refl c.args.node.0 c.requires.there c.index.result.now c.index.ensures Moved _
    (take-done c.requires.core refl c.args.node.0 c.requires.there c.index.result.now c.index.ensures c.len-in-Take.result c.in-Take.source
    c.index_mut-in-Take-2.result.now c.take.new.self c.index_mut-in-Take.result.now c.pop-letter.new.self c.pop-letter.result
    (c.len-in-Take.ensures ∙ c.args.nodes.now.ok.0) (sym c.next_act.ensures ∙ c.in-Take.is) c.index_mut-in-Take-2.ensures.value c.take.ensures
    c.index_mut-in-Take.ensures.value c.pop-letter.ensures)

pub returns-in-Done-clause-step : goal.returns-in-Done-clause-step
returns-in-Done-clause-step g c =
    done-ends c.requires.core refl c.args.node.0 c.requires.there c.index.result.now c.index.ensures (sym c.next_act.ensures ∙ c.in-Done.is)
