use Rattle.std.proofs.Common.{◌≡◌, OnOk, suc, length, nat_lt, true, false, subst, ap, ◌∙◌, rules, arith}
use Rattle.machine_steps.specs.Machine.{on}
use Rattle.machine_steps.specs.Node.{ready}
use Rattle.remap_steps.specs.Redistributions.{all_rounds, moved_pieces}
use Rattle.node_machine.specs.Remaps.{round_opened}
use Rattle.node_machine.proofs.RemapSteps.{remap-done, round-open, round-over}
use Rattle.node_machine.proofs.node.Node.finish_moving.Goals as goal

pub returns-then-round-rounds-clause-ok : goal.returns-then-round-rounds-clause-ok
returns-then-round-rounds-clause-ok c =
    let a = c.args.self.now in
    let r = c.args.moving in
    let next : c.in_ok-round.round ≡ suc a.round = let e = c.in_ok-round.ensures in omega (arith, e) in
    let goes : nat_lt c.in_ok-round.round (length (all_rounds r)) ≡ true = search rules in
    subst (λ x. OnOk c.later_round.result (c.later_round.new.self ≡ x))
    (ap (λ k. round_opened r (record a { round = k })) next
    ∙ round-open r (record a { round = suc a.round }) (subst (λ k. nat_lt k (length (all_rounds r)) ≡ true) next goes) ∙ remap-done _ a r c.requires.is)
    c.later_round.ensures.ok

pub returns-in_ok-rows-clause-ok : goal.returns-in_ok-rows-clause-ok
returns-in_ok-rows-clause-ok c =
    let a = c.args.self.now in
    let r = c.args.moving in
    let next : c.in_ok-round.round ≡ suc a.round = let e = c.in_ok-round.ensures in omega (arith, e) in
    let over : nat_lt c.in_ok-round.round (length (all_rounds r)) ≡ false = search rules in
    c.put_rows.ensures
    ∙ (λ i. ready a.nodes (record a {
      control = on a.control;
      substep = 0;
      layouts = c.in_ok-rows.ensures.layouts i;
      pieces = (c.in_ok-rows.ensures.pieces ∙ ap (moved_pieces r a.pieces) (c.all_received.ensures ∙ (λ j. (c.self.view_is j).received))) i;
    }))
    ∙ round-over r (record a { round = suc a.round }) (subst (λ k. nat_lt k (length (all_rounds r)) ≡ false) next over) ∙ remap-done _ a r c.requires.is
