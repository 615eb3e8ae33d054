use Rattle.std.proofs.Common.{◌≡◌, OnOk, length, nat_lt, true, false, subst, ap, ◌∙◌, rules}
use Rattle.machine_steps.specs.Machine.{on}
use Rattle.machine_steps.specs.Node.{no_values, ready}
use Rattle.remap_steps.specs.Redistributions.{all_rounds, moved_pieces}
use Rattle.node_machine.proofs.RemapSteps.{remap-begun, round-open, round-over}
use Rattle.node_machine.proofs.node.Node.begin_moving.Goals as goal

pub returns-then-rounds-gt0-clause-ok : goal.returns-then-rounds-gt0-clause-ok
returns-then-rounds-gt0-clause-ok c =
    let a = c.args.self.now in
    let r = c.args.moving in
    let goes : nat_lt 0 (length (all_rounds r)) ≡ true = search rules in
    subst (λ x. OnOk c.first_round.result (c.first_round.new.self ≡ x))
    (round-open r (record a { received = no_values a.nodes; round = 0 }) goes ∙ remap-begun _ a r c.requires.is) c.first_round.ensures.ok

pub returns-in_ok-rows-clause-ok : goal.returns-in_ok-rows-clause-ok
returns-in_ok-rows-clause-ok c =
    let a = c.args.self.now in
    let r = c.args.moving in
    let over : nat_lt 0 (length (all_rounds r)) ≡ false = search rules in
    c.put_rows.ensures
    ∙ (λ i. ready a.nodes (record a {
      control = on a.control;
      substep = 0;
      layouts = c.in_ok-rows.ensures.layouts i;
      pieces = (c.in_ok-rows.ensures.pieces ∙ ap (moved_pieces r a.pieces) (c.deref.ensures.value ∙ c.in_ok-received.ensures.items)) i;
    }))
    ∙ round-over r (record a { received = no_values a.nodes; round = 0 }) over ∙ remap-begun _ a r c.requires.is
