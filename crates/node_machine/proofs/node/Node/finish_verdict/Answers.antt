use Rattle.std.proofs.Common.{◌≡◌, OnOk, subst, rules}
use Rattle.machine_steps.specs.Instr.{Verdict}
use Rattle.machine_steps.specs.Machine.{instr_at}
use Rattle.code_meaning.specs.ProgramText.{text_meaning}
use Rattle.node_machine.proofs.TreeSteps.{verdict-done}
use Rattle.node_machine.proofs.node.Node.finish_verdict.Goals as goal

pub returns-clause-ok : goal.returns-clause-ok
returns-clause-ok c =
    let a = c.args.self.now in
    let is : instr_at text_meaning a.code a.control.at ≡ Verdict = search rules in
    subst (λ x. OnOk c.verdict_round.result (c.verdict_round.new.self ≡ x)) (verdict-done a.nodes a _ _ _ is c.in_ok-round.ensures c.in_ok-numbers.ensures) c.verdict_round.ensures.ok
