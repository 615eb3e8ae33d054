use Rattle.std.proofs.Common.{◌≡◌, OnOk, subst}
use Rattle.machine_steps.specs.Machine.{instr_at}
use Rattle.machine_steps.specs.Node.{done_by}
use Rattle.code_meaning.specs.FaultValues.{fault_values}
use Rattle.code_meaning.specs.ProgramText.{text_meaning}
use Rattle.node_machine.proofs.node.Node.finish_remap.Goals as goal

pub returns-clause-ok : goal.returns-clause-ok
returns-clause-ok c =
    subst (λ x. OnOk c.finish_moving.result (c.finish_moving.new.self ≡ done_by fault_values x.nodes (instr_at text_meaning x.code x.control.at) x)) c.redistribution.ensures.same c.finish_moving.ensures.ok
