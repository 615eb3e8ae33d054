use Rattle.std.proofs.Common.{subst, sym}
use Rattle.syntax_tree.specs.MainProgram.{main_program}
use Rattle.node_law.specs.Cores.{start}
use Rattle.node_law.specs.Reached.{EndsInLockstep}
use Rattle.compiled_program.specs.GridRuns.{AreLastOnGrid, grid_nodes}
use Rattle.compiled_program.specs.ProgramRuns.{program_steps}
use Rattle.distributed_run.specs.Ran.{IsRunOf}
use Rattle.distributed_run.proofs.NodesRun.{few, is-run, last-ends, last-nodes, lettered, phased}
use Rattle.distributed_run.proofs.run.run_on_nodes.Goals as goal

pub run_nodes-requires-clause-phased : goal.run_nodes-requires-clause-phased
run_nodes-requires-clause-phased g c κs within =
    phased c.args.accepted.now c.first_nodes.ensures.grid c.in_ok-code.ensures.numbers
    c.programs_run_on_nodes.ensures c.accepted_moves_are_dealt.ensures c.in_ok-code.field-0.nodes.items c.in_ok-code.ensures.nodes

pub run_nodes-requires-clause-few : goal.run_nodes-requires-clause-few
run_nodes-requires-clause-few g c κs within =
    few c.args.accepted.now c.first_nodes.ensures.grid c.in_ok-code.ensures.numbers
    c.programs_run_on_nodes.ensures c.accepted_moves_are_dealt.ensures c.in_ok-code.field-0.nodes.items c.in_ok-code.ensures.nodes

pub run_nodes-requires-clause-lettered : goal.run_nodes-requires-clause-lettered
run_nodes-requires-clause-lettered g c κs within =
    lettered c.args.accepted.now c.first_nodes.ensures.grid c.in_ok-code.ensures.numbers
    c.programs_run_on_nodes.ensures c.accepted_moves_are_dealt.ensures c.in_ok-code.field-0.nodes.items c.in_ok-code.ensures.nodes

pub outcome_of-requires : goal.outcome_of-requires
outcome_of-requires g c =
    last-nodes c.args.accepted.now c.first_nodes.ensures.grid c.in_ok-code.ensures.numbers
    c.programs_run_on_nodes.ensures c.accepted_moves_are_dealt.ensures c.in_ok-code.field-0.nodes.items c.in_ok-code.ensures.nodes
    c.in_ok-nodes.field-0.nodes.items c.in_ok-nodes.ensures.ends

pub returns-clause-ends : goal.returns-clause-ends
returns-clause-ends g c =
    subst (EndsInLockstep program_steps (start (grid_nodes c.args.accepted.now.grid.now (main_program c.args.accepted.now.program.tree)))) (sym c.in_ok-outcome.ensures.nodes)
    (last-ends c.args.accepted.now c.first_nodes.ensures.grid c.in_ok-code.ensures.numbers
    c.programs_run_on_nodes.ensures c.accepted_moves_are_dealt.ensures c.in_ok-code.field-0.nodes.items c.in_ok-code.ensures.nodes
    c.in_ok-nodes.field-0.nodes.items c.in_ok-nodes.ensures.ends)

pub returns-clause-nodes : goal.returns-clause-nodes
returns-clause-nodes g c =
    subst (AreLastOnGrid c.args.accepted.now.grid.now (main_program c.args.accepted.now.program.tree)) (sym c.in_ok-outcome.ensures.nodes)
    (last-nodes c.args.accepted.now c.first_nodes.ensures.grid c.in_ok-code.ensures.numbers
    c.programs_run_on_nodes.ensures c.accepted_moves_are_dealt.ensures c.in_ok-code.field-0.nodes.items c.in_ok-code.ensures.nodes
    c.in_ok-nodes.field-0.nodes.items c.in_ok-nodes.ensures.ends)

pub returns-clause-ran : goal.returns-clause-ran
returns-clause-ran g c =
    subst (IsRunOf c.args.accepted.now.grid.now (main_program c.args.accepted.now.program.tree)) (sym c.in_ok-outcome.ensures.ran)
    (is-run c.args.accepted.now c.first_nodes.ensures.grid c.in_ok-code.ensures.numbers
    c.programs_run_on_nodes.ensures c.accepted_moves_are_dealt.ensures c.in_ok-code.field-0.nodes.items c.in_ok-code.ensures.nodes
    record { code = c.in_ok-code.field-0.code; closed = c.in_ok-nodes.field-0.closed } c.in_ok-code.ensures.code c.in_ok-nodes.ensures.count.1 c.in_ok-nodes.ensures.closed)
