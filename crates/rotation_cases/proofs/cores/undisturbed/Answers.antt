use Rattle.distributed_run.proofs.NodesRun.{few, phased}
use Rattle.rotation_cases.proofs.cores.undisturbed.Goals as goal

pub new-requires-clause-phased : goal.new-requires-clause-phased
new-requires-clause-phased c =
    phased c.args.accepted.now c.first_nodes.ensures.grid c.in_ok-_code.ensures.numbers
    c.programs_run_on_nodes.ensures c.accepted_moves_are_dealt.ensures c.in_ok-_code.field-0.nodes.items c.in_ok-_code.ensures.nodes

pub new-requires-clause-few : goal.new-requires-clause-few
new-requires-clause-few c =
    few c.args.accepted.now c.first_nodes.ensures.grid c.in_ok-_code.ensures.numbers
    c.programs_run_on_nodes.ensures c.accepted_moves_are_dealt.ensures c.in_ok-_code.field-0.nodes.items c.in_ok-_code.ensures.nodes
