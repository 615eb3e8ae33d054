use Rattle.distributed_run.proofs.openings.first_nodes.Goals as goal
