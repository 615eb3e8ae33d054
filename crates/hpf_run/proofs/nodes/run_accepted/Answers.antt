use Rattle.std.proofs.Common.{Some, subst}
use Rattle.syntax_tree.specs.MainProgram.{main_program}
use Rattle.array_meaning.specs.Serial.{serial}
use Rattle.hpf_run.specs.Reply.{IsReported, action_memory, outcome_of}
use Rattle.hpf_run.proofs.TopLaws.{run-meant}
use Rattle.hpf_run.proofs.nodes.run_accepted.Goals as goal

pub returns-in-Ok : goal.returns-in-Ok
returns-in-Ok g c =
    let a = c.args.accepted.now in
    let p = main_program a.program.tree in
    let job = c.args.job.now in
    let o = outcome_of c.report_nodes.result in
    run-meant a.grid.now job.arrays p job.action c.in-Ok.outcome.ran o c.requires c.in-Ok.ensures.ran
    (subst (λ es. IsReported es job.arrays (serial p) (Some c.in-Ok.outcome.ran) o) a.names (c.report_nodes.ensures (serial p) c.in-Ok.ensures.outcome))

pub returns-in-Err : goal.returns-in-Err
returns-in-Err g c = action_memory
