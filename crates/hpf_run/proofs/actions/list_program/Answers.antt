use Rattle.syntax_tree.specs.MainProgram.{main_program}
use Rattle.hpf_run.specs.Outcome.{listed}
use Rattle.hpf_run.specs.Reply.{reported_memory}
use Rattle.hpf_run.proofs.actions.list_program.Goals as goal

pub returns-in-Ok : goal.returns-in-Ok
returns-in-Ok c =
    c.report.ensures (listed c.args.accepted.now.grid.now (main_program c.args.accepted.now.program.tree)) c.in-Ok.ensures.text c.in-Ok.ensures.end

pub returns-in-Err : goal.returns-in-Err
returns-in-Err c = reported_memory
