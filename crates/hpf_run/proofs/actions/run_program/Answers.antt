use Rattle.std.proofs.Common.{ap}
use Rattle.syntax_tree.specs.MainProgram.{main_program}
use Rattle.array_meaning.specs.Serial.{outcome}
use Rattle.hpf_run.specs.Reply.{reported_memory}
use Rattle.hpf_run.proofs.actions.run_program.Goals as goal

pub returns-in-Ok : goal.returns-in-Ok
returns-in-Ok c =
    c.report.ensures (outcome c.args.program.now.names (main_program c.args.program.now.tree).body) (ap (λ o. o.printed) c.in-Ok.ensures) (ap (λ o. o.end) c.in-Ok.ensures)

pub returns-in-Err : goal.returns-in-Err
returns-in-Err c = reported_memory
