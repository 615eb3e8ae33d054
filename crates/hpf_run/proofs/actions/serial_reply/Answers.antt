use Rattle.std.proofs.Common.{None, false, subst}
use Rattle.syntax_tree.specs.MainProgram.{main_program}
use Rattle.array_meaning.specs.Serial.{outcome, serial}
use Rattle.hpf_words.specs.declared.job.Action.TheVariants.{Serial}
use Rattle.hpf_run.specs.Outcome.{serial_report}
use Rattle.hpf_run.specs.Reply.{IsReported, outcome_of}
use Rattle.hpf_run.proofs.TopLaws.{reported-meant}
use Rattle.hpf_run.proofs.actions.serial_reply.Goals as goal

pub returns : goal.returns
returns c = λ grid arrays.
    let p = main_program c.args.accepted.now.program.tree in
    reported-meant grid arrays p Serial false (serial p) None (outcome_of c.run_program.result) serial_report
    (subst (λ es. IsReported es false (outcome es p.body) None (outcome_of c.run_program.result)) c.args.accepted.now.names c.run_program.ensures)
