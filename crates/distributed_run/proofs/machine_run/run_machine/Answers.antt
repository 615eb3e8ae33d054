use Rattle.std.proofs.Common.{◌<◌, List, sym, ap, ◌∙◌, subst}
use Rattle.array_meaning.specs.Faults.{Fault}
use Rattle.syntax_tree.specs.MainProgram.{main_program}
use Rattle.machine_steps.specs.Agrees.{IsOver}
use Rattle.machine_steps.specs.Machine.{Machine, steps}
use Rattle.code_meaning.specs.ProgramText.{Text, text_meaning}
use Rattle.message_lines.specs.KeptLines.{AreKeptLines}
use Rattle.distributed_run.proofs.OverRuns.{left, left-falls, over-next, over-tested, same-code}
use Rattle.distributed_run.proofs.ProgramLines.{ends}
use Rattle.distributed_run.proofs.StepLines.{listed-more, listed-none}
use Rattle.distributed_run.proofs.machine_run.run_machine.Goals as goal

pub steps-init : goal.steps-init
steps-init c =
    let a = c.args.program.now.accepted.now in
    let end = ends a.grid.now (main_program a.program.tree) a.keeps.anywhere c.args.program.now.numbers c.args.program.now.known in
    record {
      listed = listed-none a.program.names c.args.machine.now c.args.text.now.items;
      kept = c.new-kept.ensures c.args.machine.now.code a.program.names;
      ends = subst (λ (x : Machine Text Fault). IsOver (steps text_meaning end.0 x).control.status) (sym c.requires) end.1;
    }

pub steps-smaller : goal.steps-smaller
steps-smaller c =
    let a = c.args.program.now.accepted.now in
    let k = (ends a.grid.now (main_program a.program.tree) a.keeps.anywhere c.args.program.now.numbers c.args.program.now.known).0 in
    subst (λ x. left text_meaning k x < left text_meaning k c.steps.machine) (sym c.in_ok-step.ensures.ok)
    (left-falls text_meaning k c.steps.machine (c.is_running.ensures.0 c.steps-test.true) c.steps.invariant.ends)

pub steps-preserved : goal.steps-preserved
steps-preserved c =
    let a = c.args.program.now.accepted.now in
    let k = (ends a.grid.now (main_program a.program.tree) a.keeps.anywhere c.args.program.now.numbers c.args.program.now.known).0 in
    record {
      listed = listed-more a.program.names c.args.machine.now c.steps.machine c.step.new.self c.args.text.now.items c.steps.text.items c.push_next.new.text.items
          c.steps.invariant.listed c.in_ok-step.ensures.ok c.in_ok-push_next.ensures.lines;
      kept = subst (λ (code : List Text). AreKeptLines code a.program.names c.push_next.new.kept)
          (sym (ap (λ (x : Machine Text Fault). x.code) c.in_ok-step.ensures.ok ∙ same-code text_meaning c.steps.machine)) c.in_ok-push_next.ensures.kept;
      ends = subst (λ (x : Machine Text Fault). IsOver (steps text_meaning k x).control.status) (sym c.in_ok-step.ensures.ok)
          (over-next text_meaning k c.steps.machine c.steps.invariant.ends);
    }

pub returns-clause-over : goal.returns-clause-over
returns-clause-over c = over-tested c.steps.machine.control.status c.is_running.result c.is_running.ensures.1 c.steps-test.false
