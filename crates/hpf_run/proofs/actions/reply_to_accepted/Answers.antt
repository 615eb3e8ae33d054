use Rattle.std.proofs.Common.{subst, sym}
use Rattle.syntax_tree.specs.MainProgram.{main_program}
use Rattle.hpf_run.specs.Reply.{ActionMeant, outcome_of}
use Rattle.hpf_run.proofs.actions.reply_to_accepted.Goals as goal

pub returns-in-Check : goal.returns-in-Check
returns-in-Check c =
    subst (λ act. ActionMeant c.args.accepted.now.grid.now c.args.job.now.arrays (main_program c.args.accepted.now.program.tree) act (outcome_of c.accepted_reply.result))
    (sym c.in-Check.is) (c.accepted_reply.ensures _ _ _)

pub returns-in-Map : goal.returns-in-Map
returns-in-Map c =
    subst (λ act. ActionMeant c.args.accepted.now.grid.now c.args.job.now.arrays (main_program c.args.accepted.now.program.tree) act (outcome_of c.map_reply.result))
    (sym c.in-Map.is) (c.map_reply.ensures _)

pub returns-in-Serial : goal.returns-in-Serial
returns-in-Serial c =
    subst (λ act. ActionMeant c.args.accepted.now.grid.now c.args.job.now.arrays (main_program c.args.accepted.now.program.tree) act (outcome_of c.serial_reply.result))
    (sym c.in-Serial.is) (c.serial_reply.ensures _ _)

pub returns-in-Messages : goal.returns-in-Messages
returns-in-Messages c =
    subst (λ act. ActionMeant c.args.accepted.now.grid.now c.args.job.now.arrays (main_program c.args.accepted.now.program.tree) act (outcome_of c.messages_reply.result))
    (sym c.in-Messages.is) (c.messages_reply.ensures _)
