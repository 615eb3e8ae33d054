use Rattle.std.proofs.Common.{subst, sym}
use Rattle.hpf_base.specs.declared.status.Status.TheVariants.{Fault}
use Rattle.hpf_run.specs.Reply.{IsFaulted, fault_memory, reported_fault}
use Rattle.hpf_run.proofs.reply.reply_faulted.Goals as goal

pub returns-in-Ok : goal.returns-in-Ok
returns-in-Ok c =
    subst (λ l. IsFaulted c.args.names.now c.args.printed.items c.args.fault c.args.ran record { status = Fault; out = c.args.printed.items; err = l; ran = c.args.ran })
    (sym c.in-Ok.ensures) reported_fault

pub returns-in-Err : goal.returns-in-Err
returns-in-Err c = fault_memory
