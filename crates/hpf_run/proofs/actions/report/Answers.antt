use Rattle.std.proofs.Common.{◌∙◌, None, false, ap, sym}
use Rattle.serial_run.specs.Outcomes.{end_seen}
use Rattle.hpf_run.specs.Reply.{outcome_of}
use Rattle.hpf_run.proofs.TopLaws.{faulted-reported, finished-reported}
use Rattle.hpf_run.proofs.actions.report.Goals as goal

pub returns-in-Finished : goal.returns-in-Finished
returns-in-Finished c = λ s same end. finished-reported c.args.names.now false s None c.args.printed.items same (sym end ∙ ap end_seen c.in-Finished.is)

pub returns-in-Faulted : goal.returns-in-Faulted
returns-in-Faulted c = λ s same end.
    faulted-reported c.args.names.now false s None c.args.printed.items c.in-Faulted.fault (outcome_of c.reply_faulted.result) same (sym end ∙ ap end_seen c.in-Faulted.is)
    c.reply_faulted.ensures
