use Rattle.std.proofs.Common.{◌∙◌, Some, map, ap, sym}
use Rattle.serial_run.specs.Outcomes.{end_seen}
use Rattle.hpf_run.specs.Outcome.{with_arrays}
use Rattle.hpf_run.specs.Reply.{outcome_of, reported_memory}
use Rattle.hpf_run.proofs.TopLaws.{faulted-reported, nodes-reported}
use Rattle.hpf_run.proofs.nodes.report_nodes.Goals as goal

pub returns-in-Ok : goal.returns-in-Ok
returns-in-Ok c = λ s w.
    nodes-reported c.args.names.now c.args.arrays s c.args.outcome c.in-Ok.printed.items w (sym w.end ∙ ap end_seen c.in-Finished.is)
    (c.in-Ok.ensures ∙ ap (λ l. with_arrays c.args.arrays c.args.names.now c.args.outcome.printed.items (map (λ a. a.items) l)) c.deref.ensures.value)

pub returns-in-Finished : goal.returns-in-Finished
returns-in-Finished c = λ s w. reported_memory

pub returns : goal.returns
returns c = λ s w.
    faulted-reported c.args.names.now c.args.arrays s (Some c.args.outcome.ran) c.args.outcome.printed.items c.in-Faulted.fault (outcome_of c.reply_faulted.result) w.printed
    (sym w.end ∙ ap end_seen c.in-Faulted.is) c.reply_faulted.ensures
