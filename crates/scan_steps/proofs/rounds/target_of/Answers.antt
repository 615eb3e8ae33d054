use Rattle.std.proofs.Common.{sym, ◌∙◌}
use Rattle.scan_steps.proofs.Targets.{sends-to, sends-to-none}
use Rattle.scan_steps.proofs.rounds.target_of.Goals as goal

pub returns-in-Some-clause-value : goal.returns-in-Some-clause-value
returns-in-Some-clause-value c = sends-to c.args.nodes c.args.round c.args.id c.in-Some.target (sym c.scan_act-send.ensures.send ∙ c.in-Some.is)

pub returns-in-None-clause-value : goal.returns-in-None-clause-value
returns-in-None-clause-value c = sends-to-none c.args.nodes c.args.round c.args.id (sym c.scan_act-send.ensures.send ∙ c.in-None.is)
