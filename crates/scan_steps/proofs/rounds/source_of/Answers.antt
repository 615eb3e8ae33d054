use Rattle.std.proofs.Common.{sym, ◌∙◌}
use Rattle.scan_steps.proofs.Targets.{takes-from, takes-from-none}
use Rattle.scan_steps.proofs.rounds.source_of.Goals as goal

pub returns-in-Some-clause-value : goal.returns-in-Some-clause-value
returns-in-Some-clause-value c =
    takes-from c.args.nodes c.args.round c.args.id c.requires.inside c.in-Some.source (sym c.scan_act-take.ensures.take ∙ c.in-Some.is)

pub returns-in-None-clause-value : goal.returns-in-None-clause-value
returns-in-None-clause-value c = takes-from-none c.args.nodes c.args.round c.args.id (sym c.scan_act-take.ensures.take ∙ c.in-None.is)
