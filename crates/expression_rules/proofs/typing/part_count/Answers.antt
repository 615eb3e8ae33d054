use Rattle.expression_rules.proofs.Counts.{part_count}
use Rattle.expression_rules.proofs.typing.part_count.Goals as goal

pub returns : goal.returns
returns c = part_count c.args.parts.now
