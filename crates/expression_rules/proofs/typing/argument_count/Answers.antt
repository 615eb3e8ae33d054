use Rattle.expression_rules.proofs.Counts.{argument_count}
use Rattle.expression_rules.proofs.typing.argument_count.Goals as goal

pub returns : goal.returns
returns c = argument_count c.args.arguments.now
