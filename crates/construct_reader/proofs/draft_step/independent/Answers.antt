use Rattle.construct_reader.proofs.Taken.{independent_after}
use Rattle.construct_reader.proofs.draft_step.independent.Goals as goal

pub returns : goal.returns
returns c = independent_after c.args.draft c.args.mark c.requires.sound c.requires.takes
