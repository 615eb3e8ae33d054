use Rattle.construct_reader.proofs.Taken.{finish_after}
use Rattle.construct_reader.proofs.draft_step.finish.Goals as goal

pub returns : goal.returns
returns c = finish_after c.args.draft c.args.end c.requires.sound c.requires.takes
