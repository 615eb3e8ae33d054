use Rattle.construct_reader.proofs.After.{appended_is}
use Rattle.construct_reader.proofs.draft_step.appended.Goals as goal

pub returns : goal.returns
returns c =
    appended_is c.args.opens c.args.block.items c.args.stmt c.push.new.self c.in_ok-push.ensures.items c.requires.0 c.requires.1 c.requires.2
