use Rattle.construct_reader.proofs.After.{nested_is}
use Rattle.construct_reader.proofs.draft_step.nested.Goals as goal

pub returns : goal.returns
returns c =
    nested_is c.args.opens.items record { before = c.args.before; what = c.args.what } c.push.new.self c.new.result c.in_ok-push.ensures.items
    c.new.ensures.items c.requires.0 c.requires.1 c.requires.2
