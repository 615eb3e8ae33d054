use Rattle.construct_reader.specs.Views.{spelled_block}
use Rattle.construct_reader.proofs.Arms.{next_finished}
use Rattle.construct_reader.proofs.construct_end.next_arm.Goals as goal

pub returns : goal.returns
returns c =
    next_finished c.args.first c.args.arms c.args.line c.args.cond c.args.glued (spelled_block c.args.block.items) c.arm.result c.push.new.self.items
    c.arm.ensures.before c.requires.0 c.requires.1 c.in_ok-push.ensures.items
