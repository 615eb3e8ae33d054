use Rattle.construct_reader.proofs.Further.{tree_ready, tree_spelled}
use Rattle.construct_reader.proofs.progress.tree.Goals as goal

pub unreachable-requires : goal.unreachable-requires
unreachable-requires c =
    tree_ready c.requires.held.0 c.requires.held.1 c.args.so_far.name c.args.so_far.decls c.args.so_far.draft c.args.so_far.over c.requires.held.2
    c.in_default.is

pub returns : goal.returns
returns c ls last p = tree_spelled ls last c.args.so_far.name c.args.so_far.decls c.args.so_far.draft c.args.so_far.over p c.in-Some.end c.in-Some.is
