use Rattle.construct_reader.proofs.Further.{named_progress}
use Rattle.construct_reader.proofs.progress.named.Goals as goal

pub returns : goal.returns
returns c n ls last rest p =
    named_progress ls last n c.args.name rest c.args.so_far.decls c.new.result c.args.so_far.name c.args.so_far.draft c.args.so_far.over
    c.new.ensures.items p
