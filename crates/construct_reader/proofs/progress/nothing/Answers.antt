use Rattle.construct_reader.proofs.Further.{nothing_progress}
use Rattle.construct_reader.proofs.progress.nothing.Goals as goal

pub returns : goal.returns
returns c ls last h = nothing_progress ls last c.new.result c.new-2.result c.new-3.result c.new.ensures.items c.new-2.ensures.items c.new-3.ensures.items h
