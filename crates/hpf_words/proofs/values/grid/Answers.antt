use Rattle.std.proofs.Common.{rules}
use Rattle.hpf_words.proofs.Grids.{grid_is}
use Rattle.hpf_words.proofs.values.grid.Goals as goal

pub returns-in-Some : goal.returns-in-Some
returns-in-Some c = grid_is c.args.text.now c.as_slice-in-Some.result.now c.new.result (search rules) c.new.ensures.some c.new.ensures.value
