use Rattle.std.proofs.Common.{sym, arith}
use Rattle.std.proofs.lemmas.List.FromFn.{length-range_with_len}
use Rattle.tuple_numbers.proofs.run.Run.from.Goals as goal

pub invariant_of-result : goal.invariant_of-result
invariant_of-result c = (sym (length-range_with_len c.args.first c.args.count), (let fits = c.requires in omega (arith, fits)))
