use Rattle.std.proofs.Common.{◌≡◌, w64, SFits, rules}
use Rattle.std.proofs.lemmas.Int.{int_wrap_fits}
use Rattle.tuple_values.proofs.progressions.all_by_two.Goals as goal

pub returns-clause-fits : goal.returns-clause-fits
returns-clause-fits c = let fits : SFits w64 c.args.first.value = search rules in int_wrap_fits w64 c.args.first.value fits
