use Rattle.std.proofs.Common.{refl}
use Rattle.round_color.proofs.promises.law_of_rows.Goals as goal

pub returns : goal.returns
returns c = record {
  one = refl;
  one_degree = refl;
  one_busiest = refl;
  two = refl;
  two_degree = refl;
  two_busiest = refl;
  none = refl;
  none_degree = refl;
  exchanged = refl;
  thrice = refl;
}
