use Rattle.std.proofs.Common.{sym, ap, ◌∷◌, []}
use Rattle.term_values.specs.Places.{in_64_bits}
use Rattle.term_values.proofs.ElementPlaces.{uneven}
use Rattle.term_values.proofs.places.wrapped_place_of_two.Goals as goal

pub returns-then-dims-ne2 : goal.returns-then-dims-ne2
returns-then-dims-ne2 c = sym (ap in_64_bits (uneven _ (c.args.first.now ∷ c.args.second.now ∷ []) c.if-dims-ne2.true))
