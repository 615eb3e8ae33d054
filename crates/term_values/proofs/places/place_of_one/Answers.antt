use Rattle.std.proofs.Common.{sym, ◌∷◌, []}
use Rattle.term_values.proofs.ElementPlaces.{uneven}
use Rattle.term_values.proofs.places.place_of_one.Goals as goal

pub returns-then-dims-ne1 : goal.returns-then-dims-ne1
returns-then-dims-ne1 c = sym (uneven _ (c.args.subscript.now ∷ []) c.if-dims-ne1.true)
