use Rattle.std.proofs.Common.{eqb-true}
use Rattle.owned_places.proofs.HeldDims.{and-parts}
use Rattle.owned_places.proofs.KeptPlaces.{candidates-both}
use Rattle.owned_places.proofs.candidates.narrowed.Goals as goal

pub returns : goal.returns
returns c = λ p q.
    let few = c.args.few in
    let many = c.args.many in
    candidates-both p q c.args.extent few many _
    (λ is. let parts = and-parts _ _ is in let fronts = and-parts few.exact many.exact parts.0 in (fronts.0, fronts.1, eqb-true many.count c.args.extent parts.1))
