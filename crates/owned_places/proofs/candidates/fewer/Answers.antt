use Rattle.std.proofs.Common.{◌&&◌}
use Rattle.owned_places.proofs.HeldDims.{and-turned}
use Rattle.owned_places.proofs.KeptPlaces.{candidates-same}
use Rattle.owned_places.proofs.candidates.fewer.Goals as goal

pub returns-then-b-a : goal.returns-then-b-a
returns-then-b-a c = λ p q few many.
    candidates-same (λ place. p place && q place) (λ place. q place && p place) c.args.extent c.narrowed.result (λ place. and-turned (p place) (q place))
    (c.narrowed.ensures q p many few)
