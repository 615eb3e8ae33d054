use Rattle.std.proofs.Common.{sym, subst}
use Rattle.owned_places.specs.Candidates.{AreCandidates}
use Rattle.owned_places.proofs.KeptPlaces.{candidates-all}
use Rattle.owned_places.proofs.candidates.all_places.Goals as goal

pub returns : goal.returns
returns c = λ passes all. subst (AreCandidates passes c.args.extent) (sym c.places_from.ensures) (candidates-all passes c.args.extent c.args.exact all)
