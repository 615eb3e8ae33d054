use Rattle.owned_places.proofs.Classes.{repeat, some-class}
use Rattle.owned_places.proofs.candidates.Candidates.classes.Goals as goal

pub returns-clause-repeat : goal.returns-clause-repeat
returns-clause-repeat c passes extent are n below = repeat c.args.self.now (some-class c.args.self.now are.length n below c.classes_in.ensures.some) n below
