use Rattle.passed_states.proofs.Places.{entry-passed}
use Rattle.passed_states.proofs.promises.entries_passed.Goals as goal

pub returns : goal.returns
returns c = λ table moves k m entries those i e at. entry-passed table moves k m entries those i e at
