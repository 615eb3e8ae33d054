use Rattle.courses.proofs.Owners.{owned}
use Rattle.courses.proofs.promises.owned_by_courses.Goals as goal

pub returns : goal.returns
returns c = λ ns layouts r layout node t at laid e. owned ns layouts r layout laid node t at e
