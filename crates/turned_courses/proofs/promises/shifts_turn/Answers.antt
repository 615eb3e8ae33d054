use Rattle.turned_courses.proofs.Forms.{shift}
use Rattle.turned_courses.proofs.promises.shifts_turn.Goals as goal

pub returns : goal.returns
returns c = shift
