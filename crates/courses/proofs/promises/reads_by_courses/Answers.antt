use Rattle.courses.proofs.References.{reads}
use Rattle.courses.proofs.promises.reads_by_courses.Goals as goal

pub returns : goal.returns
returns c = reads
