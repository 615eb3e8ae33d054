use Rattle.courses.proofs.CopyLayouts.{laid}
use Rattle.courses.proofs.promises.copy_laid_out.Goals as goal

pub returns : goal.returns
returns c = laid
