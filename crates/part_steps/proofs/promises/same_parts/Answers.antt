use Rattle.part_steps.proofs.SameParts.{parts_same}
use Rattle.part_steps.proofs.promises.same_parts.Goals as goal

pub returns : goal.returns
returns c = λ nodes layouts table i old new is. parts_same old new nodes layouts table i is
