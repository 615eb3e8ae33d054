use Rattle.found_names.proofs.Programs.{all_alone}
use Rattle.found_names.proofs.promises.scalars_stand_alone.Goals as goal

pub returns : goal.returns
returns c = λ p rules have. all_alone p (c.all_are_known.ensures p) rules have
