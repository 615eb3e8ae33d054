use Rattle.found_names.proofs.Programs.{all_inquiries}
use Rattle.found_names.proofs.promises.inquiries_have_values.Goals as goal

pub returns : goal.returns
returns c = λ p rules. all_inquiries p (c.all_are_known.ensures p) rules
