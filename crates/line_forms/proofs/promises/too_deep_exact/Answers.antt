use Rattle.line_forms.proofs.Sound.{deep_sound}
use Rattle.line_forms.proofs.Complete.{deep_found}
use Rattle.line_forms.proofs.Fronts.{front_printed}
use Rattle.line_forms.proofs.promises.too_deep_exact.Goals as goal

pub returns-clause-sound : goal.returns-clause-sound
returns-clause-sound c = deep_sound

pub returns-clause-found : goal.returns-clause-found
returns-clause-found c = deep_found

pub returns-clause-printed : goal.returns-clause-printed
returns-clause-printed c = front_printed
