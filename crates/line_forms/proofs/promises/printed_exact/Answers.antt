use Rattle.line_forms.proofs.Sound.{sound}
use Rattle.line_forms.proofs.Complete.{found, whole}
use Rattle.line_forms.proofs.promises.printed_exact.Goals as goal

pub returns-clause-sound : goal.returns-clause-sound
returns-clause-sound c = sound

pub returns-clause-found : goal.returns-clause-found
returns-clause-found c = found

pub returns-clause-whole : goal.returns-clause-whole
returns-clause-whole c = whole
