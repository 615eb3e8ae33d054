use Rattle.nest_standing.proofs.Programs.{program_forms}
use Rattle.nest_standing.proofs.promises.programs_have_forms.Goals as goal

pub returns : goal.returns
returns c = program_forms
