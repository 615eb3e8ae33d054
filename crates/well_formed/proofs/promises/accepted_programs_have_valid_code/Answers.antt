use Rattle.well_formed.proofs.Programs.{code_valid}
use Rattle.well_formed.proofs.promises.accepted_programs_have_valid_code.Goals as goal

pub returns : goal.returns
returns c = λ p moves table same slots copies places moving rules bodies forms.
    code_valid p moves table (c.programs_keep_ranks.ensures p rules) same slots copies places moving rules bodies forms
