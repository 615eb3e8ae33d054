use Rattle.std.proofs.Common.{refl, true, false}
use Rattle.fixed_lines.specs.FreeText.{free_text}
use Rattle.hpf_reader.specs.declared.source_form.SourceForm.TheVariants.{Fixed, Free}
use Rattle.hpf_run.proofs.SourceForms.{outcome_on}
use Rattle.hpf_run.proofs.promises.fixed_outcomes.Goals as goal

pub returns : goal.returns
returns c words words' job bytes o command command' reading clean short short' =
    let law = c.fixed_as_free.ensures in
    let fine = law.fine bytes clean in (
      outcome_on Fixed Free bytes (free_text bytes) fine.0 (λ p. (law.meant bytes p clean).0) (λ r. (law.refused bytes r clean).0) job true false
          words words' command command' refl refl reading short short' o,
      outcome_on Free Fixed (free_text bytes) bytes fine.1 (λ p. (law.meant bytes p clean).1) (λ r. (law.refused bytes r clean).1) job false true
          words' words command' command refl refl reading short' short o,
    )
