-- Texts that are read alike come to the same, whatever their source forms.
use Rattle.std.proofs.Common.{◌≡◌, ℕ, ◌≤◌, Bool, true, false, true≢false, List, length, Some, sym, ◌∙◌, ap, subst, arith}
use Rattle.std.proofs.lemmas.Option.{none-some, same_Some}
use Rattle.hpf_ports.specs.declared.limits.TheConstants.{MAX_SOURCE_BYTES}
use Rattle.hpf_base.specs.declared.refusal.Refusal.{Refusal}
use Rattle.syntax_tree.specs.MainProgram.{MainProgram}
use Rattle.hpf_reader.specs.ProgramText as reader
use Rattle.hpf_reader.specs.ProgramText.{HasNoBreach, IsMeantBy}
use Rattle.hpf_reader.specs.declared.source_form.SourceForm.{SourceForm}
use Rattle.hpf_words.specs.declared.job.Action.TheVariants.{Bulk}
use Rattle.hpf_words.specs.declared.job.Job.{Job}
use Rattle.hpf_run.specs.Accepted.{IsAccepted, IsRefused, by_program, by_text}
use Rattle.hpf_run.specs.Command.{IsCommand, form_of, reads_source}
use Rattle.hpf_run.specs.Outcome.{Outcome, TextOutcome, TopOutcome, text_accepted, text_refused, is_of_bulk, is_of_text, is_too_long, is_usage}

module _ (f g : SourceForm) (s t : List ℕ) (fine : HasNoBreach f s → HasNoBreach g t) (meant : (p : MainProgram) → IsMeantBy f s p → IsMeantBy g t p)
    (refused : (r : Refusal) → reader.IsRefused f s r → reader.IsRefused g t r) (job : Job) (b c : Bool) where
  refused_on : (grid : List ℕ) (r : Refusal) → IsRefused f grid s r → IsRefused g grid t r
  refused_on grid r (by_text h) = by_text (refused r h)
  refused_on grid r (by_program p h means breaks) = by_program p (fine h) (meant p means) breaks

  text_on : (o : Outcome) → TextOutcome f s (record job { fixed = b }) o → TextOutcome g t (record job { fixed = c }) o
  text_on o (text_refused r is) = text_refused r (refused_on job.grid r is)
  text_on o (text_accepted p is o' made) = text_accepted p (record { read = fine is.read; means = meant p is.means; keeps = is.keeps }) o' made

  module _ (words words' : List (List ℕ)) (command : IsCommand words (record job { fixed = b })) (command' : IsCommand words' (record job { fixed = c }))
      (in_f : form_of (record job { fixed = b }) ≡ f) (in_g : form_of (record job { fixed = c }) ≡ g) (reading : reads_source job.action ≡ true)
      (short : length s ≤ MAX_SOURCE_BYTES) (short' : length t ≤ MAX_SOURCE_BYTES) where
    is_job : (other : Job) → IsCommand words other → other ≡ record job { fixed = b }
    is_job other h = same_Some other (record job { fixed = b }) (sym h ∙ command)

    pub outcome_on : (o : Outcome) → TopOutcome words s o → TopOutcome words' t o
    outcome_on o (is_usage none) = absurd (none-some (record job { fixed = b }) (sym none ∙ command))
    outcome_on o (is_of_bulk other h bulk o' is) =
        absurd (true≢false (sym reading ∙ ap (λ (j : Job). reads_source j.action) (sym (is_job other h)) ∙ ap reads_source bulk))
    outcome_on o (is_too_long other h reads long) = absurd (omega (arith, long, short))
    outcome_on o (is_of_text other h reads few o' is) =
        is_of_text (record job { fixed = c }) command' reading short' o'
        (subst (λ form. TextOutcome form t (record job { fixed = c }) o') (sym in_g)
        (text_on o' (subst (λ form. TextOutcome form s (record job { fixed = b }) o') in_f
        (subst (λ (j : Job). TextOutcome (form_of j) s j o') (is_job other h) is))))
