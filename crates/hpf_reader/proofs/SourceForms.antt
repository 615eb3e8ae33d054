-- Texts with the same logical lines are read alike, whatever their source forms.
use Rattle.std.proofs.Common.{◌≡◌, ℕ, List, length, map, None, Some, sym, subst}
use Rattle.hpf_base.specs.declared.refusal.Reason.{Reason}
use Rattle.hpf_base.specs.declared.refusal.Refusal.{Refusal}
use Rattle.hpf_base.specs.Refusal.{IsFirstBreach, NoBreach}
use Rattle.hpf_base.proofs.FirstBreaches.{first_same}
use Rattle.source_lines.specs.PhysicalLines.{physical_lines}
use Rattle.syntax_tree.specs.MainProgram.{MainProgram}
use Rattle.construct_rules.specs.Breaches.{IsNestBreach}
use Rattle.construct_reader.specs.SpelledProgram.{SpelledProgram}
use Rattle.hpf_reader.specs.ProgramText.{lexeme_line, lines_in, AreLinesOf, IsProgramText, IsMeantBy, LinesBreak, TokensBreak, FormsBreak, NestBreaks, HasNoBreach, IsRefused, by_lines, by_tokens, by_forms, by_nest}
use Rattle.hpf_reader.specs.declared.source_form.SourceForm.{SourceForm}

module _ (f g : SourceForm) (s t : List ℕ) (same : lines_in f s ≡ lines_in g t) (count : length (physical_lines s) ≡ length (physical_lines t)) where
  spelled_on : (p : SpelledProgram) → IsProgramText f s p → IsProgramText g t p
  spelled_on p h = record {
    lines = h.lines;
    read = subst (λ ls. AreLinesOf (map lexeme_line ls) h.lines) same h.read;
    spelled = h.spelled;
    formed = h.formed;
  }

  pub meant_on : (p : MainProgram) → IsMeantBy f s p → IsMeantBy g t p
  meant_on p h = record { spelled = h.spelled; reads = spelled_on h.spelled h.reads; means = h.means }

  nest_on : (line : ℕ) (why : Reason) → NestBreaks f s line why → NestBreaks g t line why
  nest_on line why b = record {
    lines = b.lines;
    read = subst (λ ls. AreLinesOf (map lexeme_line ls) b.lines) same b.read;
    broken = subst (λ n. IsNestBreach n b.lines line why) count b.broken;
  }

module _ (f g : SourceForm) (s t : List ℕ) (same : lines_in f s ≡ lines_in g t) (count : length (physical_lines s) ≡ length (physical_lines t))
    (clean : NoBreach (LinesBreak f s)) (clean' : NoBreach (LinesBreak g t)) where
  nest_to : (line : ℕ) (why : Reason) → NestBreaks f s line why → NestBreaks g t line why
  nest_to = nest_on f g s t same count

  nest_from : (line : ℕ) (why : Reason) → NestBreaks g t line why → NestBreaks f s line why
  nest_from = nest_on g f t s (sym same) (sym count)

  tokens_on : NoBreach (TokensBreak (lines_in f s)) → NoBreach (TokensBreak (lines_in g t))
  tokens_on = subst (λ ls. NoBreach (TokensBreak ls)) same

  forms_on : NoBreach (FormsBreak (map lexeme_line (lines_in f s))) → NoBreach (FormsBreak (map lexeme_line (lines_in g t)))
  forms_on = subst (λ ls. NoBreach (FormsBreak (map lexeme_line ls))) same

  pub fine_on : HasNoBreach f s → HasNoBreach g t
  fine_on h = record {
    lines = clean';
    tokens = tokens_on h.tokens;
    forms = forms_on h.forms;
    nest = first_same (NestBreaks f s) (NestBreaks g t) None nest_to nest_from h.nest;
  }

  pub refused_on : (r : Refusal) → IsRefused f s r → IsRefused g t r
  refused_on r (by_lines h) = absurd (clean r.line r.reason h.stands)
  refused_on r (by_tokens lines h) = by_tokens clean' (subst (λ ls. IsFirstBreach (TokensBreak ls) r) same h)
  refused_on r (by_forms lines tokens h) = by_forms clean' (tokens_on tokens) (subst (λ ls. IsFirstBreach (FormsBreak (map lexeme_line ls)) r) same h)
  refused_on r (by_nest lines tokens forms h) =
      by_nest clean' (tokens_on tokens) (forms_on forms) (first_same (NestBreaks f s) (NestBreaks g t) (Some r) nest_to nest_from h)
