-- The lines of steps.
use Rattle.std.proofs.Common.{◌≡◌, ℕ, zero, suc, ◌++◌, ℤ, List, [], Option, append_assoc, append-nil, refl, sym, ap, ◌∙◌}
use Rattle.name_table.specs.declared.names.Entry.{Entry}
use Rattle.array_meaning.specs.Faults.{Fault}
use Rattle.machine_steps.specs.Agrees.{IsOver}
use Rattle.machine_steps.specs.Instr.{Remapping, Status, Running, Finished, Faulted}
use Rattle.machine_steps.specs.Layout.{Layout}
use Rattle.machine_steps.specs.Machine.{Machine, step, steps}
use Rattle.code_meaning.specs.ProgramText.{Text, text_meaning}
use Rattle.distributed_run.specs.StepLines.{IsListed, lines_now, lines_of_steps, lines_while}
use Rattle.distributed_run.proofs.OverRuns.{over-stays, steps-more}

module _ (es : List Entry) (moves : ℕ → List Remapping) where
  -- a run that is over has no more lines
  while-over : (s : Status Fault) (k : ℕ) (t : Option Text) (layouts : List Layout) (slots : List ℤ) → IsOver s → lines_while es moves s k t layouts slots ≡ []
  while-over Running k t layouts slots h = absurd h
  while-over Finished k t layouts slots h = refl
  while-over (Faulted f) k t layouts slots h = refl

  no-lines : (k : ℕ) (m : Machine Text Fault) → IsOver m.control.status → lines_of_steps es moves k m ≡ []
  no-lines zero m h = refl
  no-lines (suc k) m h =
      ap (λ l. l ++ lines_of_steps es moves k (step text_meaning m)) (while-over m.control.status m.substep _ m.layouts m.control.slots h)
      ∙ ap (lines_of_steps es moves k) (over-stays text_meaning m.control.status m h) ∙ no-lines k m h

  pub same-lines : (j k : ℕ) (m : Machine Text Fault) → IsOver (steps text_meaning j m).control.status → IsOver (steps text_meaning k m).control.status
      → lines_of_steps es moves j m ≡ lines_of_steps es moves k m
  same-lines zero k m a b = sym (no-lines k m a)
  same-lines (suc j) zero m a b = no-lines (suc j) m b
  same-lines (suc j) (suc k) m a b = ap (λ l. lines_now es moves m ++ l) (same-lines j k (step text_meaning m) a b)

  -- one step more at the end
  pub lines-more : (k : ℕ) (m : Machine Text Fault) → lines_of_steps es moves (suc k) m ≡ lines_of_steps es moves k m ++ lines_now es moves (steps text_meaning k m)
  lines-more zero m = append-nil (lines_now es moves m)
  lines-more (suc k) m =
      ap (λ l. lines_now es moves m ++ l) (lines-more k (step text_meaning m))
      ∙ sym (append_assoc (lines_now es moves m) (lines_of_steps es moves k (step text_meaning m)) (lines_now es moves (steps text_meaning (suc k) m)))

pub listed-none : (es : List Entry) (m : Machine Text Fault) (text : List ℕ) → IsListed es m m text text
listed-none es m text = record { many = 0; ran = refl; lines = λ moves. sym (append-nil text) }

pub listed-more : (es : List Entry) (old m next : Machine Text Fault) (before text after : List ℕ) → IsListed es old m before text
    → next ≡ step text_meaning m → ((moves : ℕ → List Remapping) → after ≡ text ++ lines_now es moves m) → IsListed es old next before after
listed-more es old m next before text after h e more = record {
  many = suc h.many;
  ran = e ∙ ap (step text_meaning) h.ran ∙ sym (steps-more text_meaning h.many old);
  lines = λ moves. more moves ∙ (λ i. h.lines moves i ++ lines_now es moves (h.ran i))
      ∙ append_assoc before (lines_of_steps es moves h.many old) (lines_now es moves (steps text_meaning h.many old))
      ∙ ap (λ l. before ++ l) (sym (lines-more es moves h.many old));
}
