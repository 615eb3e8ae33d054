-- A PRINT on the machine: its items one after another, and then the line.
use Rattle.node_code.specs.Instructions.{NewMapping, PrintItem, Instruction, Print}
use Rattle.code_meaning.specs.Instructions.{ArrayTable, meaning_of, items_of}
use Rattle.std.proofs.Common.{zero, subst, ◌≡◌, ℕ, suc, ◌+◌, List, [], ◌∷◌, ◌++◌, length, ℤ, Some, None, refl, sym, ap, ◌∙◌, arith, append-nil, append_assoc, length-append, drop, slice_get}
use Rattle.storage.specs.Storage.{Storage, Spot, read}
use Rattle.array_meaning.specs.Faults.{Fault}
use Rattle.machine_steps.specs.Instr.{Item}
use Rattle.machine_steps.specs.Machine.{Machine, item_bytes, print_step, step, step_by, steps, instr_of}
use Rattle.lowered_expressions.specs.Passed.{note_at, passed, passed_now, IsTrail}
use Rattle.lowered_expressions.proofs.Reach.{entries-append, entries-more, Idle, stands, steps-more}

-- the bytes of items
abbrev pub all_bytes : List ℤ → (Spot → ℤ) → List Item → List ℕ
all_bytes slots get [] = []
all_bytes slots get (x ∷ xs) = item_bytes x slots get ++ all_bytes slots get xs

at-seam : {A : Type 0} (front : List A) (x : A) (rest : List A) → slice_get (front ++ x ∷ rest) (length front) ≡ Some x
at-seam [] x rest = refl
at-seam (y ∷ front) x rest = at-seam front x rest

past-end : {A : Type 0} (xs : List A) → slice_get xs (length xs) ≡ None
past-end [] = refl
past-end (x ∷ xs) = past-end xs

module _ (table : ArrayTable) (row_count : ℕ) (moves : ℕ → List NewMapping) (code : List Instruction) (pc : ℕ) (slots : List ℤ) (rows : Storage) (out : List ℕ) (items : List PrintItem)
    (has : slice_get code pc ≡ Some (Print items)) (i : Idle row_count) where
  abbrev all : List Item
  all = items_of table.shapes items

  abbrev whole : List ℕ → List ℕ
  whole bytes = drop 1 bytes ++ 10 ∷ []

  -- after so many items
  abbrev after : ℕ → List ℕ → Machine Instruction Fault
  after k line = record (stands table row_count moves code pc slots rows out i) { substep = k; line = line }

  next : (k : ℕ) (line : List ℕ) → step (meaning_of table) (after k line) ≡ print_step (slice_get all k) whole (after k line)
  next k line = ap (λ o. step_by (instr_of (meaning_of table) o) (after k line)) has

  none-noted : (k : ℕ) (line : List ℕ) → passed_now (after k line) ≡ []
  none-noted zero line = ap (λ o. note_at 0 o slots) has
  none-noted (suc k) line = refl

  quiet : (k : ℕ) (line : List ℕ) → IsTrail moves (passed_now (after k line)) []
  quiet k line = subst (λ l. IsTrail moves l []) (sym (none-noted k line)) tt

  quiet-step : (k : ℕ) (line : List ℕ) → IsTrail moves (passed table 1 (after k line)) []
  quiet-step k line = subst (λ l. IsTrail moves (l ++ []) []) (sym (none-noted k line)) tt

  printing : (rest front : List Item) (line : List ℕ) → all ≡ front ++ rest → (k : ℕ)
      × (steps (meaning_of table) k (after (length front) line) ≡ after (length all) (line ++ all_bytes slots (read rows) rest))
      × IsTrail moves (passed table k (after (length front) line)) []
  printing [] front line e = (0, ap (λ k. after k line) (ap length (sym (append-nil front) ∙ sym e)) ∙ ap (after (length all)) (sym (append-nil line)), tt)
  printing (x ∷ rest) front line e =
      let bytes = item_bytes x slots (read rows) in
      let long : length (front ++ x ∷ []) ≡ suc (length front) = length-append front (x ∷ []) ∙ omega arith in
      let h = printing rest (front ++ x ∷ []) (line ++ bytes) (e ∙ sym (append_assoc front (x ∷ []) rest)) in
      let one : step (meaning_of table) (after (length front) line) ≡ after (length (front ++ x ∷ [])) (line ++ bytes) =
      next (length front) line ∙ ap (λ o. print_step o whole (after (length front) line)) (ap (λ xs. slice_get xs (length front)) e ∙ at-seam front x rest)
      ∙ ap (λ k. after k (line ++ bytes)) (sym long) in (
        suc h.0,
        ap (steps (meaning_of table) h.0) one ∙ h.1 ∙ ap (after (length all)) (append_assoc line bytes (all_bytes slots (read rows) rest)),
        entries-append table row_count moves code (passed_now (after (length front) line)) (passed table h.0 (step (meaning_of table) (after (length front) line))) [] []
            (quiet (length front) line) (subst (λ m. IsTrail moves (passed table h.0 m) []) (sym one) h.2),
      )

  pub prints-line : (k : ℕ)
      × (steps (meaning_of table) k (stands table row_count moves code pc slots rows out i) ≡ stands table row_count moves code (pc + 1) slots rows (out ++ whole (all_bytes slots (read rows) all)) i)
      × IsTrail moves (passed table k (stands table row_count moves code pc slots rows out i)) []
  prints-line =
      let h = printing all [] [] refl in (
        1 + h.0,
        steps-more table row_count moves code h.0 1 (stands table row_count moves code pc slots rows out i) ∙ ap (step (meaning_of table)) h.1
            ∙ next (length all) (all_bytes slots (read rows) all) ∙ ap (λ o. print_step o whole (after (length all) (all_bytes slots (read rows) all))) (past-end all),
        entries-more table row_count moves code h.0 1 (stands table row_count moves code pc slots rows out i) (after (length all) (all_bytes slots (read rows) all)) [] [] h.1 h.2
            (quiet-step (length all) (all_bytes slots (read rows) all)),
      )
