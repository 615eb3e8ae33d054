-- The values of a mask into its copy.
use Rattle.node_code.specs.Instructions.{NewMapping, Instruction, MakeCopy, Verdict}
use Rattle.code_meaning.specs.Beside.{Anchor}
use Rattle.code_meaning.specs.Instructions.{ArrayTable, meaning_of}
use Rattle.std.proofs.Common.{◌≡◌, ℕ, ◌+◌, List, [], ◌∷◌, ◌++◌, length, ℤ, pos, Option, Some, None, Result, Ok, Err, refl, sym, ap, ◌∙◌, subst, arith, append-nil, replicate, slice_set, length-set, get_or-set_same}
use Rattle.std.proofs.lemmas.List.{length-replicate}
use Rattle.hpf_base.specs.ElementOrder.{product}
use Rattle.storage.specs.Storage.{Storage, read, row_of}
use Rattle.storage.specs.Effect.{Effect, scatter}
use Rattle.array_meaning.specs.Faults.{Cause, Fault, at_tuple}
use Rattle.array_meaning.specs.State.{State}
use Rattle.array_meaning.specs.Runs.{Run, with_value}
use Rattle.array_meaning.specs.Elementals.{each}
use Rattle.machine_steps.specs.Layout.{Layout, size_of}
use Rattle.machine_steps.specs.Space.{space_count}
use Rattle.machine_steps.specs.Instr as instr
use Rattle.machine_steps.specs.Instr.{Outcome, Tuples}
use Rattle.machine_steps.specs.Machine as machine
use Rattle.machine_steps.specs.Machine.{effect_of, effect_by}
use Rattle.node_code.specs.Anchors.{FlatAnchor}
use Rattle.node_code.specs.Forms.{Sub, ArrayForm}
use Rattle.code_meaning.specs.Anchors.{anchor_in}
use Rattle.code_meaning.specs.Parallel.{fault_at, at_line, outcome_of, evaluation_extents, copy_spot}
use Rattle.node_code.specs.Parallel.{Evaluation}
use Rattle.statement_trail.specs.Trail.{Trail, after_value}
use Rattle.lowered_expressions.specs.Passed.{note, IsTrail}
use Rattle.lowered_expressions.proofs.Reach.{Idle, still, Stops, Place, HasAt, Reaches, reaches-on, stops-on, stands, one}
use Rattle.lowered_expressions.proofs.Terms.{HoldsArrays}
use Rattle.lowered_expressions.proofs.Goes.{Holds, kept-refl, Goes, goes-on}
use Rattle.lowered_expressions.proofs.Keeping.{IsOutcome, Keeps, keeps}
use Rattle.lowering.proofs.Masks.{holds-copy, holds-some, value_effect, Filled, filled}
use Rattle.lowering.proofs.Evaluating.{result-outcome}
use Rattle.lowering.proofs.Pars.{par-reaches, par-stops}

module _ (table : ArrayTable) (row_count : ℕ) (moves : ℕ → List NewMapping) (code : List Instruction) (n many leave again : ℕ) (sized : (layouts : List Layout) (anchor : Option Anchor) (ns : List ℕ) → size_of (table.copies layouts anchor ns) ≡ space_count ns) (line b pc to : ℕ)
    (form : ArrayForm) (over : List Sub) (beside : Option FlatAnchor) (par : Instruction) (tuples : Tuples Fault) (is : meaning_of table par ≡ instr.Par tuples (copy_spot n)) where
  abbrev p : Evaluation
  p = record { line = line; form = form; over = over; beside = beside }

  module _ (has : HasAt code pc (MakeCopy n p ∷ par ∷ Verdict ∷ [])) (slots : List ℤ) (rows : Storage) (s : State) (holds : Holds table row_count moves code n many None s slots rows)
      (ns : List ℕ) (shape : evaluation_extents p slots ≡ ns) (counted : tuples.count slots ≡ product ns) (all : space_count ns ≡ product ns)
      (tuple : ℕ → List ℤ) (f : ℕ → Result ℤ Cause)
      (does : (rows1 : Storage) → HoldsArrays n table.shapes s rows1 → (u : ℕ) → machine.outcome_of tuples slots (read rows1) u
      ≡ outcome_of (at_line line (at_tuple (tuple u) (f u))))
      (T : Trail) (those : IsTrail moves (note par slots) T) (U : List ℤ → Trail)
      (next : List ℤ → Run) (goes : (vs : List ℤ) (rows3 : Storage) → Holds table row_count moves code n many (Some vs) s slots rows3 → Goes table row_count moves code n many None leave again (U vs) to b slots
      (stands table row_count moves code (pc + 3) slots rows3 s.printed) (next vs)) where
    abbrev count : ℕ
    count = product ns

    abbrev zeros : List ℤ
    zeros = replicate (space_count (evaluation_extents p slots)) (pos 0)

    abbrev rows1 : Storage
    rows1 = slice_set rows n zeros

    holds2 : Holds table row_count moves code n many None s slots rows1
    holds2 = holds-copy table row_count moves code n many s slots rows zeros holds

    empty : length (row_of rows1 n) ≡ count
    empty = ap length (get_or-set_same rows n zeros [] holds.wide) ∙ length-replicate (space_count (evaluation_extents p slots)) (pos 0) ∙ ap space_count shape ∙ all

    abbrev outcome : ℕ → Outcome Fault
    outcome = machine.outcome_of tuples slots (read rows1)

    abbrev effect : ℕ → Effect Fault
    effect = effect_of tuples (copy_spot n) slots (read rows1)

    by_result : (u : ℕ) (q : Result ℤ Cause) → effect_by (copy_spot n slots u) (outcome_of (at_line line q)) ≡ value_effect table row_count moves code n many line u q
    by_result u (Ok v) = refl
    by_result u (Err c) = refl

    effect-is : (u : ℕ) → effect u ≡ value_effect table row_count moves code n many line u (at_tuple (tuple u) (f u))
    effect-is u = ap (effect_by (copy_spot n slots u)) (does rows1 holds2.arrays u) ∙ by_result u (at_tuple (tuple u) (f u))

    kept-is : Keeps line outcome (each tuple f count) count
    kept-is = keeps line outcome tuple f count
        (λ u lt. subst (λ z. IsOutcome line z (at_tuple (tuple u) (f u))) (sym (does rows1 holds2.arrays u)) (result-outcome line (at_tuple (tuple u) (f u))))

    abbrev m0 : Place row_count
    m0 = stands table row_count moves code pc slots rows s.printed

    abbrev m1 : Place row_count
    m1 = stands table row_count moves code (pc + 1) slots rows1 s.printed

    makes : Reaches table row_count moves code [] m0 m1
    makes i =
        let layout : Layout = table.copies i.layouts (anchor_in slots over beside) (evaluation_extents p slots) in
        let j : Idle row_count = record { layouts = slice_set i.layouts n layout; parts = i.parts; joined = i.joined; laid = length-set i.layouts n layout ∙ i.laid } in (
          1,
          j,
          one table row_count moves code pc slots rows s.printed (MakeCopy n p) has.0 i
              ∙ ap (λ k. stands table row_count moves code (pc + 1) slots (slice_set rows n (replicate k (pos 0))) s.printed j) (sized i.layouts (anchor_in slots over beside) (evaluation_extents p slots)),
          still table row_count moves code pc slots rows s.printed (MakeCopy n p) has.0 refl i,
        )

    by_each : (q : Result (List ℤ) Cause) → Filled table row_count moves code n many line count s slots rows1 holds2 empty effect q count → Keeps line outcome q count
        → Goes table row_count moves code n many None leave again (T ++ after_value q U) to b slots m0 (with_value line s q next)
    by_each (Ok vs) h kept =
        let e : pc + 1 + 2 ≡ pc + 3 = omega arith in
        let rows3 = scatter effect count rows1 in
        let m3 = stands table row_count moves code (pc + 3) slots rows3 s.printed in
        let v : Reaches table row_count moves code T m1 m3 = subst (λ at. Reaches table row_count moves code T m1 (stands table row_count moves code at slots rows3 s.printed)) e
        (par-reaches table row_count moves code n par tuples (copy_spot n) (pc + 1) slots rows1 s.printed is has.1 count counted T those kept) in
        goes-on table row_count moves code n many None leave again T (U vs) to b b slots slots m0 m3 (next vs) (omega arith) (reaches-on table row_count moves code m0 m1 m3 makes v)
        (kept-refl table row_count moves code n many None b slots)
        (goes vs rows3 (holds-some table row_count moves code n many s slots rows3 vs (h.1 ∙ no_rest vs h.0 h.3) h.4))
      where
        no_rest : (vs rest : List ℤ) → count + length rest ≡ count → vs ++ rest ≡ vs
        no_rest vs [] e = append-nil vs
        no_rest vs (z ∷ rest) e = absurd (omega (arith, e))
    by_each (Err c) h kept = subst (λ V. Stops table row_count moves code V m0 (fault_at line c) s.printed) (sym (append-nil T)) (stops-on table row_count moves code m0 m1 (fault_at line c) s.printed makes
        (par-stops table row_count moves code n par tuples (copy_spot n) (pc + 1) slots rows1 s.printed is has.1 count counted T those (fault_at line c) kept))

    pub copy-goes : Goes table row_count moves code n many None leave again (T ++ after_value (each tuple f count) U) to b slots m0 (with_value line s (each tuple f count) next)
    copy-goes = by_each (each tuple f count) (filled table row_count moves code n many line count s slots rows1 holds2 empty effect tuple f count (omega arith) (λ u lt. effect-is u)) kept-is
