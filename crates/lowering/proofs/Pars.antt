-- A parallel statement on the machine, by itself and with its Verdict.
use Rattle.node_code.specs.Instructions.{NewMapping, Instruction, Verdict}
use Rattle.code_meaning.specs.Instructions.{ArrayTable, meaning_of}
use Rattle.std.proofs.Common.{◌≡◌, ℕ, ◌+◌, ◌<◌, List, ◌∷◌, [], ℤ, Option, Some, None, refl, ap, ◌∙◌, arith, ◌++◌, append-nil, sym, subst, slice_get}
use Rattle.storage.specs.Storage.{Storage, Spot, read}
use Rattle.storage.specs.Effect.{scatter}
use Rattle.array_meaning.specs.Faults.{Fault}
use Rattle.machine_steps.specs.Instr as instr
use Rattle.machine_steps.specs.Instr.{Running, Faulted, Outcome, Tuples}
use Rattle.machine_steps.specs.Machine as machine
use Rattle.machine_steps.specs.Machine.{Machine, Kept, keep, effect_of, verdict_control, on, step, step_by, steps, instr_of}
use Rattle.statement_trail.specs.Trail.{Trail}
use Rattle.lowered_expressions.specs.Passed.{note, note_at, passed, passed_now, IsTrail}
use Rattle.lowered_expressions.proofs.Keeping.{kept-none, kept-some}
use Rattle.lowered_expressions.proofs.Reach.{Idle, Place, HasAt, Reaches, Stops, stands}

-- there was one more parallel statement
abbrev pub counted : {row_count : ℕ} → Idle row_count → Idle row_count
counted i = record { layouts = i.layouts; parts = i.parts + 1; joined = i.joined; laid = i.laid }

module _ (table : ArrayTable) (row_count : ℕ) (moves : ℕ → List NewMapping) (code : List Instruction) (n : ℕ) (par : Instruction) (tuples : Tuples Fault) (left : List ℤ → ℕ → Option Spot) (pc : ℕ) (slots : List ℤ)
    (rows : Storage) (out : List ℕ) (is : meaning_of table par ≡ instr.Par tuples left) where
  abbrev outcome : ℕ → Outcome Fault
  outcome = machine.outcome_of tuples slots (read rows)

  -- what so many tuples store
  abbrev stored : ℕ → Storage
  stored count = scatter (effect_of tuples left slots (read rows)) count rows

  abbrev begun : Place row_count
  begun = stands table row_count moves code pc slots rows out

  -- after so many tuples, with the number of the part
  abbrev parted : ℕ → Place row_count
  parted count i = record (stands table row_count moves code (pc + 1) slots (stored count) out i) { kept = keep outcome i.parts count None; parts = i.parts + 1 }

  parts : slice_get code pc ≡ Some par → (count : ℕ) → tuples.count slots ≡ count → (i : Idle row_count) → step (meaning_of table) (begun i) ≡ parted count i
  parts here count many i = ap (λ z. step_by (instr_of (meaning_of table) z) (begun i)) here ∙ ap (λ z. step_by z (begun i)) is ∙ ap (λ k. parted k i) many

  noted : slice_get code pc ≡ Some par → (i : Idle row_count) → passed_now (begun i) ≡ note par slots
  noted here i = ap (λ z. note_at 0 z slots) here

  module _ (has : HasAt code pc (par ∷ [])) (count : ℕ) (many : tuples.count slots ≡ count) (T : Trail) (those : IsTrail moves (note par slots) T) where
    -- by itself, where no fault is kept, it stores
    pub par-steps : keep outcome 0 count None ≡ None → (i : Idle row_count)
        → (steps (meaning_of table) 1 (begun i) ≡ stands table row_count moves code (pc + 1) slots (stored count) out (counted i)) × IsTrail moves (passed table 1 (begun i)) T
    par-steps none i = (
      parts has.0 count many i ∙ ap (λ k. record (parted count i) { kept = k }) (kept-none outcome i.parts count none),
      subst (λ l. IsTrail moves l T) (sym (append-nil (passed_now (begun i)) ∙ noted has.0 i)) those,
    )

    pub par-passes : keep outcome 0 count None ≡ None
        → Reaches table row_count moves code T (stands table row_count moves code pc slots rows out) (stands table row_count moves code (pc + 1) slots (stored count) out)
    par-passes none i = let h = par-steps none i in (1, counted i, h.0, h.1)

  module _ (has : HasAt code pc (par ∷ Verdict ∷ [])) (count : ℕ) (many : tuples.count slots ≡ count) (T : Trail) (those : IsTrail moves (note par slots) T) where
    abbrev kept : Option (Kept Fault)
    kept = keep outcome 0 count None

    abbrev after : Option (Kept Fault) → Place row_count
    after k i = record (stands table row_count moves code (pc + 1) slots (stored count) out i)
        { control = verdict_control k on (record { at = pc + 1; slots = slots; status = Running }); parts = 0 }

    two : (i : Idle row_count) → steps (meaning_of table) 2 (begun i) ≡ after (keep outcome i.parts count None) i
    two i = ap (λ m. step (meaning_of table) m) (parts has.0 count many i) ∙ ap (λ z. step_by (instr_of (meaning_of table) z) (parted count i)) has.1.0

    -- the statement is passed, and the Verdict isn't noted
    two-noted : (i : Idle row_count) → passed table 2 (begun i) ≡ note par slots
    two-noted i =
        ap (λ l. l ++ (passed_now (step (meaning_of table) (begun i)) ++ [])) (noted has.0 i) ∙ ap (λ m. note par slots ++ (passed_now m ++ [])) (parts has.0 count many i)
        ∙ ap (λ z. note par slots ++ (note_at 0 z slots ++ [])) has.1.0 ∙ append-nil (note par slots)

    two-those : (i : Idle row_count) → IsTrail moves (passed table 2 (begun i)) T
    two-those i = subst (λ l. IsTrail moves l T) (sym (two-noted i)) those

    -- where no fault is kept the run goes on with what was stored
    pub par-reaches : kept ≡ None
        → Reaches table row_count moves code T (stands table row_count moves code pc slots rows out) (stands table row_count moves code (pc + 2) slots (stored count) out)
    par-reaches none i =
        let j : Idle row_count = record { layouts = i.layouts; parts = 0; joined = i.joined; laid = i.laid } in
        let e : pc + 1 + 1 ≡ pc + 2 = omega arith in (
          2,
          j,
          two i ∙ ap (λ k. after k i) (kept-none outcome i.parts count none) ∙ ap (λ at. stands table row_count moves code at slots (stored count) out j) e,
          two-those i,
        )

    -- else it ends
    pub par-stops : (f : Fault) → ((k : Kept Fault) × (kept ≡ Some k) × (k.fault ≡ f) × (k.tuple < count))
        → Stops table row_count moves code T (stands table row_count moves code pc slots rows out) f out
    par-stops f k i =
        let here = kept-some outcome i.parts count k.0 k.1 in
        (after (Some here.0) i, (2, two i ∙ ap (λ z. after z i) here.1, two-those i), ap Faulted (here.2 ∙ k.2), refl, refl)
