-- What is asked of a nest and of the machine where its loops have their bounds, and what is so after its statements.
use Rattle.std.proofs.Common.{◌≡◌, ℕ, ◌+◌, ◌*◌, ◌<◌, ◌≤◌, ◌⊎◌, List, [], ◌∷◌, length, map, slice_get, ℤ, true, false, Option, None, Ok}
use Rattle.storage.specs.Storage.{Storage}
use Rattle.machine_steps.specs.Layout.{Layout, size_of}
use Rattle.machine_steps.specs.Space.{space_count}
use Rattle.array_meaning.specs.declared.sections.Selection.TheVariants.{Along}
use Rattle.array_meaning.specs.Faults.{Fault}
use Rattle.array_meaning.specs.State.{State, scalar}
use Rattle.array_meaning.specs.Statements.{Loop, Nest, Block, Done, Do, Outermost}
use Rattle.array_meaning.specs.Runs.{Run, normal, Faulted}
use Rattle.array_meaning.specs.Execution.{run}
use Rattle.array_meaning.specs.Expressions.{index_values}
use Rattle.array_meaning.specs.Iterations.{values_of, nest_axes, nest_indices, iteration_count}
use Rattle.array_meaning.specs.NestEntry.{check_nest}
use Rattle.statement_trail.specs.Trail.{nest_trail}
use Rattle.code_meaning.specs.Flat.{slot}
use Rattle.code_meaning.specs.Forms.{selections_in}
use Rattle.hpf_base.specs.declared.limits.TheConstants.{MAX_ELEMENTS}
use Rattle.node_code.specs.Instructions.{Instruction, NewMapping}
use Rattle.code_meaning.specs.Beside.{Anchor}
use Rattle.code_meaning.specs.Instructions.{ArrayTable, IsAnchorBelow, lies_alone}
use Rattle.lowered_expressions.specs.WellFormed.{IsWellFormedBlock}
use Rattle.lowered_expressions.proofs.Reach.{HasAt, Reaches, Stops, stands}
use Rattle.lowered_expressions.proofs.Terms.{HoldsArrays}
use Rattle.lowered_expressions.proofs.Goes.{Holds}
use Rattle.nest_items.specs.BlockForms.{HasForm}
use Rattle.nest_items.specs.Settled.{SameIn, settled_by}
use Rattle.program_code.specs.NestInstructions.{nest_instructions, slots_of_nest}
use Rattle.statement_trail.specs.NestParts.{index_in}
use Rattle.fitting_states.specs.FittingStates.{StateFits, ControlFits}
use Rattle.program_code.specs.NestCode.{nest_beside, plain, text_in, test_in, stored, finals, along, nest_rows}

-- how copies lie: with an element for each position, however the rows lie. Where what is assigned is an element of one of n declared arrays, whose
-- rows are the first, or isn't said, they lie by how these rows lie alone
pub record HasCopies (table : ArrayTable) (n : ℕ) : Type 0 where
  pub sized : (layouts : List Layout) (anchor : Option Anchor) (ns : List ℕ) → size_of (table.copies layouts anchor ns) ≡ space_count ns
  pub steady : (one other : List Layout) (anchor : Option Anchor) (ns : List ℕ) → ((r : ℕ) → r < n → slice_get one r ≡ slice_get other r) → IsAnchorBelow n anchor
      → table.copies one anchor ns ≡ table.copies other anchor ns
  pub alone : (layouts : List Layout) (m : ℕ) → m ≤ MAX_ELEMENTS → lies_alone table (table.copies layouts None (m ∷ [])) ≡ true

-- the place after the statements of the nest of a line at a place
abbrev pub place_after : (n line pc v : ℕ) → Nest → Block → ℕ
place_after n line pc v nest body =
    pc + length (nest_instructions line (along v nest.loops) (nest_beside nest body) (text_in n nest body) (test_in n nest body) (stored n nest body) (finals n nest body) (plain body) (v + 4 * length nest.loops) pc)

module _ (table : ArrayTable) (row_count : ℕ) (moves : ℕ → List NewMapping) (code : List Instruction) (n many : ℕ) where
  -- the statements of the nest of a line stand at a place, and the bounds of its loops are in the slots from v on; the inner loops of its
  -- statements take those from b on
  pub record NestStands (line pc v : ℕ) (nest : Nest) (loop : Loop) (block body : Block) (s : State) (slots : List ℤ) (rows : Storage) : Type 0 where
    pub form : HasForm nest loop block body
    pub named : IsWellFormedBlock n block
    pub index : loop.index < n
    pub known : index_values s loop.control ≡ Ok (values_of s loop)
    pub passed : check_nest nest body s ≡ Ok s
    pub fits : StateFits s
    pub statements : body ≡ Done → ⊥
    pub control : ControlFits loop.control
    pub holds : Holds table row_count moves code n many None s slots rows
    pub bounds : selections_in slots (along v nest.loops) ≡ map Along (nest_axes s nest)
    pub from : n ≤ v
    pub few : v + 4 * length nest.loops + slots_of_nest (plain body) ≤ many
    pub room : n + nest_rows n nest body ≤ row_count
    pub has : HasAt code pc (nest_instructions line (along v nest.loops) (nest_beside nest body) (text_in n nest body) (test_in n nest body) (stored n nest body) (finals n nest body) (plain body)
        (v + 4 * length nest.loops) pc)

  -- after them: the arrays and the scalars but for indices are those of a state, and so are the indices of loops that are none of the nest's
  pub record NestDone (v : ℕ) (nest : Nest) (loop : Loop) (block body : Block) (form : HasForm nest loop block body) (s state : State) (slots slots' : List ℤ) (rows' : Storage) : Type 0 where
    pub scalars : (k : ℕ) → k < n → form.all k ≡ false → slot slots' k ≡ scalar state k
    pub inner : (k : ℕ) → k < n → form.all k ≡ true → index_in (nest_indices nest) 0 k ≡ None → slot slots' k ≡ scalar state k
    pub settled : SameIn form.all (settled_by s (Do (Outermost nest body) loop block) s) state
    pub arrays : HoldsArrays n table.shapes state rows'
    pub places : length state.scalars ≡ n
    pub more_places : length state.arrays ≡ n
    pub printed : state.printed ≡ s.printed
    pub rows : length rows' ≡ row_count
    pub size : length slots' ≡ many
    pub kept : (x : ℕ) → n ≤ x → x < v + 4 * length nest.loops → slot slots' x ≡ slot slots x

  module _ (line pc v : ℕ) (nest : Nest) (loop : Loop) (block body : Block) (form : HasForm nest loop block body) (s : State) (slots : List ℤ) (rows : Storage) where
    abbrev pub nest_run : Run
    nest_run = run (Do (Outermost nest body) loop block) line s

    -- both end normally, and the nest's parts are passed
    pub record StatementsEnd : Type 0 where
      pub state : State
      pub slots' : List ℤ
      pub rows' : Storage
      pub ends : nest_run ≡ normal state
      pub reach : Reaches table row_count moves code (nest_trail nest body s) (stands table row_count moves code pc slots rows s.printed) (stands table row_count moves code (place_after n line pc v nest body) slots' rows' s.printed)
      pub done : NestDone v nest loop block body form s state slots slots' rows'

    -- or both with one fault, and all parts are passed, too
    pub record StatementsFault : Type 0 where
      pub fault : Fault
      pub state : State
      pub ends : nest_run ≡ record { state = state; completion = Faulted fault }
      pub quiet : state.printed ≡ s.printed
      pub stops : Stops table row_count moves code (nest_trail nest body s) (stands table row_count moves code pc slots rows s.printed) fault s.printed

-- the statements of a nest that has an iteration end as the meaning says
abbrev pub StatementsRun : Type 0
StatementsRun = (table : ArrayTable) (row_count : ℕ) (moves : ℕ → List NewMapping) (code : List Instruction) (n many : ℕ) → HasCopies table n → length table.shapes ≡ n
    → (line pc v : ℕ) (nest : Nest) (loop : Loop) (block body : Block) (s : State) (slots : List ℤ) (rows : Storage)
    → (h : NestStands table row_count moves code n many line pc v nest loop block body s slots rows) → (iteration_count nest s ≡ 0 → ⊥)
    → StatementsEnd table row_count moves code n many line pc v nest loop block body h.form s slots rows
    ⊎ StatementsFault table row_count moves code n many line pc v nest loop block body h.form s slots rows
