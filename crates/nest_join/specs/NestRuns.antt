-- Of a promise.
-- How a nest of the meaning and its code on the machine end.
use Rattle.std.specs.Prelude.{◌≡◌, ℕ, ◌+◌, ◌<◌, ◌≤◌, List, [], length, ℤ, Bool, true, false, Some, None}
use Rattle.std.specs.List.{Contains}
use Rattle.storage.specs.Storage.{Storage, row_of, Alike}
use Rattle.nest_syntax.specs.NestKinds.{has_copies}
use Rattle.array_meaning.specs.Statements.{Loop, Block, Do, Outermost}
use Rattle.array_meaning.specs.Faults.{Fault}
use Rattle.array_meaning.specs.State.{State, array}
use Rattle.array_meaning.specs.Runs.{Run, normal, Faulted}
use Rattle.array_meaning.specs.Iterations.{iteration_count}
use Rattle.machine_steps.specs.Layout.{Layout}
use Rattle.machine_steps.specs.Instr.{Instr}
use Rattle.nest_items.specs.StateStorage.{state_of}
use Rattle.nest_items.specs.Settled.{SameBut, SameIn, settled_by}
use Rattle.nest_parts.specs.NestParts.{copies, IsEntered}
use Rattle.nest_machine.specs.Body.{Body, count_body, body_slots}
use Rattle.nest_machine.specs.Slots.{slots_after}
use Rattle.nest_machine.specs.Trace.{Data, acts, trace}
use Rattle.nest_machine.specs.Stands.{HasAt}
use Rattle.nest_syntax.specs.Finals.{Final}
use Rattle.nest_machine.specs.Finals.{final_slot, NotAmong, AreApart, EndsFaulted}
use Rattle.nest_machine.specs.Entries.{NotMade, nest_entries, nest_code, rows_after}
use Rattle.nest_machine.specs.Placed.{IsPlace, PlacedTexts}
use Rattle.nest_machine.specs.PlacedEntry.{IsPlacedMemory}
use Rattle.nest_machine.specs.PlacedEnds.{IsPlacedFinal, PlacedAfter}
use Rattle.code_meaning.specs.NestStatements.{iterations_at}
use Rattle.nest_texts.specs.NestLoops.{counting_at}
use Rattle.nest_texts.specs.NestBodies.{nest_layout, body_of}
use Rattle.nest_join.specs.NestNames.{NestNames}
use Rattle.nest_join.specs.NestTexts.{NestAction, NestCondition, texts_of, HoldsEntry}
use Rattle.nest_join.specs.CodedBlocks.{IsCodedBlock, coded}

-- Where the code of a nest lies, and what it takes: the line of its statement, the place of its first instruction, the first slot of its inner
-- loops, the first of the machine's rows of stored conditions and the nest's row of these, and its scalars with copies
pub record NestCode : Type 0 where
  pub line : ℕ
  pub pc : ℕ
  pub slot : ℕ
  pub stored : ℕ
  pub row : ℕ
  pub finals : List Final
  pub alike : Layout → Layout → Bool

module _ (w : NestNames) (c : NestCode) (s : State) (body : Block) (ok : IsCodedBlock w s [] body) where
  abbrev pub machine_body : Body (NestAction w) (NestCondition w)
  machine_body = body_of (coded w s [] body ok)

  abbrev pub code_of : List (Instr Fault)
  code_of = nest_code (texts_of w) (counting_at c.line) (iterations_at w.over) (nest_layout w.table w.over w.beside) c.stored c.alike c.finals machine_body c.slot c.pc

  -- how many acts each iteration has
  abbrev pub acts_of : List ℤ → ℕ
  acts_of entry = length (acts (trace (texts_of w) (counting_at c.line) (iterations_at w.over) c.stored machine_body None 0 c.slot entry))

-- What is asked of a nest and of the machine at its entry. The nest keeps the rules and is entered, and its storage has a place among the
-- machine's rows
pub record IsBegun {I : Type 0} (meaning : I → Instr Fault) (code : List I) (is_quiet : ℕ → Bool) (w : NestNames) (c : NestCode) (all : ℕ → Bool) (s : State) (loop : Loop) (block body : Block)
    (ok : IsCodedBlock w s [] body) (start : Storage) (entry : List ℤ) (d : Data Fault) : Type 0 where
  pub enters : IsEntered w.kinds all s w.nest loop block body start c.row (acts_of w c s body ok entry)
  pub holds : HoldsEntry w c.slot entry s
  pub has : HasAt meaning code is_quiet c.pc (code_of w c s body ok)
  pub room : c.slot + body_slots (machine_body w c s body ok) ≤ length entry
  pub outside : (x : ℕ) → c.slot ≤ x → w.is_index x ≡ false
  pub fit : PlacedTexts (texts_of w) (iterations_at w.over) (nest_layout w.table w.over w.beside) c.stored c.row (count_body (machine_body w c s body ok)) w.place w.is_row w.is_index
      (copies w.kinds w.nest s start) (iteration_count w.nest s) c.slot entry
  pub one_place : IsPlace w.place w.is_row
  pub memory : IsPlacedMemory (nest_layout w.table w.over w.beside) entry w.place w.is_row w.kinds (iteration_count w.nest s) start
      (nest_entries c.finals c.stored (count_body (machine_body w c s body ok))) d
  pub empty : d.kept ≡ None
  pub apart : AreApart c.finals
  pub few : (f : Final) → Contains c.finals f → final_slot f < c.slot
  pub itself : (l : Layout) → c.alike l l ≡ true

module _ {I : Type 0} (meaning : I → Instr Fault) (code : List I) (is_quiet : ℕ → Bool) (joined : ℤ) (line printed : List ℕ) (w : NestNames) (c : NestCode) (all : ℕ → Bool) (s : State)
    (loop : Loop) (block body : Block) (ok : IsCodedBlock w s [] body) (start : Storage) (entry : List ℤ) (d : Data Fault) (run : Run) where
  -- The nest ends normally, with the state of a storage but for the indices, which are as its loops leave them. The machine comes after the
  -- nest's code, with the arrays and the scalars of that storage
  pub record EndsAsMeant : Type 0 where
    pub state : State
    pub storage : Storage
    pub ends : run ≡ normal state
    pub same : SameBut all state (state_of w.kinds s storage)
    pub indices : SameIn all (settled_by s (Do (Outermost w.nest body) loop block) s) state
    pub alike : Alike storage start
    pub after : PlacedAfter meaning code is_quiet joined line printed c.pc (c.pc + length (code_of w c s body ok)) (texts_of w) c.stored c.row
        (count_body (machine_body w c s body ok)) c.slot w.place w.is_row w.is_index w.kinds start c.finals
        (slots_after (counting_at c.line) (machine_body w c s body ok) c.slot entry) entry
        (rows_after (texts_of w) (counting_at c.line) (iterations_at w.over) (nest_layout w.table w.over w.beside) c.stored c.finals (machine_body w c s body ok) c.slot entry d) d storage

  -- both end with one fault, and with what was printed before
  pub record FaultsAsMeant : Type 0 where
    pub fault : Fault
    pub state : State
    pub ends : run ≡ record { state = state; completion = Faulted fault }
    pub quiet : state.printed ≡ s.printed
    pub machine : EndsFaulted meaning code is_quiet joined line printed c.pc entry d fault

-- ---- the arrays and the scalars of a state on the machine

-- the machine's rows hold the arrays of the state at the entry. The nest makes no row of a name; its copies and its marks lie after those; and an array
-- lies at its own place
pub record HoldsRows (w : NestNames) (c : NestCode) (s : State) (count : ℕ) (start : Storage) (d : Data Fault) : Type 0 where
  pub elements : (a : ℕ) → a < w.count → row_of d.rows a ≡ (array s a).elements
  pub names : w.count ≤ c.row
  pub stored : w.count ≤ c.stored
  pub unmade : (a : ℕ) → a < w.count → NotMade a (nest_entries c.finals c.stored count)
  pub copies : (k : ℕ) → has_copies (w.kinds k) ≡ true → w.count ≤ w.place k
  pub marks : (k r : ℕ) → w.marks k ≡ Some r → w.count ≤ r
  pub arrays : (a : ℕ) → a < w.count → has_copies (w.kinds a) ≡ false → (w.is_row a ≡ true) × (w.place a ≡ a) × (row_of start a ≡ (array s a).elements)

-- each scalar with copies has its final, and no other slot of a name is one of a final
pub record HasFinals (w : NestNames) (c : NestCode) (s : State) (body : Block) (ok : IsCodedBlock w s [] body) (start : Storage) (entry : List ℤ) : Type 0 where
  pub copied : (k : ℕ) → k < w.count → has_copies (w.kinds k) ≡ true → (f : Final) × Contains c.finals f × (final_slot f ≡ k)
      × IsPlacedFinal (texts_of w) c.stored c.row (count_body (machine_body w c s body ok)) c.slot w.place w.is_row w.is_index w.kinds start entry f k
  pub others : (k : ℕ) → k < w.count → has_copies (w.kinds k) ≡ false → NotAmong k c.finals
