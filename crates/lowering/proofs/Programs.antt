-- The machine over the code of a program ends as the program does.
use Rattle.std.proofs.Common.{append-nil, ◌≡◌, ℕ, ◌+◌, ◌<◌, ◌≤◌, List, [], ◌∷◌, ◌++◌, map, replicate, length, ℤ, pos, Some, None, refl, sym, ap, ◌∙◌, subst, arith, length-append, append_assoc, slice_index_or}
use Rattle.std.proofs.Math.ListN.{get_or-append, get_or-map}
use Rattle.std.proofs.Math.Seq.{get_or-append_seam}
use Rattle.std.proofs.lemmas.List.{length-map, length-replicate}
use Rattle.std.proofs.lemmas.Option.{slice_get-get_or}
use Rattle.storage.specs.Storage.{Storage}
use Rattle.array_meaning.specs.Faults.{Fault}
use Rattle.array_meaning.specs.State.{Array, State, no_array}
use Rattle.array_meaning.specs.Statements.{Block}
use Rattle.array_meaning.specs.Runs as runs
use Rattle.array_meaning.specs.Runs.{Completion, Normal, Exited, Cycled, Stopped, Run}
use Rattle.array_meaning.specs.Execution.{run_block}
use Rattle.machine_steps.specs.Layout.{Layout}
use Rattle.machine_steps.specs.Instr.{Finished}
use Rattle.machine_steps.specs.Machine.{Machine, steps}
use Rattle.node_code.specs.Instructions.{Instruction, NewMapping, Jump, Halt}
use Rattle.code_meaning.specs.Instructions.{meaning_of, ArrayTable, IsAnchorBelow}
use Rattle.program_code.specs.StatementCode.{block_copies, block_slots, block_code, program_code}
use Rattle.lowered_expressions.specs.WellFormed.{IsWellFormedBlock}
use Rattle.nest_items.specs.BlockForms.{BlockHasForms}
use Rattle.fitting_states.specs.FittingStates.{StateFits, BlockFits}
use Rattle.lowering.specs.Ranks.{BlockKeepsRanks, declared_shapes}
use Rattle.lowering.specs.Lowered.{IsState, IsTable, opening, IsLeft, EndsAs, MachineEnds, MachinePasses}
use Rattle.statement_trail.specs.Trail.{Trail, block_trail}
use Rattle.lowered_expressions.specs.Passed.{passed, IsTrail}
use Rattle.lowered_expressions.proofs.Reach.{still, entries-more, reaches-last, Idle, Place, HasAt, has-front, has-back, Reaches, reaches-on, stands, one, steps-more}
use Rattle.lowered_expressions.proofs.Goes.{Holds, Flows, jump-reaches}
use Rattle.lowered_nests.proofs.NestRuns.{HasCopies}
use Rattle.lowering.proofs.Rooms.{some_copy}
use Rattle.lowering.proofs.Statements.{block-goes}

has-all : (is pre : List Instruction) → HasAt (pre ++ is) (length pre) is
has-all [] pre = tt
has-all (i ∷ is) pre =
    let within : length pre < length (pre ++ i ∷ is) = omega (arith, length-append pre (i ∷ is)) in
    let here = slice_get-get_or (pre ++ i ∷ is) (length pre) i within ∙ ap Some (get_or-append_seam pre i is i) in
    let n : length (pre ++ i ∷ []) ≡ length pre + 1 = omega (arith, length-append pre (i ∷ [])) in
    let rest = has-all is (pre ++ i ∷ []) in
    let rest' = subst (λ l. HasAt l (length (pre ++ i ∷ [])) is) (append_assoc pre (i ∷ []) is) rest in
    (here, subst (λ m. HasAt (pre ++ i ∷ is) m is) n rest')

-- copies that aren't made yet
abbrev unmade : ℕ → Storage
unmade room = replicate room []

module _ (table : ArrayTable) (n room : ℕ) (moves : ℕ → List NewMapping) (body : Block) (s : State) (is : IsState n s) (tabled : IsTable s table) (roomy : block_copies n body ≤ room)
    (fit : BlockFits body) (fits : StateFits s) where
  abbrev code : List Instruction
  code = program_code n moves body

  abbrev row_count : ℕ
  row_count = n + room

  abbrev many : ℕ
  many = n + block_slots body

  abbrev slots : List ℤ
  slots = s.scalars ++ replicate (block_slots body) (pos 0)

  abbrev elements : List (List ℤ)
  elements = map (λ (a : Array). a.elements) s.arrays

  abbrev rows : Storage
  rows = elements ++ unmade room

  as_many : length rows ≡ row_count
  as_many = omega (arith, is.arrays, length-append elements (unmade room), length-map s.arrays (λ (a : Array). a.elements), unmade-many)
    where
      unmade-many : length (unmade room) ≡ room
      unmade-many = length-replicate room []

  holds : Holds table row_count moves code n many None s slots rows
  holds = record {
    scalars = λ k lt. get_or-append s.scalars (replicate (block_slots body) (pos 0)) (pos 0) k (omega (arith, lt, is.scalars));
    arrays = record {
      elements = λ a lt. get_or-append elements (unmade room) [] a (omega (arith, lt, is.arrays, length-map s.arrays (λ (a : Array). a.elements)))
          ∙ get_or-map (λ (a : Array). a.elements) s.arrays a no_array;
      shape = λ a lt. sym (ap (λ shapes. slice_index_or shapes a []) tabled.shapes ∙ get_or-map (λ (a : Array). a.dims) s.arrays a no_array);
      places = is.scalars;
    };
    places = is.scalars;
    more_places = is.arrays;
    wide = let some = some_copy n body in omega (arith, some, roomy, as_many);
    more_rows = as_many;
    copied = λ m e. cc;
    size = length-append s.scalars (replicate (block_slots body) (pos 0)) ∙ omega (arith, is.scalars, length-replicate (block_slots body) (pos 0));
  }

  declared : length table.shapes ≡ n
  declared = ap length tabled.shapes ∙ length-map s.arrays (λ (a : Array). a.dims) ∙ is.arrays

  lie : HasCopies table n
  lie = record {
    sized = tabled.copies;
    steady = λ one other anchor extents same below. tabled.steady one other anchor extents (λ r lt. same r (omega (arith, lt, declared))) (subst (λ k. IsAnchorBelow k anchor) (sym declared) below);
    alone = tabled.alone;
  }

  abbrev entries : Trail
  entries = block_trail body s

  pub program-passes : (layouts : List Layout) → length layouts ≡ row_count → IsWellFormedBlock n body → BlockHasForms body → BlockKeepsRanks (declared_shapes s) body
      → MachinePasses n table moves (opening n room moves body s layouts) (run_block body s) (block_trail body s)
  program-passes layouts laid ok forms ranked = by_completion r.completion
      (block-goes table row_count moves code n many declared lie body n 2 1 1 slots rows s ok forms
      (subst (λ shapes. BlockKeepsRanks shapes body) (sym tabled.shapes) ranked) fit fits (omega (arith, roomy)) (has-front code 2 (block_code n moves body n 2 1 1) (Jump 1 ∷ []) all.1.1) (omega arith)
      (omega arith) holds)
    where
      r : Run
      r = run_block body s

      all : HasAt code 0 code
      all = has-all code []

      m0 : Place row_count
      m0 = stands table row_count moves code 0 slots rows s.printed

      i0 : Idle row_count
      i0 = record { layouts = layouts; parts = 0; joined = pos 0; laid = laid }

      begin : Place row_count
      begin = stands table row_count moves code 2 slots rows s.printed

      begins : Reaches table row_count moves code [] m0 begin
      begins = jump-reaches table row_count moves code n many None 0 2 slots rows s.printed all.0

      Passes : ℕ → Type 0
      Passes k = IsTrail moves (passed table k (m0 i0)) entries

      halts : (slots1 : List ℤ) (rows1 : Storage) → Reaches table row_count moves code entries begin (stands table row_count moves code 1 slots1 rows1 r.state.printed)
          → Holds table row_count moves code n many None r.state slots1 rows1
          → (k : ℕ) × (((steps (meaning_of table) k (m0 i0)).control.status ≡ Finished) × ((steps (meaning_of table) k (m0 i0)).printed ≡ r.state.printed)
          × IsLeft n (steps (meaning_of table) k (m0 i0)) r.state × ((steps (meaning_of table) k (m0 i0)).kept ≡ None)) × Passes k
      halts slots1 rows1 reach h =
          let m1 = stands table row_count moves code 1 slots1 rows1 r.state.printed in
          let a = reaches-on table row_count moves code m0 begin m1 begins reach i0 in
          let end : Machine Instruction Fault = record (m1 a.1) { control = record { at = 1; slots = slots1; status = Finished } } in
          let e : steps (meaning_of table) (1 + a.0) (m0 i0) ≡ end = steps-more table row_count moves code a.0 1 (m0 i0) ∙ ap (steps (meaning_of table) 1) a.2
          ∙ one table row_count moves code 1 slots1 rows1 r.state.printed Halt all.1.0 a.1 in
          let those : IsTrail moves (passed table (1 + a.0) (m0 i0)) (entries ++ []) = entries-more table row_count moves code a.0 1 (m0 i0) (m1 a.1) entries [] a.2 a.3
          (still table row_count moves code 1 slots1 rows1 r.state.printed Halt all.1.0 refl a.1) in
          (1 + a.0, rw (e) (refl, refl, (h.scalars, h.arrays.elements, h.more_places), refl), subst (λ V. IsTrail moves (passed table (1 + a.0) (m0 i0)) V) (append-nil entries) those)

      by_completion : (c : Completion) → Flows table row_count moves code n many None 1 1 entries (2 + length (block_code n moves body n 2 1 1)) n slots begin r.state c → (k : ℕ)
          × EndsAs n (steps (meaning_of table) k (m0 i0)) r.state c × Passes k
      by_completion Normal h =
          let to : ℕ = 2 + length (block_code n moves body n 2 1 1) in
          let last : HasAt code to (Jump 1 ∷ []) = has-back code 2 (block_code n moves body n 2 1 1) (Jump 1 ∷ []) all.1.1 in
          halts h.0 h.1 (reaches-last table row_count moves code entries begin (stands table row_count moves code to h.0 h.1 r.state.printed) (stands table row_count moves code 1 h.0 h.1 r.state.printed) h.2
          (jump-reaches table row_count moves code n many None to 1 h.0 h.1 r.state.printed last.0)) h.4
      by_completion Exited h = halts h.0 h.1 h.2 h.4
      by_completion Cycled h = halts h.0 h.1 h.2 h.4
      by_completion Stopped h =
          let a = begins i0 in
          let b = h a.1 in
          let e : steps (meaning_of table) (b.1.0 + a.0) (m0 i0) ≡ b.0 = steps-more table row_count moves code a.0 b.1.0 (m0 i0) ∙ ap (steps (meaning_of table) b.1.0) a.2 ∙ b.1.1 in
          (b.1.0 + a.0, rw (e) (b.2, b.3, (b.4.scalars, b.4.arrays.elements, b.4.more_places), b.5), entries-more table row_count moves code a.0 b.1.0 (m0 i0) (begin a.1) [] entries a.2 a.3 b.1.2)
      by_completion (runs.Faulted f) h =
          let a = begins i0 in
          let b = h a.1 in
          let e : steps (meaning_of table) (b.1.0 + a.0) (m0 i0) ≡ b.0 = steps-more table row_count moves code a.0 b.1.0 (m0 i0) ∙ ap (steps (meaning_of table) b.1.0) a.2 ∙ b.1.1 in
          (b.1.0 + a.0, rw (e) (b.2, b.3, b.4), entries-more table row_count moves code a.0 b.1.0 (m0 i0) (begin a.1) [] entries a.2 a.3 b.1.2)

  pub program-ends : (layouts : List Layout) → length layouts ≡ row_count → IsWellFormedBlock n body → BlockHasForms body → BlockKeepsRanks (declared_shapes s) body
      → MachineEnds n table (opening n room moves body s layouts) (run_block body s)
  program-ends layouts laid ok forms ranked = let p = program-passes layouts laid ok forms ranked in (p.0, p.1)
