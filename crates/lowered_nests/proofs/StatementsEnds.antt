-- The statements of a nest end on the machine as the meaning's run of it does, where all that is asked at the entry is so.
use Rattle.std.proofs.Common.{◌≡◌, ℕ, ◌+◌, ◌*◌, ◌<◌, ◌≤◌, ◌⊎◌, inl, inr, ⊎_elim, List, [], length, replicate, ℤ, pos, Bool, true, false, None, refl, sym, ap, ◌∙◌, ext_get_or}
use Rattle.std.proofs.lemmas.Bool.{cases_lt}
use Rattle.std.proofs.lemmas.List.{length-replicate}
use Rattle.storage.specs.Storage.{Storage}
use Rattle.machine_steps.specs.Instr as machine
use Rattle.machine_steps.specs.Machine.{Machine, steps}
use Rattle.machine_steps.specs.SameLayouts.{is_same_layout}
use Rattle.array_meaning.specs.Faults.{Fault}
use Rattle.array_meaning.specs.State.{State, scalar}
use Rattle.array_meaning.specs.Statements.{Loop, Nest, Block}
use Rattle.array_meaning.specs.Runs as runs
use Rattle.array_meaning.specs.Runs.{Run, Completion, normal, Normal}
use Rattle.array_meaning.specs.Iterations.{iteration_count}
use Rattle.code_meaning.specs.Flat.{slot}
use Rattle.node_code.specs.Instructions.{Instruction, NewMapping}
use Rattle.code_meaning.specs.Instructions.{ArrayTable, meaning_of}
use Rattle.lowered_expressions.proofs.Reach.{Idle, Reaches, Stops, stands}
use Rattle.nest_syntax.specs.NestKinds.{has_copies}
use Rattle.nest_items.proofs.Storing.{state-arrays, state-scalars, by_cases}
use Rattle.nest_machine.specs.Body.{count_body}
use Rattle.nest_machine.specs.Trace.{Data}
use Rattle.nest_machine.specs.Finals.{NotAmong}
use Rattle.nest_join.specs.NestLoops.{counting_at}
use Rattle.nest_join.specs.NestBodies.{nest_layout}
use Rattle.program_code.specs.NestInstructions.{nest_instructions}
use Rattle.nest_join.specs.NestNames.{NestNames}
use Rattle.nest_join.specs.NestTexts.{texts_of}
use Rattle.nest_join.specs.CodedBlocks.{IsCodedBlock}
use Rattle.nest_join.specs.NestRuns.{NestCode, machine_body, code_of, IsBegun, EndsAsMeant, FaultsAsMeant, HoldsRows, HasFinals}
use Rattle.nest_join.proofs.NestsEnd.{nests-end}
use Rattle.nest_join.proofs.Held.{arrays-held, scalar-held}
use Rattle.nest_join.proofs.HeldIndices.{index-held}
use Rattle.code_meaning.specs.NestStatements.{iterations_at}
use Rattle.code_meaning.specs.Anchors.{anchor_in}
use Rattle.program_code.specs.NestCode.{nest_beside, plain, text_in, test_in, stored, finals, along}
use Rattle.lowered_nests.specs.NamesIn.{names_in}
use Rattle.lowered_nests.proofs.NestRuns.{HasCopies, NestStands, NestDone, StatementsEnd, StatementsFault, place_after, nest_run}
use Rattle.lowered_nests.proofs.SteadyRows.{same-rows}
use Rattle.lowered_nests.proofs.NestTrails.{is_before}
use Rattle.statement_trail.specs.Trail.{nest_trail}
use Rattle.lowered_expressions.specs.Passed.{passed, IsTrail}
use Rattle.nest_machine.specs.Stands.{StaysQuiet}

-- where the code of the nest lies
abbrev pub code_in : (n line pc v : ℕ) → Nest → Block → NestCode
code_in n line pc v nest body = record {
  line = line;
  pc = pc;
  slot = v + 4 * length nest.loops;
  stored = stored n nest body;
  row = n;
  finals = finals n nest body;
  alike = is_same_layout;
}

-- the machine's data, wherever the rows lie
abbrev pub data_in : {row_count : ℕ} → Storage → Idle row_count → Data Fault
data_in rows i = record { rows = rows; layouts = i.layouts; kept = None; parts = i.parts }

module _ (table : ArrayTable) (row_count : ℕ) (moves : ℕ → List NewMapping) (code : List Instruction) (n many : ℕ) where
  -- All that is asked at the entry, wherever the rows lie. `is_index` says which scalars are indices of the nest and of loops in it
  pub record NestBegins (line pc v : ℕ) (nest : Nest) (loop : Loop) (block body : Block) (s : State) (slots : List ℤ) (rows : Storage)
      (h : NestStands table row_count moves code n many line pc v nest loop block body s slots rows) : Type 0 where
    pub is_index : ℕ → Bool
    pub same_index : (k : ℕ) → k < n → is_index k ≡ h.form.all k
    pub no_index : (k : ℕ) → n ≤ k → is_index k ≡ false
    pub ok : IsCodedBlock (names_in table n nest body (along v nest.loops) is_index) s [] body
    pub start : Storage
    pub begun : (i : Idle row_count) → IsBegun (meaning_of table) code (is_before (place_after n line pc v nest body)) (names_in table n nest body (along v nest.loops) is_index) (code_in n line pc v nest body) h.form.all s loop
        block body ok start slots (data_in rows i)
    pub held : (i : Idle row_count) → HoldsRows (names_in table n nest body (along v nest.loops) is_index) (code_in n line pc v nest body) s
        (count_body (machine_body (names_in table n nest body (along v nest.loops) is_index) (code_in n line pc v nest body) s body ok)) start (data_in rows i)
    pub have : HasFinals (names_in table n nest body (along v nest.loops) is_index) (code_in n line pc v nest body) s body ok start slots
    pub free : (k : ℕ) → has_copies ((names_in table n nest body (along v nest.loops) is_index).kinds k) ≡ true → h.form.all k ≡ false
    pub named : (x : ℕ) → n ≤ x → NotAmong x (finals n nest body)
    -- a run over the code that ends after it or with a fault passes the nest's parts
    pub trail : (i : Idle row_count) (k : ℕ) → StaysQuiet (meaning_of table) (is_before (place_after n line pc v nest body)) k (stands table row_count moves code pc slots rows s.printed i)
        → ((steps (meaning_of table) k (stands table row_count moves code pc slots rows s.printed i)).control.at ≡ place_after n line pc v nest body)
        ⊎ ((f : Fault) × ((steps (meaning_of table) k (stands table row_count moves code pc slots rows s.printed i)).control.status ≡ machine.Faulted f))
        → IsTrail moves (passed table k (stands table row_count moves code pc slots rows s.printed i)) (nest_trail nest body s)
    pub long : length (code_of (names_in table n nest body (along v nest.loops) is_index) (code_in n line pc v nest body) s body ok)
        ≡ length (nest_instructions line (along v nest.loops) (nest_beside nest body) (text_in n nest body) (test_in n nest body) (stored n nest body) (finals n nest body) (plain body) (v + 4 * length nest.loops) pc)

  module _ (copies : HasCopies table n) (line pc v : ℕ) (nest : Nest) (loop : Loop) (block body : Block) (s : State) (slots : List ℤ) (rows : Storage)
      (h : NestStands table row_count moves code n many line pc v nest loop block body s slots rows) (b : NestBegins line pc v nest loop block body s slots rows h)
      (some : iteration_count nest s ≡ 0 → ⊥) where
    abbrev w : NestNames
    w = names_in table n nest body (along v nest.loops) b.is_index

    abbrev c : NestCode
    c = code_in n line pc v nest body

    abbrev r : Run
    r = nest_run table row_count moves code n many line pc v nest loop block body h.form s slots rows

    abbrev end : ℕ
    end = place_after n line pc v nest body

    abbrev Ends : Idle row_count → Type 0
    Ends i = EndsAsMeant (meaning_of table) code (is_before end) i.joined [] s.printed w c h.form.all s loop block body b.ok b.start slots (data_in rows i) r

    abbrev Faults : Idle row_count → Type 0
    Faults i = FaultsAsMeant (meaning_of table) code (is_before end) i.joined [] s.printed w c h.form.all s loop block body b.ok b.start slots (data_in rows i) r

    both-ways : (i : Idle row_count) → Ends i ⊎ Faults i
    both-ways i = nests-end (meaning_of table) code (is_before end) i.joined [] s.printed w c h.form.all s loop block body b.ok b.start slots (data_in rows i) (b.begun i)

    -- one way in which the rows may lie
    first : Idle row_count
    first = record { layouts = replicate row_count (table.copies [] None []); parts = 0; joined = pos 0; laid = length-replicate row_count (table.copies [] None []) }

    ended-so : (one other : State) → r ≡ normal one → r ≡ normal other → one ≡ other
    ended-so one other e f = ap (λ (x : Run). x.state) (sym e ∙ f)

    -- ---- both end normally

    module _ (e : Ends first) where
      abbrev slots' : List ℤ
      slots' = e.after.slots

      abbrev rows' : Storage
      rows' = e.after.data'.rows

      never-faults : (i : Idle row_count) → Faults i → ⊥
      never-faults i f = let z : Normal ≡ runs.Faulted f.fault = ap (λ (x : Run). x.completion) (sym e.ends ∙ f.ends) in absurd cc

      ends : (i : Idle row_count) → Ends i
      ends i = ⊎_elim (λ x. x) (λ f. absurd (never-faults i f)) (both-ways i)

      -- scalars that are no indices
      scalar-is : (i : Idle row_count) (k : ℕ) → k < n → h.form.all k ≡ false → slot (ends i).after.slots k ≡ scalar (ends i).state k
      scalar-is i k lt off = scalar-held (meaning_of table) code (is_before end) i.joined [] s.printed w c h.form.all s loop block body b.ok b.start slots (data_in rows i) r (ends i) (b.begun i).holds
          b.have k lt off (b.same_index k lt ∙ off)

      -- the slots are the same, wherever the rows lie
      slot-same : (i : Idle row_count) (x : ℕ) → slot (ends i).after.slots x ≡ slot slots' x
      slot-same i x = ⊎_elim (λ (lt : x < n). by_cases (has_copies (w.kinds x)) (copied lt) (λ none. by_after (b.have.others x lt none))) (λ (le : n ≤ x). by_after (b.named x le)) (cases_lt x n)
        where
          by_after : NotAmong x c.finals → slot (ends i).after.slots x ≡ slot slots' x
          by_after off = (ends i).after.indices x off ∙ sym (e.after.indices x off)

          copied : x < n → has_copies (w.kinds x) ≡ true → slot (ends i).after.slots x ≡ slot slots' x
          copied lt has =
              scalar-is i x lt (b.free x has) ∙ ap (λ (z : State). scalar z x) (ended-so (ends i).state e.state (ends i).ends e.ends)
              ∙ sym (scalar-held (meaning_of table) code (is_before end) first.joined [] s.printed w c h.form.all s loop block body b.ok b.start slots (data_in rows first) r e (b.begun first).holds
              b.have x lt (b.free x has) (b.same_index x lt ∙ b.free x has))

      slots-same : (i : Idle row_count) → (ends i).after.slots ≡ slots'
      slots-same i = ext_get_or (pos 0) (ends i).after.slots slots' ((ends i).after.size ∙ sym e.after.size) (λ x lt. slot-same i x)

      rows-same : (i : Idle row_count) → (ends i).after.data'.rows ≡ rows'
      rows-same i = (ends i).after.rows_are
          ∙ same-rows (nest_layout w.table w.over w.beside) (λ one other z. copies.sized one (anchor_in z w.over w.beside) _ ∙ sym (copies.sized other (anchor_in z w.over w.beside) _)) (texts_of w) (counting_at c.line) (iterations_at w.over) c.stored c.finals
          (machine_body w c s body b.ok) c.slot slots (data_in rows i) (data_in rows first) refl
          ∙ sym e.after.rows_are

      printed-is : e.state.printed ≡ s.printed
      printed-is = e.same.printed

      reach : Reaches table row_count moves code (nest_trail nest body s) (stands table row_count moves code pc slots rows s.printed) (stands table row_count moves code end slots' rows' s.printed)
      reach i =
          let a = (ends i).after in
          let j : Idle row_count = record { layouts = a.data'.layouts; parts = 0; joined = i.joined; laid = a.laid ∙ i.laid } in
          let m' : Machine Instruction Fault = stands table row_count moves code end slots' rows' s.printed j in (
            a.count',
            j,
            a.reach ∙ (λ t. record m' {
              control = record (m'.control) { at = pc + b.long t; slots = slots-same i t };
              rows = rows-same i t;
              kept = a.kept t;
              parts = a.parts t;
            }),
            b.trail i a.count' a.quiet (inl (ap (λ (m : Machine Instruction Fault). m.control.at) a.reach ∙ (λ t. pc + b.long t))),
          )

      done : NestDone table row_count moves code n many v nest loop block body h.form s e.state slots slots' rows'
      done = record {
        scalars = λ k lt off. scalar-held (meaning_of table) code (is_before end) first.joined [] s.printed w c h.form.all s loop block body b.ok b.start slots (data_in rows first) r e
            (b.begun first).holds b.have k lt off (b.same_index k lt ∙ off);
        inner = λ k lt is off. index-held (meaning_of table) code (is_before end) first.joined [] s.printed w c h.form.all s loop block body b.ok b.start slots (data_in rows first) r (b.begun first) e
            b.have some (λ j less on. h.holds.scalars j less) k lt is (b.same_index k lt ∙ is) off;
        settled = e.indices;
        arrays = arrays-held (meaning_of table) code (is_before end) first.joined [] s.printed w c h.form.all s loop block body b.ok b.start slots (data_in rows first) r e (b.begun first).holds
            (b.held first);
        places = e.same.count ∙ state-scalars w.kinds s e.storage ∙ h.holds.places;
        more_places = ap length e.same.arrays ∙ state-arrays w.kinds s e.storage ∙ h.holds.more_places;
        printed = printed-is;
        rows = e.after.long ∙ h.holds.more_rows;
        size = e.after.size ∙ h.holds.size;
        kept = λ x from lt. e.after.others x lt (b.named x from) (b.no_index x from);
      }

      normal-end : StatementsEnd table row_count moves code n many line pc v nest loop block body h.form s slots rows
      normal-end = record { state = e.state; slots' = slots'; rows' = rows'; ends = e.ends; reach = reach; done = done }

    -- ---- both end with one fault

    module _ (f : Faults first) where
      never-ends : (i : Idle row_count) → Ends i → ⊥
      never-ends i e = let z : Normal ≡ runs.Faulted f.fault = ap (λ (x : Run). x.completion) (sym e.ends ∙ f.ends) in absurd cc

      faults : (i : Idle row_count) → Faults i
      faults i = ⊎_elim (λ e. absurd (never-ends i e)) (λ x. x) (both-ways i)

      abbrev fault-of : Completion → Fault
      fault-of (runs.Faulted g) = g
      fault-of flow = f.fault

      same-fault : (i : Idle row_count) → (faults i).fault ≡ f.fault
      unfolding faults
      same-fault i = ap (λ (x : Run). fault-of x.completion) (sym (faults i).ends ∙ f.ends)

      stops : Stops table row_count moves code (nest_trail nest body s) (stands table row_count moves code pc slots rows s.printed) f.fault s.printed
      stops i =
          let a = (faults i).machine in (
            a.last,
            (a.count, a.reach, b.trail i a.count a.quiet (inr ((faults i).fault, ap (λ (m : Machine Instruction Fault). m.control.status) a.reach ∙ a.status))),
            a.status ∙ ap machine.Faulted (same-fault i),
            a.bytes,
            a.kept,
          )

      fault-end : StatementsFault table row_count moves code n many line pc v nest loop block body h.form s slots rows
      fault-end = record { fault = f.fault; state = f.state; ends = f.ends; quiet = f.quiet; stops = stops }

    pub statements-end : StatementsEnd table row_count moves code n many line pc v nest loop block body h.form s slots rows
        ⊎ StatementsFault table row_count moves code n many line pc v nest loop block body h.form s slots rows
    statements-end = ⊎_elim (λ e. inl (normal-end e)) (λ f. inr (fault-end f)) (both-ways first)
