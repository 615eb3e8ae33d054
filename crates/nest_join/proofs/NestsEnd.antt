-- A nest's code on the machine ends as the meaning's run of the nest does.
use Rattle.std.proofs.Common.{◌≡◌, ℕ, ◌+◌, ◌⊎◌, inl, inr, List, [], length, ℤ, Bool, None, refl, sym, subst, arith}
use Rattle.storage.specs.Storage.{Storage}
use Rattle.storage.specs.Effect.{Effect}
use Rattle.storage.specs.Parted.{parted, kept, NoneKept, IsLeastKept}
use Rattle.nest_order.specs.Items.{Items}
use Rattle.nest_order.specs.Nest.{nest_act}
use Rattle.nest_order.specs.Copies.{InIteration, items_in, copied}
use Rattle.nest_order.specs.Scalars.{PartedAgrees}
use Rattle.array_meaning.specs.Statements.{Loop, Block, Do, Outermost}
use Rattle.array_meaning.specs.Faults.{Fault}
use Rattle.array_meaning.specs.State.{State}
use Rattle.array_meaning.specs.Execution.{run}
use Rattle.array_meaning.specs.Iterations.{iteration_count, at_iteration}
use Rattle.machine_steps.specs.Instr.{Instr}
use Rattle.node_run.proofs.PartsInARow as parts
use Rattle.nest_items.specs.NestItems.{one, iteration_items, Action, Condition}
use Rattle.nest_parts.specs.NestParts as whole
use Rattle.nest_parts.proofs.Parts.{nest_finishes, nest_faults}
use Rattle.nest_machine.specs.Entries.{rows_after}
use Rattle.nest_machine.specs.Body.{Body, count_body}
use Rattle.nest_machine.specs.BodyCode.{Texts}
use Rattle.nest_machine.specs.Counting.{Counting}
use Rattle.nest_machine.specs.Slots.{slots_after}
use Rattle.nest_machine.specs.Trace.{Data, trace}
use Rattle.nest_machine.specs.ItemsAt.{items_at}
use Rattle.nest_machine.specs.Finals.{EndsFaulted}
use Rattle.nest_machine.specs.PlacedEnds.{PlacedAfter}
use Rattle.nest_machine.proofs.Slots.{same-refl}
use Rattle.nest_machine.proofs.KeptFaults.{faults, no_left}
use Rattle.nest_machine.proofs.PlacedActs.{act_number}
use Rattle.nest_machine.proofs.Nests.{nest-runs}
use Rattle.code_meaning.specs.NestStatements.{iterations_at}
use Rattle.nest_texts.specs.NestLoops.{counting_at}
use Rattle.nest_texts.specs.NestBodies.{nest_layout}
use Rattle.nest_texts.proofs.Counting.{is-counting}
use Rattle.nest_join.specs.NestNames.{NestNames}
use Rattle.nest_join.specs.NestTexts.{NestAction, NestCondition, texts_of, action_at, condition_at}
use Rattle.nest_join.specs.CodedBlocks.{IsCodedBlock}
use Rattle.nest_join.specs.NestRuns.{NestCode, machine_body, code_of, acts_of, IsBegun, EndsAsMeant, FaultsAsMeant}
use Rattle.nest_join.proofs.TextValues.{texts-mean}
use Rattle.nest_join.proofs.SameItems.{takes, items-block}

module _ {I : Type 0} (meaning : I → Instr Fault) (code : List I) (is_quiet : ℕ → Bool) (joined : ℤ) (line printed : List ℕ) (w : NestNames) (c : NestCode) (all : ℕ → Bool) (s : State)
    (loop : Loop) (block body : Block) (ok : IsCodedBlock w s [] body) (start : Storage) (entry : List ℤ) (d : Data Fault)
    (h : IsBegun meaning code is_quiet w c all s loop block body ok start entry d) where
  abbrev texts : Texts (NestAction w) (NestCondition w) Fault
  texts = texts_of w

  abbrev counting : Counting Fault
  counting = counting_at c.line

  abbrev coded : Body (NestAction w) (NestCondition w)
  coded = machine_body w c s body ok

  abbrev n : ℕ
  n = iteration_count w.nest s

  abbrev many : ℕ
  many = acts_of w c s body ok entry

  abbrev copies : Storage
  copies = whole.copies w.kinds w.nest s start

  abbrev items : ℕ → Items (InIteration Action) (InIteration Condition)
  items i = items_at counting (action_at w s) (condition_at w s) i coded c.slot entry

  abbrev act : ℕ → ℕ → Storage → Effect Fault
  act = nest_act (copied w.kinds (one w.kinds)) c.row items

  abbrev act' : ℕ → ℕ → Storage → Effect Fault
  act' = whole.acts w.kinds w.nest body s c.row

  same-items : (i : ℕ) → items i ≡ items_in i (iteration_items w.nest body s i)
  same-items i = items-block w c.line c.slot entry s h.holds h.outside i [] body ok (at_iteration w.nest s i) c.slot entry (omega arith)
      (record { same = same-refl w.is_index c.slot entry; state = refl; off = tt }) h.room

  same-act : act ≡ act'
  same-act = λ j. nest_act (copied w.kinds (one w.kinds)) c.row (λ i. same-items i j)

  abbrev number : ℕ → ℕ
  number = act_number d.parts (trace texts counting (iterations_at w.over) c.stored coded None 0 c.slot entry)

  abbrev After : Storage → Type 0
  After = PlacedAfter meaning code is_quiet joined line printed c.pc (c.pc + length (code_of w c s body ok)) texts c.stored c.row (count_body coded) c.slot w.place w.is_row w.is_index
      w.kinds start c.finals (slots_after counting coded c.slot entry) entry
      (rows_after texts counting (iterations_at w.over) (nest_layout w.table w.over w.beside) c.stored c.finals coded c.slot entry d) d

  abbrev MachineEnds : Type 0
  MachineEnds = (NoneKept act copies n many × ((m : Storage) → PartedAgrees w.kinds c.row (kept act copies n) many n start m (parted act copies n many) → After m))
      ⊎ ((i : ℕ) × (j : ℕ) × (f : Fault) × IsLeastKept act copies n many i j f × EndsFaulted meaning code is_quiet joined line printed c.pc entry d f)

  machine-ends : MachineEnds
  machine-ends = nest-runs meaning code is_quiet joined line printed texts counting (is-counting c.line) (iterations_at w.over) (nest_layout w.table w.over w.beside) c.stored c.row
      (copied w.kinds (one w.kinds)) (action_at w s) (condition_at w s) coded c.slot c.pc n entry d w.place w.is_row w.is_index c.alike c.finals w.kinds start
      h.has h.room (takes w c.line c.slot entry s h.holds h.outside w.is_index [] body ok (λ k e. e)) h.outside (texts-mean w c.slot entry s h.holds) h.fit h.one_place h.memory
      h.empty h.apart h.few h.itself
      (parts.none-kept (faults act copies n number) (no_left act copies n number) copies n number)
      (λ k l rising e. parts.least-kept (faults act copies n number) (no_left act copies n number) copies n number k rising l e)

  abbrev Ends : Type 0
  Ends = EndsAsMeant meaning code is_quiet joined line printed w c all s loop block body ok start entry d (run (Do (Outermost w.nest body) loop block) c.line s)
      ⊎ FaultsAsMeant meaning code is_quiet joined line printed w c all s loop block body ok start entry d (run (Do (Outermost w.nest body) loop block) c.line s)

  pub nests-end : Ends
  nests-end = by_end machine-ends
    where
      by_end : MachineEnds → Ends
      by_end (inl (none, after)) =
          let e = nest_finishes w.kinds all s w.nest c.line loop block body start c.row many h.enters (subst (λ x. NoneKept x copies n many) same-act none) in
          inl (record {
            state = e.state;
            storage = e.storage;
            ends = e.ends;
            same = e.same;
            indices = e.indices;
            alike = e.alike;
            after = after e.storage (subst (λ x. PartedAgrees w.kinds c.row (kept x copies n) many n start e.storage (parted x copies n many)) (sym same-act) e.agrees);
          })
      by_end (inr (i, j, f, least, machine)) =
          let e = nest_faults w.kinds all s w.nest c.line loop block body start c.row many h.enters i j f (subst (λ x. IsLeastKept x copies n many i j f) same-act least) in
          inr (record { fault = f; state = e.0; ends = e.1; quiet = e.2; machine = machine })
