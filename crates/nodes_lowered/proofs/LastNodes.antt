-- Nodes that agree with a machine that has ended as a program's run are the last nodes of it.
use Rattle.std.proofs.Common.{◌≡◌, ℕ, zero, suc, ◌<◌, ◌≤◌, ◌⊎◌, inl, inr, pos, List, [], ◌∷◌, length, take, get_or, Option, Some, None, refl, sym, ap, subst, ◌∙◌, arith}
use Rattle.std.specs.List.{slice_get}
use Rattle.std.proofs.Math.ListN.{get_or-map}
use Rattle.std.proofs.lemmas.Bool.{cases_lt, le-ltb, lt-ltb}
use Rattle.std.proofs.lemmas.List.{length-map}
use Rattle.std.proofs.lemmas.Option.{same_Some}
use Rattle.hpf_base.specs.declared.index.Shape.{Shape}
use Rattle.mappings.specs.declared.mapping.Mapping.{Mapping}
use Rattle.syntax_tree.specs.MainProgram.{MainProgram}
use Rattle.name_table.specs.Entries.{entries}
use Rattle.storage.specs.Storage.{Storage, read, row_of}
use Rattle.array_meaning.specs.Faults.{Fault}
use Rattle.array_meaning.specs.Resolution.{resolved_block}
use Rattle.array_meaning.specs.Runs as runs
use Rattle.array_meaning.specs.Runs.{Completion, Normal, Exited, Cycled, Stopped, Run}
use Rattle.array_meaning.specs.Serial as serial
use Rattle.array_meaning.specs.Serial.{Outcome, end_of}
use Rattle.array_meaning.specs.State.{Array, State, no_array}
use Rattle.statement_trail.specs.Trail.{serial_trail}
use Rattle.passed_states.specs.TrailLayouts.{trail_layouts}
use Rattle.machine_steps.specs.Layout.{Layout, least_owner_of, owned_in, piece, pieces}
use Rattle.machine_steps.specs.Machine.{Kept, Machine}
use Rattle.machine_steps.specs.Node.{Node, at_root, local_read}
use Rattle.machine_steps.specs.Agrees.{Agree, IsWhole, Own, by_number, standing}
use Rattle.node_code.specs.Instructions.{Instruction, NewMapping}
use Rattle.code_meaning.specs.Instructions.{remappings}
use Rattle.code_meaning.specs.FaultValues.{fault_values}
use Rattle.code_meaning.specs.ProgramText.{Text, text, text_meaning, texts}
use Rattle.nest_standing.specs.Lowered.{EndsAs, IsLeft}
use Rattle.nest_standing.specs.StatementCode.{program_code}
use Rattle.node_run.specs.Coded.{with_code}
use Rattle.node_run.proofs.PieceLaws.{read-local}
use Rattle.node_run.proofs.Reading.{least-owns, size-row}
use Rattle.nodes_lowered.specs.OnNodes.{program_run}
use Rattle.nodes_lowered.specs.ProgramRuns.{AreLastNodes, IsLastNode, end_by_status, program_shapes}

-- ---- the machine's end

pub ended-so : (n : ℕ) (m : Machine Instruction Fault) (s : State) (c : Completion) → EndsAs n m s c → end_by_status m.control.status ≡ Some (end_of c)
ended-so n m s Normal h = ap end_by_status h.0
ended-so n m s Exited h = ap end_by_status h.0
ended-so n m s Cycled h = ap end_by_status h.0
ended-so n m s Stopped h = ap end_by_status h.0
ended-so n m s (runs.Faulted f) h = ap end_by_status h.0

printed-so : (n : ℕ) (m : Machine Instruction Fault) (s : State) (c : Completion) → EndsAs n m s c → m.printed ≡ s.printed
printed-so n m s Normal h = h.1
printed-so n m s Exited h = h.1
printed-so n m s Cycled h = h.1
printed-so n m s Stopped h = h.1
printed-so n m s (runs.Faulted f) h = h.1

unkept-so : (n : ℕ) (m : Machine Instruction Fault) (s : State) (c : Completion) → EndsAs n m s c → m.kept ≡ None
unkept-so n m s Normal h = h.3
unkept-so n m s Exited h = h.3
unkept-so n m s Cycled h = h.3
unkept-so n m s Stopped h = h.3
unkept-so n m s (runs.Faulted f) h = h.2

left-so : (n : ℕ) (m : Machine Instruction Fault) (s : State) (c : Completion) → EndsAs n m s c → end_of c ≡ serial.Finished → IsLeft n m s
left-so n m s Normal h finished = h.2
left-so n m s Exited h finished = h.2
left-so n m s Cycled h finished = h.2
left-so n m s Stopped h finished = h.2
left-so n m s (runs.Faulted f) h finished = absurd cc

-- ---- the nodes

-- a node's piece of a row
piece-row : (layouts : List Layout) (p : ℕ) (rows : Storage) (a : ℕ) → row_of (pieces layouts p rows) a ≡ piece (owned_in layouts a) p (row_of rows a)
piece-row [] p [] a = refl
piece-row (layout ∷ layouts) p [] a = refl
piece-row [] p (row ∷ rows) zero = refl
piece-row [] p (row ∷ rows) (suc a) = piece-row [] p rows a
piece-row (layout ∷ layouts) p (row ∷ rows) zero = refl
piece-row (layout ∷ layouts) p (row ∷ rows) (suc a) = piece-row layouts p rows a

-- a node of so many has a number below
numbered : {A : Type 0} (count p : ℕ) (nodes : ℕ → A) (node : A) → by_number count nodes p ≡ Some node → (p < count) × (nodes p ≡ node)
numbered count p nodes node h = by (cases_lt p count)
  where
    by : (p < count) ⊎ (count ≤ p) → (p < count) × (nodes p ≡ node)
    by (inl lt) = (lt, same_Some (nodes p) node (rw (lt-ltb p count lt) at h))
    by (inr ge) = absurd (let none : None ≡ Some node = rw (le-ltb p count ge) at h in cc)

-- the nodes after the first, by number
after-first : {A : Type 0} (count p : ℕ) (nodes : ℕ → A) → by_number (suc count) nodes (suc p) ≡ by_number count (λ q. nodes (suc q)) p
after-first count p nodes = by (cases_lt p count)
  where
    by : (p < count) ⊎ (count ≤ p) → by_number (suc count) nodes (suc p) ≡ by_number count (λ q. nodes (suc q)) p
    by (inl lt) = let more : suc p < suc count = omega (arith, lt) in rw (lt-ltb p count lt, lt-ltb (suc p) (suc count) more) refl
    by (inr ge) = let more : suc count ≤ suc p = omega (arith, ge) in rw (le-ltb p count ge, le-ltb (suc p) (suc count) more) refl

-- a list of all nodes, by number, has as many
as-many : {A : Type 0} (count : ℕ) (nodes : ℕ → A) (xs : List A) → ((p : ℕ) → slice_get xs p ≡ by_number count nodes p) → length xs ≡ count
as-many zero nodes [] are = refl
as-many zero nodes (x ∷ xs) are = absurd (let none : Some x ≡ None = are 0 in cc)
as-many (suc count) nodes [] are =
    let some : 0 < suc count = omega arith in
    let first = are 0 in
    absurd (let none : None ≡ Some (nodes 0) = rw (lt-ltb 0 (suc count) some) at first in cc)
as-many (suc count) nodes (x ∷ xs) are = ap suc (as-many count (λ p. nodes (suc p)) xs (λ p. are (suc p) ∙ after-first count p nodes))

module _ (nodes : ℕ) (p : MainProgram) (maps : List Mapping) (moves : ℕ → List NewMapping) (first : List Layout) (some : 0 < nodes) (number : ℕ)
    (m : Machine Instruction Fault) (own : Own Fault) (shapes : List Shape)
    (whole : IsWhole nodes shapes (with_code (text nodes maps (program_shapes p)) m))
    (agree : Agree fault_values text_meaning nodes (with_code (text nodes maps (program_shapes p)) m) own)
    (code : m.code ≡ program_code (length (entries p)) moves (resolved_block (entries p) p.body))
    (moved : take (length (entries p)) m.layouts ≡ trail_layouts (λ line. remappings maps (moves line)) (serial_trail p) (take (length (entries p)) first))
    (ends : EndsAs (length (entries p)) m (program_run p).state (program_run p).completion) where
  abbrev n : ℕ
  n = length (entries p)

  abbrev r : Run
  r = program_run p

  abbrev o : Outcome
  o = serial.serial p

  abbrev on_texts : Machine Text Fault
  on_texts = with_code (text nodes maps (program_shapes p)) m

  left : o.end ≡ serial.Finished → IsLeft n m r.state
  left finished = left-so n m r.state r.completion ends finished

  arrays : o.end ≡ serial.Finished → (a : ℕ) → a < n → row_of m.rows a ≡ row_of o.arrays a
  arrays finished a lt = (left finished).1 a lt ∙ sym (get_or-map (λ (x : Array). x.elements) r.state.arrays a no_array)

  -- where the machine keeps no fault, no node does
  unkept : (q : ℕ) → q < nodes → own.kept q ≡ None
  unkept q lt = by_kept (own.kept q) refl
    where
      by_kept : (k : Option (Kept Fault)) → own.kept q ≡ k → own.kept q ≡ None
      by_kept None e = e
      by_kept (Some k) e =
          let one = agree.kept.others q lt k e in
          absurd (let none : None ≡ Some one.0 = sym (unkept-so n m r.state r.completion ends) ∙ one.1 in cc)

  standing-last : (q : ℕ) → q < nodes → IsLastNode nodes p maps moves m.control m.layouts number m.parts q (standing nodes on_texts number own q)
  standing-last q lt = record {
    number = refl;
    among = refl;
    coded = ap (texts nodes maps (program_shapes p)) code;
    stands = refl;
    laid = refl;
    phase_is = refl;
    ready = refl;
    received = refl;
    parts_are = refl;
    kept = unkept q lt;
    printed = ap (at_root q) (printed-so n m r.state r.completion ends);
    pieces = λ finished a lt. piece-row m.layouts q m.rows a ∙ ap (λ row. piece (owned_in m.layouts a) q row) (arrays finished a lt);
  }

  pub last-nodes : (last : List (Node Text Fault)) → ((q : ℕ) → slice_get last q ≡ by_number nodes (standing nodes on_texts number own) q)
      → AreLastNodes nodes p maps moves first last
  last-nodes last are = record {
    control = m.control;
    layouts = m.layouts;
    phase = number;
    parts = m.parts;
    some = some;
    many = as-many nodes (standing nodes on_texts number own) last are;
    each = λ q node at. subst (IsLastNode nodes p maps moves m.control m.layouts number m.parts q) (is q node at).1 (standing-last q (is q node at).0);
    matched = λ q s source target from to.
        ap (λ (x : Node Text Fault). get_or x.next_to s 0) (sym (is q source from).1)
        ∙ agree.numbers.same q s (is q source from).0 (is s target to).0
        ∙ ap (λ (x : Node Text Fault). get_or x.next_from q 0) (is s target to).1;
    ended = ended-so n m r.state r.completion ends;
    moved = moved;
    owned = whole.owned;
    scalars = λ finished. (left finished).0;
    count = λ finished. length-map r.state.arrays (λ (x : Array). x.elements) ∙ (left finished).2;
    sized = λ finished a lt. size-row nodes m.layouts m.rows whole.shaped whole.owned a ∙ ap length (arrays finished a lt);
    elements = λ finished spot node lt inside at.
        let owner : ℕ = least_owner_of nodes m.layouts spot in
        subst (λ (x : Node Text Fault). local_read m.layouts owner x.pieces spot ≡ read o.arrays spot) (is owner node at).1
        (read-local m.layouts owner m.rows spot (least-owns nodes m.layouts m.rows whole.shaped whole.owned spot inside).0
        ∙ ap (λ row. get_or row spot.at (pos 0)) (arrays finished spot.row lt));
  }
    where
      is : (q : ℕ) (node : Node Text Fault) → slice_get last q ≡ Some node → (q < nodes) × (standing nodes on_texts number own q ≡ node)
      is q node at = numbered nodes q (standing nodes on_texts number own) node (sym (are q) ∙ at)
