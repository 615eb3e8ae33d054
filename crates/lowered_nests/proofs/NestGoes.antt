-- The code of a nest, after its entry, goes on the machine as the meaning's run.
use Rattle.std.proofs.Common.{◌≡◌, ℕ, ◌+◌, ◌*◌, ◌<◌, ◌≤◌, ◌⊎◌, inl, inr, List, [], ◌∷◌, length, ℤ, pos, Bool, true, false, None, Ok, refl, sym, ap, ◌∙◌, subst, arith, slice_index_or}
use Rattle.std.specs.Prelude.{◌==◌, if◌then◌else◌}
use Rattle.std.specs.List.{AllByRecursion}
use Rattle.std.specs.Result.{result_unwrap_or}
use Rattle.std.proofs.lemmas.Bool.Decides.{nat_tests}
use Rattle.std.proofs.lemmas.Option.{none-some}
use Rattle.storage.specs.Storage.{Storage}
use Rattle.nest_syntax.specs.NestKinds.{Kind, kind_of}
use Rattle.array_meaning.specs.declared.sections.Sequence.{Sequence}
use Rattle.array_meaning.specs.Sections.{sequence}
use Rattle.array_meaning.specs.State.{State, Array, no_array, scalar, set_scalar}
use Rattle.array_meaning.specs.Statements.{Loop, Nest, Block, Done, Do, Outermost}
use Rattle.array_meaning.specs.Runs.{Run, normal, then_do, with_value, one_step}
use Rattle.array_meaning.specs.Execution.{iterate, run, run_block}
use Rattle.array_meaning.specs.Expressions.{index_values}
use Rattle.array_meaning.specs.Iterations.{values_of, iteration_count, turn_value}
use Rattle.statement_trail.specs.NestParts.{entered_nest}
use Rattle.statement_trail.specs.Trail.{block_parts, nest_trail}
use Rattle.array_meaning.specs.NestEntry.{check_nest}
use Rattle.code_meaning.specs.Flat.{slot}
use Rattle.node_code.specs.Instructions.{Instruction, NewMapping}
use Rattle.code_meaning.specs.Instructions.{ArrayTable}
use Rattle.lowered_expressions.specs.WellFormed.{IsWellFormedBlock}
use Rattle.lowered_expressions.proofs.Reach.{HasAt, Place, Reaches, reaches-on, reaches-last, Stops, stops-on, stands, SameBelow}
use Rattle.lowered_expressions.proofs.Terms.{HoldsArrays}
use Rattle.lowered_expressions.proofs.Goes.{Holds, Kept, Goes}
use Rattle.nest_items.specs.BlockForms.{HasForm}
use Rattle.nest_items.specs.NestForm.{IsNest}
use Rattle.nest_items.specs.Settled.{settled_by, without}
use Rattle.program_code.specs.NestInstructions.{slots_of_nest}
use Rattle.program_code.specs.NestCode.{plain, inner_bounds, nest_rows, nest_slots, nest_code}
use Rattle.lowered_nests.proofs.NestRuns.{HasCopies, NestStands, NestDone, StatementsEnd, StatementsFault}
use Rattle.lowered_nests.proofs.StatementsRuns.{statements-run}
use Rattle.fitting_states.specs.FittingStates.{StateFits, ControlFits}
use Rattle.lowered_nests.proofs.IndexValues.{AreOther, AreApart, IsIndexOf, other-or-index, none-index, HaveTurns, IsEmpty, turns-or-empty, left, left-none, some-iterations, no-iterations}
use Rattle.lowered_nests.proofs.NestLoops.{all-below, all-free, index-free, IsLoop, loops-are, other-loops, loops-apart, IsNear, near-set}
use Rattle.lowered_nests.proofs.EmptyNests.{loop-ends, block-ends}
use Rattle.lowered_nests.proofs.SettledNests.{loop-settles, block-settles}
use Rattle.lowered_nests.proofs.LoopBounds.{HaveBounds, first-kept, bounds-kept, axes-in}
use Rattle.lowered_nests.proofs.LoopTrips.{Steps, trips-go, trips-skip, bounds-go}
use Rattle.lowered_nests.proofs.IndexCode.{indices-go}
use Rattle.lowered_nests.proofs.NestPieces.{at_trips, at_statements, at_indices, end, HasPieces, has-pieces, end-is}

module _ (table : ArrayTable) (row_count : ℕ) (moves : ℕ → List NewMapping) (code : List Instruction) (n many : ℕ) (copies : HasCopies table n)
    (declared : length table.shapes ≡ n) (line pc v : ℕ) (nest : Nest) (loop : Loop) (block body : Block) (s : State) (slots : List ℤ) (rows : Storage) (form : HasForm nest loop block body)
    (named : IsWellFormedBlock n block) (index : loop.index < n) (with_statements : body ≡ Done → ⊥) (control : ControlFits loop.control) (from : n ≤ v) (few : v + nest_slots nest body ≤ many) (room : n + nest_rows n nest body ≤ row_count) (fits : StateFits s)
    (holds : Holds table row_count moves code n many None s slots rows) (has : HasAt code pc (nest_code n line nest body v pc)) (known : index_values s loop.control ≡ Ok (values_of s loop))
    (first : sequence (slot slots v) (slot slots (v + 1)) (slot slots (v + 2)) ≡ Ok (values_of s loop)) (passed : check_nest nest body s ≡ Ok s) (leave again : ℕ) where
  abbrev kinds : ℕ → Kind
  kinds = kind_of form.operators nest body

  abbrev all : ℕ → Bool
  all = form.all

  is : IsNest kinds all nest loop block body
  is = form.form

  abbrev inner : List Loop
  inner = is.inner

  abbrev Near : State → Type 0
  Near = IsNear n kinds all s

  near : Near s
  near = record { scalars = λ k e. refl; places = holds.places }

  loops : AllByRecursion (IsLoop n kinds all) inner
  loops = loops-are n kinds all (without all loop.index) inner block body is.tight named

  below : AllByRecursion (λ (l : Loop). l.index < n) nest.loops
  below = subst (AllByRecursion (λ (l : Loop). l.index < n)) (sym is.loops) (index, all-below n kinds all inner loops)

  free : AllByRecursion (λ (l : Loop). all l.index ≡ true) nest.loops
  free = subst (AllByRecursion (λ (l : Loop). all l.index ≡ true)) (sym is.loops) (is.unseen, all-free n kinds all inner loops)

  apart : AreApart nest.loops
  apart = subst AreApart (sym is.loops)
      (other-loops n kinds all all loop.index inner block body is.tight, loops-apart n kinds all (without all loop.index) inner block body is.tight)

  -- ---- the code

  abbrev trips_at : ℕ
  trips_at = at_trips n line nest body v pc

  abbrev statements_at : ℕ
  statements_at = at_statements n line nest body v pc

  abbrev indices_at : ℕ
  indices_at = at_indices n line nest body v pc

  abbrev to : ℕ
  to = end n line nest body v pc

  pieces : HasPieces n line nest body v pc code
  pieces = has-pieces n line nest body v pc code has

  fit : v + 4 * length nest.loops ≤ many
  fit = let f : v + (4 * length nest.loops + slots_of_nest (plain body)) ≤ many = few in omega (arith, f)

  -- ---- the bounds of inner loops

  abbrev Entered : List Loop → Type 0
  Entered ls = (slots' : List ℤ) × Steps table row_count moves code n many line s rows s.printed pc slots (pc + length (inner_bounds line v ls)) slots' × SameBelow (v + 4) slots slots'
      × HaveBounds s slots' v ls

  enters : HasAt code pc (inner_bounds line v (loop ∷ inner)) → v + 4 * length (loop ∷ inner) ≤ length slots → Entered (loop ∷ inner)
  enters h long =
      let r = bounds-go table row_count moves code n many line s rows s.printed kinds all inner (v + 4) pc slots h loops holds.scalars (omega (arith, from)) (omega (arith, long)) in
      (r.0, r.1, r.2, (first-kept s slots r.0 v (values_of s loop) (λ k le lt. sym (r.2.1 k (omega (arith, lt)))) first, r.3))

  entered : Entered nest.loops
  entered =
      let f = fit in
      let size = holds.size in
      let e : length nest.loops ≡ length (loop ∷ inner) = ap length is.loops in
      subst Entered (sym is.loops)
      (enters (subst (λ ls. HasAt code pc (inner_bounds line v ls)) is.loops pieces.has_bounds) (omega (arith, f, size, e)))

  -- ---- after the statements

  abbrev start : Place row_count
  start = stands table row_count moves code pc slots rows s.printed

  abbrev Goal : Run → Type 0
  Goal r = Goes table row_count moves code n many None leave again (nest_trail nest body s) (pc + length (nest_code n line nest body v pc)) v slots start r

  finish : (r : Run) (slots2 : List ℤ) (rows2 : Storage) (st : State) → Reaches table row_count moves code (nest_trail nest body s) start (stands table row_count moves code indices_at slots2 rows2 s.printed)
      → Kept table row_count moves code n many None v slots slots2 → HaveBounds s slots2 v nest.loops → length slots2 ≡ many
      → ((k : ℕ) → k < n → left s nest.loops k (slot slots2 k) ≡ scalar st k) → HoldsArrays n table.shapes st rows2 → length st.scalars ≡ n → length st.arrays ≡ n
      → st.printed ≡ s.printed → length rows2 ≡ row_count → r ≡ normal st → Goal r
  finish r slots2 rows2 st reach kept has_bounds size scalars arrays places more_places printed long ends =
      let f = fit in
      let q = indices-go table row_count moves code n many line s rows2 s.printed nest.loops v indices_at to slots2 pieces.has_indices refl has_bounds below apart from (omega (arith, f, size)) in
      let reach1 = reaches-last table row_count moves code (nest_trail nest body s) start (stands table row_count moves code indices_at slots2 rows2 s.printed) (stands table row_count moves code to q.0 rows2 s.printed) reach q.1 in
      let reach2 : Reaches table row_count moves code (nest_trail nest body s) start (stands table row_count moves code to q.0 rows2 st.printed) =
      subst (λ out. Reaches table row_count moves code (nest_trail nest body s) start (stands table row_count moves code to q.0 rows2 out)) (sym printed) reach1 in
      let wide = holds.wide in
      let more = holds.more_rows in
      subst Goal (sym ends) (
        q.0,
        rows2,
        subst (λ x. Reaches table row_count moves code (nest_trail nest body s) start (stands table row_count moves code x q.0 rows2 st.printed)) (end-is n line nest body v pc) reach2,
        (λ k le lt. kept k le lt ∙ sym (q.2.others k le lt)),
        record {
          scalars = λ k lt. q.2.indices k lt ∙ scalars k lt;
          arrays = arrays;
          places = places;
          more_places = more_places;
          wide = omega (arith, wide, more, long);
          more_rows = long;
          copied = λ m e. absurd (none-some m e);
          size = q.2.size ∙ size;
        },
      )

  abbrev rest : Run
  rest = iterate (values_of s loop).count loop.index (values_of s loop).first (values_of s loop).step (run_block block) s

  -- ---- a nest without an iteration

  empty-trail : IsEmpty s nest.loops → [] ≡ nest_trail nest body s
  empty-trail empty = by_test (iteration_count nest s == 0) refl
    where
      by_test : (t : Bool) → (iteration_count nest s == 0) ≡ t → [] ≡ (if t then [] else block_parts (entered_nest nest body s) None 0 body s)
      by_test true e = refl
      by_test false e = let z = no-iterations s nest.loops empty in absurd (grind (arith, nat_tests, e, z))

  goes-empty : IsEmpty s nest.loops → Goal rest
  goes-empty empty =
      let i = entered in
      let t = trips-skip table row_count moves code n many line s rows s.printed nest.loops v trips_at indices_at i.0 pieces.has_trips i.3 empty in
      let e = loop-ends n kinds all s loop inner (run_block block) index is.unseen (subst (IsEmpty s) is.loops empty)
      (block-ends n kinds all s inner (without all loop.index) block body is.tight loops) s near in
      finish rest t.0 rows e.0
      (subst (λ V. Reaches table row_count moves code V start (stands table row_count moves code indices_at t.0 rows s.printed)) (empty-trail empty)
      (reaches-on table row_count moves code start (stands table row_count moves code trips_at i.0 rows s.printed) (stands table row_count moves code indices_at t.0 rows s.printed) i.1 t.1))
      (λ k le lt. i.2.1 k (omega (arith, lt)) ∙ t.2.1 k lt) t.3 (sym t.2.0 ∙ sym i.2.0 ∙ holds.size)
      (λ k lt. ap (left s nest.loops k) (sym (t.2.1 k (omega (arith, lt, from))) ∙ sym (i.2.1 k (omega (arith, lt, from))) ∙ holds.scalars k lt)
      ∙ ap (λ ls. left s ls k (scalar s k)) is.loops ∙ sym (e.2.scalars k))
      (record {
        elements = λ a lt. holds.arrays.elements a lt ∙ ap (λ (xs : List Array). (slice_index_or xs a no_array).elements) (sym e.2.arrays);
        shape = λ a lt. ap (λ (xs : List Array). (slice_index_or xs a no_array).dims) e.2.arrays ∙ holds.arrays.shape a lt;
        places = e.2.near.places;
      })
      e.2.near.places (ap length e.2.arrays ∙ holds.more_places) e.2.printed holds.more_rows e.1

  -- ---- a nest that has an iteration

  run-is : run (Do (Outermost nest body) loop block) line s ≡ rest
  run-is = λ i. with_value line s (known i) (λ p. then_do (one_step line s (passed i)) (iterate p.count loop.index p.first p.step (run_block block)))

  module _ (some : HaveTurns s nest.loops) where
    turns : HaveTurns s (loop ∷ inner)
    turns = subst (HaveTurns s) is.loops some

    index-is : (k : ℕ) (w : ℤ) → IsIndexOf k nest.loops → scalar (settled_by s (Do (Outermost nest body) loop block) s) k ≡ left s nest.loops k w
    index-is k w is_index =
        loop-settles n kinds all s k w (Outermost nest body) loop inner block s s index refl turns holds.places (subst (IsIndexOf k) is.loops is_index)
        (λ inside x y long. block-settles n kinds all s k w inner (without all loop.index) block body is.tight loops turns.2 inside
        (set_scalar s loop.index (turn_value (values_of s loop) x)) y (near-set n kinds all s s loop.index (turn_value (values_of s loop) x) is.unseen near) long)
        ∙ ap (λ ls. left s ls k w) (sym is.loops)

    trips-made : (slots' : List ℤ) × Steps table row_count moves code n many line s rows s.printed trips_at entered.0 statements_at slots' × SameBelow v entered.0 slots' × HaveBounds s slots' v nest.loops
    trips-made = trips-go table row_count moves code n many line s rows s.printed nest.loops v trips_at indices_at entered.0 pieces.has_trips entered.3 some

    abbrev slots1 : List ℤ
    slots1 = trips-made.0

    same : (k : ℕ) → k < v → slot slots k ≡ slot slots1 k
    same k lt = entered.2.1 k (omega (arith, lt)) ∙ trips-made.2.1 k lt

    reach : Reaches table row_count moves code [] start (stands table row_count moves code statements_at slots1 rows s.printed)
    reach =
        reaches-on table row_count moves code start (stands table row_count moves code trips_at entered.0 rows s.printed) (stands table row_count moves code statements_at slots1 rows s.printed)
        entered.1 trips-made.1

    begins : NestStands table row_count moves code n many line statements_at v nest loop block body s slots1 rows
    begins = record {
      form = form;
      named = named;
      index = index;
      known = known;
      passed = passed;
      fits = fits;
      statements = with_statements;
      control = control;
      holds = record {
        scalars = λ k lt. sym (same k (omega (arith, lt, from))) ∙ holds.scalars k lt;
        arrays = holds.arrays;
        places = holds.places;
        more_places = holds.more_places;
        wide = holds.wide;
        more_rows = holds.more_rows;
        copied = holds.copied;
        size = sym trips-made.2.0 ∙ sym entered.2.0 ∙ holds.size;
      };
      bounds = axes-in s nest.loops v slots1 trips-made.3;
      from = from;
      few = let f : v + (4 * length nest.loops + slots_of_nest (plain body)) ≤ many = few in omega (arith, f);
      room = room;
      has = pieces.has_statements;
    }

    scalar-held : (state : State) (slots' : List ℤ) (rows' : Storage) → NestDone table row_count moves code n many v nest loop block body form s state slots1 slots' rows'
        → (k : ℕ) → k < n → left s nest.loops k (slot slots' k) ≡ scalar state k
    scalar-held state slots' rows' done k lt = by_index (other-or-index k nest.loops)
      where
        by_free : AreOther k nest.loops → (t : Bool) → all k ≡ t → slot slots' k ≡ scalar state k
        by_free other true e = done.inner k lt e (none-index k nest.loops other)
        by_free other false e = done.scalars k lt e

        by_index : AreOther k nest.loops ⊎ IsIndexOf k nest.loops → left s nest.loops k (slot slots' k) ≡ scalar state k
        by_index (inl other) = left-none s nest.loops k (slot slots' k) other ∙ by_free other (all k) refl
        by_index (inr is_index) = sym (done.settled.values k (index-free n kinds all k nest.loops free is_index) ∙ index-is k (slot slots' k) is_index)

    by-end : StatementsEnd table row_count moves code n many line statements_at v nest loop block body form s slots1 rows
        ⊎ StatementsFault table row_count moves code n many line statements_at v nest loop block body form s slots1 rows → Goal rest
    by-end (inl e) =
        finish rest e.slots' e.rows' e.state
        (reaches-on table row_count moves code start (stands table row_count moves code statements_at slots1 rows s.printed) (stands table row_count moves code indices_at e.slots' e.rows' s.printed) reach e.reach)
        (λ k le lt. same k lt ∙ sym (e.done.kept k le (omega (arith, lt))))
        (bounds-kept s nest.loops v slots1 e.slots' (λ k le lt. e.done.kept k (omega (arith, le, from)) lt) trips-made.3)
        e.done.size (scalar-held e.state e.slots' e.rows' e.done) e.done.arrays e.done.places e.done.more_places e.done.printed e.done.rows (sym run-is ∙ e.ends)
    by-end (inr f) =
        subst Goal (sym (sym run-is ∙ f.ends))
        (subst (λ out. Stops table row_count moves code (nest_trail nest body s) start f.fault out) (sym f.quiet)
        (stops-on table row_count moves code start (stands table row_count moves code statements_at slots1 rows s.printed) f.fault s.printed reach f.stops))

    goes-on-statements : Goal rest
    unfolding begins
    goes-on-statements =
        by-end (statements-run table row_count moves code n many copies declared line statements_at v nest loop block body s slots1 rows begins (some-iterations s nest.loops some))

  pub goes-after-entry : Goal rest
  goes-after-entry = by_case (turns-or-empty s nest.loops)
    where
      by_case : HaveTurns s nest.loops ⊎ IsEmpty s nest.loops → Goal rest
      by_case (inl some) = goes-on-statements some
      by_case (inr empty) = goes-empty empty

-- the code of a nest, after the bounds of its outermost loop are in slots and its entry is checked, makes what is left of the run
pub nest-goes : (table : ArrayTable) (row_count : ℕ) (moves : ℕ → List NewMapping) (code : List Instruction) (n many : ℕ) → HasCopies table n → length table.shapes ≡ n
    → (line pc v : ℕ) (nest : Nest) (loop : Loop) (block body : Block) (s : State) (slots : List ℤ) (rows : Storage) (form : HasForm nest loop block body) → IsWellFormedBlock n block → loop.index < n
    → (body ≡ Done → ⊥) → ControlFits loop.control
    → n ≤ v → v + nest_slots nest body ≤ many → n + nest_rows n nest body ≤ row_count → StateFits s → Holds table row_count moves code n many None s slots rows
    → HasAt code pc (nest_code n line nest body v pc) → (p : Sequence) → index_values s loop.control ≡ Ok p
    → (a z d : ℤ) → slot slots v ≡ a → slot slots (v + 1) ≡ z → slot slots (v + 2) ≡ d → index_values s loop.control ≡ sequence a z d → check_nest nest body s ≡ Ok s → (leave again : ℕ)
    → Goes table row_count moves code n many None leave again (nest_trail nest body s) (pc + length (nest_code n line nest body v pc)) v slots (stands table row_count moves code pc slots rows s.printed)
    (iterate p.count loop.index p.first p.step (run_block block) s)
nest-goes table row_count moves code n many copies declared line pc v nest loop block body s slots rows form named index with_statements control from few room fits holds has p is a z d e1 e2 e3 values passed
    leave again =
    let q : values_of s loop ≡ p = ap (λ r. result_unwrap_or r record { first = pos 0; step = pos 1; count = 0 }) is in
    let known : index_values s loop.control ≡ Ok (values_of s loop) = is ∙ ap Ok (sym q) in
    subst (λ (p : Sequence). Goes table row_count moves code n many None leave again (nest_trail nest body s) (pc + length (nest_code n line nest body v pc)) v slots
    (stands table row_count moves code pc slots rows s.printed) (iterate p.count loop.index p.first p.step (run_block block) s)) q
    (goes-after-entry table row_count moves code n many copies declared line pc v nest loop block body s slots rows form named index with_statements control from few room fits holds has known
    ((λ i. sequence (e1 i) (e2 i) (e3 i)) ∙ sym values ∙ known) passed leave again)
