-- The entry of a loop: one that isn't the outermost of a nest has none, and the code of any other asks what the meaning asks.
use Rattle.std.proofs.Common.{◌≡◌, ℕ, ◌+◌, ◌<◌, ◌≤◌, List, [], ◌∷◌, ◌++◌, length, ℤ, pos, Bool, true, false, if◌then◌else◌, Option, Some, Result, Ok, Err, refl, sym, ap, ◌∙◌, subst, arith, ◌⊎◌, inl, inr, ⊎_elim, map, reverse, slice_index_or, ap₂}
use Rattle.std.specs.List.{AllByRecursion}
use Rattle.std.specs.Result.{result_unwrap_or}
use Rattle.std.proofs.lemmas.List.{get_or_past, reverse-append}
use Rattle.std.proofs.lemmas.Option.{none-some}
use Rattle.std.proofs.lemmas.Bool.{cases_lt}
use Rattle.std.proofs.Math.ListN.{get_or-map}
use Rattle.expression_rules.specs.declared.dims.Dim.{Dim}
use Rattle.op_tables.specs.Operators.{wrapped, is_zero}
use Rattle.array_meaning.specs.Terms.{Scalar}
use Rattle.array_meaning.specs.declared.faults.FaultKind.TheVariants.{ZeroStride}
use Rattle.array_meaning.specs.declared.sections.Sequence.{Sequence}
use Rattle.array_meaning.specs.Sections.{sequence, value_count}
use Rattle.array_meaning.specs.Faults.{Cause, fails}
use Rattle.array_meaning.specs.State.{Array, State, array, no_array}
use Rattle.array_meaning.specs.Statements.{Loop, Nest, Block, Mark, Unmarked, Outermost}
use Rattle.array_meaning.specs.Runs.{Run, then_do, with_value, one_step}
use Rattle.array_meaning.specs.Expressions.{index_values}
use Rattle.array_meaning.specs.Iterations.{values_of, nest_axes, nest_indices}
use Rattle.array_meaning.specs.NestEntry.{check_nest, entered}
use Rattle.statement_trail.specs.Trail.{Trail, after_value}
use Rattle.nest_items.proofs.EntryAlike.{Alike, fault_of, same_entry, same_axis, entered_or_not, IsNestLoop}
use Rattle.machine_steps.specs.Instr.{Running}
use Rattle.machine_steps.specs.Machine.{steps}
use Rattle.storage.specs.Storage.{Storage}
use Rattle.code_meaning.specs.Flat.{slot}
use Rattle.code_meaning.specs.Parallel.{at_line}
use Rattle.code_meaning.specs.NestChecks.{entry_state, without_elements}
use Rattle.node_code.specs.Instructions.{NewMapping, Instruction, TestStride, Check}
use Rattle.code_meaning.specs.Instructions.{ArrayTable, go_on_if, meaning_of}
use Rattle.program_code.specs.StatementCode.{with_bounds, entry_code}
use Rattle.lowered_expressions.specs.Passed.{passed, IsTrail}
use Rattle.lowered_expressions.proofs.Reach.{still, Idle, HasAt, Reaches, stands, one, Place}
use Rattle.lowered_expressions.proofs.Terms.{HoldsScalars, HoldsArrays}
use Rattle.lowered_expressions.proofs.Goes.{Holds, kept-refl, Goes, goes-on}
use Rattle.lowering.proofs.NestNames.{IsFormedNest}

-- what is asked of a mark: the outermost loop of a nest names what may stand in one
abbrev pub IsFormedMark : ℕ → Mark → Loop → Block → Type 0
IsFormedMark n Unmarked loop block = Unit {0}
IsFormedMark n (Outermost nest body) loop block = IsFormedNest n nest loop block body

-- ---- the state that the check sees

entry_alike : (n : ℕ) (shapes : List (List Dim)) (s : State) (slots : List ℤ) (rows : Storage) → length shapes ≡ n → HoldsScalars n s slots → HoldsArrays n shapes s rows
    → length s.scalars ≡ n → length s.arrays ≡ n → n ≤ length slots → Alike n (entry_state shapes slots) s
entry_alike n shapes s slots rows declared scalars arrays places more_places long = record {
  scalars = scalars;
  long = long;
  as_long = omega (arith, places);
  dims = λ a. ap (λ (x : Array). x.dims) (get_or-map without_elements shapes a []) ∙ ⊎_elim (λ lt. sym (arrays.shape a lt)) (beyond a) (cases_lt a n);
}
  where
    beyond : (a : ℕ) → n ≤ a → slice_index_or shapes a [] ≡ (array s a).dims
    beyond a le =
        get_or_past shapes a [] (omega (arith, le, declared))
        ∙ sym (ap (λ (x : Array). x.dims) (get_or_past s.arrays a no_array (omega (arith, le, more_places))))

-- the inner loops of a nest have their values, and the outermost one those that stand in slots
same_axes : (n v : ℕ) (r s : State) (inner : List Loop) → AllByRecursion (IsNestLoop n) inner → Alike n r s → map (values_of r) inner ≡ map (values_of s) inner
same_axes n v r s [] named h = refl
same_axes n v r s (l ∷ ls) named h = ap₂ (λ x xs. x ∷ xs) (same_axis n r s h l named.0) (same_axes n v r s ls named.1 h)

indices_below : (n : ℕ) (ls : List Loop) → AllByRecursion (IsNestLoop n) ls → AllByRecursion (λ x. x < n) (map (λ (l : Loop). l.index) ls)
indices_below n [] named = tt
indices_below n (l ∷ ls) named = (named.0.0, indices_below n ls named.1)

all_join : {A : Type 0} (P : A → Type 0) (xs ys : List A) → AllByRecursion P xs → AllByRecursion P ys → AllByRecursion P (xs ++ ys)
all_join P [] ys h k = k
all_join P (x ∷ xs) ys h k = (h.0, all_join P xs ys h.1 k)

pub all_reversed : {A : Type 0} (P : A → Type 0) (xs : List A) → AllByRecursion P xs → AllByRecursion P (reverse xs)
all_reversed P [] h = tt
all_reversed P (x ∷ xs) h = subst (AllByRecursion P) (sym (reverse-append (x ∷ []) xs)) (all_join P (reverse xs) (x ∷ []) (all_reversed P xs h.1) (h.0, tt))

some_same : {A : Type 0} (a b : A) → Some a ≡ Some b → a ≡ b
some_same a b h = cc

module _ (table : ArrayTable) (row_count : ℕ) (moves : ℕ → List NewMapping) (code : List Instruction) (n many : ℕ) (copy : Option (List ℤ)) (declared : length table.shapes ≡ n) (leave again : ℕ) where
  -- the nest of the check, and that of the meaning
  abbrev bounded : ℕ → Nest → Nest
  bounded v nest = record nest { loops = with_bounds v nest.loops }

  same_fault : (nest : Nest) (loop : Loop) (block body : Block) (v : ℕ) (s : State) (slots : List ℤ) (rows : Storage) (a z d : ℤ) → IsFormedNest n nest loop block body → loop.index < n
      → Holds table row_count moves code n many copy s slots rows → n ≤ many → slot slots v ≡ a → slot slots (v + 1) ≡ z → slot slots (v + 2) ≡ d
      → index_values s loop.control ≡ sequence a z d
      → fault_of (check_nest (bounded v nest) body (entry_state table.shapes slots)) ≡ fault_of (check_nest nest body s)
  same_fault nest loop block body v s slots rows a z d formed lx holds few e1 e2 e3 known =
      same_entry n (bounded v nest) nest body (entry_state table.shapes slots) s axes indices refl refl below formed.statements alike
    where
      es : State
      es = entry_state table.shapes slots

      alike : Alike n es s
      alike = entry_alike n table.shapes s slots rows declared holds.scalars holds.arrays holds.places holds.more_places (omega (arith, few, holds.size))

      outer : Loop
      outer = record { index = loop.index; control = record { first = Scalar v; last = Scalar (v + 1); step = Scalar (v + 2) } }

      of_values : values_of es outer ≡ values_of s loop
      of_values = ap (λ q. result_unwrap_or q record { first = pos 0; step = pos 1; count = 0 })
          ((λ j. sequence (e1 j) (e2 j) (e3 j)) ∙ sym known)

      axes : nest_axes es (bounded v nest) ≡ nest_axes s nest
      axes = ap (λ ls. reverse (map (values_of es) (with_bounds v ls))) formed.is
          ∙ ap₂ (λ x xs. reverse (x ∷ xs)) of_values (same_axes n v es s formed.inner formed.loops alike)
          ∙ sym (ap (λ ls. reverse (map (values_of s) ls)) formed.is)

      indices : nest_indices (bounded v nest) ≡ nest_indices nest
      indices = ap (λ ls. reverse (map (λ (l : Loop). l.index) (with_bounds v ls))) formed.is ∙ sym (ap (λ ls. reverse (map (λ (l : Loop). l.index) ls)) formed.is)

      below : AllByRecursion (λ x. x < n) (nest_indices nest)
      below = subst (λ ls. AllByRecursion (λ x. x < n) (reverse (map (λ (l : Loop). l.index) ls))) (sym formed.is)
          (all_reversed (λ x. x < n) (loop.index ∷ map (λ (l : Loop). l.index) formed.inner) (lx, indices_below n formed.inner formed.loops))

  -- the step isn't 0 where that is tested before the loop begins
  abbrev pub IsTested : Mark → ℤ → Type 0
  IsTested Unmarked d = Unit {0}
  IsTested (Outermost nest body) d = is_zero d ≡ false

  -- what follows the entry of a loop, by the values of its index: its trail, and its run
  module _ (line v : ℕ) (s : State) (trail_on : Sequence → State → Trail) (go : Sequence → State → Run) where
    -- what is left to show where these are the values of the index and the answer of the entry
    abbrev Goal : ℕ → List ℤ → Place row_count → Result Sequence Cause → Result State Cause → Type 0
    Goal to slots m q e =
        Goes table row_count moves code n many copy leave again (after_value q (λ p. after_value e (trail_on p))) to v slots m (with_value line s q (λ p. then_do (one_step line s e) (go p)))

    -- it goes on at a place after the entry
    abbrev pub GoesOn : Mark → (pc to : ℕ) → List ℤ → Storage → (a z d : ℤ) → Type 0
    GoesOn mark pc to slots rows a z d = entered mark s ≡ Ok s → IsTested mark d
        → Goes table row_count moves code n many copy leave again (after_value (sequence a z d) (λ p. trail_on p s)) to v slots (stands table row_count moves code pc slots rows s.printed)
        (with_value line s (sequence a z d) (λ p. go p s))

    pub entry-goes : (mark : Mark) (loop : Loop) (block : Block) (pc to : ℕ) (slots : List ℤ) (rows : Storage) (a z d : ℤ) → IsFormedMark n mark loop block → loop.index < n
        → HasAt code pc (entry_code line mark v) → n ≤ many → Holds table row_count moves code n many copy s slots rows
        → slot slots v ≡ a → slot slots (v + 1) ≡ z → slot slots (v + 2) ≡ d → index_values s loop.control ≡ sequence a z d
        → GoesOn mark (pc + length (entry_code line mark v)) to slots rows a z d → Goal to slots (stands table row_count moves code pc slots rows s.printed) (sequence a z d) (entered mark s)
    entry-goes Unmarked loop block pc to slots rows a z d formed li has few holds e1 e2 e3 known on =
        let e : pc + 0 ≡ pc = omega arith in
        subst (λ p. Goal to slots (stands table row_count moves code p slots rows s.printed) (sequence a z d) (Ok s)) e (on refl tt)
    entry-goes (Outermost nest body) loop block pc to slots rows a z d formed li has few holds e1 e2 e3 known on = by_step (is_zero d) refl
        (λ i. one table row_count moves code pc slots rows s.printed (TestStride line (v + 2)) has.0 i
        ∙ ap (λ d. record (m i) { control = go_on_if {A = ℕ} (at_line line (if is_zero d then fails ZeroStride else Ok 0)) (record { at = pc; slots = slots; status = Running }) }) e3)
      where
        mine : Nest
        mine = bounded v nest

        es : State
        es = entry_state table.shapes slots

        m : Place row_count
        m = stands table row_count moves code pc slots rows s.printed

        m1 : Place row_count
        m1 = stands table row_count moves code (pc + 1) slots rows s.printed

        first : Sequence
        first = record { first = a; step = d; count = value_count (wrapped a) (wrapped z) (wrapped d) }

        tested : (q : Result State Cause) → check_nest mine body es ≡ q → (i : Idle row_count)
            → steps (meaning_of table) 1 (m1 i) ≡ record (m1 i) { control = go_on_if (at_line line q) (record { at = pc + 1; slots = slots; status = Running }) }
        tested q e i = one table row_count moves code (pc + 1) slots rows s.printed (Check line (Outermost mine body)) has.1.0 i
            ∙ ap (λ q. record (m1 i) { control = go_on_if (at_line line q) (record { at = pc + 1; slots = slots; status = Running }) }) e

        quiet : (i : Idle row_count) → IsTrail moves (passed table 1 (m1 i)) []
        quiet i = still table row_count moves code (pc + 1) slots rows s.printed (Check line (Outermost mine body)) has.1.0 refl i

        -- what follows, where the nest is entered
        goes_in : is_zero d ≡ false → check_nest nest body s ≡ Ok s → check_nest mine body es ≡ Ok es → Goal to slots m1 (sequence a z d) (Ok s)
        goes_in nonzero e e' =
            let next : pc + 1 + 1 ≡ pc + 2 = omega arith in
            goes-on table row_count moves code n many copy leave again [] (after_value (sequence a z d) (λ p. trail_on p s)) to v v slots slots m1
            (stands table row_count moves code (pc + 2) slots rows s.printed) (with_value line s (sequence a z d) (λ p. go p s)) (omega arith)
            (subst (λ p. Reaches table row_count moves code [] m1 (stands table row_count moves code p slots rows s.printed)) next (λ i. (1, i, tested (Ok es) e' i, quiet i)))
            (kept-refl table row_count moves code n many copy v slots) (on e nonzero)

        by_entry : (nonzero : is_zero d ≡ false) → (check_nest nest body s ≡ Ok s) ⊎ ((c : Cause) × (check_nest nest body s ≡ Err c)) → (check_nest mine body es ≡ Ok es) ⊎ ((c : Cause) × (check_nest mine body es ≡ Err c))
            → fault_of (check_nest mine body es) ≡ fault_of (check_nest nest body s) → Goal to slots m1 (sequence a z d) (check_nest nest body s)
        by_entry nonzero (inl e) (inl e') same = subst (λ q. Goal to slots m1 (sequence a z d) q) (sym e) (goes_in nonzero e e')
        by_entry nonzero (inl e) (inr f) same = absurd (none-some f.0 (sym (ap fault_of e) ∙ sym same ∙ ap fault_of f.1))
        by_entry nonzero (inr f) (inl e') same = absurd (none-some f.0 (sym (ap fault_of e') ∙ same ∙ ap fault_of f.1))
        by_entry nonzero (inr f) (inr g) same =
            subst (λ q. Goal to slots m1 q (check_nest nest body s)) (sym (ap (λ t. if t then fails ZeroStride else Ok first) nonzero))
            (subst (λ q. Goal to slots m1 (Ok first) q) (sym (f.1 ∙ ap Err (some_same f.0 g.0 (sym (ap fault_of f.1) ∙ sym same ∙ ap fault_of g.1))))
            (λ i. (_, (1, tested (Err g.0) g.1 i, quiet i), refl, refl, refl)))

        by_step : (t : Bool) → is_zero d ≡ t
            → ((i : Idle row_count) → steps (meaning_of table) 1 (m i)
            ≡ record (m i) { control = go_on_if {A = ℕ} (at_line line (if t then fails ZeroStride else Ok 0)) (record { at = pc; slots = slots; status = Running }) })
            → Goal to slots m (sequence a z d) (check_nest nest body s)
        by_step true none g =
            subst (λ q. Goal to slots m q (check_nest nest body s)) (sym (ap (λ t. if t then fails ZeroStride else Ok first) none))
            (λ i. (_, (1, g i, still table row_count moves code pc slots rows s.printed (TestStride line (v + 2)) has.0 refl i), refl, refl, refl))
        by_step false nonzero g =
            goes-on table row_count moves code n many copy leave again [] (after_value (sequence a z d) (λ p. after_value (check_nest nest body s) (trail_on p))) to v v slots slots m m1
            (with_value line s (sequence a z d) (λ p. then_do (one_step line s (check_nest nest body s)) (go p))) (omega arith)
            (λ i. (1, i, g i, still table row_count moves code pc slots rows s.printed (TestStride line (v + 2)) has.0 refl i))
            (kept-refl table row_count moves code n many copy v slots)
            (by_entry nonzero (entered_or_not nest body s) (entered_or_not mine body es) (same_fault nest loop block body v s slots rows a z d formed li holds few e1 e2 e3 known))
