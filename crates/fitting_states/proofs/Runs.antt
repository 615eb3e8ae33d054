-- Statements whose numbers are of 64 bits keep the state of 64 bits.
use Rattle.std.proofs.Common.{ℕ, zero, suc, ◌+◌, ◌++◌, ◌==◌, drop, fold, take, List, [], ◌∷◌, map, Bool, true, false, if◌then◌else◌, Option, Some, None, Result, Ok, Err, IfOk, ℤ, pos, ◌+ℤ◌, FitsSigned, w64, arith}
use Rattle.std.specs.Bool.{⊤}
use Rattle.std.specs.List.{AllByRecursion, range_with_len}
use Rattle.hpf_base.specs.ElementOrder.{product}
use Rattle.op_tables.specs.Operators.{wrapped}
use Rattle.array_meaning.specs.Terms.{Term, Terms, SectionSubscripts, Control, list_of}
use Rattle.op_tables.specs.declared.join.Join.TheVariants.{Sum}
use Rattle.op_tables.specs.Joins.{join}
use Rattle.array_meaning.specs.Statements.{SectionAssignment, ElementAssignment, WholeArray, Transformation, CircularShift, Transposition, PrefixSum, Item, Block, Done, Then, Statement, AssignScalar, AssignElement, AssignSection, Transform, If, Do, Where, Forall, Print, Stop, Exit, Cycle, Continue, Redistribute, Mark, Unmarked, Outermost, Arms, NoArm, Arm}
use Rattle.array_meaning.specs.declared.faults.FaultKind.{FaultKind}
use Rattle.array_meaning.specs.declared.faults.FaultKind.TheVariants.{Shape, SpaceLimit, NotOneToOne}
use Rattle.array_meaning.specs.Faults.{Cause, ◌>>=◌, fails}
use Rattle.array_meaning.specs.State.{State, array, set_scalar, place_in, store, store_all}
use Rattle.array_meaning.specs.Runs.{Completion, Normal, Exited, Cycled, Run, normal, if_normal, then_do, with_value, one_step}
use Rattle.array_meaning.specs.declared.sections.Sequence.{Sequence}
use Rattle.array_meaning.specs.declared.sections.Selection.{Selection}
use Rattle.array_meaning.specs.declared.sections.Store.{Store}
use Rattle.array_meaning.specs.Sections.{extents, subscripts_at, positions, space_size}
use Rattle.array_meaning.specs.Elementals.{Elemental, sections, value_at, each, array_value}
use Rattle.array_meaning.specs.Expressions.{value, values, elemental, selections, index_values, all_index_values}
use Rattle.array_meaning.specs.ArrayAssignments.{Mask, mask_of, negated_mask, store_at, if_true, assign_elemental, assign_section, assign_where, assign_all_where, run_where}
use Rattle.array_meaning.specs.Forall.{index_extents, indices_at, all_subscripts, check, check_limits, check_one_to_one, is_forall_in_limits, is_one_to_one, mask_over, assign_forall, assign_all_forall, run_forall}
use Rattle.array_meaning.specs.Transformations.{extents_of, shifted_place, transposed_place, transformed_value, shift_of, has_shape, transformed, transform}
use Rattle.array_meaning.specs.Iterations.{nest_axes, iteration_count}
use Rattle.array_meaning.specs.Touches.{iteration_touches}
use Rattle.array_meaning.specs.Clashes.{Clash, first_clash}
use Rattle.array_meaning.specs.NestLimits.{is_nest_in_limits}
use Rattle.array_meaning.specs.NestEntry.{unless_clash, entered}
use Rattle.array_meaning.specs.Execution.{assign_scalar, assign_element, all_item_bytes, print, after_iteration, iterate, condition, run, run_arms, run_block}
use Rattle.fitting_states.specs.FittingStates.{StateFits, TermFits, SubscriptsFit, SectionAssignmentFits, ElementAssignmentFits, BlockFits, StatementFits, ArmsFit}
use Rattle.fitting_states.proofs.OperatorRanges.{wraps_fit}
use Rattle.fitting_states.proofs.Outcomes.{has_any, then_has, each_has}
use Rattle.fitting_states.proofs.Values.{ValuesFit, SequenceFits, SelectionFits, ElementalFits, indices_fit, value_at_fits, value_fits, values_fit, elemental_fits, selections_fit, index_values_fit}
use Rattle.fitting_states.proofs.Storing.{StoreFits, set_scalar_fits, store_fits, store_all_fits}

-- from a state of 64 bits it goes to one
abbrev pub KeepsFits : (State → Run) → Type 0
KeepsFits next = (s : State) → StateFits s → StateFits (next s).state

-- ---- one after the other

pub then_fits : (r : Run) (next : State → Run) → StateFits r.state → KeepsFits next → StateFits (then_do r next).state
then_fits r next h go = by r.completion where
  by : (c : Completion) → StateFits (if_normal c r.state next).state
  by Normal = go r.state h
  by c = h

pub with_value_fits : {A : Type 0} (P : A → Type 0) (line : ℕ) (s : State) (r : Result A Cause) (next : A → Run) → StateFits s → IfOk r P
    → ((a : A) → P a → StateFits (next a).state) → StateFits (with_value line s r next).state
with_value_fits P line s (Ok a) next h f go = go a f
with_value_fits P line s (Err c) next h f go = h

pub step_fits : (line : ℕ) (s : State) (r : Result State Cause) → StateFits s → IfOk r StateFits → StateFits (one_step line s r).state
step_fits line s r h f = with_value_fits StateFits line s r normal h f (λ z g. g)

-- ---- the turns of a loop

pub after_iteration_fits : (c : Completion) (s : State) (next : State → Run) → StateFits s → KeepsFits next → StateFits (after_iteration c s next).state
after_iteration_fits Normal s next h go = go s h
after_iteration_fits Cycled s next h go = go s h
after_iteration_fits Exited s next h go = h
after_iteration_fits c s next h go = h

pub iterate_fits : (n x : ℕ) (index step : ℤ) (body : State → Run) → KeepsFits body → FitsSigned w64 index → KeepsFits (iterate n x index step body)
iterate_fits zero x index step body keeps f s h = set_scalar_fits s x index h f
iterate_fits (suc n) x index step body keeps f s h =
    let r = body (set_scalar s x index) in
    after_iteration_fits r.completion r.state (iterate n x (wrapped (index +ℤ step)) step body) (keeps (set_scalar s x index) (set_scalar_fits s x index h f))
    (iterate_fits n x (wrapped (index +ℤ step)) step body keeps (wraps_fit (index +ℤ step)))

-- the entry of a nest changes nothing
unless_clash_fits : (s : State) (axes : List Sequence) (c : Option Clash) → StateFits s → IfOk (unless_clash s axes c) StateFits
unless_clash_fits s axes None h = h
unless_clash_fits s axes (Some c) h = tt

if_fits : (b : Bool) (r r' : Result State Cause) → IfOk r StateFits → IfOk r' StateFits → IfOk (if b then r else r') StateFits
if_fits true r r' f g = f
if_fits false r r' f g = g

pub entered_fits : (mark : Mark) (s : State) → StateFits s → IfOk (entered mark s) StateFits
entered_fits Unmarked s h = h
entered_fits (Outermost nest body) s h =
    let clash = unless_clash s (nest_axes s nest) (first_clash (iteration_touches nest body s) (iteration_count nest s)) in
    if_fits (iteration_count nest s == 0) (Ok s) (if is_nest_in_limits nest body s then clash else fails SpaceLimit) h
    (if_fits (is_nest_in_limits nest body s) clash (fails SpaceLimit)
    (unless_clash_fits s (nest_axes s nest) (first_clash (iteration_touches nest body s) (iteration_count nest s)) h) tt)

-- ---- assignments

pub assign_scalar_fits : (k : ℕ) (right : Term) → TermFits right → (s : State) → StateFits s → IfOk (assign_scalar k right s) StateFits
assign_scalar_fits k right f s h =
    then_has (FitsSigned w64) StateFits (value [] s right) (λ v. Ok (set_scalar s k v)) (value_fits s h [] tt right f) (λ v g. set_scalar_fits s k v h g)

pub assign_element_fits : (a : ℕ) (subscripts : Terms) (right : Term) → TermFits right → (s : State) → StateFits s → IfOk (assign_element a subscripts right s) StateFits
assign_element_fits a subscripts right f s h =
    then_has (λ k. ⊤) StateFits (values [] s subscripts >>= place_in s a) (λ k. value [] s right >>= (λ v. Ok (store s a k v))) (has_any _) (λ k any.
    then_has (FitsSigned w64) StateFits (value [] s right) (λ v. Ok (store s a k v)) (value_fits s h [] tt right f) (λ v g. store_fits s a k v h g))

-- what is stored at a tuple
store_at_fits : (s : State) (a : ℕ) (is : List ℤ) (right : Result ℤ Cause) → IfOk right (FitsSigned w64) → IfOk (store_at s a is right) StoreFits
store_at_fits s a is right f =
    then_has (λ k. ⊤) StoreFits (place_in s a is) (λ k. right >>= (λ v. Ok (Some record { place = k; value = v }))) (has_any (place_in s a is)) (λ k any.
    then_has (FitsSigned w64) StoreFits right (λ v. Ok (Some record { place = k; value = v })) f (λ v g. g))

if_true_fits : (b : Bool) (r : Result (Option Store) Cause) → IfOk r StoreFits → IfOk (if_true b r) StoreFits
if_true_fits true r f = f
if_true_fits false r f = tt

stores_fit : (a : ℕ) (s : State) (r : Result (List (Option Store)) Cause) → StateFits s → IfOk r (AllByRecursion StoreFits)
    → IfOk (r >>= (λ stores. Ok (store_all s a stores))) StateFits
stores_fit a s r h f = then_has (AllByRecursion StoreFits) StateFits r (λ stores. Ok (store_all s a stores)) f (λ stores g. store_all_fits a s stores h g)

assign_elemental_fits : (ns : List ℕ) (mask : Mask) (a : ℕ) (ds : List Selection) (right : Elemental) → ElementalFits right → (s : State) → StateFits s
    → IfOk (assign_elemental ns mask a ds right s) StateFits
assign_elemental_fits ns mask a ds right f s h =
    let at : ℕ → Result (Option Store) Cause = λ t. if_true (mask t) (store_at s a (subscripts_at ds (positions ns t)) (value_at s (positions ns t) right)) in
    then_has (λ n. ⊤) StateFits (space_size ns (ds ∷ sections right)) (λ n. each (positions ns) at n >>= (λ stores. Ok (store_all s a stores))) (has_any _) (λ n any.
    stores_fit a s (each (positions ns) at n) h
    (each_has StoreFits (positions ns) at (λ t. if_true_fits (mask t) (store_at s a (subscripts_at ds (positions ns t)) (value_at s (positions ns t) right))
    (store_at_fits s a (subscripts_at ds (positions ns t)) (value_at s (positions ns t) right) (value_at_fits s h right f (positions ns t)))) n))

pub assign_section_fits : (a : ℕ) (subs : SectionSubscripts) (right : Term) → SubscriptsFit subs → TermFits right → (s : State) → StateFits s
    → IfOk (assign_section a subs right s) StateFits
assign_section_fits a subs right f g s h =
    then_has (AllByRecursion SelectionFits) StateFits (selections [] s subs) (λ ds. elemental [] s right >>= (λ x. assign_elemental (extents ds) (λ t. true) a ds x s))
    (selections_fit s h [] tt subs f) (λ ds k.
    then_has ElementalFits StateFits (elemental [] s right) (λ x. assign_elemental (extents ds) (λ t. true) a ds x s)
    (elemental_fits s h [] tt right g) (λ x e. assign_elemental_fits (extents ds) (λ t. true) a ds x e s h))

-- ---- WHERE

assign_where_fits : (ns : List ℕ) (mask : Mask) (b : SectionAssignment) → SectionAssignmentFits b → (s : State) → StateFits s → IfOk (assign_where ns mask b s) StateFits
assign_where_fits ns mask b f s h =
    then_has (AllByRecursion SelectionFits) StateFits (selections [] s b.subscripts) (λ ds. elemental [] s b.right >>= (λ x. assign_elemental ns mask b.array ds x s))
    (selections_fit s h [] tt b.subscripts f.0) (λ ds k.
    then_has ElementalFits StateFits (elemental [] s b.right) (λ x. assign_elemental ns mask b.array ds x s)
    (elemental_fits s h [] tt b.right f.1) (λ x e. assign_elemental_fits ns mask b.array ds x e s h))

assign_all_where_fits : (ns : List ℕ) (mask : Mask) (bs : List SectionAssignment) → AllByRecursion SectionAssignmentFits bs → KeepsFits (assign_all_where ns mask bs)
assign_all_where_fits ns mask [] f s h = h
assign_all_where_fits ns mask (b ∷ bs) f s h =
    then_fits (one_step b.line s (assign_where ns mask b s)) (assign_all_where ns mask bs) (step_fits b.line s (assign_where ns mask b s) h (assign_where_fits ns mask b f.0 s h))
    (assign_all_where_fits ns mask bs f.1)

pub where_fits : (line : ℕ) (mask : Term) (body others : List SectionAssignment) → AllByRecursion SectionAssignmentFits body → AllByRecursion SectionAssignmentFits others
    → KeepsFits (run_where line mask body others)
where_fits line mask body others f g s h =
    with_value_fits (λ m. ⊤) line s (elemental [] s mask >>= array_value s)
    (λ m. then_do (assign_all_where m.extents (mask_of m.elements) body s) (assign_all_where m.extents (negated_mask m.elements) others)) h (has_any _) (λ m any.
    then_fits (assign_all_where m.extents (mask_of m.elements) body s) (assign_all_where m.extents (negated_mask m.elements) others)
    (assign_all_where_fits m.extents (mask_of m.elements) body f s h) (assign_all_where_fits m.extents (negated_mask m.elements) others g))

-- ---- FORALL

check_fits : (b : Bool) (kind : FaultKind) (s : State) → StateFits s → IfOk (check b kind s) StateFits
check_fits true kind s h = h
check_fits false kind s h = tt

one_to_one_fits : (ns : List ℕ) (bs : List ElementAssignment) → KeepsFits (check_one_to_one ns bs)
one_to_one_fits ns [] s h = h
one_to_one_fits ns (b ∷ bs) s h =
    let is = is_one_to_one s (list_of b.subscripts) 0 ns in
    then_fits (one_step b.line s (check is NotOneToOne s)) (check_one_to_one ns bs)
    (step_fits b.line s (check is NotOneToOne s) h (check_fits is NotOneToOne s h)) (one_to_one_fits ns bs)

assign_forall_fits : (axes : List Sequence) (n : ℕ) (mask : Mask) (b : ElementAssignment) → ElementAssignmentFits b → (s : State) → StateFits s
    → IfOk (assign_forall axes n mask b s) StateFits
assign_forall_fits axes n mask b f s h =
    let to : ℕ → List ℤ → Result (Option Store) Cause = λ t is. store_at s b.array is (value (indices_at axes t) s b.right) in
    let at : ℕ → Result (Option Store) Cause = λ t. if_true (mask t) (values (indices_at axes t) s b.subscripts >>= to t) in
    stores_fit b.array s (each (indices_at axes) at n) h
    (each_has StoreFits (indices_at axes) at (λ t. if_true_fits (mask t) (values (indices_at axes t) s b.subscripts >>= to t)
    (then_has ValuesFit StoreFits (values (indices_at axes t) s b.subscripts) (to t) (values_fit s h (indices_at axes t) (indices_fit axes t) b.subscripts f.0) (λ is g.
    store_at_fits s b.array is (value (indices_at axes t) s b.right) (value_fits s h (indices_at axes t) (indices_fit axes t) b.right f.1)))) n)

assign_all_forall_fits : (axes : List Sequence) (n : ℕ) (mask : Mask) (bs : List ElementAssignment) → AllByRecursion ElementAssignmentFits bs
    → KeepsFits (assign_all_forall axes n mask bs)
assign_all_forall_fits axes n mask [] f s h = h
assign_all_forall_fits axes n mask (b ∷ bs) f s h =
    then_fits (one_step b.line s (assign_forall axes n mask b s)) (assign_all_forall axes n mask bs)
    (step_fits b.line s (assign_forall axes n mask b s) h (assign_forall_fits axes n mask b f.0 s h)) (assign_all_forall_fits axes n mask bs f.1)

-- what comes after the header, where the space has n tuples
module _ (line n : ℕ) (mask : Option Term) (body : List ElementAssignment) (axes : List Sequence) where
  abbrev assigned : State → Run
  assigned s = with_value line s (mask_over s axes n mask) (λ m. assign_all_forall axes n m body s)

  abbrev checked : State → Run
  checked s = then_do (check_one_to_one (index_extents axes) body s) assigned

  abbrev limited : State → Run
  limited s = one_step line s (check_limits axes (all_subscripts mask body) s)

  assigned_fits : AllByRecursion ElementAssignmentFits body → KeepsFits assigned
  assigned_fits f s h =
      with_value_fits (λ m. ⊤) line s (mask_over s axes n mask) (λ m. assign_all_forall axes n m body s) h (has_any _) (λ m any. assign_all_forall_fits axes n m body f s h)

  checked_fits : AllByRecursion ElementAssignmentFits body → KeepsFits checked
  checked_fits f s h = then_fits (check_one_to_one (index_extents axes) body s) assigned (one_to_one_fits (index_extents axes) body s h) (assigned_fits f)

  limited_fits : KeepsFits limited
  limited_fits s h =
      step_fits line s (check_limits axes (all_subscripts mask body) s) h (check_fits (is_forall_in_limits s axes (all_subscripts mask body)) SpaceLimit s h)

  over_fits : (b : Bool) → AllByRecursion ElementAssignmentFits body → KeepsFits (λ s. if b then normal s else then_do (limited s) checked)
  over_fits true f s h = h
  over_fits false f s h = then_fits (limited s) checked (limited_fits s h) (checked_fits f)

pub forall_fits : (line : ℕ) (controls : List Control) (mask : Option Term) (body : List ElementAssignment) → AllByRecursion ElementAssignmentFits body
    → KeepsFits (run_forall line controls mask body)
forall_fits line controls mask body f s h =
    let n : List Sequence → ℕ = λ axes. product (index_extents axes) in
    with_value_fits (λ axes. ⊤) line s (all_index_values s controls)
    (λ axes. if n axes == 0 then normal s else then_do (limited line (n axes) mask body axes s) (checked line (n axes) mask body axes)) h (has_any _) (λ axes any.
    over_fits line (n axes) mask body axes (n axes == 0) f s h)

-- ---- transformations of whole arrays

-- sums wrap
sums_fit : (values : List ℤ) (a : ℤ) → FitsSigned w64 a → FitsSigned w64 (fold (join Sum) a values)
sums_fit [] a h = h
sums_fit (v ∷ values) a h = sums_fit values (join Sum a v) (wraps_fit (a +ℤ v))

value_fits_at : (y : ℕ) (how : Transformation) (k : ℤ) (ns : List ℕ) (s : State) → StateFits s → (t : ℕ) → FitsSigned w64 (transformed_value how k ns (array s y).elements t)
value_fits_at y (CircularShift by) k ns s h t = h.elements y (shifted_place k ns t)
value_fits_at y Transposition k ns s h t = h.elements y (transposed_place ns t)
value_fits_at y PrefixSum k ns s h t = sums_fit (take (t + 1) (array s y).elements) (pos 0) (omega arith)

-- the values of a transformation
transformed_fit : (y : ℕ) (how : Transformation) (k : ℤ) (ns : List ℕ) (s : State) → StateFits s → (ts : List ℕ)
    → AllByRecursion StoreFits (map (λ t. Some record { place = t; value = transformed_value how k ns (array s y).elements t }) ts)
transformed_fit y how k ns s h [] = tt
transformed_fit y how k ns s h (t ∷ ts) = (value_fits_at y how k ns s h t, transformed_fit y how k ns s h ts)

pub transform_fits : (x y : WholeArray) (how : Transformation) (s : State) → StateFits s → IfOk (transform x y how s) StateFits
transform_fits x y how s h =
    let to : ℤ → Result State Cause = λ k. Ok (store_all s x.array (transformed x y how k s)) in
    then_has (λ k. ⊤) StateFits (shift_of s how) (λ k. if has_shape x y how then to k else fails Shape) (has_any (shift_of s how)) (λ k any.
    if_fits (has_shape x y how) (to k) (fails Shape)
    (store_all_fits x.array s (transformed x y how k s) h (transformed_fit y.array how k (extents_of x) s h (range_with_len 0 (product (extents_of x))))) tt)

-- ---- PRINT

pub print_fits : (items : List Item) (s : State) → StateFits s → IfOk (print items s) StateFits
print_fits items s h =
    then_has (λ bytes. ⊤) StateFits (all_item_bytes s items) (λ bytes. Ok (record s { printed = s.printed ++ (drop 1 bytes ++ 10 ∷ []) })) (has_any _)
    (λ bytes any. record { scalars = h.scalars; elements = h.elements })

-- ---- all statements

either_fits : (b : Bool) (one other : State → Run) (s : State) → StateFits (one s).state → StateFits (other s).state → StateFits ((if b then one else other) s).state
either_fits true one other s f g = f
either_fits false one other s f g = g

mutual
  pub run_fits : (statement : Statement) (line : ℕ) → StatementFits statement → KeepsFits (run statement line)
  run_fits (AssignScalar k right) line f s h = step_fits line s (assign_scalar k right s) h (assign_scalar_fits k right f s h)
  run_fits (AssignElement a subscripts right) line f s h = step_fits line s (assign_element a subscripts right s) h (assign_element_fits a subscripts right f.1 s h)
  run_fits (AssignSection a subs right) line f s h = step_fits line s (assign_section a subs right s) h (assign_section_fits a subs right f.0 f.1 s h)
  run_fits (Transform x y how) line f s h = step_fits line s (transform x y how s) h (transform_fits x y how s h)
  run_fits (If arms other) line f s h = arms_fit arms (run_block other) f.0 (block_fits other f.1) s h
  run_fits (Do mark loop body) line f s h =
      let turns : Sequence → State → Run = λ p. iterate p.count loop.index p.first p.step (run_block body) in
      with_value_fits SequenceFits line s (index_values s loop.control) (λ p. then_do (one_step line s (entered mark s)) (turns p)) h
      (index_values_fit s h loop.control f.1) (λ p g.
      then_fits (one_step line s (entered mark s)) (turns p) (step_fits line s (entered mark s) h (entered_fits mark s h))
      (iterate_fits p.count loop.index p.first p.step (run_block body) (block_fits body f.2) g.0))
  run_fits (Where mask body others) line f s h = where_fits line mask body others f.1 f.2 s h
  run_fits (Forall controls mask body) line f s h = forall_fits line controls mask body f.2 s h
  run_fits (Print items) line f s h = step_fits line s (print items s) h (print_fits items s h)
  run_fits Stop line f s h = h
  run_fits Exit line f s h = h
  run_fits Cycle line f s h = h
  run_fits Continue line f s h = h
  run_fits Redistribute line f s h = h

  pub arms_fit : (arms : Arms) (other : State → Run) → ArmsFit arms → KeepsFits other → KeepsFits (run_arms arms other)
  arms_fit NoArm other f go s h = go s h
  arms_fit (Arm line t body arms) other f go s h =
      with_value_fits (λ met. ⊤) line s (condition s t) (λ met. (if met then run_block body else run_arms arms other) s) h (has_any (condition s t)) (λ met any.
      either_fits met (run_block body) (run_arms arms other) s (block_fits body f.1 s h) (arms_fit arms other f.2 go s h))

  pub block_fits : (b : Block) → BlockFits b → KeepsFits (run_block b)
  block_fits Done f s h = h
  block_fits (Then line statement rest) f s h = then_fits (run statement line s) (run_block rest) (run_fits statement line f.0 s h) (block_fits rest f.1)
