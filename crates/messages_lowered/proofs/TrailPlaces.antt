-- Each entry of a trail has as many scalars as there are declared names: no statement makes them more or fewer.
use Rattle.std.proofs.Common.{◌≡◌, ℕ, zero, suc, ◌+◌, ◌++◌, ◌==◌, drop, List, [], ◌∷◌, length, Bool, true, false, if◌then◌else◌, is_some, Option, Some, None, Result, Ok, Err, IfOk, ℤ, ◌+ℤ◌, ◌∙◌}
use Rattle.std.specs.Prelude.{unwrap_or}
use Rattle.std.proofs.lemmas.List.{length-set}
use Rattle.hpf_base.specs.ElementOrder.{product}
use Rattle.op_tables.specs.Operators.{wrapped}
use Rattle.array_meaning.specs.Terms.{Term, Number, Scalar, Index, Element, Section, Apply, Reduce, Terms, NoTerm, More, SectionSubscripts, NoSubscript, Subscript, Triplet, Control, list_of}
use Rattle.array_meaning.specs.Statements.{SectionAssignment, ElementAssignment, WholeArray, Transformation, CircularShift, Transposition, PrefixSum, Item, Text, Value, Elements, Nest, Block, Done, Then, Statement, AssignScalar, AssignElement, AssignSection, Transform, If, Do, Where, Forall, Print, Stop, Exit, Cycle, Continue, Redistribute, Mark, Unmarked, Outermost, Arms, NoArm, Arm}
use Rattle.array_meaning.specs.declared.faults.FaultKind.{FaultKind}
use Rattle.array_meaning.specs.declared.faults.FaultKind.TheVariants.{Shape, SpaceLimit, NotOneToOne}
use Rattle.array_meaning.specs.Faults.{Cause, ◌>>=◌, fails}
use Rattle.array_meaning.specs.State.{State, set_scalar, place_in, store, store_all}
use Rattle.array_meaning.specs.Runs.{Completion, Normal, Exited, Cycled, Run, normal, if_normal, then_do, with_value, one_step}
use Rattle.array_meaning.specs.declared.sections.Sequence.{Sequence}
use Rattle.array_meaning.specs.declared.sections.Selection.{Selection}
use Rattle.array_meaning.specs.declared.sections.Store.{Store}
use Rattle.array_meaning.specs.Sections.{sequence_of, extents, subscripts_at, positions, space_size}
use Rattle.array_meaning.specs.Elementals.{Elemental, sections, own_size, own_extents, value_at, each, array_value}
use Rattle.array_meaning.specs.Expressions.{value, values, elemental, selections, index_values, all_index_values}
use Rattle.array_meaning.specs.ArrayAssignments.{Mask, mask_of, negated_mask, store_at, if_true, assign_elemental, assign_section, assign_where, assign_all_where, run_where}
use Rattle.array_meaning.specs.Forall.{index_extents, indices_at, all_subscripts, check, check_limits, check_one_to_one, is_forall_in_limits, is_one_to_one, mask_over, assign_forall, assign_all_forall, run_forall}
use Rattle.array_meaning.specs.Transformations.{has_shape, shift_of, transformed, transform}
use Rattle.array_meaning.specs.Iterations.{values_of, nest_axes, iteration_count, in_turns, turn_value}
use Rattle.array_meaning.specs.Touches.{iteration_touches}
use Rattle.array_meaning.specs.Clashes.{Clash, first_clash}
use Rattle.array_meaning.specs.NestLimits.{is_nest_in_limits}
use Rattle.array_meaning.specs.NestEntry.{unless_clash, entered}
use Rattle.array_meaning.specs.Execution as meaning
use Rattle.array_meaning.specs.Execution.{assign_scalar, assign_element, item_bytes, all_item_bytes, print, iterate, condition, run, run_arms, run_block}
use Rattle.statement_trail.specs.Trail.{Event, Trail, Reduced, ValuesCopied, SectionAssigned, ForallMask, OfNest, reached, after_value, after_run, over_own_space, value_trail, values_trail, elemental_trail, elementals_trail, selections_trail, control_trail, all_controls_trail, section_trail, where_trail, forall_trail, forall_mask_trail, forall_parts_trail, if_not_empty, shift_trail, transformed_trail, transform_trail, item_trail, all_items_trail, block_parts, statement_parts, arms_parts, nest_trail, marked_trail, after_iteration, iterate_trail, trail, arms_trail, block_trail}
use Rattle.statement_trail.specs.Anchors.{AnchorText, forall_anchor, where_anchor}
use Rattle.statement_trail.specs.NestParts.{EnteredNest, ConditionPart, has_statement, conditions_in, conditions_by, in_trip, indices_after, indices_by, entered_nest}
use Rattle.nest_syntax.specs.Asked.{tested_asked}

-- each entry has so many scalars
abbrev pub HavePlaces : ℕ → Trail → Type 0
HavePlaces n [] = Unit {0}
HavePlaces n (e ∷ T) = (length e.scalars ≡ n) × HavePlaces n T

module _ (n : ℕ) where
  abbrev Places : State → Type 0
  Places s = length s.scalars ≡ n

  -- from a state with so many it goes to one, and what it tells there has as many
  abbrev Keeps : (State → Run) → Type 0
  Keeps next = (s : State) → Places s → Places (next s).state

  abbrev Tells : (State → Trail) → Type 0
  Tells T = (s : State) → Places s → HavePlaces n (T s)

  -- ---- states

  set-keeps : (s : State) (k : ℕ) (v : ℤ) → Places s → Places (set_scalar s k v)
  set-keeps s k v h = length-set s.scalars k v ∙ h

  stores-keep : (a : ℕ) (s : State) (stores : List (Option Store)) → Places s → Places (store_all s a stores)
  stores-keep a s [] h = h
  stores-keep a s (None ∷ stores) h = stores-keep a s stores h
  stores-keep a s (Some st ∷ stores) h = stores-keep a (store s a st.place st.value) stores h

  -- ---- runs

  bound : {A B : Type 0} (P : B → Type 0) (r : Result A Cause) (next : A → Result B Cause) → ((a : A) → IfOk (next a) P) → IfOk (r >>= next) P
  bound P (Ok a) next go = go a
  bound P (Err c) next go = tt

  then-keeps : (r : Run) (next : State → Run) → Places r.state → Keeps next → Places (then_do r next).state
  then-keeps r next h go = by r.completion where
    by : (c : Completion) → Places (if_normal c r.state next).state
    by Normal = go r.state h
    by c = h

  valued-keeps : {A : Type 0} (line : ℕ) (s : State) (r : Result A Cause) (next : A → Run) → Places s → ((a : A) → Places (next a).state)
      → Places (with_value line s r next).state
  valued-keeps line s (Ok a) next h go = go a
  valued-keeps line s (Err c) next h go = h

  step-keeps : (line : ℕ) (s : State) (r : Result State Cause) → Places s → IfOk r Places → Places (one_step line s r).state
  step-keeps line s (Ok z) h f = f
  step-keeps line s (Err c) h f = h

  after-keeps : (c : Completion) (s : State) (next : State → Run) → Places s → Keeps next → Places (meaning.after_iteration c s next).state
  after-keeps Normal s next h go = go s h
  after-keeps Cycled s next h go = go s h
  after-keeps Exited s next h go = h
  after-keeps c s next h go = h

  iterate-keeps : (m x : ℕ) (index step : ℤ) (body : State → Run) → Keeps body → Keeps (iterate m x index step body)
  iterate-keeps zero x index step body keeps s h = set-keeps s x index h
  iterate-keeps (suc m) x index step body keeps s h =
      let r = body (set_scalar s x index) in
      after-keeps r.completion r.state (iterate m x (wrapped (index +ℤ step)) step body) (keeps (set_scalar s x index) (set-keeps s x index h))
      (iterate-keeps m x (wrapped (index +ℤ step)) step body keeps)

  unless-keeps : (s : State) (axes : List Sequence) (c : Option Clash) → Places s → IfOk (unless_clash s axes c) Places
  unless-keeps s axes None h = h
  unless-keeps s axes (Some c) h = tt

  if-keeps : (b : Bool) (r r' : Result State Cause) → IfOk r Places → IfOk r' Places → IfOk (if b then r else r') Places
  if-keeps true r r' f g = f
  if-keeps false r r' f g = g

  entered-keeps : (mark : Mark) (s : State) → Places s → IfOk (entered mark s) Places
  entered-keeps Unmarked s h = h
  entered-keeps (Outermost nest body) s h =
      let clash = unless_clash s (nest_axes s nest) (first_clash (iteration_touches nest body s) (iteration_count nest s)) in
      if-keeps (iteration_count nest s == 0) (Ok s) (if is_nest_in_limits nest body s then clash else fails SpaceLimit) h
      (if-keeps (is_nest_in_limits nest body s) clash (fails SpaceLimit)
      (unless-keeps s (nest_axes s nest) (first_clash (iteration_touches nest body s) (iteration_count nest s)) h) tt)

  assign-elemental-keeps : (ns : List ℕ) (mask : Mask) (a : ℕ) (ds : List Selection) (right : Elemental) (s : State) → Places s
      → IfOk (assign_elemental ns mask a ds right s) Places
  assign-elemental-keeps ns mask a ds right s h =
      let at : ℕ → Result (Option Store) Cause = λ t. if_true (mask t) (store_at s a (subscripts_at ds (positions ns t)) (value_at s (positions ns t) right)) in
      bound Places (space_size ns (ds ∷ sections right)) (λ m. each (positions ns) at m >>= (λ stores. Ok (store_all s a stores))) (λ m.
      bound Places (each (positions ns) at m) (λ stores. Ok (store_all s a stores)) (λ stores. stores-keep a s stores h))

  assign-section-keeps : (a : ℕ) (subs : SectionSubscripts) (right : Term) (s : State) → Places s → IfOk (assign_section a subs right s) Places
  assign-section-keeps a subs right s h =
      bound Places (selections [] s subs) (λ ds. elemental [] s right >>= (λ x. assign_elemental (extents ds) (λ t. true) a ds x s)) (λ ds.
      bound Places (elemental [] s right) (λ x. assign_elemental (extents ds) (λ t. true) a ds x s) (λ x. assign-elemental-keeps (extents ds) (λ t. true) a ds x s h))

  assign-where-keeps : (ns : List ℕ) (mask : Mask) (b : SectionAssignment) (s : State) → Places s → IfOk (assign_where ns mask b s) Places
  assign-where-keeps ns mask b s h =
      bound Places (selections [] s b.subscripts) (λ ds. elemental [] s b.right >>= (λ x. assign_elemental ns mask b.array ds x s)) (λ ds.
      bound Places (elemental [] s b.right) (λ x. assign_elemental ns mask b.array ds x s) (λ x. assign-elemental-keeps ns mask b.array ds x s h))

  all-where-keeps : (ns : List ℕ) (mask : Mask) (bs : List SectionAssignment) → Keeps (assign_all_where ns mask bs)
  all-where-keeps ns mask [] s h = h
  all-where-keeps ns mask (b ∷ bs) s h =
      then-keeps (one_step b.line s (assign_where ns mask b s)) (assign_all_where ns mask bs)
      (step-keeps b.line s (assign_where ns mask b s) h (assign-where-keeps ns mask b s h)) (all-where-keeps ns mask bs)

  where-keeps : (line : ℕ) (mask : Term) (body others : List SectionAssignment) → Keeps (run_where line mask body others)
  where-keeps line mask body others s h =
      valued-keeps line s (elemental [] s mask >>= array_value s)
      (λ m. then_do (assign_all_where m.extents (mask_of m.elements) body s) (assign_all_where m.extents (negated_mask m.elements) others)) h (λ m.
      then-keeps (assign_all_where m.extents (mask_of m.elements) body s) (assign_all_where m.extents (negated_mask m.elements) others)
      (all-where-keeps m.extents (mask_of m.elements) body s h) (all-where-keeps m.extents (negated_mask m.elements) others))

  check-keeps : (b : Bool) (kind : FaultKind) (s : State) → Places s → IfOk (check b kind s) Places
  check-keeps true kind s h = h
  check-keeps false kind s h = tt

  one-to-one-keeps : (ns : List ℕ) (bs : List ElementAssignment) → Keeps (check_one_to_one ns bs)
  one-to-one-keeps ns [] s h = h
  one-to-one-keeps ns (b ∷ bs) s h =
      let is = is_one_to_one s (list_of b.subscripts) 0 ns in
      then-keeps (one_step b.line s (check is NotOneToOne s)) (check_one_to_one ns bs)
      (step-keeps b.line s (check is NotOneToOne s) h (check-keeps is NotOneToOne s h)) (one-to-one-keeps ns bs)

  assign-forall-keeps : (axes : List Sequence) (m : ℕ) (mask : Mask) (b : ElementAssignment) (s : State) → Places s → IfOk (assign_forall axes m mask b s) Places
  assign-forall-keeps axes m mask b s h =
      bound Places
      (each (indices_at axes) (λ t. let x = indices_at axes t in if_true (mask t) (values x s b.subscripts >>= (λ is. store_at s b.array is (value x s b.right)))) m)
      (λ stores. Ok (store_all s b.array stores)) (λ stores. stores-keep b.array s stores h)

  all-forall-keeps : (axes : List Sequence) (m : ℕ) (mask : Mask) (bs : List ElementAssignment) → Keeps (assign_all_forall axes m mask bs)
  all-forall-keeps axes m mask [] s h = h
  all-forall-keeps axes m mask (b ∷ bs) s h =
      then-keeps (one_step b.line s (assign_forall axes m mask b s)) (assign_all_forall axes m mask bs)
      (step-keeps b.line s (assign_forall axes m mask b s) h (assign-forall-keeps axes m mask b s h)) (all-forall-keeps axes m mask bs)

  limits-keep : (line : ℕ) (axes : List Sequence) (ts : List Term) → Keeps (λ s. one_step line s (check_limits axes ts s))
  limits-keep line axes ts s h = step-keeps line s (check_limits axes ts s) h (check-keeps (is_forall_in_limits s axes ts) SpaceLimit s h)

  forall-keeps : (line : ℕ) (controls : List Control) (mask : Option Term) (body : List ElementAssignment) → Keeps (run_forall line controls mask body)
  forall-keeps line controls mask body s h =
      valued-keeps line s (all_index_values s controls)
      (λ axes. if product (index_extents axes) == 0 then normal s else then_do (one_step line s (check_limits axes (all_subscripts mask body) s)) (checked axes)) h (λ axes.
      by_count axes (product (index_extents axes) == 0))
    where
      assigned : List Sequence → State → Run
      assigned axes z = with_value line z (mask_over z axes (product (index_extents axes)) mask) (λ m. assign_all_forall axes (product (index_extents axes)) m body z)

      checked : List Sequence → State → Run
      checked axes z = then_do (check_one_to_one (index_extents axes) body z) (assigned axes)

      assigned-keeps : (axes : List Sequence) → Keeps (assigned axes)
      assigned-keeps axes z g =
          valued-keeps line z (mask_over z axes (product (index_extents axes)) mask) (λ m. assign_all_forall axes (product (index_extents axes)) m body z) g
          (λ m. all-forall-keeps axes (product (index_extents axes)) m body z g)

      checked-keeps : (axes : List Sequence) → Keeps (checked axes)
      checked-keeps axes z g = then-keeps (check_one_to_one (index_extents axes) body z) (assigned axes) (one-to-one-keeps (index_extents axes) body z g) (assigned-keeps axes)

      by_count : (axes : List Sequence) (b : Bool)
          → Places (if b then normal s else then_do (one_step line s (check_limits axes (all_subscripts mask body) s)) (checked axes)).state
      by_count axes true = h
      by_count axes false =
          then-keeps (one_step line s (check_limits axes (all_subscripts mask body) s)) (checked axes) (limits-keep line axes (all_subscripts mask body) s h) (checked-keeps axes)

  transform-keeps : (x y : WholeArray) (how : Transformation) (s : State) → Places s → IfOk (transform x y how s) Places
  transform-keeps x y how s h =
      bound Places (shift_of s how) (λ k. if has_shape x y how then Ok (store_all s x.array (transformed x y how k s)) else fails Shape) (λ k.
      if-keeps (has_shape x y how) (Ok (store_all s x.array (transformed x y how k s))) (fails Shape) (stores-keep x.array s (transformed x y how k s) h) tt)

  either-keeps : (b : Bool) (one other : State → Run) (s : State) → Places (one s).state → Places (other s).state → Places ((if b then one else other) s).state
  either-keeps true one other s f g = f
  either-keeps false one other s f g = g

  mutual
    run-keeps : (st : Statement) (line : ℕ) → Keeps (run st line)
    run-keeps (AssignScalar k right) line s h =
        step-keeps line s (assign_scalar k right s) h (bound Places (value [] s right) (λ v. Ok (set_scalar s k v)) (λ v. set-keeps s k v h))
    run-keeps (AssignElement a ts right) line s h =
        step-keeps line s (assign_element a ts right s) h
        (bound Places (values [] s ts >>= place_in s a) (λ k. value [] s right >>= (λ v. Ok (store s a k v))) (λ k.
        bound Places (value [] s right) (λ v. Ok (store s a k v)) (λ v. h)))
    run-keeps (AssignSection a subs right) line s h = step-keeps line s (assign_section a subs right s) h (assign-section-keeps a subs right s h)
    run-keeps (Transform x y how) line s h = step-keeps line s (transform x y how s) h (transform-keeps x y how s h)
    run-keeps (If arms other) line s h = arms-keep arms (run_block other) (block-keeps other) s h
    run-keeps (Do mark loop body) line s h =
        valued-keeps line s (index_values s loop.control)
        (λ p. then_do (one_step line s (entered mark s)) (iterate p.count loop.index p.first p.step (run_block body))) h (λ p.
        then-keeps (one_step line s (entered mark s)) (iterate p.count loop.index p.first p.step (run_block body))
        (step-keeps line s (entered mark s) h (entered-keeps mark s h)) (iterate-keeps p.count loop.index p.first p.step (run_block body) (block-keeps body)))
    run-keeps (Where mask body others) line s h = where-keeps line mask body others s h
    run-keeps (Forall controls mask body) line s h = forall-keeps line controls mask body s h
    run-keeps (Print items) line s h =
        step-keeps line s (print items s) h
        (bound Places (all_item_bytes s items) (λ bytes. Ok (record s { printed = s.printed ++ (drop 1 bytes ++ 10 ∷ []) })) (λ bytes. h))
    run-keeps Stop line s h = h
    run-keeps Exit line s h = h
    run-keeps Cycle line s h = h
    run-keeps Continue line s h = h
    run-keeps Redistribute line s h = h

    arms-keep : (arms : Arms) (other : State → Run) → Keeps other → Keeps (run_arms arms other)
    arms-keep NoArm other go s h = go s h
    arms-keep (Arm line t body arms) other go s h =
        valued-keeps line s (condition s t) (λ met. (if met then run_block body else run_arms arms other) s) h (λ met.
        either-keeps met (run_block body) (run_arms arms other) s (block-keeps body s h) (arms-keep arms other go s h))

    block-keeps : (b : Block) → Keeps (run_block b)
    block-keeps Done s h = h
    block-keeps (Then line st rest) s h = then-keeps (run st line s) (run_block rest) (run-keeps st line s h) (block-keeps rest)

  -- ---- trails

  both : (T U : Trail) → HavePlaces n T → HavePlaces n U → HavePlaces n (T ++ U)
  both [] U h g = g
  both (e ∷ T) U h g = (h.0, both T U h.1 g)

  valued : {A : Type 0} (r : Result A Cause) (next : A → Trail) → ((a : A) → HavePlaces n (next a)) → HavePlaces n (after_value r next)
  valued (Ok a) next go = go a
  valued (Err c) next go = tt

  ran : (r : Run) (next : State → Trail) → Places r.state → Tells next → HavePlaces n (after_run r next)
  ran r next h go = by r.completion where
    by : (c : Completion) → HavePlaces n (after_run (record { state = r.state; completion = c }) next)
    by Normal = go r.state h
    by c = tt

  turned : (r : Run) (next : State → Trail) → Places r.state → Tells next → HavePlaces n (after_iteration r next)
  turned r next h go = by r.completion where
    by : (c : Completion) → HavePlaces n (after_iteration (record { state = r.state; completion = c }) next)
    by Normal = go r.state h
    by Cycled = go r.state h
    by c = tt

  if-tells : (b : Bool) (T : Trail) → HavePlaces n T → HavePlaces n (if b then T else [])
  if-tells true T g = g
  if-tells false T g = tt

  module _ (line : ℕ) (s : State) (h : Places s) where
    one : (event : Event) → HavePlaces n (reached line s event)
    one event = (h, tt)

    own-tells : (x : Elemental) (event : List ℕ → Elemental → Event) → HavePlaces n (over_own_space line s x event)
    own-tells x event = valued (own_size x) (λ m. reached line s (event (own_extents x) x)) (λ m. one (event (own_extents x) x))

    mutual
      value-tells : (t : Term) → HavePlaces n (value_trail line s t)
      value-tells (Number v) = tt
      value-tells (Scalar k) = tt
      value-tells (Index k) = tt
      value-tells (Element a ts) = values-tell ts
      value-tells (Section a subs) = tt
      value-tells (Apply o ts) = values-tell ts
      value-tells (Reduce o t) =
          both (elemental_trail line s t) (after_value (elemental [] s t) (λ x. over_own_space line s x (Reduced o))) (elemental-tells t)
          (valued (elemental [] s t) (λ x. over_own_space line s x (Reduced o)) (λ x. own-tells x (Reduced o)))

      values-tell : (ts : Terms) → HavePlaces n (values_trail line s ts)
      values-tell NoTerm = tt
      values-tell (More t ts) =
          both (value_trail line s t) (after_value (value [] s t) (λ v. values_trail line s ts)) (value-tells t)
          (valued (value [] s t) (λ v. values_trail line s ts) (λ v. values-tell ts))

      elemental-tells : (t : Term) → HavePlaces n (elemental_trail line s t)
      elemental-tells (Number v) = tt
      elemental-tells (Scalar k) = tt
      elemental-tells (Index k) = tt
      elemental-tells (Element a ts) = values-tell ts
      elemental-tells (Section a subs) = selections-tell subs
      elemental-tells (Apply o ts) = elementals-tell ts
      elemental-tells (Reduce o t) =
          both (elemental_trail line s t) (after_value (elemental [] s t) (λ x. over_own_space line s x (Reduced o))) (elemental-tells t)
          (valued (elemental [] s t) (λ x. over_own_space line s x (Reduced o)) (λ x. own-tells x (Reduced o)))

      elementals-tell : (ts : Terms) → HavePlaces n (elementals_trail line s ts)
      elementals-tell NoTerm = tt
      elementals-tell (More t ts) =
          both (elemental_trail line s t) (after_value (elemental [] s t) (λ x. elementals_trail line s ts)) (elemental-tells t)
          (valued (elemental [] s t) (λ x. elementals_trail line s ts) (λ x. elementals-tell ts))

      selections-tell : (subs : SectionSubscripts) → HavePlaces n (selections_trail line s subs)
      selections-tell NoSubscript = tt
      selections-tell (Subscript t subs) =
          both (value_trail line s t) (after_value (value [] s t) (λ v. selections_trail line s subs)) (value-tells t)
          (valued (value [] s t) (λ v. selections_trail line s subs) (λ v. selections-tell subs))
      selections-tell (Triplet first last step subs) =
          let more : ℤ → ℤ → Trail = λ a b. after_value (sequence_of (Ok a) (Ok b) (value [] s step)) (λ p. selections_trail line s subs) in
          let then_step : ℤ → ℤ → Trail = λ a b. value_trail line s step ++ more a b in
          let then_last : ℤ → Trail = λ a. value_trail line s last ++ after_value (value [] s last) (then_step a) in
          both (value_trail line s first) (after_value (value [] s first) then_last) (value-tells first)
          (valued (value [] s first) then_last (λ a.
          both (value_trail line s last) (after_value (value [] s last) (then_step a)) (value-tells last)
          (valued (value [] s last) (then_step a) (λ b.
          both (value_trail line s step) (more a b) (value-tells step)
          (valued (sequence_of (Ok a) (Ok b) (value [] s step)) (λ p. selections_trail line s subs) (λ p. selections-tell subs))))))

    control-tells : (c : Control) → HavePlaces n (control_trail line s c)
    control-tells c =
        let then_last : ℤ → Trail = λ a. value_trail line s c.last ++ after_value (value [] s c.last) (λ b. value_trail line s c.step) in
        both (value_trail line s c.first) (after_value (value [] s c.first) then_last) (value-tells c.first)
        (valued (value [] s c.first) then_last (λ a.
        both (value_trail line s c.last) (after_value (value [] s c.last) (λ b. value_trail line s c.step)) (value-tells c.last)
        (valued (value [] s c.last) (λ b. value_trail line s c.step) (λ b. value-tells c.step))))

    controls-tell : (cs : List Control) → HavePlaces n (all_controls_trail line s cs)
    controls-tell [] = tt
    controls-tell (c ∷ cs) =
        both (control_trail line s c) (after_value (index_values s c) (λ p. all_controls_trail line s cs)) (control-tells c)
        (valued (index_values s c) (λ p. all_controls_trail line s cs) (λ p. controls-tell cs))

    item-tells : (i : Item) → HavePlaces n (item_trail line s i)
    item-tells (Text bytes) = tt
    item-tells (Value t) = value-tells t
    item-tells (Elements a subs) = selections-tell subs

    items-tell : (is : List Item) → HavePlaces n (all_items_trail line s is)
    items-tell [] = tt
    items-tell (i ∷ is) =
        both (item_trail line s i) (after_value (item_bytes s i) (λ bytes. all_items_trail line s is)) (item-tells i)
        (valued (item_bytes s i) (λ bytes. all_items_trail line s is) (λ bytes. items-tell is))

    section-tells : (ns : Option (List ℕ)) (beside : Option AnchorText) (a : ℕ) (subs : SectionSubscripts) (right : Term)
        → HavePlaces n (section_trail ns beside line a subs right s)
    section-tells ns beside a subs right =
        let reach : List Selection → Elemental → Trail = λ ds x.
        after_value (space_size (unwrap_or ns (extents ds)) (ds ∷ sections x)) (λ m. reached line s (SectionAssigned (is_some ns) beside (unwrap_or ns (extents ds)) a ds x)) in
        let then_right : List Selection → Trail = λ ds. elemental_trail line s right ++ after_value (elemental [] s right) (reach ds) in
        both (selections_trail line s subs) (after_value (selections [] s subs) then_right) (selections-tell subs)
        (valued (selections [] s subs) then_right (λ ds.
        both (elemental_trail line s right) (after_value (elemental [] s right) (reach ds)) (elemental-tells right)
        (valued (elemental [] s right) (reach ds) (λ x.
        valued (space_size (unwrap_or ns (extents ds)) (ds ∷ sections x)) (λ m. reached line s (SectionAssigned (is_some ns) beside (unwrap_or ns (extents ds)) a ds x))
        (λ m. one (SectionAssigned (is_some ns) beside (unwrap_or ns (extents ds)) a ds x))))))

    shift-tells : (how : Transformation) → HavePlaces n (shift_trail line s how)
    shift-tells (CircularShift by) = value-tells by
    shift-tells Transposition = tt
    shift-tells PrefixSum = tt

    transform-tells : (x y : WholeArray) (how : Transformation) → HavePlaces n (transform_trail x y how line s)
    transform-tells x y how =
        both (shift_trail line s how) _ (shift-tells how)
        (valued (shift_of s how) _ (λ k. if-tells (has_shape x y how) _ (transformed-tells how k)))
      where
        transformed-tells : (how : Transformation) (k : ℤ) → HavePlaces n (transformed_trail x y how k line s)
        transformed-tells (CircularShift by) k = (h, tt)
        transformed-tells Transposition k = (h, tt)
        transformed-tells PrefixSum k = (h, (h, tt))

    forall-mask-tells : (beside : Option AnchorText) (axes : List Sequence) (mask : Option Term) → HavePlaces n (forall_mask_trail line s beside axes mask)
    forall-mask-tells beside axes None = tt
    forall-mask-tells beside axes (Some t) = one (ForallMask beside axes t)

  where-tells : (ns : List ℕ) (mask : Mask) (beside : Option AnchorText) (bs : List SectionAssignment) → Tells (where_trail ns mask beside bs)
  where-tells ns mask beside [] s h = tt
  where-tells ns mask beside (b ∷ bs) s h =
      both (section_trail (Some ns) beside b.line b.array b.subscripts b.right s) (after_run (one_step b.line s (assign_where ns mask b s)) (where_trail ns mask beside bs))
      (section-tells b.line s h (Some ns) beside b.array b.subscripts b.right)
      (ran (one_step b.line s (assign_where ns mask b s)) (where_trail ns mask beside bs) (step-keeps b.line s (assign_where ns mask b s) h (assign-where-keeps ns mask b s h))
      (where-tells ns mask beside bs))

  forall-tells : (masked : Bool) (beside : Option AnchorText) (axes : List Sequence) (m : ℕ) (mask : Mask) (bs : List ElementAssignment)
      → Tells (forall_trail masked beside axes m mask bs)
  forall-tells masked beside axes m mask [] s h = tt
  forall-tells masked beside axes m mask (b ∷ bs) s h = (
    h,
    ran (one_step b.line s (assign_forall axes m mask b s)) (forall_trail masked beside axes m mask bs)
        (step-keeps b.line s (assign_forall axes m mask b s) h (assign-forall-keeps axes m mask b s h)) (forall-tells masked beside axes m mask bs),
  )

  parts-tell : (line : ℕ) (axes : List Sequence) (mask : Option Term) (body : List ElementAssignment) → Tells (forall_parts_trail line axes mask body)
  parts-tell line axes mask body s h =
      let m = product (index_extents axes) in
      let beside = forall_anchor body in
      both (forall_mask_trail line s beside axes mask) (after_value (mask_over s axes m mask) (λ k. forall_trail (is_some mask) beside axes m k body s)) (forall-mask-tells line s h beside axes mask)
      (valued (mask_over s axes m mask) (λ k. forall_trail (is_some mask) beside axes m k body s) (λ k. forall-tells (is_some mask) beside axes m k body s h))

  empty-keeps : (b : Bool) (s : State) (r : Run) → Places s → Places r.state → Places (if b then normal s else r).state
  empty-keeps true s r h g = h
  empty-keeps false s r h g = g

  -- ---- nests

  turns-tell : (T : ℕ → Trail) → ((x : ℕ) → HavePlaces n (T x)) → (m : ℕ) → HavePlaces n (in_turns m T)
  turns-tell T h zero = tt
  turns-tell T h (suc m) = both (in_turns m T) (T m) (turns-tell T h m) (h m)

  trip-keeps : (after : State → State) → ((s : State) → Places s → Places (after s)) → (x : ℕ) (p : Sequence) (s : State) → Places s → (m : ℕ) → Places (in_trip after x p s m)
  trip-keeps after keeps x p s h zero = set-keeps s x (turn_value p 0) h
  trip-keeps after keeps x p s h (suc m) =
      let z = in_trip after x p s m in
      set-keeps (after z) x (turn_value p (suc m)) (keeps z (trip-keeps after keeps x p s h m))

  mutual
    indices-after-keep : (body : Block) (s : State) → Places s → Places (indices_after body s)
    indices-after-keep Done s h = h
    indices-after-keep (Then line st rest) s h = indices-after-keep rest (indices_by st s) (indices-keep st s h)

    indices-keep : (st : Statement) (s : State) → Places s → Places (indices_by st s)
    indices-keep (Do mark loop body) s h = trip-keeps (indices_after body) (indices-after-keep body) loop.index (values_of s loop) s h (values_of s loop).count
    indices-keep (AssignScalar x t) s h = h
    indices-keep (AssignElement a ts t) s h = h
    indices-keep (AssignSection a subs t) s h = h
    indices-keep (Transform x y how) s h = h
    indices-keep (If arms other) s h = h
    indices-keep (Where mask body others) s h = h
    indices-keep (Forall controls mask body) s h = h
    indices-keep (Print items) s h = h
    indices-keep Stop s h = h
    indices-keep Exit s h = h
    indices-keep Cycle s h = h
    indices-keep Continue s h = h
    indices-keep Redistribute s h = h

  module _ (nest : EnteredNest) where
    mutual
      block-parts-tell : (b : Block) (guard : Option ℕ) (k : ℕ) → Tells (block_parts nest guard k b)
      block-parts-tell Done guard k s h = tt
      block-parts-tell (Then line st rest) guard k s h =
          both (statement_parts nest guard k line st s) (block_parts nest guard (conditions_by st + k) rest (indices_by st s)) (statement-parts-tell st guard k line s h)
          (block-parts-tell rest guard (conditions_by st + k) (indices_by st s) (indices-keep st s h))

      statement-parts-tell : (st : Statement) (guard : Option ℕ) (k line : ℕ) → Tells (statement_parts nest guard k line st)
      statement-parts-tell (AssignScalar x t) guard k line s h = (h, tt)
      statement-parts-tell (AssignElement a ts t) guard k line s h = (h, tt)
      statement-parts-tell (If arms other) guard k line s h =
          let last : List ℕ → ℕ → Trail = λ earlier k. if has_statement other
          then reached 0 s (OfNest nest (tested_asked guard earlier) (ConditionPart k None)) ++ block_parts nest (Some k) (k + 1) other s else [] in
          arms-parts-tell arms guard [] k last s h (λ earlier k.
          if-tells (has_statement other) (reached 0 s (OfNest nest (tested_asked guard earlier) (ConditionPart k None)) ++ block_parts nest (Some k) (k + 1) other s)
          (h, block-parts-tell other (Some k) (k + 1) s h))
      statement-parts-tell (Do mark loop body) guard k line s h =
          let p = values_of s loop in
          turns-tell (λ x. block_parts nest guard k body (in_trip (indices_after body) loop.index p s x)) (λ x.
          block-parts-tell body guard k (in_trip (indices_after body) loop.index p s x) (trip-keeps (indices_after body) (indices-after-keep body) loop.index p s h x)) p.count
      statement-parts-tell (AssignSection a subs t) guard k line s h = tt
      statement-parts-tell (Transform x y how) guard k line s h = tt
      statement-parts-tell (Where mask body others) guard k line s h = tt
      statement-parts-tell (Forall controls mask body) guard k line s h = tt
      statement-parts-tell (Print items) guard k line s h = tt
      statement-parts-tell Stop guard k line s h = tt
      statement-parts-tell Exit guard k line s h = tt
      statement-parts-tell Cycle guard k line s h = tt
      statement-parts-tell Continue guard k line s h = tt
      statement-parts-tell Redistribute guard k line s h = tt

      arms-parts-tell : (arms : Arms) (guard : Option ℕ) (earlier : List ℕ) (k : ℕ) (other : List ℕ → ℕ → Trail) (s : State) → Places s
          → ((earlier : List ℕ) (k : ℕ) → HavePlaces n (other earlier k)) → HavePlaces n (arms_parts nest guard earlier k arms other s)
      arms-parts-tell NoArm guard earlier k other s h go = go earlier k
      arms-parts-tell (Arm line t body arms) guard earlier k other s h go = (
        h,
        both (block_parts nest (Some k) (k + 1) body s) (arms_parts nest guard (k ∷ earlier) (k + 1 + conditions_in body) arms other s)
            (block-parts-tell body (Some k) (k + 1) s h) (arms-parts-tell arms guard (k ∷ earlier) (k + 1 + conditions_in body) other s h go),
      )

  nest-tells : (nest : Nest) (body : Block) → Tells (nest_trail nest body)
  nest-tells nest body s h = by (iteration_count nest s == 0) where
    by : (b : Bool) → HavePlaces n (if b then [] else block_parts (entered_nest nest body s) None 0 body s)
    by true = tt
    by false = block-parts-tell (entered_nest nest body s) body None 0 s h

  marked-tells : (mark : Mark) (loops : State → Trail) → Tells loops → Tells (marked_trail mark loops)
  marked-tells Unmarked loops go s h = go s h
  marked-tells (Outermost nest body) loops go s h = nest-tells nest body s h

  -- ---- all statements

  iterate-tells : (m x : ℕ) (index step : ℤ) (body : State → Run) (told : State → Trail) → Keeps body → Tells told → Tells (iterate_trail m x index step body told)
  iterate-tells zero x index step body told keeps go s h = tt
  iterate-tells (suc m) x index step body told keeps go s h =
      let z = set_scalar s x index in
      let k = set-keeps s x index h in
      both (told z) (after_iteration (body z) (iterate_trail m x (wrapped (index +ℤ step)) step body told)) (go z k)
      (turned (body z) (iterate_trail m x (wrapped (index +ℤ step)) step body told) (keeps z k) (iterate-tells m x (wrapped (index +ℤ step)) step body told keeps go))

  either-tells : (b : Bool) (one other : State → Trail) (s : State) → HavePlaces n (one s) → HavePlaces n (other s) → HavePlaces n ((if b then one else other) s)
  either-tells true one other s f g = f
  either-tells false one other s f g = g

  entered-valued : (mark : Mark) (s : State) (next : State → Trail) → Places s → Tells next → HavePlaces n (after_value (entered mark s) next)
  entered-valued mark s next h go = by (entered mark s) (entered-keeps mark s h) where
    by : (r : Result State Cause) → IfOk r Places → HavePlaces n (after_value r next)
    by (Ok z) f = go z f
    by (Err c) f = tt

  where-statement-tells : (line : ℕ) (mask : Term) (body others : List SectionAssignment) → Tells (trail (Where mask body others) line)
  where-statement-tells line mask body others s h =
      let beside = where_anchor (body ++ others) in
      both (elemental_trail line s mask) _ (elemental-tells line s h mask)
      (valued (elemental [] s mask) _ (λ x.
      both (over_own_space line s x (ValuesCopied beside)) _ (own-tells line s h x (ValuesCopied beside))
      (valued (array_value s x) _ (λ m.
      both (where_trail m.extents (mask_of m.elements) beside body s) _ (where-tells m.extents (mask_of m.elements) beside body s h)
      (ran (assign_all_where m.extents (mask_of m.elements) body s) (where_trail m.extents (negated_mask m.elements) beside others)
      (all-where-keeps m.extents (mask_of m.elements) body s h) (where-tells m.extents (negated_mask m.elements) beside others))))))

  forall-statement-tells : (line : ℕ) (controls : List Control) (mask : Option Term) (body : List ElementAssignment) → Tells (trail (Forall controls mask body) line)
  forall-statement-tells line controls mask body s h =
      both (all_controls_trail line s controls) _ (controls-tell line s h controls)
      (valued (all_index_values s controls) _ (λ axes.
      let m = product (index_extents axes) in
      ran (if_not_empty m s (one_step line s (check_limits axes (all_subscripts mask body) s)))
      (λ z. after_run (if_not_empty m z (check_one_to_one (index_extents axes) body z)) (forall_parts_trail line axes mask body))
      (empty-keeps (m == 0) s (one_step line s (check_limits axes (all_subscripts mask body) s)) h (limits-keep line axes (all_subscripts mask body) s h)) (λ z g.
      ran (if_not_empty m z (check_one_to_one (index_extents axes) body z)) (forall_parts_trail line axes mask body)
      (empty-keeps (m == 0) z (check_one_to_one (index_extents axes) body z) g (one-to-one-keeps (index_extents axes) body z g)) (parts-tell line axes mask body))))

  mutual
    tells : (st : Statement) (line : ℕ) → Tells (trail st line)
    tells (AssignScalar k right) line s h = value-tells line s h right
    tells (AssignElement a ts right) line s h =
        both (values_trail line s ts) (after_value (values [] s ts >>= place_in s a) (λ k. value_trail line s right)) (values-tell line s h ts)
        (valued (values [] s ts >>= place_in s a) (λ k. value_trail line s right) (λ k. value-tells line s h right))
    tells (AssignSection a subs right) line s h = section-tells line s h None None a subs right
    tells (Transform x y how) line s h = transform-tells line s h x y how
    tells (If arms other) line s h = arms-tell arms (block_trail other) (block-tells other) s h
    tells (Do mark loop body) line s h =
        let turns : Sequence → State → Trail = λ p. iterate_trail p.count loop.index p.first p.step (run_block body) (block_trail body) in
        both (control_trail line s loop.control) (after_value (index_values s loop.control) (λ p. after_value (entered mark s) (marked_trail mark (turns p))))
        (control-tells line s h loop.control)
        (valued (index_values s loop.control) (λ p. after_value (entered mark s) (marked_trail mark (turns p))) (λ p.
        entered-valued mark s (marked_trail mark (turns p)) h
        (marked-tells mark (turns p) (iterate-tells p.count loop.index p.first p.step (run_block body) (block_trail body) (block-keeps body) (block-tells body)))))
    tells (Where mask body others) line s h = where-statement-tells line mask body others s h
    tells (Forall controls mask body) line s h = forall-statement-tells line controls mask body s h
    tells (Print items) line s h = items-tell line s h items
    tells Redistribute line s h = (h, tt)
    tells Stop line s h = tt
    tells Exit line s h = tt
    tells Cycle line s h = tt
    tells Continue line s h = tt

    arms-tell : (arms : Arms) (other : State → Trail) → Tells other → Tells (arms_trail arms other)
    arms-tell NoArm other go s h = go s h
    arms-tell (Arm line t body arms) other go s h =
        both (value_trail line s t) (after_value (condition s t) (λ met. (if met then block_trail body else arms_trail arms other) s)) (value-tells line s h t)
        (valued (condition s t) (λ met. (if met then block_trail body else arms_trail arms other) s) (λ met.
        either-tells met (block_trail body) (arms_trail arms other) s (block-tells body s h) (arms-tell arms other go s h)))

    block-tells : (b : Block) → Tells (block_trail b)
    block-tells Done s h = tt
    block-tells (Then line st rest) s h =
        both (trail st line s) (after_run (run st line s) (block_trail rest)) (tells st line s h)
        (ran (run st line s) (block_trail rest) (run-keeps st line s h) (block-tells rest))

-- the trail of a block from a state with so many scalars
pub block-places : (n : ℕ) (b : Block) (s : State) → length s.scalars ≡ n → HavePlaces n (block_trail b s)
block-places n b s h = block-tells n b s h
