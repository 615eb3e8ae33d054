-- What the machine passes over the statements of a nest is the nest's parts.
use Rattle.std.proofs.Common.{◌≡◌, ℕ, zero, suc, ◌+◌, ◌<◌, ◌≤◌, inl, ⊎_elim, nat_eq, List, [], ◌∷◌, ◌++◌, length, map, ℤ, pos, Bool, true, false, Option, Some, None, unwrap_or, if◌then◌else◌, refl, sym, ap, ◌∙◌, subst, arith, slice_get, length-set, get_or-set_same, get_or-set_other}
use Rattle.std.specs.Prelude.{◌&&◌, ◌||◌, not}
use Rattle.op_tables.specs.Operators.{is_zero}
use Rattle.std.proofs.lemmas.Bool.{true≢false, cases_eq}
use Rattle.std.proofs.lemmas.Bool.Decides.{nat_tests}
use Rattle.std.proofs.lemmas.List.{length-append}
use Rattle.array_meaning.specs.declared.sections.Sequence.{Sequence}
use Rattle.array_meaning.specs.declared.sections.Selection.TheVariants.{Along}
use Rattle.array_meaning.specs.Faults.{Fault}
use Rattle.array_meaning.specs.State.{State, scalar, set_scalar}
use Rattle.array_meaning.specs.Terms.{Term, Number, Scalar, Index, Element, Section, Apply, Reduce, Terms, NoTerm, More}
use Rattle.array_meaning.specs.Statements.{Loop, Nest, Block, Done, Then, Statement, AssignScalar, AssignElement, AssignSection, Transform, If, Do, Unmarked, Outermost, Where, Forall, Print, Stop, Exit, Cycle, Continue, Redistribute, Arms, NoArm, Arm}
use Rattle.array_meaning.specs.Iterations.{is_in, values_of, nest_axes, nest_indices, turn_value, in_turns}
use Rattle.statement_trail.specs.NestParts.{EnteredNest, NestPart, ScalarPart, ElementPart, ConditionPart, index_in, of_these, scalars_in, has_statement, conditions_in, conditions_by, conditions_in_arms, scalar_copy, condition_copy, in_trip, indices_after, indices_by, nest_anchor}
use Rattle.nest_syntax.specs.Asked.{Asked, guard_asked, none_asked, tested_asked}
use Rattle.statement_trail.specs.Trail.{Trail, OfNest, reached, block_parts, statement_parts, arms_parts}
use Rattle.node_code.specs.declared.nest.NestRole.{NestRole}
use Rattle.node_code.specs.declared.nest.NestRole.TheVariants.{Assigns, Tests}
use Rattle.node_code.specs.Flat.{Int}
use Rattle.code_meaning.specs.Flat.{slot}
use Rattle.node_code.specs.Forms.{Sub}
use Rattle.node_code.specs.Anchors.{FlatAnchor}
use Rattle.code_meaning.specs.Forms.{selections_in}
use Rattle.node_code.specs.Parallel.{When}
use Rattle.node_code.specs.NestStatements.{NestStatement, NestLeft, ElementLeft, CopyLeft}
use Rattle.node_code.specs.Instructions.{Instruction, NewMapping, ParNest, MakeCopies}
use Rattle.code_meaning.specs.Instructions.{ArrayTable}
use Rattle.nest_syntax.specs.NestTerms.{all_indexed, indexed, NamesFirst, AllNameFirst, SubscriptsFirst, HasNoIndex, HaveNoIndex}
use Rattle.program_code.specs.ExpressionCode.{index_subs, index_form}
use Rattle.lowered_expressions.specs.WellFormed.{IsIndexed}
use Rattle.lowered_expressions.specs.Anchors.{IsAnchorText}
use Rattle.lowered_expressions.specs.NestEvents.{whens_for, AreStored, IsPart, Evaluates}
use Rattle.lowered_expressions.specs.Passed.{unless_mark, IsTrail, IsEvent}
use Rattle.lowered_expressions.proofs.Reach.{HasAt, has-front, has-back}
use Rattle.nest_syntax.specs.NestKinds.{has_copies}
use Rattle.nest_items.specs.Naming.{IsNaming, AreNaming}
use Rattle.nest_syntax.specs.Assigning.{ToScalar, ToElement}
use Rattle.nest_items.specs.Standing.{has_no_loop, have_no_loop, is_no_loop}
use Rattle.nest_machine.specs.Body.{body_slots, arms_slots}
use Rattle.nest_machine.specs.Counting.{Counting, trips_at}
use Rattle.nest_machine.specs.Slots.{SameSlots, headed, first_trip, trip_slots, left_slots, slots_after, slots_after_arms}
use Rattle.nest_machine.proofs.Slots.{same-on, same-headed, same-first, same-trip, same-left, same-again, same-advanced, same-after}
use Rattle.nest_join.specs.NestLoops.{counting_at}
use Rattle.program_code.specs.NestInstructions as forms
use Rattle.program_code.specs.NestInstructions.{FlatBounds, count_nest, count_nest_arms, whens_of, assigning, testing, setting_else, setting_mark, tail_instructions, mark_instructions, text_instructions, test_instruction, loop_instructions, body_instructions, arms_instructions}
use Rattle.nest_join.specs.NestBodies.{bounds_of, body_of, arms_of, CantFault}
use Rattle.nest_join.specs.NestNames.{NestNames, indices_of, index_of, IsFixedHere, IsTextTerm}
use Rattle.nest_join.specs.NestTexts.{NestAction, NestCondition, text_of, test_of, HoldsEntry}
use Rattle.nest_join.specs.CodedBlocks.{IsBoundName, IsCodedLoop, IsCodedBlock, IsCodedStatement, AreCodedArms, CodedBody, CodedArms, loop_bounds, else_arm, coded, coded_in, coded_arms}
use Rattle.program_code.specs.Places.{place_by}
use Rattle.nest_join.proofs.HiddenIndices.{hidden-is}
use Rattle.nest_join.proofs.Bounds.{step-flat, step-some}
use Rattle.nest_join.proofs.LoopTurns.{P, values-are, count-is, turns, left-index}
use Rattle.nest_join.proofs.SameItems.{takes}
use Rattle.program_code.specs.NestCode.{nest_beside, scalars, conditions, stored, place_in}
use Rattle.lowered_nests.specs.NamesIn.{names_in}
use Rattle.lowered_nests.proofs.CodeLies.{safe-block}
use Rattle.lowered_nests.proofs.Listed.{in-some, once-in, these-in}
use Rattle.lowered_nests.proofs.TextTerms.{first-index}
use Rattle.lowered_nests.proofs.Passing.{Passes, passes-none, passes-on, passes-last, passes-at, passes-one}
use Rattle.lowered_nests.proofs.LoopPasses.{loop-length, loop-passes}

-- ---- copies

and-second : (a b : Bool) → (a && b) ≡ true → b ≡ true
and-second true b e = e
and-second false b e = absurd (true≢false (sym e))

-- rows of scalars that are all among others
map-rows : (f g : ℕ → ℕ) (ss ks : List ℕ) → ((k : ℕ) → is_in k ss ≡ true → f k ≡ g k) → ((k : ℕ) → is_in k ks ≡ true → is_in k ss ≡ true) → map f ks ≡ map g ks
map-rows f g ss [] same in-all = refl
map-rows f g ss (k ∷ ks) same in-all =
    let own : is_in k (k ∷ ks) ≡ true = (let e : nat_eq k k ≡ true = grind (arith, nat_tests) in ap (λ t. t || is_in k ks) e) in
    λ i. same k (in-all k own) i ∷ map-rows f g ss ks same (λ x e. in-all x (later x e)) i
  where
    on : (t : Bool) → (t || true) ≡ true
    on true = refl
    on false = refl

    later : (x : ℕ) → is_in x ks ≡ true → is_in x (k ∷ ks) ≡ true
    later x e = ap (λ t. nat_eq x k || t) e ∙ on (nat_eq x k)

-- a block without loops leaves all indices
mutual
  still-block : (block : Block) (st : State) → has_no_loop block ≡ true → indices_after block st ≡ st
  still-block Done st e = refl
  still-block (Then line statement rest) st e = by_both (is_no_loop statement) refl e (λ h. still-by statement st h) (λ h z. still-block rest z h)
    where
      by_both : (t : Bool) → is_no_loop statement ≡ t → (t && has_no_loop rest) ≡ true → (is_no_loop statement ≡ true → indices_by statement st ≡ st)
          → (has_no_loop rest ≡ true → (z : State) → indices_after rest z ≡ z) → indices_after rest (indices_by statement st) ≡ st
      by_both true h e own others = others e (indices_by statement st) ∙ own h
      by_both false h e own others = absurd (true≢false (sym e))

  still-by : (statement : Statement) (st : State) → is_no_loop statement ≡ true → indices_by statement st ≡ st
  still-by (Do mark loop body) st e = absurd (true≢false (sym e))
  still-by statement st e = refl

module _ (table : ArrayTable) (moves : ℕ → List NewMapping) (code : List Instruction) (last line n : ℕ) (nest : Nest) (body : Block) (over : List Sub) (is_index : ℕ → Bool) (b0 count : ℕ)
    (entry : List ℤ) (s0 : State) (holds : HoldsEntry (names_in table n nest body over is_index) b0 entry s0) (outside : (x : ℕ) → b0 ≤ x → is_index x ≡ false)
    (assigned : (k : ℕ) → has_copies ((names_in table n nest body over is_index).kinds k) ≡ true → is_in k (scalars n nest body) ≡ true)
    (tuples : (slots : List ℤ) → SameSlots is_index b0 entry slots → selections_in slots over ≡ map Along (nest_axes s0 nest))
    (anchored : IsAnchorText n (nest_anchor nest body)) where
  abbrev w : NestNames
  w = names_in table n nest body over is_index

  abbrev pub N : EnteredNest
  N = record { indices = nest_indices nest; axes = nest_axes s0 nest; assigned = scalars n nest body; conditions = count; beside = nest_anchor nest body }

  abbrev beside : Option FlatAnchor
  beside = nest_beside nest body

  abbrev counting : Counting Fault
  counting = counting_at line

  abbrev Go : Trail → ℕ → List ℤ → ℕ → List ℤ → Type 0
  Go = Passes table moves code last

  abbrev from_row : ℕ
  from_row = stored n nest body

  abbrev Is : CodedBody w → Option ℕ → (k b pc : ℕ) → List Instruction
  Is = body_instructions line over beside (text_of w) (test_of w) from_row

  abbrev ArmsIs : CodedArms w → Option ℕ → List ℕ → (k b pc : ℕ) → List Instruction
  ArmsIs = arms_instructions line over beside (text_of w) (test_of w) from_row

  abbrev After : CodedBody w → ℕ → List ℤ → List ℤ
  After x = slots_after counting (body_of x)

  abbrev AfterArms : CodedArms w → ℕ → List ℤ → List ℤ
  AfterArms x = slots_after_arms counting (arms_of x)

  -- slots at a place, and the state there
  pub record Held (st : State) (s : List ℤ) : Type 0 where
    pub same : SameSlots is_index b0 entry s
    pub scalars : (k : ℕ) → k < n → slot s k ≡ scalar st k
    pub long : length st.scalars ≡ n

  -- ---- parts

  place-is : (k : ℕ) → is_in k (scalars n nest body) ≡ true → place_in n nest body k ≡ n + scalar_copy N k
  place-is k h =
      let j = in-some (scalars n nest body) 0 k h in
      ap (λ o. place_by n (scalars n nest body) (conditions n nest body) o k) j.1 ∙ ap (λ o. n + unwrap_or o 0) (sym j.1)

  copies-are : (t : Term) → map w.place (w.copied_in t) ≡ map (λ k. n + scalar_copy N k) (w.copied_in t)
  copies-are t =
      map-rows w.place (λ k. n + scalar_copy N k) (scalars n nest body) (w.copied_in t) place-is
      (λ k e. and-second (is_in k (scalars_in t)) (is_in k (scalars n nest body))
      (sym (once-in (of_these (scalars n nest body) (scalars_in t)) k ∙ these-in (scalars n nest body) (scalars_in t) k) ∙ e))

  when-row : (k : ℕ) → from_row + k ≡ n + condition_copy N k
  when-row k = omega arith

  whens-are : (ws : List Asked) → whens_of from_row ws ≡ whens_for n N ws
  whens-are [] = refl
  whens-are (w ∷ ws) = λ i. record { copy = when-row w.number i; value = w.value } ∷ whens-are ws i

  -- guards and earlier conditions are conditions of the nest
  abbrev IsGuard : Option ℕ → Type 0
  IsGuard None = Unit {0}
  IsGuard (Some k) = k < count

  abbrev AreEarlier : List ℕ → Type 0
  AreEarlier [] = Unit {0}
  AreEarlier (k ∷ ks) = (k < count) × AreEarlier ks

  guard-stored : (guard : Option ℕ) → IsGuard guard → AreStored n N (guard_asked guard)
  guard-stored None h = tt
  guard-stored (Some k) h = (h, tt)

  none-stored : (ks : List ℕ) → AreEarlier ks → AreStored n N (none_asked ks)
  none-stored [] h = tt
  none-stored (k ∷ ks) h = (h.0, none-stored ks h.1)

  arm-stored : (guard : Option ℕ) (earlier : List ℕ) → IsGuard guard → AreEarlier earlier → AreStored n N (tested_asked guard earlier)
  arm-stored None earlier h g = none-stored earlier g
  arm-stored (Some k) earlier h g = (h, none-stored earlier g)

  -- a statement that is noted is passed
  part-passes : (p : NestStatement) (pc : ℕ) (s : List ℤ) (st : State) (l : ℕ) (asked : List Asked) (part : NestPart) → slice_get code pc ≡ Some (ParNest p) → pc < last → Held st s
      → unless_mark p.role (record { instruction = ParNest p; slots = s }) ≡ record { instruction = ParNest p; slots = s } ∷ [] → p.line ≡ l → p.over ≡ over → p.beside ≡ beside
      → p.whens ≡ whens_for n N asked → AreStored n N asked → IsPart n N p part → Go (reached l st (OfNest N asked part)) pc s (pc + 1) s
  part-passes p pc s st l asked part has lt held noted at_line is_over is_beside whens stored_are is =
      passes-one table moves code last (reached l st (OfNest N asked part)) pc (pc + 1) s s (ParNest p) has lt (λ r. refl)
      (subst (λ ps. IsTrail moves ps (reached l st (OfNest N asked part))) (sym noted) (
        record {
          scalars = λ k less. held.scalars k (let e = held.long in omega (arith, e, less));
          event = subst (λ m. IsEvent moves m (ParNest p) s l (OfNest N asked part)) (sym held.long) (
            at_line,
            inl (N, asked, part, refl, ap (selections_in s) is_over ∙ tuples s held.same, whens, stored_are, is, (is_beside, anchored)),
          );
        },
        tt,
      ))

  text-evaluates : (round : List ℕ) (t : Term) (l : ℕ) (whens : List When) (left : NestLeft) (role : NestRole) → IsTextTerm w round (w.copied_in t) t → Evaluates n N (record {
    line = l;
    over = over;
    whens = whens;
    copies = map w.place (w.copied_in t);
    names = w.copied_in t;
    left = left;
    right = index_form (indexed (index_of w (w.copied_in t)) t);
    role = role;
    beside = beside;
  }) t
  text-evaluates round t l whens left role ok = record { names = refl; copies = copies-are t; right = refl; form = ok.form; first = ok.first }

  -- of the nest's indices alone a left side's subscripts are made
  mutual
    left-first : (round copies : List ℕ) (t : Term) → IsNaming (IsFixedHere w round copies) (λ a. ⊥) t → HasNoIndex t
        → NamesFirst (length (indices_of w)) (indexed (index_of w copies) t)
    left-first round copies (Number v) h plain = tt
    left-first round copies (Scalar k) h plain = first-index w copies k h.1 (index_in (indices_of w) 0 k) refl
    left-first round copies (Index k) h plain = absurd plain
    left-first round copies (Element a ts) h plain = absurd h.0
    left-first round copies (Section a subs) h plain = tt
    left-first round copies (Apply o ts) h plain = all-left-first round copies ts h plain
    left-first round copies (Reduce o t) h plain = tt

    all-left-first : (round copies : List ℕ) (ts : Terms) → AreNaming (IsFixedHere w round copies) (λ a. ⊥) ts → HaveNoIndex ts
        → AllNameFirst (length (indices_of w)) (all_indexed (index_of w copies) ts)
    all-left-first round copies NoTerm h plain = tt
    all-left-first round copies (More t ts) h plain = (left-first round copies t h.0 plain.0, all-left-first round copies ts h.1 plain.1)

  -- ---- how many conditions

  -- an ELSE without statements is none
  abbrev IsElse : CodedBody w → Bool → Type 0
  IsElse forms.NoText true = ⊥
  IsElse forms.NoText false = Unit {0}
  IsElse x true = Unit {0}
  IsElse x false = ⊥

  else-is : (round : List ℕ) (block : Block) (ok : IsCodedBlock w s0 round block) → IsElse (coded w s0 round block ok) (has_statement block)
  else-is round Done ok = tt
  else-is round (Then l (AssignScalar k t) rest) ok = tt
  else-is round (Then l (AssignElement a ts t) rest) ok = tt
  else-is round (Then l (AssignSection a subs t) rest) ok = absurd ok.0
  else-is round (Then l (Transform x y how) rest) ok = absurd ok.0
  else-is round (Then l (If arms other) rest) ok = tt
  else-is round (Then l (Do Unmarked loop inner) rest) ok = tt
  else-is round (Then l (Do (Outermost m b) loop inner) rest) ok = absurd ok.0
  else-is round (Then l (Where mask b others) rest) ok = absurd ok.0
  else-is round (Then l (Forall cs mask b) rest) ok = absurd ok.0
  else-is round (Then l (Print items) rest) ok = absurd ok.0
  else-is round (Then l Stop rest) ok = absurd ok.0
  else-is round (Then l Exit rest) ok = absurd ok.0
  else-is round (Then l Cycle rest) ok = absurd ok.0
  else-is round (Then l Continue rest) ok = else-is round rest ok.1
  else-is round (Then l Redistribute rest) ok = absurd ok.0

  else-count : (x : CodedBody w) (t : Bool) → IsElse x t → count_nest_arms (else_arm w x) ≡ (if t then 1 + count_nest x else 0)
  else-count forms.NoText true h = absurd h
  else-count forms.NoText false h = refl
  else-count (forms.AndText a r) true h = let e : 1 + count_nest r + 0 ≡ 1 + count_nest r = omega arith in e
  else-count (forms.AndText a r) false h = absurd h
  else-count (forms.AndIf arms r) true h = let c = count_nest_arms arms + count_nest r in let e : 1 + (count_nest_arms arms + count_nest r) + 0 ≡ 1 + (count_nest_arms arms + count_nest r) = omega arith in e
  else-count (forms.AndIf arms r) false h = absurd h
  else-count (forms.AndLoop bs inner r) true h = let e : 1 + (count_nest inner + count_nest r) + 0 ≡ 1 + (count_nest inner + count_nest r) = omega arith in e
  else-count (forms.AndLoop bs inner r) false h = absurd h

  mutual
    pub count-block : (round : List ℕ) (block : Block) (ok : IsCodedBlock w s0 round block) → count_nest (coded w s0 round block ok) ≡ conditions_in block
    count-block round Done ok = refl
    count-block round (Then l statement rest) ok = count-in l round statement ok.0 (coded w s0 round rest ok.1) ∙ ap (λ c. conditions_by statement + c) (count-block round rest ok.1)

    count-in : (l : ℕ) (round : List ℕ) (statement : Statement) (ok : IsCodedStatement w s0 round statement) (rest : CodedBody w)
        → count_nest (coded_in w s0 l round statement ok rest) ≡ conditions_by statement + count_nest rest
    count-in l round (AssignScalar k t) ok rest = let e : count_nest rest ≡ 0 + count_nest rest = omega arith in e
    count-in l round (AssignElement a ts t) ok rest = let e : count_nest rest ≡ 0 + count_nest rest = omega arith in e
    count-in l round (AssignSection a subs t) ok rest = absurd ok
    count-in l round (Transform x y how) ok rest = absurd ok
    count-in l round (If arms other) ok rest =
        let x = coded w s0 round other ok.1 in
        ap (λ c. c + count_nest rest) (count-arms round arms ok.0 (else_arm w x) (if has_statement other then 1 + conditions_in other else 0)
        (else-count x (has_statement other) (else-is round other ok.1) ∙ ap (λ c. if has_statement other then 1 + c else 0) (count-block round other ok.1)))
    count-in l round (Do Unmarked loop inner) ok rest = ap (λ c. c + count_nest rest) (count-block (loop.index ∷ round) inner ok.1)
    count-in l round (Do (Outermost m b) loop inner) ok rest = absurd ok
    count-in l round (Where mask b others) ok rest = absurd ok
    count-in l round (Forall cs mask b) ok rest = absurd ok
    count-in l round (Print items) ok rest = absurd ok
    count-in l round Stop ok rest = absurd ok
    count-in l round Exit ok rest = absurd ok
    count-in l round Cycle ok rest = absurd ok
    count-in l round Continue ok rest = let e : count_nest rest ≡ 0 + count_nest rest = omega arith in e
    count-in l round Redistribute ok rest = absurd ok

    count-arms : (round : List ℕ) (arms : Arms) (ok : AreCodedArms w s0 round arms) (other : CodedArms w) (c : ℕ) → count_nest_arms other ≡ c
        → count_nest_arms (coded_arms w s0 round arms ok other) ≡ conditions_in_arms arms c
    count-arms round NoArm ok other c e = e
    count-arms round (Arm l t b arms) ok other c e = λ i. 1 + count-block round b ok.1 i + count-arms round arms ok.2 other c e i

  -- ---- an inner loop

  -- the machine comes from a place to another one with a state, and passes these parts
  abbrev pub Done' : Trail → ℕ → List ℤ → ℕ → List ℤ → State → Type 0
  Done' T pc s pc' s' st' = Go T pc s pc' s' × Held st' s'

  held-length : (st : State) (s : List ℤ) → Held st s → length s ≡ length entry
  held-length st s h = sym h.same.0

  held-names : (round : List ℕ) (st : State) (s : List ℤ) → Held st s → (k : ℕ) → IsBoundName w round k → scalar st k ≡ scalar s0 k
  held-names round st s h k (lt, no_index, off, out) =
      let le = holds.below in sym (h.scalars k lt) ∙ sym (h.same.1 k (omega (arith, lt, le)) no_index) ∙ holds.slots k lt no_index

  -- the index is set
  set-held : (st : State) (x : ℕ) (v : ℤ) (s s' : List ℤ) → x < n → Held st s → slot s' x ≡ v → ((k : ℕ) → k < n → (k ≡ x → ⊥) → slot s' k ≡ slot s k) → SameSlots is_index b0 entry s'
      → Held (set_scalar st x v) s'
  set-held st x v s s' lt h value others same = record {
    same = same;
    scalars = λ k less. ⊎_elim
        (λ (e : k ≡ x). ap (slot s') e ∙ value ∙ sym (get_or-set_same st.scalars x v (pos 0) (let l = h.long in omega (arith, l, lt))) ∙ ap (scalar (set_scalar st x v)) (sym e))
        (λ (ne : k ≡ x → ⊥). others k less ne ∙ h.scalars k less ∙ sym (get_or-set_other st.scalars x k v (pos 0) ne)) (cases_eq k x);
    long = length-set st.scalars x v ∙ h.long;
  }

  module _ (round : List ℕ) (loop : Loop) (okl : IsCodedLoop w s0 round loop) (b pc : ℕ) (le : b0 ≤ b) (inner : CodedBody w) (bodycode : List Instruction) (next : State → State) (U : State → Trail)
      (is : is_index loop.index ≡ true) (keeps : (z : List ℤ) → SameSlots is_index (b + 4) z (After inner (b + 4) z)) (safe : CantFault (loop_bounds w loop).first × CantFault (loop_bounds w loop).last × CantFault (loop_bounds w loop).step)
      (s : List ℤ) (st : State) (held : Held st s) (few : b + 4 ≤ length s)
      (has : HasAt code pc (loop_instructions line (loop_bounds w loop) b pc bodycode)) (under : pc + (5 + length bodycode + 5) ≤ last)
      (each : (z : List ℤ) (y : State) → Held y z → length z ≡ length s → Done' (U y) (pc + 5) z (pc + 5 + length bodycode) (After inner (b + 4) z) (next y)) where
    abbrev x : ℕ
    x = loop.index

    abbrev f : List ℤ → List ℤ
    f = After inner (b + 4)

    abbrev h : List ℤ
    h = headed (bounds_of (loop_bounds w loop)) b s

    abbrev t : ℕ
    t = trips_at counting b h

    abbrev p : Sequence
    p = values_of st loop

    abbrev trip : ℕ → List ℤ
    trip = trip_slots counting f x b (first_trip counting b h t)

    abbrev state : ℕ → State
    state = in_trip next x p st

    -- all but the index
    abbrev own : ℕ → Bool
    own k = nat_eq x k

    own-is : own x ≡ true
    own-is = grind (arith, nat_tests)

    own-not : (k : ℕ) → (k ≡ x → ⊥) → own k ≡ false
    own-not k ne = grind (arith, nat_tests, ne)

    below : x < n
    below = okl.below

    low : (k : ℕ) → k < n → k < b
    low k lt = let a = holds.below in omega (arith, lt, a, le)

    vals : p ≡ P w line b0 entry s0 holds outside round loop okl
    vals = values-are w line b0 entry s0 holds outside round loop okl st (held-names round st s held)

    cnt : t ≡ p.count
    cnt = count-is w line b0 entry s0 holds outside round loop okl f b keeps s le held.same few ∙ ap (λ (q : Sequence). q.count) (sym vals)

    value-is : (y : ℕ) → turn_value (P w line b0 entry s0 holds outside round loop okl) y ≡ turn_value p y
    value-is y = ap (λ (q : Sequence). turn_value q y) (sym vals)

    head-same : SameSlots is_index b s h
    head-same = same-headed counting is_index (bounds_of (loop_bounds w loop)) b s is

    head-own : SameSlots own b s h
    head-own = same-headed counting own (bounds_of (loop_bounds w loop)) b s own-is

    first-same : SameSlots is_index b s (first_trip counting b h t)
    first-same = same-on is_index b b b s h (first_trip counting b h t) (omega arith) (omega arith) head-same (same-first counting is_index b h t)

    first-own : SameSlots own b s (first_trip counting b h t)
    first-own = same-on own b b b s h (first_trip counting b h t) (omega arith) (omega arith) head-own (same-first counting own b h t)

    entry-on : (z : List ℤ) → SameSlots is_index b s z → SameSlots is_index b0 entry z
    entry-on z same = same-on is_index b0 b0 b entry s z (omega arith) le held.same same

    trip-same : (y : ℕ) → SameSlots is_index b s (trip y)
    trip-same y = same-on is_index b b b s (first_trip counting b h t) (trip y) (omega arith) (omega arith) first-same (same-trip counting is_index f x b is keeps (first_trip counting b h t) y)

    trip-index : (y : ℕ) → slot (trip y) x ≡ turn_value p y
    trip-index y = (turns w line b0 entry s0 holds outside round loop okl f b keeps s le held.same few y).index ∙ value-is y

    trip-held : (y : ℕ) → Held (state y) (trip y)
    trip-held zero =
        set-held st x (turn_value p 0) s (trip 0) below held (trip-index 0) (λ k lt ne. sym (first-own.1 k (low k lt) (own-not k ne))) (entry-on (trip 0) (trip-same 0))
    trip-held (suc y) =
        let done = each (trip y) (state y) (trip-held y) (sym (trip-same y).0) in
        set-held (next (state y)) x (turn_value p (suc y)) (f (trip y)) (trip (suc y)) below done.1 (trip-index (suc y))
        (λ k lt ne. sym ((same-again counting own x b (f (trip y)) own-is).1 k (low k lt) (own-not k ne))) (entry-on (trip (suc y)) (trip-same (suc y)))

    body-done : (y : ℕ) → Done' (U (state y)) (pc + 5) (trip y) (pc + 5 + length bodycode) (f (trip y)) (next (state y))
    body-done y = each (trip y) (state y) (trip-held y) (sym (trip-same y).0)

    left-same : SameSlots is_index b s (left_slots counting f x b h t)
    left-same = same-on is_index b b b s h (left_slots counting f x b h t) (omega arith) (omega arith) head-same (same-left counting is_index f x b is keeps h t)

    -- after so many trips
    left-held : (m : ℕ) → t ≡ m → Held (state m) (left_slots counting f x b h m)
    left-held zero e =
        set-held st x (turn_value p 0) s h below held (left-index w line b0 entry s0 holds outside round loop okl f b keeps s le held.same few 0 ∙ value-is 0)
        (λ k lt ne. sym (head-own.1 k (low k lt) (own-not k ne))) (entry-on h head-same)
    left-held (suc m) e =
        let z : List ℤ = trip_slots counting f x b (first_trip counting b h (suc m)) m in
        let same_trip : trip m ≡ z = ap (λ c. trip_slots counting f x b (first_trip counting b h c) m) e in
        let same_left : left_slots counting f x b h t ≡ left_slots counting f x b h (suc m) = ap (left_slots counting f x b h) e in
        set-held (next (state m)) x (turn_value p (suc m)) (f z) (left_slots counting f x b h (suc m)) below
        (subst (λ y. Held (next (state m)) (f y)) same_trip (body-done m).1)
        (left-index w line b0 entry s0 holds outside round loop okl f b keeps s le held.same few (suc m) ∙ value-is (suc m))
        (λ k lt ne. sym ((same-advanced counting own x b (f z) own-is).1 k (low k lt) (own-not k ne)))
        (entry-on (left_slots counting f x b h (suc m)) (subst (SameSlots is_index b s) same_left left-same))

    loop-done : Done' (in_turns p.count (λ y. U (state y))) pc s (pc + length (loop_instructions line (loop_bounds w loop) b pc bodycode)) (left_slots counting f x b h t) (state p.count)
    loop-done = (
      subst (λ c. Go (in_turns c (λ y. U (state y))) pc s (pc + length (loop_instructions line (loop_bounds w loop) b pc bodycode)) (left_slots counting f x b h t)) cnt
          (passes-at table moves code last (in_turns t (λ y. U (state y))) pc (pc + 5 + length bodycode + 5) (pc + length (loop_instructions line (loop_bounds w loop) b pc bodycode)) s (left_slots counting f x b h t)
          (let l = loop-length line (loop_bounds w loop) b pc bodycode in omega (arith, l))
          (loop-passes table moves code last line is_index b0 outside (loop_bounds w loop) b pc (length s) is le bodycode safe f keeps has under few s refl
          (λ z. ap (λ v. not (is_zero v)) (step-flat loop.control.step okl.step z) ∙ step-some loop.control.step okl.step)
          (λ y. U (state y)) (λ y lt. (body-done y).0))),
      subst (λ c. Held (state c) (left_slots counting f x b h t)) cnt (left-held t refl),
    )

  -- ---- conditions

  -- a condition of an arm, or that of an ELSE
  abbrev IsTest : Option (NestCondition w) → ℕ → Option Term → Type 0
  IsTest None l None = l ≡ 0
  IsTest (Some c) l (Some t) = (c.condition.line ≡ l) × (c.condition.text ≡ t) × (c.condition.copies ≡ w.copied_in t)
  IsTest c l o = ⊥

  test-passes : (c : Option (NestCondition w)) (l : ℕ) (o : Option Term) → IsTest c l o → (guard : Option ℕ) (earlier : List ℕ) (k pc : ℕ) (s : List ℤ) (st : State)
      → slice_get code pc ≡ Some (test_instruction line over beside (text_of w) (test_of w) from_row (tested_asked guard earlier) c (from_row + k)) → pc < last → Held st s → IsGuard guard → AreEarlier earlier
      → k < count → Go (reached l st (OfNest N (tested_asked guard earlier) (ConditionPart k o))) pc s (pc + 1) s
  test-passes None l None is guard earlier k pc s st has lt held guards are_earlier less =
      part-passes (setting_else over beside (whens_of from_row (tested_asked guard earlier)) (from_row + k)) pc s st l (tested_asked guard earlier) (ConditionPart k None) has lt held refl (sym is) refl refl
      (whens-are (tested_asked guard earlier)) (arm-stored guard earlier guards are_earlier) (less, refl, ap CopyLeft (when-row k), refl, refl, refl)
  test-passes None l (Some t) is guard earlier k pc s st has lt held guards are_earlier less = absurd is
  test-passes (Some c) l None is guard earlier k pc s st has lt held guards are_earlier less = absurd is
  test-passes (Some c) l (Some t) is guard earlier k pc s st has lt held guards are_earlier less =
      part-passes (testing over beside (whens_of from_row (tested_asked guard earlier)) (test_of w c) (from_row + k)) pc s st l (tested_asked guard earlier) (ConditionPart k (Some t)) has lt held refl is.0 refl refl
      (whens-are (tested_asked guard earlier)) (arm-stored guard earlier guards are_earlier) (
        less,
        refl,
        ap CopyLeft (when-row k),
        condition-evaluates c.condition.round t c.condition.text c.condition.copies is.1 is.2 c.condition.line (whens_of from_row (tested_asked guard earlier))
            (CopyLeft (from_row + k)) Tests c.named,
      )
    where
      condition-evaluates : (round : List ℕ) (t u : Term) (copies : List ℕ) → u ≡ t → copies ≡ w.copied_in t → (l : ℕ) (whens : List When) (left : NestLeft) (role : NestRole)
          → IsTextTerm w round copies u → Evaluates n N (record {
            line = l;
            over = over;
            whens = whens;
            copies = map w.place copies;
            names = copies;
            left = left;
            right = index_form (indexed (index_of w copies) u);
            role = role;
            beside = beside;
          }) t
      condition-evaluates round t u copies e f l whens left role ok = record {
        names = f;
        copies = ap (map w.place) f ∙ copies-are t ∙ ap (map (λ k. n + scalar_copy N k)) (sym f);
        right = ap (λ v. index_form (indexed (index_of w copies) v)) e;
        form = subst (λ v. IsIndexed n (indexed (index_of w copies) v)) e ok.form;
        first = subst (λ v. SubscriptsFirst (length (indices_of w)) (indexed (index_of w copies) v)) e ok.first;
      }

  -- a condition is made anew, and then it is stored
  head-passes : (c : Option (NestCondition w)) (l : ℕ) (o : Option Term) → IsTest c l o → (guard : Option ℕ) (earlier : List ℕ) (k pc : ℕ) (s : List ℤ) (st : State) (rest : List Instruction)
      → HasAt code pc (MakeCopies (from_row + k) over (Int (pos 0)) beside ∷ test_instruction line over beside (text_of w) (test_of w) from_row (tested_asked guard earlier) c (from_row + k) ∷ rest) → pc + 2 ≤ last
      → Held st s → IsGuard guard → AreEarlier earlier → k < count → Go (reached l st (OfNest N (tested_asked guard earlier) (ConditionPart k o))) pc s (pc + 2) s
  head-passes c l o is guard earlier k pc s st rest has under held guards are_earlier less =
      let T = reached l st (OfNest N (tested_asked guard earlier) (ConditionPart k o)) in
      let e : pc + 1 + 1 ≡ pc + 2 = omega arith in
      passes-on table moves code last [] T pc (pc + 1) (pc + 2) s s s
      (passes-one table moves code last [] pc (pc + 1) s s (MakeCopies (from_row + k) over (Int (pos 0)) beside) has.0 (omega (arith, under)) (λ r. refl) tt)
      (passes-at table moves code last T (pc + 1) (pc + 1 + 1) (pc + 2) s s e (test-passes c l o is guard earlier k (pc + 1) s st has.1.0 (omega (arith, under)) held guards are_earlier less))

  -- ---- statements

  mark-passes : (guard o : Option ℕ) (pc : ℕ) (s : List ℤ) → HasAt code pc (mark_instructions line over beside (text_of w) (test_of w) from_row guard o)
      → pc + length (mark_instructions line over beside (text_of w) (test_of w) from_row guard o) ≤ last
      → Go [] pc s (pc + length (mark_instructions line over beside (text_of w) (test_of w) from_row guard o)) s
  mark-passes guard None pc s has under = let e : pc ≡ pc + 0 = omega arith in passes-at table moves code last [] pc pc (pc + 0) s s e (passes-none table moves code last pc s)
  mark-passes guard (Some r) pc s has under =
      passes-one table moves code last [] pc (pc + 1) s s (ParNest (setting_mark over beside (whens_of from_row (guard_asked guard)) r)) has.0 (omega (arith, under)) (λ x. refl) tt

  text-passes : (a : NestAction w) (guard : Option ℕ) (pc : ℕ) (s : List ℤ) (st : State) (l : ℕ) (part : NestPart)
      → HasAt code pc (text_instructions line over beside (text_of w) (test_of w) from_row guard a) → pc + length (text_instructions line over beside (text_of w) (test_of w) from_row guard a) ≤ last
      → Held st s → IsGuard guard → (text_of w a).line ≡ l → IsPart n N (assigning over beside (whens_of from_row (guard_asked guard)) (text_of w a)) part
      → Go (reached l st (OfNest N (guard_asked guard) part)) pc s (pc + length (text_instructions line over beside (text_of w) (test_of w) from_row guard a)) s
  text-passes a guard pc s st l part has under held guards at_line is =
      let T = reached l st (OfNest N (guard_asked guard) part) in
      let m = mark_instructions line over beside (text_of w) (test_of w) from_row guard (text_of w a).mark in
      let e : pc + 1 + length m ≡ pc + suc (length m) = omega arith in
      passes-last table moves code last T pc (pc + 1) (pc + suc (length m)) s s s
      (part-passes (assigning over beside (whens_of from_row (guard_asked guard)) (text_of w a)) pc s st l (guard_asked guard) part has.0 (omega (arith, under)) held refl at_line refl refl
      (whens-are (guard_asked guard)) (guard-stored guard guards) is)
      (passes-at table moves code last [] (pc + 1) (pc + 1 + length m) (pc + suc (length m)) s s e (mark-passes guard (text_of w a).mark (pc + 1) s has.1 (omega (arith, under))))

  -- what stands after some code
  then-rest : (T : Trail) (U : ℕ → State → Trail) (later : State → State) (rest : CodedBody w) (guard : Option ℕ) (c : List Instruction) (k b pc : ℕ) (s s1 : List ℤ) (st1 : State)
      → Go T pc s (pc + length c) s1 → HasAt code pc (c ++ Is rest guard k b (pc + length c)) → pc + length (c ++ Is rest guard k b (pc + length c)) ≤ last
      → (HasAt code (pc + length c) (Is rest guard k b (pc + length c)) → pc + length c + length (Is rest guard k b (pc + length c)) ≤ last
      → Done' (U k st1) (pc + length c) s1 (pc + length c + length (Is rest guard k b (pc + length c))) (After rest b s1) (later st1))
      → Done' (T ++ U k st1) pc s (pc + length (c ++ Is rest guard k b (pc + length c))) (After rest b s1) (later st1)
  then-rest T U later rest guard c k b pc s s1 st1 go has under next =
      let r = Is rest guard k b (pc + length c) in
      let l : length (c ++ r) ≡ length c + length r = length-append c r in
      let d = next (has-back code pc c r has) (omega (arith, l, under)) in (
        passes-on table moves code last T (U k st1) pc (pc + length c) (pc + length (c ++ r)) s s1 (After rest b s1) go
            (passes-at table moves code last (U k st1) (pc + length c) (pc + length c + length r) (pc + length (c ++ r)) s1 (After rest b s1) (omega (arith, l)) d.0),
        d.1,
      )

  -- an ELSE, where the statements of its block are these
  else-passes : (x : CodedBody w) (t : Bool) → IsElse x t → (T : ℕ → Trail) (guard : Option ℕ) (earlier : List ℕ) (k b pc : ℕ) (s : List ℤ) (st : State) → Held st s → IsGuard guard → AreEarlier earlier
      → k + count_nest_arms (else_arm w x) ≤ count → HasAt code pc (ArmsIs (else_arm w x) guard earlier k b pc) → pc + length (ArmsIs (else_arm w x) guard earlier k b pc) ≤ last
      → (k < count → k + 1 + count_nest x ≤ count → HasAt code (pc + 2) (Is x (Some k) (k + 1) b (pc + 2)) → pc + 2 + length (Is x (Some k) (k + 1) b (pc + 2)) ≤ last
      → Done' (T (k + 1)) (pc + 2) s (pc + 2 + length (Is x (Some k) (k + 1) b (pc + 2))) (After x b s) st)
      → Done' (if t then reached 0 st (OfNest N (tested_asked guard earlier) (ConditionPart k None)) ++ T (k + 1) else []) pc s (pc + length (ArmsIs (else_arm w x) guard earlier k b pc))
      (AfterArms (else_arm w x) b s) st
  else-passes x true is T guard earlier k b pc s st held guards are_earlier enough has under next = by_shape x is enough has under next
    where
      -- one branch more
      branch : (x : CodedBody w) → k + count_nest_arms (forms.AndArm None x forms.NoArm) ≤ count → HasAt code pc (ArmsIs (forms.AndArm None x forms.NoArm) guard earlier k b pc)
          → pc + length (ArmsIs (forms.AndArm None x forms.NoArm) guard earlier k b pc) ≤ last
          → (k < count → k + 1 + count_nest x ≤ count → HasAt code (pc + 2) (Is x (Some k) (k + 1) b (pc + 2)) → pc + 2 + length (Is x (Some k) (k + 1) b (pc + 2)) ≤ last
          → Done' (T (k + 1)) (pc + 2) s (pc + 2 + length (Is x (Some k) (k + 1) b (pc + 2))) (After x b s) st)
          → Done' (reached 0 st (OfNest N (tested_asked guard earlier) (ConditionPart k None)) ++ T (k + 1)) pc s (pc + length (ArmsIs (forms.AndArm None x forms.NoArm) guard earlier k b pc)) (After x b s) st
      branch x enough has under next =
          let c = Is x (Some k) (k + 1) b (pc + 2) in
          let l : length (c ++ []) ≡ length c + 0 = length-append c [] in
          let e : pc + 1 + 1 ≡ pc + 2 = omega arith in
          let here = subst (λ z. HasAt code z (c ++ [])) e has.1.1 in
          let H = reached 0 st (OfNest N (tested_asked guard earlier) (ConditionPart k None)) in
          let d = next (omega (arith, enough)) (omega (arith, enough)) (has-front code (pc + 2) c [] here) (omega (arith, under, l)) in (
            passes-on table moves code last H (T (k + 1)) pc (pc + 2) (pc + suc (suc (length (c ++ [])))) s s (After x b s)
                (head-passes None 0 None refl guard earlier k pc s st (c ++ []) has (omega (arith, under)) held guards are_earlier (omega (arith, enough)))
                (passes-at table moves code last (T (k + 1)) (pc + 2) (pc + 2 + length c) (pc + suc (suc (length (c ++ [])))) s (After x b s) (omega (arith, l)) d.0),
            d.1,
          )

      by_shape : (x : CodedBody w) → IsElse x true → k + count_nest_arms (else_arm w x) ≤ count → HasAt code pc (ArmsIs (else_arm w x) guard earlier k b pc)
          → pc + length (ArmsIs (else_arm w x) guard earlier k b pc) ≤ last
          → (k < count → k + 1 + count_nest x ≤ count → HasAt code (pc + 2) (Is x (Some k) (k + 1) b (pc + 2)) → pc + 2 + length (Is x (Some k) (k + 1) b (pc + 2)) ≤ last
          → Done' (T (k + 1)) (pc + 2) s (pc + 2 + length (Is x (Some k) (k + 1) b (pc + 2))) (After x b s) st)
          → Done' (reached 0 st (OfNest N (tested_asked guard earlier) (ConditionPart k None)) ++ T (k + 1)) pc s (pc + length (ArmsIs (else_arm w x) guard earlier k b pc)) (AfterArms (else_arm w x) b s) st
      by_shape forms.NoText is enough has under next = absurd is
      by_shape (forms.AndText a r) is enough has under next = branch (forms.AndText a r) enough has under next
      by_shape (forms.AndIf arms r) is enough has under next = branch (forms.AndIf arms r) enough has under next
      by_shape (forms.AndLoop bs inner r) is enough has under next = branch (forms.AndLoop bs inner r) enough has under next
  else-passes forms.NoText false is T guard earlier k b pc s st held guards are_earlier enough has under next =
      (let e : pc ≡ pc + 0 = omega arith in passes-at table moves code last [] pc pc (pc + 0) s s e (passes-none table moves code last pc s), held)
  else-passes (forms.AndText a r) false is T guard earlier k b pc s st held guards are_earlier enough has under next = absurd is
  else-passes (forms.AndIf arms r) false is T guard earlier k b pc s st held guards are_earlier enough has under next = absurd is
  else-passes (forms.AndLoop bs inner r) false is T guard earlier k b pc s st held guards are_earlier enough has under next = absurd is

  else-few : (x : CodedBody w) (b : ℕ) (z : List ℤ) → b + arms_slots (arms_of (else_arm w x)) ≤ length z → b + body_slots (body_of x) ≤ length z
  else-few forms.NoText b z few = few
  else-few (forms.AndText a r) b z few = omega (arith, few)
  else-few (forms.AndIf arms r) b z few = omega (arith, few)
  else-few (forms.AndLoop bs inner r) b z few = omega (arith, few)

  both-true : (p q : Bool) → (p && q) ≡ true → (p ≡ true) × (q ≡ true)
  both-true true q e = (refl, e)
  both-true false q e = absurd (true≢false (sym e))

  held-still : (st z : State) (s : List ℤ) → z ≡ st → Held z s → Held st s
  held-still st z s e h = subst (λ y. Held y s) e h

  mutual
    pub block-passes : (round : List ℕ) (block : Block) (ok : IsCodedBlock w s0 round block) (guard : Option ℕ) (k b pc : ℕ) (s : List ℤ) (st : State) → b0 ≤ b → Held st s → IsGuard guard
        → b + body_slots (body_of (coded w s0 round block ok)) ≤ length s → k + count_nest (coded w s0 round block ok) ≤ count → HasAt code pc (Is (coded w s0 round block ok) guard k b pc)
        → pc + length (Is (coded w s0 round block ok) guard k b pc) ≤ last
        → Done' (block_parts N guard k block st) pc s (pc + length (Is (coded w s0 round block ok) guard k b pc)) (After (coded w s0 round block ok) b s) (indices_after block st)
    block-passes round Done ok guard k b pc s st le held guards few enough has under =
        (let e : pc ≡ pc + 0 = omega arith in passes-at table moves code last [] pc pc (pc + 0) s s e (passes-none table moves code last pc s), held)
    block-passes round (Then l statement rest) ok guard k b pc s st le held guards few enough has under =
        statement-passes l round statement ok.0 (coded w s0 round rest ok.1) (λ k z. block_parts N guard k rest z) (indices_after rest) guard k b pc s st le held guards few enough has under
        (λ k1 pc1 s1 st1 held1 few1 enough1 has1 under1. block-passes round rest ok.1 guard k1 b pc1 s1 st1 le held1 guards few1 enough1 has1 under1)

    statement-passes : (l : ℕ) (round : List ℕ) (statement : Statement) (ok : IsCodedStatement w s0 round statement) (rest : CodedBody w) (U : ℕ → State → Trail) (later : State → State)
        (guard : Option ℕ) (k b pc : ℕ) (s : List ℤ) (st : State) → b0 ≤ b → Held st s → IsGuard guard → b + body_slots (body_of (coded_in w s0 l round statement ok rest)) ≤ length s
        → k + count_nest (coded_in w s0 l round statement ok rest) ≤ count → HasAt code pc (Is (coded_in w s0 l round statement ok rest) guard k b pc)
        → pc + length (Is (coded_in w s0 l round statement ok rest) guard k b pc) ≤ last
        → ((k1 pc1 : ℕ) (s1 : List ℤ) (st1 : State) → Held st1 s1 → b + body_slots (body_of rest) ≤ length s1 → k1 + count_nest rest ≤ count → HasAt code pc1 (Is rest guard k1 b pc1)
        → pc1 + length (Is rest guard k1 b pc1) ≤ last → Done' (U k1 st1) pc1 s1 (pc1 + length (Is rest guard k1 b pc1)) (After rest b s1) (later st1))
        → Done' (statement_parts N guard k l statement st ++ U (conditions_by statement + k) (indices_by statement st)) pc s
        (pc + length (Is (coded_in w s0 l round statement ok rest) guard k b pc)) (After (coded_in w s0 l round statement ok rest) b s) (later (indices_by statement st))
    statement-passes l round (AssignScalar x t) ok rest U later guard k b pc s st le held guards few enough has under next =
        let a : NestAction w = record { action = record { line = l; text = ToScalar x t; round = round; copies = w.copied_in t }; named = ok } in
        let c = text_instructions line over beside (text_of w) (test_of w) from_row guard a in
        let r = Is rest guard k b (pc + length c) in
        let len : length (c ++ r) ≡ length c + length r = length-append c r in
        let T = reached l st (OfNest N (guard_asked guard) (ScalarPart x t)) in
        let whens = whens_of from_row (guard_asked guard) in
        let zero_more : k ≡ 0 + k = omega arith in
        subst (λ j. Done' (T ++ U j st) pc s (pc + length (c ++ r)) (After rest b s) (later st)) zero_more
        (then-rest T U later rest guard c k b pc s s st
        (text-passes a guard pc s st l (ScalarPart x t) (has-front code pc c r has) (omega (arith, under, len)) held guards refl
        (assigned x ok.0.0, refl, ap CopyLeft (place-is x (assigned x ok.0.0)), text-evaluates round t l whens (CopyLeft (w.place x)) Assigns ok.1))
        has under (λ h u. next k (pc + length c) s st held few enough h u))
    statement-passes l round (AssignElement y ts t) ok rest U later guard k b pc s st le held guards few enough has under next =
        let a : NestAction w = record { action = record { line = l; text = ToElement y ts t; round = round; copies = w.copied_in t }; named = ok } in
        let c = text_instructions line over beside (text_of w) (test_of w) from_row guard a in
        let r = Is rest guard k b (pc + length c) in
        let len : length (c ++ r) ≡ length c + length r = length-append c r in
        let T = reached l st (OfNest N (guard_asked guard) (ElementPart y ts t)) in
        let whens = whens_of from_row (guard_asked guard) in
        let zero_more : k ≡ 0 + k = omega arith in
        subst (λ j. Done' (T ++ U j st) pc s (pc + length (c ++ r)) (After rest b s) (later st)) zero_more
        (then-rest T U later rest guard c k b pc s s st
        (text-passes a guard pc s st l (ElementPart y ts t) (has-front code pc c r has) (omega (arith, under, len)) held guards refl (
          ok.0.0.0,
          refl,
          refl,
          text-evaluates round t l whens (ElementLeft y (index_subs (all_indexed (index_of w (w.copied_in t)) ts))) Assigns ok.1,
          ok.0.1.form,
          all-left-first round (w.copied_in t) ts ok.0.1.names ok.0.1.plain,
        )) has under (λ h u. next k (pc + length c) s st held few enough h u))
    statement-passes l round (AssignSection a subs t) ok rest U later guard k b pc s st le held guards few enough has under next = absurd ok
    statement-passes l round (Transform x y how) ok rest U later guard k b pc s st le held guards few enough has under next = absurd ok
    statement-passes l round (If arms other) ok rest U later guard k b pc s st le held guards few enough has under next =
        let x = coded w s0 round other ok.1 in
        let as' = coded_arms w s0 round arms ok.0 (else_arm w x) in
        let c = ArmsIs as' guard [] k b pc in
        let r = Is rest guard (k + count_nest_arms as') b (pc + length c) in
        let len : length (c ++ r) ≡ length c + length r = length-append c r in
        let both = both-true (have_no_loop arms) (has_no_loop other) ok.2 in
        let else_parts = λ (earlier : List ℕ) (k : ℕ). if has_statement other
        then reached 0 st (OfNest N (tested_asked guard earlier) (ConditionPart k None)) ++ block_parts N (Some k) (k + 1) other st else [] in
        let T = arms_parts N guard [] k arms else_parts st in
        let counted : count_nest_arms as' ≡ conditions_by (If arms other) =
        count-arms round arms ok.0 (else_arm w x) (if has_statement other then 1 + conditions_in other else 0)
        (else-count x (has_statement other) (else-is round other ok.1) ∙ ap (λ c. if has_statement other then 1 + c else 0) (count-block round other ok.1)) in
        let d = arms-passes round arms ok.0 (else_arm w x) else_parts guard [] k b pc s st le held guards tt both.0 (omega (arith, few)) (omega (arith, enough)) (has-front code pc c r has) (omega (arith, under, len))
        (λ earlier k1 pc1 s1 held1 are_earlier few1 enough1 has1 under1.
        else-passes x (has_statement other) (else-is round other ok.1) (λ k2. block_parts N (Some k1) k2 other st) guard earlier k1 b pc1 s1 st held1 guards are_earlier enough1 has1 under1
        (λ less more h u.
        let z = block-passes round other ok.1 (Some k1) (k1 + 1) b (pc1 + 2) s1 st le held1 less (else-few x b s1 few1) more h u in
        (z.0, held-still st (indices_after other st) (After x b s1) (still-block other st both.1) z.1))) in
        let more : k + count_nest_arms as' ≡ conditions_by (If arms other) + k = omega (arith, counted) in
        let as_long : length s ≡ length (AfterArms as' b s) = held-length st s held ∙ sym (held-length st (AfterArms as' b s) d.1) in
        subst (λ j. Done' (T ++ U j st) pc s (pc + length (c ++ r)) (After rest b (AfterArms as' b s)) (later st)) more
        (then-rest T U later rest guard c (k + count_nest_arms as') b pc s (AfterArms as' b s) st d.0 has under
        (λ h u. next (k + count_nest_arms as') (pc + length c) (AfterArms as' b s) st d.1 (omega (arith, few, as_long)) (omega (arith, enough)) h u))
    statement-passes l round (Do Unmarked loop inner) ok rest U later guard k b pc s st le held guards few enough has under next =
        let x = coded w s0 (loop.index ∷ round) inner ok.1 in
        let i = Is x guard k (b + 4) (pc + 5) in
        let c = loop_instructions line (loop_bounds w loop) b pc i in
        let r = Is rest guard (k + count_nest x) b (pc + length c) in
        let len : length (c ++ r) ≡ length c + length r = length-append c r in
        let long : length c ≡ 5 + length i + 5 = loop-length line (loop_bounds w loop) b pc i in
        let own = has-front code pc c r has in
        let safe = safe-block w s0 round (Then l (Do Unmarked loop inner) Done) (ok, tt) in
        let is = hidden-is is_index round loop.index ok.0.index in
        let inside : HasAt code (pc + 5) i = (let e : pc + 1 + 1 + 1 + 1 + 1 ≡ pc + 5 = omega arith in
        subst (λ z. HasAt code z i) e (has-front code (pc + 1 + 1 + 1 + 1 + 1) i (tail_instructions line (loop_bounds w loop) b (pc + 5) (pc + 5 + length i + 5)) own.1.1.1.1.1)) in
        let d = loop-done round loop ok.0 b pc le x i (indices_after inner) (block_parts N guard k inner) is
        (λ z. same-after counting is_index (body_of x) (takes w line b0 entry s0 holds outside is_index (loop.index ∷ round) inner ok.1 (λ j e. hidden-is is_index (loop.index ∷ round) j e)) (b + 4) z)
        safe.0 s st held (omega (arith, few)) own (omega (arith, under, len, long))
        (λ z y h same. block-passes (loop.index ∷ round) inner ok.1 guard k (b + 4) (pc + 5) z y (omega (arith, le)) h guards (omega (arith, few, same)) (omega (arith, enough)) inside (omega (arith, under, len, long))) in
        let T = statement_parts N guard k l (Do Unmarked loop inner) st in
        let z : List ℤ = left_slots counting (After x (b + 4)) loop.index b (headed (bounds_of (loop_bounds w loop)) b s) (trips_at counting b (headed (bounds_of (loop_bounds w loop)) b s)) in
        let st1 = indices_by (Do Unmarked loop inner) st in
        let counted : count_nest x ≡ conditions_in inner = count-block (loop.index ∷ round) inner ok.1 in
        let more : k + count_nest x ≡ conditions_by (Do Unmarked loop inner) + k = omega (arith, counted) in
        let as_long : length s ≡ length z = held-length st s held ∙ sym (held-length st1 z d.1) in
        subst (λ j. Done' (T ++ U j st1) pc s (pc + length (c ++ r)) (After rest b z) (later st1)) more
        (then-rest T U later rest guard c (k + count_nest x) b pc s z st1 d.0 has under
        (λ h u. next (k + count_nest x) (pc + length c) z st1 d.1 (omega (arith, few, as_long)) (omega (arith, enough)) h u))
    statement-passes l round (Do (Outermost m y) loop inner) ok rest U later guard k b pc s st le held guards few enough has under next = absurd ok
    statement-passes l round (Where mask y others) ok rest U later guard k b pc s st le held guards few enough has under next = absurd ok
    statement-passes l round (Forall cs mask y) ok rest U later guard k b pc s st le held guards few enough has under next = absurd ok
    statement-passes l round (Print items) ok rest U later guard k b pc s st le held guards few enough has under next = absurd ok
    statement-passes l round Stop ok rest U later guard k b pc s st le held guards few enough has under next = absurd ok
    statement-passes l round Exit ok rest U later guard k b pc s st le held guards few enough has under next = absurd ok
    statement-passes l round Cycle ok rest U later guard k b pc s st le held guards few enough has under next = absurd ok
    statement-passes l round Continue ok rest U later guard k b pc s st le held guards few enough has under next =
        let zero_more : k ≡ 0 + k = omega arith in
        subst (λ j. Done' (U j st) pc s (pc + length (Is rest guard k b pc)) (After rest b s) (later st)) zero_more (next k pc s st held few enough has under)
    statement-passes l round Redistribute ok rest U later guard k b pc s st le held guards few enough has under next = absurd ok

    arms-passes : (round : List ℕ) (arms : Arms) (ok : AreCodedArms w s0 round arms) (other : CodedArms w) (V : List ℕ → ℕ → Trail) (guard : Option ℕ) (earlier : List ℕ) (k b pc : ℕ) (s : List ℤ) (st : State)
        → b0 ≤ b → Held st s → IsGuard guard → AreEarlier earlier → have_no_loop arms ≡ true → b + arms_slots (arms_of (coded_arms w s0 round arms ok other)) ≤ length s
        → k + count_nest_arms (coded_arms w s0 round arms ok other) ≤ count → HasAt code pc (ArmsIs (coded_arms w s0 round arms ok other) guard earlier k b pc)
        → pc + length (ArmsIs (coded_arms w s0 round arms ok other) guard earlier k b pc) ≤ last
        → ((earlier1 : List ℕ) (k1 pc1 : ℕ) (s1 : List ℤ) → Held st s1 → AreEarlier earlier1 → b + arms_slots (arms_of other) ≤ length s1 → k1 + count_nest_arms other ≤ count
        → HasAt code pc1 (ArmsIs other guard earlier1 k1 b pc1) → pc1 + length (ArmsIs other guard earlier1 k1 b pc1) ≤ last
        → Done' (V earlier1 k1) pc1 s1 (pc1 + length (ArmsIs other guard earlier1 k1 b pc1)) (AfterArms other b s1) st)
        → Done' (arms_parts N guard earlier k arms V st) pc s (pc + length (ArmsIs (coded_arms w s0 round arms ok other) guard earlier k b pc))
        (AfterArms (coded_arms w s0 round arms ok other) b s) st
    arms-passes round NoArm ok other V guard earlier k b pc s st le held guards are_earlier none few enough has under next = next earlier k pc s held are_earlier few enough has under
    arms-passes round (Arm l t y arms) ok other V guard earlier k b pc s st le held guards are_earlier none few enough has under next =
        let x = coded w s0 round y ok.1 in
        let as' = coded_arms w s0 round arms ok.2 other in
        let c = Is x (Some k) (k + 1) b (pc + 2) in
        let q = k + 1 + count_nest x in
        let r = ArmsIs as' guard (k ∷ earlier) q b (pc + 2 + length c) in
        let len : length (c ++ r) ≡ length c + length r = length-append c r in
        let both = both-true (has_no_loop y) (have_no_loop arms) none in
        let e : pc + 1 + 1 ≡ pc + 2 = omega arith in
        let here = subst (λ z. HasAt code z (c ++ r)) e has.1.1 in
        let cond : NestCondition w = record { condition = record { line = l; text = t; round = round; copies = w.copied_in t }; named = ok.0 } in
        let H = reached l st (OfNest N (tested_asked guard earlier) (ConditionPart k (Some t))) in
        let B = block_parts N (Some k) (k + 1) y st in
        let less : k < count = omega (arith, enough) in
        let d = block-passes round y ok.1 (Some k) (k + 1) b (pc + 2) s st le held less (omega (arith, few)) (omega (arith, enough)) (has-front code (pc + 2) c r here) (omega (arith, under, len)) in
        let held1 = held-still st (indices_after y st) (After x b s) (still-block y st both.0) d.1 in
        let as_long : length s ≡ length (After x b s) = held-length st s held ∙ sym (held-length st (After x b s) held1) in
        let counted : count_nest x ≡ conditions_in y = count-block round y ok.1 in
        let f = arms-passes round arms ok.2 other V guard (k ∷ earlier) q b (pc + 2 + length c) (After x b s) st le held1 guards (less, are_earlier) both.1 (omega (arith, few, as_long)) (omega (arith, enough))
        (has-back code (pc + 2) c r here) (omega (arith, under, len)) next in
        let same : q ≡ k + 1 + conditions_in y = ap (λ z. k + 1 + z) counted in
        let R = arms_parts N guard (k ∷ earlier) q arms V st in
        let end = pc + suc (suc (length (c ++ r))) in
        subst (λ j. Done' (H ++ (B ++ arms_parts N guard (k ∷ earlier) j arms V st)) pc s end (AfterArms as' b (After x b s)) st) same (
          passes-on table moves code last H (B ++ R) pc (pc + 2) end s s (AfterArms as' b (After x b s))
              (head-passes (Some cond) l (Some t) (refl, refl, refl) guard earlier k pc s st (c ++ r) has (omega (arith, under)) held guards are_earlier less)
              (passes-on table moves code last B R (pc + 2) (pc + 2 + length c) end s (After x b s) (AfterArms as' b (After x b s)) d.0
              (passes-at table moves code last R (pc + 2 + length c) (pc + 2 + length c + length r) end (After x b s) (AfterArms as' b (After x b s)) (omega (arith, len)) f.0)),
          f.1,
        )
