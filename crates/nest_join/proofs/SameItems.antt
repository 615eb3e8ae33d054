-- The statements of a nest's body on the machine are those of its block in the meaning.
use Rattle.std.proofs.Common.{◌≡◌, ℕ, ◌+◌, ◌≤◌, List, ◌∷◌, length, ℤ, Bool, true, false, not, Some, None, refl, sym, ap, ◌∙◌, arith}
use Rattle.op_tables.specs.Operators.{is_zero}
use Rattle.nest_order.specs.Items as order
use Rattle.nest_order.specs.Items.{Items, Branches}
use Rattle.nest_order.specs.Copies.{InIteration, in_iteration, items_in, branches_in}
use Rattle.array_meaning.specs.Faults.{Fault}
use Rattle.array_meaning.specs.State.{State, scalar, set_scalar}
use Rattle.array_meaning.specs.Statements.{Block, Done, Then, Statement, AssignScalar, AssignElement, AssignSection, Transform, If, Do, Unmarked, Outermost, Where, Forall, Print, Stop, Exit, Cycle, Continue, Redistribute, Arms, NoArm, Arm}
use Rattle.array_meaning.specs.declared.sections.Sequence.{Sequence}
use Rattle.array_meaning.specs.Iterations.{values_of, turn_value, at_iteration, with_indices}
use Rattle.code_meaning.specs.Flat.{slot}
use Rattle.nest_items.specs.NestItems as statements
use Rattle.nest_items.specs.NestItems.{Action, Condition, items_of, branches_of, else_of, text_at}
use Rattle.nest_syntax.specs.Assigning.{ToScalar, ToElement}
use Rattle.nest_machine.specs.Counting.{Counting, trips_at}
use Rattle.nest_machine.specs.Body.{body_slots, arms_slots, TakeSteps, ArmsTakeSteps}
use Rattle.nest_machine.specs.Slots.{SameSlots, headed, first_trip, trip_slots, left_slots, slots_after, slots_after_arms}
use Rattle.nest_machine.specs.ItemsAt.{items_at, branches_at}
use Rattle.nest_machine.proofs.Slots.{same-on, same-headed, same-first, same-trip, same-left, same-after, same-after-arms}
use Rattle.nest_texts.specs.NestLoops.{counting_at}
use Rattle.program_code.specs.NestInstructions as forms
use Rattle.nest_texts.specs.NestBodies.{bounds_of, body_of, arms_of}
use Rattle.nest_join.specs.NestNames.{NestNames}
use Rattle.nest_join.specs.NestTexts.{state_at, action_at, condition_at, HoldsEntry}
use Rattle.nest_join.specs.CodedBlocks.{hidden_in, IsCodedBlock, IsCodedStatement, AreCodedArms, CodedBody, CodedArms, loop_bounds, else_arm, coded, coded_in, coded_arms}
use Rattle.nest_join.proofs.HiddenIndices.{hidden-less, hidden-is, AllOff, all-next, map-kept}
use Rattle.nest_join.proofs.Bounds.{step-flat, step-some}
use Rattle.nest_join.proofs.LoopTurns.{P, same-names, values-are, count-is, turns}

-- ---- items

-- an ELSE without statements is none
module _ {A C : Type 0} where
  abbrev not_done : Items A C → Type 0
  not_done x = x ≡ order.Done → ⊥

  then-not : (a : A) (r : Items A C) → not_done (order.Then a r)
  then-not a r e = cc

  if-not : (bs : Branches A C) (r : Items A C) → not_done (order.If bs r)
  if-not bs r e = cc

  repeat-not : (t : ℕ) (f : ℕ → Items A C) (r : Items A C) → not_done (order.Repeat t f r)
  repeat-not t f r e = cc

else-items : (i : ℕ) (y : Items (InIteration Action) (InIteration Condition)) (x : Items Action Condition) → y ≡ items_in i x → not_done y
    → order.Branch None y order.EndIf ≡ branches_in i (else_of x)
else-items i y order.Done e off = absurd (off e)
else-items i y (order.Then a r) e off = ap (λ z. order.Branch None z order.EndIf) e
else-items i y (order.If bs r) e off = ap (λ z. order.Branch None z order.EndIf) e
else-items i y (order.Repeat t f r) e off = ap (λ z. order.Branch None z order.EndIf) e

none-items : (i : ℕ) (x : Items Action Condition) → order.Done ≡ items_in i x → order.EndIf ≡ branches_in i (else_of x)
none-items i order.Done e = refl
none-items i (order.Then a r) e = absurd (then-not (in_iteration i a) (items_in i r) (sym e))
none-items i (order.If bs r) e = absurd (if-not (branches_in i bs) (items_in i r) (sym e))
none-items i (order.Repeat t f r) e = absurd (repeat-not t (λ x. items_in i (f x)) (items_in i r) (sym e))

module _ (w : NestNames) (l b0 : ℕ) (entry : List ℤ) (s0 : State) (holds : HoldsEntry w b0 entry s0) (outside : (x : ℕ) → b0 ≤ x → w.is_index x ≡ false) where
  abbrev n : ℕ
  n = w.count

  abbrev is_index : ℕ → Bool
  is_index = w.is_index

  abbrev counting : Counting Fault
  counting = counting_at l

  abbrev code : (round : List ℕ) (block : Block) → IsCodedBlock w s0 round block → CodedBody w
  code = coded w s0

  abbrev code_in : (line : ℕ) (round : List ℕ) (statement : Statement) → IsCodedStatement w s0 round statement → CodedBody w → CodedBody w
  code_in = coded_in w s0

  abbrev code_arms : (round : List ℕ) (arms : Arms) → AreCodedArms w s0 round arms → CodedArms w → CodedArms w
  code_arms = coded_arms w s0

  abbrev hidden : List ℕ → ℕ → Bool
  hidden = hidden_in is_index

  abbrev at : ℕ → List ℕ → List ℤ → State
  at i round s = state_at w s0 round s i

  -- ---- steps

  module _ (Q : ℕ → Bool) where
    abbrev Steps : CodedBody w → Type 0
    Steps block = TakeSteps counting Q (body_of block)

    else-takes : (body : CodedBody w) → Steps body → ArmsTakeSteps counting Q (arms_of (else_arm w body))
    else-takes forms.NoText h = tt
    else-takes (forms.AndText a r) h = (h, tt)
    else-takes (forms.AndIf arms r) h = (h, tt)
    else-takes (forms.AndLoop bs inner r) h = (h, tt)

    mutual
      pub takes : (round : List ℕ) (block : Block) (ok : IsCodedBlock w s0 round block)
          → ((k : ℕ) → hidden round k ≡ true → Q k ≡ true) → Steps (code round block ok)
      takes round Done ok q = tt
      takes round (Then line statement rest) ok q = takes-in line round statement ok.0 (code round rest ok.1) q (takes round rest ok.1 q)

      takes-in : (line : ℕ) (round : List ℕ) (statement : Statement) (ok : IsCodedStatement w s0 round statement)
          (rest : CodedBody w) → ((k : ℕ) → hidden round k ≡ true → Q k ≡ true) → Steps rest → Steps (code_in line round statement ok rest)
      takes-in line round (AssignScalar k t) ok rest q h = h
      takes-in line round (AssignElement a ts t) ok rest q h = h
      takes-in line round (AssignSection a subs t) ok rest q h = absurd ok
      takes-in line round (Transform x y how) ok rest q h = absurd ok
      takes-in line round (If arms other) ok rest q h =
          (takes-arms round arms ok.0 (else_arm w (code round other ok.1)) q (else-takes (code round other ok.1) (takes round other ok.1 q)), h)
      takes-in line round (Do Unmarked loop body) ok rest q h =
          (((λ s. ap (λ v. not (is_zero v)) (step-flat loop.control.step ok.0.step s) ∙ step-some loop.control.step ok.0.step), q loop.index ok.0.index), takes (loop.index ∷ round) body ok.1 (λ k e. q k (hidden-less is_index loop.index round k e)), h)
      takes-in line round (Do (Outermost nest inner) loop body) ok rest q h = absurd ok
      takes-in line round (Where mask body others) ok rest q h = absurd ok
      takes-in line round (Forall cs mask body) ok rest q h = absurd ok
      takes-in line round (Print items) ok rest q h = absurd ok
      takes-in line round Stop ok rest q h = absurd ok
      takes-in line round Exit ok rest q h = absurd ok
      takes-in line round Cycle ok rest q h = absurd ok
      takes-in line round Continue ok rest q h = h
      takes-in line round Redistribute ok rest q h = absurd ok

      takes-arms : (round : List ℕ) (arms : Arms) (ok : AreCodedArms w s0 round arms)
          (other : CodedArms w) → ((k : ℕ) → hidden round k ≡ true → Q k ≡ true) → ArmsTakeSteps counting Q (arms_of other)
          → ArmsTakeSteps counting Q (arms_of (code_arms round arms ok other))
      takes-arms round NoArm ok other q h = h
      takes-arms round (Arm line t body arms) ok other q h = (takes round body ok.1 q, takes-arms round arms ok.2 other q h)

  -- ---- items

  module _ (i : ℕ) where
    abbrev ItemsAt : CodedBody w → ℕ → List ℤ → Items (InIteration Action) (InIteration Condition)
    ItemsAt block = items_at counting (action_at w s0) (condition_at w s0) i (body_of block)

    abbrev BranchesAt : CodedArms w → ℕ → List ℤ → Branches (InIteration Action) (InIteration Condition)
    BranchesAt arms = branches_at counting (action_at w s0) (condition_at w s0) i (arms_of arms)

    -- slots at a place: those of the entry but for inner indices, and those that give the state there
    pub record Here (round : List ℕ) (st : State) (b : ℕ) (s : List ℤ) : Type 0 where
      pub same : SameSlots w.is_index b0 entry s
      pub state : at i round s ≡ st
      pub off : AllOff is_index n round round

    pub here-on : (round : List ℕ) (st : State) (b : ℕ) (s z : List ℤ) → b0 ≤ b → Here round st b s → SameSlots (hidden round) b s z → SameSlots w.is_index b s z → Here round st b z
    here-on round st b s z le h kept same = record {
      same = same-on is_index b0 b0 b entry s z (omega arith) le h.same same;
      state = (let below = holds.below in ap (λ vs. with_indices round vs (at_iteration w.nest s0 i)) (map-kept is_index n b round round s z (omega (arith, below, le)) h.off kept)) ∙ h.state;
      off = h.off;
    }

    else-same : (body : CodedBody w) (rest : Items Action Condition) (b : ℕ) (s : List ℤ) → ItemsAt body b s ≡ items_in i rest
        → BranchesAt (else_arm w body) b s ≡ branches_in i (else_of rest)
    else-same forms.NoText rest b s e = none-items i rest e
    else-same (forms.AndText a r) rest b s e = else-items i (ItemsAt (forms.AndText a r) b s) rest e (then-not (action_at w s0 a s i) (ItemsAt r b s))
    else-same (forms.AndIf arms r) rest b s e =
        else-items i (ItemsAt (forms.AndIf arms r) b s) rest e (if-not (BranchesAt arms b s) (ItemsAt r b (slots_after_arms counting (arms_of arms) b s)))
    else-same (forms.AndLoop bs inner r) rest b s e =
        let f = slots_after counting (body_of inner) (b + 4) in
        let h : List ℤ = headed (bounds_of bs) b s in
        let t : ℕ = trips_at counting b h in
        else-items i (ItemsAt (forms.AndLoop bs inner r) b s) rest e
        (repeat-not t (λ x. ItemsAt inner (b + 4) (trip_slots counting f bs.index b (first_trip counting b h t) x))
        (ItemsAt r b (left_slots counting f bs.index b h t)))

    else-few : (body : CodedBody w) (b : ℕ) (z : List ℤ)
        → b + arms_slots (arms_of (else_arm w body)) ≤ length z → b + body_slots (body_of body) ≤ length z
    else-few forms.NoText b z few = few
    else-few (forms.AndText a r) b z few = omega (arith, few)
    else-few (forms.AndIf arms r) b z few = omega (arith, few)
    else-few (forms.AndLoop bs inner r) b z few = omega (arith, few)

    pub all-hidden : (round : List ℕ) (k : ℕ) → hidden round k ≡ true → is_index k ≡ true
    all-hidden round k e = hidden-is is_index round k e

    mutual
      pub items-block : (round : List ℕ) (block : Block) (ok : IsCodedBlock w s0 round block) (st : State) (b : ℕ) (s : List ℤ)
          → b0 ≤ b → Here round st b s → b + body_slots (body_of (code round block ok)) ≤ length s
          → ItemsAt (code round block ok) b s ≡ items_in i (items_of st block)
      items-block round Done ok st b s le h few = refl
      items-block round (Then line statement rest) ok st b s le h few =
          items-in line round statement ok.0 (code round rest ok.1) (items_of st rest) st b s le h few
          (λ z here long. items-block round rest ok.1 st b z le here long)

      -- a statement and what stands after it
      items-in : (line : ℕ) (round : List ℕ) (statement : Statement) (ok : IsCodedStatement w s0 round statement)
          (rest : CodedBody w) (others : Items Action Condition) (st : State) (b : ℕ) (s : List ℤ)
          → b0 ≤ b → Here round st b s → b + body_slots (body_of (code_in line round statement ok rest)) ≤ length s
          → ((z : List ℤ) → Here round st b z → b + body_slots (body_of rest) ≤ length z → ItemsAt rest b z ≡ items_in i others)
          → ItemsAt (code_in line round statement ok rest) b s ≡ items_in i (statements.items_in line st statement others)
      items-in line round (AssignScalar k t) ok rest others st b s le h few next =
          λ j. order.Then (in_iteration i (text_at line (h.state j) (ToScalar k t))) (next s h few j)
      items-in line round (AssignElement a ts t) ok rest others st b s le h few next =
          λ j. order.Then (in_iteration i (text_at line (h.state j) (ToElement a ts t))) (next s h few j)
      items-in line round (AssignSection a subs t) ok rest others st b s le h few next = absurd ok
      items-in line round (Transform x y how) ok rest others st b s le h few next = absurd ok
      items-in line round (If arms other) ok rest others st b s le h few next =
          let eb = code round other ok.1 in
          let ea = else_arm w eb in
          let as' = code_arms round arms ok.0 ea in
          let z : List ℤ = slots_after_arms counting (arms_of as') b s in
          let kept = same-after-arms counting (hidden round) (arms_of as')
          (takes-arms (hidden round) round arms ok.0 ea (λ k e. e) (else-takes (hidden round) eb (takes (hidden round) round other ok.1 (λ k e. e)))) b s in
          let same = same-after-arms counting is_index (arms_of as')
          (takes-arms is_index round arms ok.0 ea (all-hidden round) (else-takes is_index eb (takes is_index round other ok.1 (all-hidden round)))) b s in
          let l : length s ≡ length z = same.0 in
          λ j. order.If
          (items-arms round arms ok.0 ea (items_of st other) st b s le h (omega (arith, few))
          (λ y here long. else-same eb (items_of st other) b y (items-block round other ok.1 st b y le here (else-few eb b y long))) j)
          (next z (here-on round st b s z le h kept same) (omega (arith, few, l)) j)
      items-in line round (Do Unmarked loop body) ok rest others st b s le h few next =
          let x = loop.index in
          let inner = code (x ∷ round) body ok.1 in
          let f = slots_after counting (body_of inner) (b + 4) in
          let bs = bounds_of (loop_bounds w loop) in
          let hd : List ℤ = headed bs b s in
          let t : ℕ = trips_at counting b hd in
          let fst : List ℤ = first_trip counting b hd t in
          let trip : ℕ → List ℤ = trip_slots counting f x b fst in
          let z : List ℤ = left_slots counting f x b hd t in
          let hid : hidden round x ≡ true = ok.0.index in
          let idx : is_index x ≡ true = all-hidden round x hid in
          let keeps_h = λ (y : List ℤ). same-after counting (hidden round) (body_of inner)
          (takes (hidden round) (x ∷ round) body ok.1 (λ k e. hidden-less is_index x round k e)) (b + 4) y in
          let keeps = λ (y : List ℤ). same-after counting is_index (body_of inner) (takes is_index (x ∷ round) body ok.1 (all-hidden (x ∷ round))) (b + 4) y in
          let few4 : b + 4 ≤ length s = omega (arith, few) in
          let vals : values_of st loop ≡ P w l b0 entry s0 holds outside round loop ok.0 = values-are w l b0 entry s0 holds outside round loop ok.0 st
          (λ k e. ap (λ (at_text : State). scalar at_text k) (sym h.state) ∙ same-names w l b0 entry s0 holds outside i round s k e) in
          let turn = turns w l b0 entry s0 holds outside round loop ok.0 f b keeps s le h.same few4 in
          let cnt : t ≡ (values_of st loop).count = count-is w l b0 entry s0 holds outside round loop ok.0 f b keeps s le h.same few4 ∙ ap (λ (p : Sequence). p.count) (sym vals) in
          let head_h = same-headed counting (hidden round) bs b s hid in
          let head_i = same-headed counting is_index bs b s idx in
          let first_h = same-on (hidden round) b b b s hd fst (omega arith) (omega arith) head_h (same-first counting (hidden round) b hd t) in
          let first_i = same-on is_index b b b s hd fst (omega arith) (omega arith) head_i (same-first counting is_index b hd t) in
          let left_h = same-on (hidden round) b b b s hd z (omega arith) (omega arith) head_h (same-left counting (hidden round) f x b hid keeps_h hd t) in
          let left_i = same-on is_index b b b s hd z (omega arith) (omega arith) head_i (same-left counting is_index f x b idx keeps hd t) in
          let l : length s ≡ length z = left_i.0 in
          let each : (y : ℕ) → ItemsAt inner (b + 4) (trip y) ≡ items_in i (items_of (set_scalar st x (turn_value (values_of st loop) y)) body) =
          λ y.
          let ty = turn y in
          let kept_h = same-on (hidden round) b b b s fst (trip y) (omega arith) (omega arith) first_h (same-trip counting (hidden round) f x b hid keeps_h fst y) in
          let kept_i = same-on is_index b b b s fst (trip y) (omega arith) (omega arith) first_i (same-trip counting is_index f x b idx keeps fst y) in
          let around = here-on round st b s (trip y) le h kept_h kept_i in
          let value : slot (trip y) x ≡ turn_value (values_of st loop) y = ty.index ∙ ap (λ (p : Sequence). turn_value p y) (sym vals) in
          let lt : length (trip y) ≡ length s = ty.long in
          items-block (x ∷ round) body ok.1 (set_scalar st x (turn_value (values_of st loop) y)) (b + 4) (trip y) (omega (arith, le)) (record {
            same = around.same;
            state = λ j. set_scalar (around.state j) x (value j);
            off = all-next is_index n x round ok.0.below h.off;
          }) (omega (arith, few, lt)) in
          λ j. order.Repeat (cnt j) (λ y. each y j) (next z (here-on round st b s z le h left_h left_i) (omega (arith, few, l)) j)
      items-in line round (Do (Outermost nest inner) loop body) ok rest others st b s le h few next = absurd ok
      items-in line round (Where mask body others') ok rest others st b s le h few next = absurd ok
      items-in line round (Forall cs mask body) ok rest others st b s le h few next = absurd ok
      items-in line round (Print items) ok rest others st b s le h few next = absurd ok
      items-in line round Stop ok rest others st b s le h few next = absurd ok
      items-in line round Exit ok rest others st b s le h few next = absurd ok
      items-in line round Cycle ok rest others st b s le h few next = absurd ok
      items-in line round Continue ok rest others st b s le h few next = next s h few
      items-in line round Redistribute ok rest others st b s le h few next = absurd ok

      items-arms : (round : List ℕ) (arms : Arms) (ok : AreCodedArms w s0 round arms)
          (other : CodedArms w) (others : Items Action Condition) (st : State) (b : ℕ) (s : List ℤ)
          → b0 ≤ b → Here round st b s → b + arms_slots (arms_of (code_arms round arms ok other)) ≤ length s
          → ((z : List ℤ) → Here round st b z → b + arms_slots (arms_of other) ≤ length z → BranchesAt other b z ≡ branches_in i (else_of others))
          → BranchesAt (code_arms round arms ok other) b s ≡ branches_in i (branches_of st arms others)
      items-arms round NoArm ok other others st b s le h few next = next s h few
      items-arms round (Arm line t body arms) ok other others st b s le h few next =
          let cb = code round body ok.1 in
          let z : List ℤ = slots_after counting (body_of cb) b s in
          let kept = same-after counting (hidden round) (body_of cb) (takes (hidden round) round body ok.1 (λ k e. e)) b s in
          let same = same-after counting is_index (body_of cb) (takes is_index round body ok.1 (all-hidden round)) b s in
          let l : length s ≡ length z = same.0 in
          λ j. order.Branch (Some (in_iteration i (text_at line (h.state j) t))) (items-block round body ok.1 st b s le h (omega (arith, few)) j)
          (items-arms round arms ok.2 other others st b z le (here-on round st b s z le h kept same) (omega (arith, few, l)) next j)
