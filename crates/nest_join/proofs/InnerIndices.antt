-- After the code of a body the indices of its loops are in their slots as the meaning leaves them.
use Rattle.std.proofs.Common.{◌≡◌, ℕ, zero, suc, ◌+◌, ◌<◌, ◌≤◌, ⊎_elim, nat_eq, List, ◌∷◌, length, ℤ, pos, Bool, true, false, if◌then◌else◌, refl, sym, ap, ◌∙◌, subst, arith, length-set, get_or-set_same, get_or-set_other, true≢false}
use Rattle.std.proofs.lemmas.Bool.Decides.{nat_tests}
use Rattle.std.proofs.lemmas.Bool.{cases_eq, and_parts}
use Rattle.nest_order.specs.Turns.{after_turns}
use Rattle.array_meaning.specs.Faults.{Fault}
use Rattle.array_meaning.specs.State.{State, scalar, set_scalar}
use Rattle.array_meaning.specs.Statements.{Block, Done, Then, Statement, AssignScalar, AssignElement, AssignSection, Transform, If, Do, Unmarked, Outermost, Where, Forall, Print, Stop, Exit, Cycle, Continue, Redistribute, Arms, NoArm, Arm}
use Rattle.array_meaning.specs.declared.sections.Sequence.{Sequence}
use Rattle.array_meaning.specs.Iterations.{values_of, turn_value}
use Rattle.code_meaning.specs.Flat.{slot}
use Rattle.nest_items.specs.Standing.{has_no_loop, is_no_loop, have_no_loop}
use Rattle.nest_items.specs.Settled.{settled, settled_by}
use Rattle.nest_machine.specs.Counting.{Counting, trips_at}
use Rattle.nest_machine.specs.Body.{body_slots}
use Rattle.nest_machine.specs.Slots.{headed, first_trip, trip_slots, left_slots, slots_after, slots_after_arms}
use Rattle.nest_machine.proofs.Slots.{same-on, same-headed, same-first, same-trip, same-left, same-after}
use Rattle.nest_texts.specs.NestLoops.{counting_at}
use Rattle.program_code.specs.NestInstructions as forms
use Rattle.nest_texts.specs.NestBodies.{bounds_of, body_of, arms_of}
use Rattle.nest_join.specs.NestNames.{NestNames}
use Rattle.nest_join.specs.NestTexts.{HoldsEntry}
use Rattle.nest_join.specs.CodedBlocks.{hidden_in, IsCodedBlock, IsCodedStatement, AreCodedArms, CodedBody, CodedArms, loop_bounds, else_arm, coded, coded_in, coded_arms}
use Rattle.nest_join.proofs.HiddenIndices.{hidden-less, self-off, all-next}
use Rattle.nest_join.proofs.LoopTurns.{P, same-names, values-are, count-is, turns, left-index, left-states}
use Rattle.nest_join.proofs.SameItems.{Here, here-on, takes, all-hidden}

module _ (w : NestNames) (l b0 : ℕ) (entry : List ℤ) (s0 : State) (holds : HoldsEntry w b0 entry s0) (outside : (x : ℕ) → b0 ≤ x → w.is_index x ≡ false) where
  abbrev n : ℕ
  n = w.count

  abbrev is_index : ℕ → Bool
  is_index = w.is_index

  abbrev counting : Counting Fault
  counting = counting_at l

  abbrev code : (round : List ℕ) (block : Block) → IsCodedBlock w s0 round block → CodedBody w
  code = coded w s0

  abbrev code_in : (line : ℕ) (round : List ℕ) (statement : Statement) → IsCodedStatement w s0 round statement → CodedBody w → CodedBody w
  code_in = coded_in w s0

  abbrev code_arms : (round : List ℕ) (arms : Arms) → AreCodedArms w s0 round arms → CodedArms w → CodedArms w
  code_arms = coded_arms w s0

  abbrev hidden : List ℕ → ℕ → Bool
  hidden = hidden_in is_index

  abbrev After : CodedBody w → ℕ → List ℤ → List ℤ
  After block = slots_after counting (body_of block)

  abbrev AfterArms : CodedArms w → ℕ → List ℤ → List ℤ
  AfterArms arms = slots_after_arms counting (arms_of arms)

  else-still : (body : CodedBody w) (b : ℕ) (s : List ℤ)
      → AfterArms (else_arm w body) b s ≡ After body b s
  else-still forms.NoText b s = refl
  else-still (forms.AndText a r) b s = refl
  else-still (forms.AndIf arms r) b s = refl
  else-still (forms.AndLoop bs inner r) b s = refl

  mutual
    still-block : (round : List ℕ) (block : Block) (ok : IsCodedBlock w s0 round block) → has_no_loop block ≡ true → (b : ℕ) (s : List ℤ)
        → After (code round block ok) b s ≡ s
    still-block round Done ok e b s = refl
    still-block round (Then line statement rest) ok e b s =
        let h = and_parts (is_no_loop statement) (has_no_loop rest) e in
        still-in line round statement ok.0 (code round rest ok.1) h.0 b s (λ z. still-block round rest ok.1 h.1 b z)

    still-in : (line : ℕ) (round : List ℕ) (statement : Statement) (ok : IsCodedStatement w s0 round statement)
        (rest : CodedBody w) → is_no_loop statement ≡ true → (b : ℕ) (s : List ℤ) → ((z : List ℤ) → After rest b z ≡ z)
        → After (code_in line round statement ok rest) b s ≡ s
    still-in line round (AssignScalar k t) ok rest e b s next = next s
    still-in line round (AssignElement a ts t) ok rest e b s next = next s
    still-in line round (AssignSection a subs t) ok rest e b s next = absurd ok
    still-in line round (Transform x y how) ok rest e b s next = absurd ok
    still-in line round (If arms other) ok rest e b s next =
        let h = and_parts (have_no_loop arms) (has_no_loop other) e in
        next (AfterArms (code_arms round arms ok.0 (else_arm w (code round other ok.1))) b s)
        ∙ still-arms round arms ok.0 (else_arm w (code round other ok.1)) h.0 b s
        (λ z. else-still (code round other ok.1) b z ∙ still-block round other ok.1 h.1 b z)
    still-in line round (Do Unmarked loop body) ok rest e b s next = cc
    still-in line round (Do (Outermost nest inner) loop body) ok rest e b s next = absurd ok
    still-in line round (Where mask body others) ok rest e b s next = absurd ok
    still-in line round (Forall cs mask body) ok rest e b s next = absurd ok
    still-in line round (Print items) ok rest e b s next = absurd ok
    still-in line round Stop ok rest e b s next = absurd ok
    still-in line round Exit ok rest e b s next = absurd ok
    still-in line round Cycle ok rest e b s next = absurd ok
    still-in line round Continue ok rest e b s next = next s
    still-in line round Redistribute ok rest e b s next = absurd ok

    still-arms : (round : List ℕ) (arms : Arms) (ok : AreCodedArms w s0 round arms)
        (other : CodedArms w) → have_no_loop arms ≡ true → (b : ℕ) (s : List ℤ) → ((z : List ℤ) → AfterArms other b z ≡ z)
        → AfterArms (code_arms round arms ok other) b s ≡ s
    still-arms round NoArm ok other e b s next = next s
    still-arms round (Arm line t body arms) ok other e b s next =
        let h = and_parts (has_no_loop body) (have_no_loop arms) e in
        still-arms round arms ok.2 other h.1 b (After (code round body ok.1) b s) next ∙ still-block round body ok.1 h.0 b s

  pub turns-length : (c : ℕ) (f : ℕ → State → State) (z : State) → ((y : ℕ) (later : State) → length (f y later).scalars ≡ length later.scalars) → length (after_turns c f z).scalars ≡ length z.scalars
  turns-length zero f z h = refl
  turns-length (suc c) f z h = h c (after_turns c f z) ∙ turns-length c f z h

  mutual
    pub settled-length : (block : Block) (st z : State) → length (settled st block z).scalars ≡ length z.scalars
    settled-length Done st z = refl
    settled-length (Then line statement rest) st z = settled-length rest st (settled_by st statement z) ∙ by-length statement st z

    pub by-length : (statement : Statement) (st z : State) → length (settled_by st statement z).scalars ≡ length z.scalars
    by-length (Do mark loop body) st z =
        let tv = λ (y : ℕ). turn_value (values_of st loop) y in
        let f : ℕ → State → State = λ y later. set_scalar (settled (set_scalar st loop.index (tv y)) body later) loop.index (tv y) in
        length-set (after_turns (values_of st loop).count f z).scalars loop.index (tv (values_of st loop).count)
        ∙ turns-length (values_of st loop).count f z (λ y later. length-set (settled (set_scalar st loop.index (tv y)) body later).scalars loop.index (tv y) ∙ settled-length body (set_scalar st loop.index (tv y)) later)
    by-length (AssignScalar k t) st z = refl
    by-length (AssignElement a ts t) st z = refl
    by-length (AssignSection a subs t) st z = refl
    by-length (Transform x y how) st z = refl
    by-length (If arms other) st z = refl
    by-length (Where mask body others) st z = refl
    by-length (Forall cs mask body) st z = refl
    by-length (Print items) st z = refl
    by-length Stop st z = refl
    by-length Exit st z = refl
    by-length Cycle st z = refl
    by-length Continue st z = refl
    by-length Redistribute st z = refl

  module _ (i : ℕ) where
    abbrev Rel : List ℕ → State → List ℤ → Type 0
    Rel round z s = (k : ℕ) → k < n → hidden round k ≡ true → slot s k ≡ scalar z k

    differ-name : (x : ℕ) (round : List ℕ) (k : ℕ) → hidden (x ∷ round) k ≡ true → k ≡ x → ⊥
    differ-name x round k h e = true≢false (sym h ∙ ap (hidden (x ∷ round)) e ∙ self-off is_index x round)

    hidden-more : (x : ℕ) (round : List ℕ) (k : ℕ) → (k ≡ x → ⊥) → hidden round k ≡ true → hidden (x ∷ round) k ≡ true
    hidden-more x round k ne h = let e : nat_eq x k ≡ false = grind (arith, nat_tests, ne) in ap (λ t. if t then false else hidden round k) e ∙ h

    -- the indices of inner loops are in their slots as the meaning leaves them
    pub after-block : (round : List ℕ) (block : Block) (ok : IsCodedBlock w s0 round block) (st : State) (b : ℕ) (s : List ℤ)
        → b0 ≤ b → Here w l b0 entry s0 holds outside i round st b s → b + body_slots (body_of (code round block ok)) ≤ length s
        → (z : State) → length z.scalars ≡ n → Rel round z s → Rel round (settled st block z) (After (code round block ok) b s)
    after-block round Done ok st b s le h few z lz r = r
    after-block round (Then line (AssignScalar k t) rest) ok st b s le h few z lz r = after-block round rest ok.1 st b s le h few z lz r
    after-block round (Then line (AssignElement a ts t) rest) ok st b s le h few z lz r = after-block round rest ok.1 st b s le h few z lz r
    after-block round (Then line (AssignSection a subs t) rest) ok st b s le h few z lz r = absurd ok.0
    after-block round (Then line (Transform x y how) rest) ok st b s le h few z lz r = absurd ok.0
    after-block round (Then line (If arms other) rest) ok st b s le h few z lz r =
        let ea = else_arm w (code round other ok.0.1) in
        let both = and_parts (have_no_loop arms) (has_no_loop other) ok.0.2 in
        let e : AfterArms (code_arms round arms ok.0.0 ea) b s ≡ s =
        still-arms round arms ok.0.0 ea both.0 b s (λ y. else-still (code round other ok.0.1) b y ∙ still-block round other ok.0.1 both.1 b y) in
        subst (λ y. Rel round (settled st rest z) (After (code round rest ok.1) b y)) (sym e) (after-block round rest ok.1 st b s le h (omega (arith, few)) z lz r)
    after-block round (Then line (Do Unmarked loop body) rest) ok st b s le h few z lz r =
        let x = loop.index in
        let inner = code (x ∷ round) body ok.0.1 in
        let f = slots_after counting (body_of inner) (b + 4) in
        let bs = bounds_of (loop_bounds w loop) in
        let hd : List ℤ = headed bs b s in
        let t : ℕ = trips_at counting b hd in
        let fst : List ℤ = first_trip counting b hd t in
        let trip : ℕ → List ℤ = trip_slots counting f x b fst in
        let z1 : List ℤ = left_slots counting f x b hd t in
        let hid : hidden round x ≡ true = ok.0.0.index in
        let idx : is_index x ≡ true = all-hidden w l b0 entry s0 holds outside i round x hid in
        let keeps_h = λ (y : List ℤ). same-after counting (hidden round) (body_of inner)
        (takes w l b0 entry s0 holds outside (hidden round) (x ∷ round) body ok.0.1 (λ k e. hidden-less is_index x round k e)) (b + 4) y in
        let keeps = λ (y : List ℤ). same-after counting is_index (body_of inner) (takes w l b0 entry s0 holds outside is_index (x ∷ round) body ok.0.1 (all-hidden w l b0 entry s0 holds outside i (x ∷ round))) (b + 4) y in
        let few4 : b + 4 ≤ length s = omega (arith, few) in
        let vals : values_of st loop ≡ P w l b0 entry s0 holds outside round loop ok.0.0 = values-are w l b0 entry s0 holds outside round loop ok.0.0 st
        (λ k e. ap (λ (at_text : State). scalar at_text k) (sym h.state) ∙ same-names w l b0 entry s0 holds outside i round s k e) in
        let turn = turns w l b0 entry s0 holds outside round loop ok.0.0 f b keeps s le h.same few4 in
        let cnt : t ≡ (values_of st loop).count = count-is w l b0 entry s0 holds outside round loop ok.0.0 f b keeps s le h.same few4 ∙ ap (λ (p : Sequence). p.count) (sym vals) in
        let head_h = same-headed counting (hidden round) bs b s hid in
        let head_i = same-headed counting is_index bs b s idx in
        let first_h = same-on (hidden round) b b b s hd fst (omega arith) (omega arith) head_h (same-first counting (hidden round) b hd t) in
        let first_i = same-on is_index b b b s hd fst (omega arith) (omega arith) head_i (same-first counting is_index b hd t) in
        let left_h = same-on (hidden round) b b b s hd z1 (omega arith) (omega arith) head_h (same-left counting (hidden round) f x b hid keeps_h hd t) in
        let left_i = same-on is_index b b b s hd z1 (omega arith) (omega arith) head_i (same-left counting is_index f x b idx keeps hd t) in
        let as_long : length s ≡ length z1 = left_i.0 in
        let tv : ℕ → ℤ = λ y. turn_value (values_of st loop) y in
        let step : ℕ → State → State = λ y later. set_scalar (settled (set_scalar st x (tv y)) body later) x (tv y) in
        let A : ℕ → State = λ y. after_turns y step z in
        let many : (y : ℕ) → length (A y).scalars ≡ n = λ y. turns-length y step z
        (λ u later. length-set (settled (set_scalar st x (tv u)) body later).scalars x (tv u) ∙ settled-length body (set_scalar st x (tv u)) later) ∙ lz in
        let below = holds.below in
        let others : (k : ℕ) → (k < n) × (hidden (x ∷ round) k ≡ true) → slot z1 k ≡ scalar (A t) k =
        left-states w l b0 entry s0 holds outside round loop ok.0.0 f b keeps s le h.same few4 A (λ k. (k < n) × (hidden (x ∷ round) k ≡ true))
        (λ k e. (let lt = e.0 in omega (arith, lt, below, le), differ-name x round k e.1)) t
        (λ k e. r k e.0 (hidden-less is_index x round k e.1))
        (λ y held k e.
        let ty = turn y in
        let kept_h = same-on (hidden round) b b b s fst (trip y) (omega arith) (omega arith) first_h (same-trip counting (hidden round) f x b hid keeps_h fst y) in
        let kept_i = same-on is_index b b b s fst (trip y) (omega arith) (omega arith) first_i (same-trip counting is_index f x b idx keeps fst y) in
        let around = here-on w l b0 entry s0 holds outside i round st b s (trip y) le h kept_h kept_i in
        let value : slot (trip y) x ≡ tv y = ty.index ∙ ap (λ (p : Sequence). turn_value p y) (sym vals) in
        let lt : length (trip y) ≡ length s = ty.long in
        after-block (x ∷ round) body ok.0.1 (set_scalar st x (tv y)) (b + 4) (trip y) (omega (arith, le)) (record {
          same = around.same;
          state = λ j. set_scalar (around.state j) x (value j);
          off = all-next is_index n x round ok.0.0.below h.off;
        }) (omega (arith, few, lt)) (A y) (many y) (λ k' lt' hid'. held k' (lt', hid')) k e.0 e.1
        ∙ sym (get_or-set_other (settled (set_scalar st x (tv y)) body (A y)).scalars x k (tv y) (pos 0) (differ-name x round k e.1))) in
        let c : ℕ = (values_of st loop).count in
        let rel : Rel round (set_scalar (A c) x (tv c)) z1 = λ k lt hk. ⊎_elim
        (λ (e : k ≡ x).
        let mc = many c in
        ap (slot z1) e ∙ left-index w l b0 entry s0 holds outside round loop ok.0.0 f b keeps s le h.same few4 t ∙ (λ j. turn_value (sym vals j) (cnt j))
        ∙ sym (get_or-set_same (A c).scalars x (tv c) (pos 0) (let bl = ok.0.0.below in omega (arith, bl, mc))) ∙ ap (scalar (set_scalar (A c) x (tv c))) (sym e))
        (λ (ne : k ≡ x → ⊥). others k (lt, hidden-more x round k ne hk) ∙ ap (λ q. scalar (A q) k) cnt ∙ sym (get_or-set_other (A c).scalars x k (tv c) (pos 0) ne))
        (cases_eq k x) in
        after-block round rest ok.1 st b z1 le (here-on w l b0 entry s0 holds outside i round st b s z1 le h left_h left_i) (omega (arith, few, as_long)) (set_scalar (A c) x (tv c))
        (length-set (A c).scalars x (tv c) ∙ many c) rel
    after-block round (Then line (Do (Outermost nest inner) loop body) rest) ok st b s le h few z lz r = absurd ok.0
    after-block round (Then line (Where mask body others) rest) ok st b s le h few z lz r = absurd ok.0
    after-block round (Then line (Forall cs mask body) rest) ok st b s le h few z lz r = absurd ok.0
    after-block round (Then line (Print items) rest) ok st b s le h few z lz r = absurd ok.0
    after-block round (Then line Stop rest) ok st b s le h few z lz r = absurd ok.0
    after-block round (Then line Exit rest) ok st b s le h few z lz r = absurd ok.0
    after-block round (Then line Cycle rest) ok st b s le h few z lz r = absurd ok.0
    after-block round (Then line Continue rest) ok st b s le h few z lz r = after-block round rest ok.1 st b s le h few z lz r
    after-block round (Then line Redistribute rest) ok st b s le h few z lz r = absurd ok.0
