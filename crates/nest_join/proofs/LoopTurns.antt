-- The slots of an inner loop, turn by turn.
use Rattle.std.proofs.Common.{◌≡◌, ℕ, zero, suc, ◌+◌, ◌<◌, ◌≤◌, List, [], map, length, slice_set, ℤ, pos, ◌+ℤ◌, Bool, false, Ok, refl, sym, ap, ◌∙◌, subst, arith, length-set, get_or-set_same, get_or-set_other}
use Rattle.op_tables.specs.Operators.{wrapped}
use Rattle.array_meaning.specs.Terms.{Term}
use Rattle.array_meaning.specs.Faults.{Fault}
use Rattle.array_meaning.specs.State.{State, scalar}
use Rattle.array_meaning.specs.Statements.{Loop}
use Rattle.array_meaning.specs.declared.sections.Sequence.{Sequence}
use Rattle.array_meaning.specs.Sections.{value_count}
use Rattle.array_meaning.specs.Expressions.{value}
use Rattle.array_meaning.specs.Forall.{indices_at}
use Rattle.array_meaning.specs.Iterations.{values_of, turn_value, nest_axes, at_iteration}
use Rattle.code_meaning.specs.Flat.{slot, or_zero, slots_value}
use Rattle.program_code.specs.ExpressionCode.{index_flat}
use Rattle.nest_items.proofs.Turns.{next_value, first_value}
use Rattle.nest_machine.specs.Counting.{Counting, trips_at}
use Rattle.nest_machine.specs.Body.{Bounds}
use Rattle.nest_machine.specs.Slots.{SameSlots, headed, first_trip, trip_slots, left_slots, again, next_index, advanced}
use Rattle.nest_machine.proofs.Slots.{same-on, same-set}
use Rattle.nest_texts.specs.NestLoops.{counting_at}
use Rattle.nest_texts.specs.NestBodies.{bounds_of}
use Rattle.nest_join.specs.NestNames.{NestNames, indices_of}
use Rattle.nest_join.specs.NestTexts.{state_at, HoldsEntry}
use Rattle.nest_join.specs.CodedBlocks.{IsBoundName, IsBound, IsCodedLoop, loop_bounds}
use Rattle.nest_join.proofs.Names.{with-other}
use Rattle.nest_join.proofs.Bounds.{bound-ok, bound-same, bound-flat, step-value, step-flat, step-some, sequence_at, control-values}

module _ (w : NestNames) (l b0 : ℕ) (entry : List ℤ) (s0 : State) (holds : HoldsEntry w b0 entry s0) (outside : (x : ℕ) → b0 ≤ x → w.is_index x ≡ false) where
  abbrev n : ℕ
  n = w.count

  abbrev is_index : ℕ → Bool
  is_index = w.is_index

  abbrev counting : Counting Fault
  counting = counting_at l

  held-names : (round : List ℕ) (s : List ℤ) → SameSlots w.is_index b0 entry s → (k : ℕ) → IsBoundName w round k → slot s k ≡ scalar s0 k
  held-names round s same k (lt, no_index, off, out) = let le = holds.below in sym (same.1 k (omega (arith, lt, le)) no_index) ∙ holds.slots k lt no_index

  module _ (i : ℕ) where
    abbrev pub at : List ℕ → List ℤ → State
    at round s = state_at w s0 round s i

    pub same-names : (round : List ℕ) (s : List ℤ) (k : ℕ) → IsBoundName w round k → scalar (at round s) k ≡ scalar s0 k
    same-names round s k (lt, no_index, off, out) = with-other round (map (slot s) round) (at_iteration w.nest s0 i) 0 k out ∙ with-other (indices_of w) (indices_at (nest_axes s0 w.nest) i) s0 0 k off

  module _ (round : List ℕ) (loop : Loop) (ok : IsCodedLoop w s0 round loop) where
    abbrev x : ℕ
    x = loop.index

    abbrev V : Term → ℤ
    V t = or_zero (value [] s0 t)

    -- the step
    abbrev d : ℤ
    d = ok.step.number

    abbrev pub P : Sequence
    P = sequence_at (V loop.control.first) (V loop.control.last) d

    abbrev Name : ℕ → Type 0
    Name = IsBoundName w round

    value-is : (s : State) → ((k : ℕ) → Name k → scalar s k ≡ scalar s0 k) → (t : Term) → IsBound w round t → value [] s t ≡ Ok (V t)
    value-is s same t h = let v = bound-ok n s0 t h.0 in bound-same n s0 s Name same t h.0 h.1 ∙ v.1 ∙ ap Ok (sym (ap or_zero v.1))

    slot-is : (s : List ℤ) → SameSlots w.is_index b0 entry s → (t : Term) → IsBound w round t → slots_value s (index_flat t) ≡ V t
    slot-is s same t h = ap or_zero (bound-flat n s0 s Name (held-names round s same) t h.0 h.1)

    pub values-are : (s : State) → ((k : ℕ) → Name k → scalar s k ≡ scalar s0 k) → values_of s loop ≡ P
    values-are s same =
        control-values (value [] s loop.control.first) (value [] s loop.control.last) (value [] s loop.control.step) (V loop.control.first) (V loop.control.last) d
        (value-is s same loop.control.first ok.first) (value-is s same loop.control.last ok.last) (step-value loop.control.step ok.step s) (step-some loop.control.step ok.step)

    first-fits : wrapped P.first ≡ P.first
    first-fits = subst (λ (p : Sequence). wrapped p.first ≡ p.first) (values-are s0 (λ k e. refl)) ok.fits

    module _ (after : List ℤ → List ℤ) (b : ℕ) (keeps : (z : List ℤ) → SameSlots w.is_index (b + 4) z (after z)) (s : List ℤ) (le : b0 ≤ b) (same : SameSlots w.is_index b0 entry s)
        (few : b + 4 ≤ length s) where
      abbrev bounds : Bounds
      bounds = bounds_of (loop_bounds w loop)

      abbrev h : List ℤ
      h = headed bounds b s

      abbrev t : ℕ
      t = trips_at counting b h

      abbrev first : List ℤ
      first = first_trip counting b h t

      abbrev trip : ℕ → List ℤ
      trip = trip_slots counting after x b first

      set-here : (xs : List ℤ) (k : ℕ) (v : ℤ) → k < length xs → slot (slice_set xs k v) k ≡ v
      set-here xs k v lt = get_or-set_same xs k v (pos 0) lt

      set-other : (xs : List ℤ) (j k : ℕ) (v : ℤ) → (k ≡ j → ⊥) → slot (slice_set xs j v) k ≡ slot xs k
      set-other xs j k v ne = get_or-set_other xs j k v (pos 0) ne

      -- what a turn begins with
      pub record Turn (z : List ℤ) (v : ℤ) : Type 0 where
        pub value : slot z b ≡ v
        pub index : slot z x ≡ v
        pub step : slot z (b + 2) ≡ d
        pub long : length z ≡ length s

      abbrev s1 : List ℤ
      s1 = slice_set s b (bounds.first s)

      abbrev s2 : List ℤ
      s2 = slice_set s1 (b + 1) (bounds.last s1)

      abbrev s3 : List ℤ
      s3 = slice_set s2 (b + 2) (bounds.step s2)

      long1 : length s1 ≡ length s
      long1 = length-set s b (bounds.first s)

      long2 : length s2 ≡ length s
      long2 = length-set s1 (b + 1) (bounds.last s1) ∙ long1

      long3 : length s3 ≡ length s
      long3 = length-set s2 (b + 2) (bounds.step s2) ∙ long2

      same1 : SameSlots w.is_index b0 entry s1
      same1 = same-on is_index b0 b0 b0 entry s s1 (omega arith) (omega arith) same (same-set is_index b0 b s (bounds.first s) (omega (arith, le)))

      under : x < b
      under = let a = ok.below in let c = holds.below in omega (arith, a, c, le)

      value3 : slot s3 b ≡ V loop.control.first
      value3 = let l1 = long1 in set-other s2 (b + 2) b (bounds.step s2) (λ e. omega (arith, e)) ∙ set-other s1 (b + 1) b (bounds.last s1) (λ e. omega (arith, e))
          ∙ set-here s b (bounds.first s) (omega (arith, few)) ∙ slot-is s same loop.control.first ok.first

      last3 : slot s3 (b + 1) ≡ V loop.control.last
      last3 = let l1 = long1 in set-other s2 (b + 2) (b + 1) (bounds.step s2) (λ e. omega (arith, e)) ∙ set-here s1 (b + 1) (bounds.last s1) (omega (arith, few, l1))
          ∙ slot-is s1 same1 loop.control.last ok.last

      step3 : slot s3 (b + 2) ≡ d
      step3 = let l2 = long2 in set-here s2 (b + 2) (bounds.step s2) (omega (arith, few, l2)) ∙ step-flat loop.control.step ok.step s2

      head-other : (k : ℕ) → (k ≡ x → ⊥) → slot h k ≡ slot s3 k
      head-other k ne = set-other s3 x k (slot s3 b) ne

      head-value : slot h b ≡ V loop.control.first
      head-value = head-other b (λ e. let u = under in omega (arith, e, u)) ∙ value3

      head-last : slot h (b + 1) ≡ V loop.control.last
      head-last = head-other (b + 1) (λ e. let u = under in omega (arith, e, u)) ∙ last3

      head-step : slot h (b + 2) ≡ d
      head-step = head-other (b + 2) (λ e. let u = under in omega (arith, e, u)) ∙ step3

      pub count-is : t ≡ P.count
      count-is = λ j. value_count (wrapped (head-value j)) (wrapped (head-last j)) (wrapped (head-step j))

      head-turn : Turn h (turn_value P 0)
      head-turn =
          let e : V loop.control.first ≡ turn_value P 0 = sym (first_value P first-fits) in
          let l3 = long3 in let u = under in record {
            value = head-value ∙ e;
            index = set-here s3 x (slot s3 b) (omega (arith, u, l3, few)) ∙ value3 ∙ e;
            step = head-step;
            long = length-set s3 x (slot s3 b) ∙ long3;
          }

      begins : (n : ℕ) → Turn (first_trip counting b h n) (turn_value P 0)
      begins zero = head-turn
      begins (suc n) =
          let u = under in record {
            value = set-other h (b + 3) b (counting.left n) (λ e. omega (arith, e)) ∙ head-turn.value;
            index = set-other h (b + 3) x (counting.left n) (λ e. omega (arith, e, u)) ∙ head-turn.index;
            step = set-other h (b + 3) (b + 2) (counting.left n) (λ e. omega (arith, e)) ∙ head-turn.step;
            long = length-set h (b + 3) (counting.left n) ∙ head-turn.long;
          }

      next : (z : List ℤ) (y : ℕ) → Turn z (turn_value P y) → Turn (again counting x b (after z)) (turn_value P (suc y))
      next z y turn =
          let past = after z in
          let n1 = next_index counting b past in
          let a = advanced counting x b past in
          let k = keeps z in
          let u = under in
          let lw : length past ≡ length s = sym k.0 ∙ turn.long in
          let wb : slot past b ≡ turn_value P y = sym (k.1 b (omega arith) (outside b le)) ∙ turn.value in
          let ws : slot past (b + 2) ≡ d = sym (k.1 (b + 2) (omega arith) (outside (b + 2) (omega (arith, le)))) ∙ turn.step in
          let l1 : length n1 ≡ length s = length-set past b (counting.advance (slot past b) (slot past (b + 2))) ∙ lw in
          let la : length a ≡ length s = length-set n1 x (slot n1 b) ∙ l1 in
          let v1 : slot n1 b ≡ turn_value P (suc y) = set-here past b (counting.advance (slot past b) (slot past (b + 2))) (omega (arith, lw, few)) ∙ (λ j. wrapped (wb j +ℤ ws j)) ∙ next_value P y in record {
            value = set-other a (b + 3) b (counting.less (slot a (b + 3))) (λ e. omega (arith, e)) ∙ set-other n1 x b (slot n1 b) (λ e. omega (arith, e, u)) ∙ v1;
            index = set-other a (b + 3) x (counting.less (slot a (b + 3))) (λ e. omega (arith, e, u)) ∙ set-here n1 x (slot n1 b) (omega (arith, u, l1, few)) ∙ v1;
            step = set-other a (b + 3) (b + 2) (counting.less (slot a (b + 3))) (λ e. omega (arith, e)) ∙ set-other n1 x (b + 2) (slot n1 b) (λ e. omega (arith, e, u))
                ∙ set-other past b (b + 2) (counting.advance (slot past b) (slot past (b + 2))) (λ e. omega (arith, e)) ∙ ws;
            long = length-set a (b + 3) (counting.less (slot a (b + 3))) ∙ la;
          }

      pub turns-of : (m y : ℕ) → Turn (trip_slots counting after x b (first_trip counting b h m) y) (turn_value P y)
      turns-of m zero = begins m
      turns-of m (suc y) = next (trip_slots counting after x b (first_trip counting b h m) y) y (turns-of m y)

      -- the index after the loop
      pub left-index : (m : ℕ) → slot (left_slots counting after x b h m) x ≡ turn_value P m
      left-index zero = head-turn.index
      left-index (suc m) =
          let z = trip_slots counting after x b (first_trip counting b h (suc m)) m in
          let a = advanced counting x b (after z) in
          let u = under in
          sym (set-other a (b + 3) x (counting.less (slot a (b + 3))) (λ e. omega (arith, e, u))) ∙ (next z m (turns-of (suc m) m)).index

      -- other slots below b
      advanced-other : (past : List ℤ) (k : ℕ) → k < b → (k ≡ x → ⊥) → slot (advanced counting x b past) k ≡ slot past k
      advanced-other past k lt ne =
          let n1 = next_index counting b past in
          set-other n1 x k (slot n1 b) ne ∙ set-other past b k (counting.advance (slot past b) (slot past (b + 2))) (λ e. omega (arith, e, lt))

      again-other : (past : List ℤ) (k : ℕ) → k < b → (k ≡ x → ⊥) → slot (again counting x b past) k ≡ slot past k
      again-other past k lt ne =
          let a = advanced counting x b past in set-other a (b + 3) k (counting.less (slot a (b + 3))) (λ e. omega (arith, e, lt)) ∙ advanced-other past k lt ne

      head-is : (k : ℕ) → k < b → (k ≡ x → ⊥) → slot h k ≡ slot s k
      head-is k lt ne = head-other k ne ∙ set-other s2 (b + 2) k (bounds.step s2) (λ e. omega (arith, e, lt)) ∙ set-other s1 (b + 1) k (bounds.last s1) (λ e. omega (arith, e, lt))
          ∙ set-other s b k (bounds.first s) (λ e. omega (arith, e, lt))

      first-is : (m k : ℕ) → k < b → (k ≡ x → ⊥) → slot (first_trip counting b h m) k ≡ slot s k
      first-is zero k lt ne = head-is k lt ne
      first-is (suc m) k lt ne = set-other h (b + 3) k (counting.left m) (λ e. omega (arith, e, lt)) ∙ head-is k lt ne

      -- slots of other names against states, turn by turn
      module _ (states : ℕ → State) (IsName : ℕ → Type 0) (low : (k : ℕ) → IsName k → (k < b) × (k ≡ x → ⊥)) (m : ℕ)
          (begin : (k : ℕ) → IsName k → slot s k ≡ scalar (states 0) k)
          (each : (y : ℕ) → ((k : ℕ) → IsName k → slot (trip_slots counting after x b (first_trip counting b h m) y) k ≡ scalar (states y) k)
          → (k : ℕ) → IsName k → slot (after (trip_slots counting after x b (first_trip counting b h m) y)) k ≡ scalar (states (suc y)) k) where
        turn-states : (y : ℕ) (k : ℕ) → IsName k → slot (trip_slots counting after x b (first_trip counting b h m) y) k ≡ scalar (states y) k
        turn-states zero k is = let l = low k is in first-is m k l.0 l.1 ∙ begin k is
        turn-states (suc y) k is =
            let l = low k is in again-other (after (trip_slots counting after x b (first_trip counting b h m) y)) k l.0 l.1 ∙ each y (turn-states y) k is

      pub left-states : (states : ℕ → State) (IsName : ℕ → Type 0) → ((k : ℕ) → IsName k → (k < b) × (k ≡ x → ⊥)) → (m : ℕ)
          → ((k : ℕ) → IsName k → slot s k ≡ scalar (states 0) k)
          → ((y : ℕ) → ((k : ℕ) → IsName k → slot (trip_slots counting after x b (first_trip counting b h m) y) k ≡ scalar (states y) k)
          → (k : ℕ) → IsName k → slot (after (trip_slots counting after x b (first_trip counting b h m) y)) k ≡ scalar (states (suc y)) k)
          → (k : ℕ) → IsName k → slot (left_slots counting after x b h m) k ≡ scalar (states m) k
      left-states states IsName low zero begin each k is = let l = low k is in head-is k l.0 l.1 ∙ begin k is
      left-states states IsName low (suc m) begin each k is =
          let l = low k is in
          let z = trip_slots counting after x b (first_trip counting b h (suc m)) m in
          advanced-other (after z) k l.0 l.1 ∙ each m (turn-states states IsName low (suc m) begin each m) k is

      pub turns : (y : ℕ) → Turn (trip y) (turn_value P y)
      turns zero = begins t
      turns (suc y) = next (trip y) y (turns y)
