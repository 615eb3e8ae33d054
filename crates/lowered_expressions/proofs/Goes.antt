-- What the code of a statement leads to, by the flow with which the statement ends.
use Rattle.node_code.specs.Instructions.{NewMapping, Instruction, Set, Jump, JumpIfZero}
use Rattle.code_meaning.specs.Instructions.{set_result, go_if, ArrayTable, meaning_of}
use Rattle.std.proofs.Common.{◌≡◌, ℕ, ◌+◌, ◌<◌, ◌≤◌, List, [], length, ℤ, pos, Bool, Option, Some, None, Result, Ok, Err, refl, sym, ap, ◌∙◌, subst, arith, slice_get, slice_set, slice_index_or, length-set, get_or-set_same, get_or-set_other, ⊎_elim, ◌++◌, append-nil}
use Rattle.std.proofs.lemmas.Bool.{cases_eq}
use Rattle.array_meaning.specs.Faults.{Cause, Fault, ◌>>=◌}
use Rattle.array_meaning.specs.Runs.{Completion, Normal, Exited, Cycled, Stopped, Run, normal, if_normal, then_do, one_step, with_value}
use Rattle.array_meaning.specs.State.{Array, State, set_scalar, array, no_array, store}
use Rattle.statement_trail.specs.Trail.{Trail, after_value, after_run}
use Rattle.lowered_expressions.specs.Passed.{passed, IsTrail}
use Rattle.lowered_expressions.proofs.Reach.{still, entries-more, Idle, SameBelow, Reaches, reaches-on, steps-more, stands, one, Stops, stops-on, Comes, Place}
use Rattle.lowered_expressions.proofs.Terms.{HoldsScalars, HoldsArrays}
use Rattle.machine_steps.specs.Instr.{Running, Control, Finished}
use Rattle.machine_steps.specs.Machine.{Machine, steps}
use Rattle.storage.specs.Storage.{Storage, row_of, write}
use Rattle.code_meaning.specs.Flat.{slot, flat_value}
use Rattle.node_code.specs.Flat.{Flat}
use Rattle.code_meaning.specs.Parallel.{at_line, fault_at}
use Rattle.op_tables.specs.Operators.{is_true}
use Rattle.array_meaning.specs.Runs as runs

-- a bind under a line is a bind of runs
pub value-bind : {A B : Type 0} (line : ℕ) (s : State) (r : Result A Cause) (f : A → Result B Cause) (next : B → Run) → with_value line s (r >>= f) next
    ≡ with_value line s r (λ a. with_value line s (f a) next)
value-bind line s (Ok a) f next = refl
value-bind line s (Err c) f next = refl

pub ends-bind : {A : Type 0} (line : ℕ) (s : State) (r : Result A Cause) (f : A → Result State Cause) → one_step line s (r >>= f)
    ≡ with_value line s r (λ a. one_step line s (f a))
ends-bind line s (Ok a) f = refl
ends-bind line s (Err c) f = refl

module _ (table : ArrayTable) (row_count : ℕ) (moves : ℕ → List NewMapping) (code : List Instruction) (n many : ℕ) (copy : Option (List ℤ)) where
  -- the slots, as many as there are, hold the scalars first, and the rows, as many as there are, the arrays; after these stands the copy
  -- that is to be kept, where there is one
  pub record Holds (s : State) (slots : List ℤ) (rows : Storage) : Type 0 where
    pub scalars : HoldsScalars n s slots
    pub arrays : HoldsArrays n table.shapes s rows
    pub places : length s.scalars ≡ n
    pub more_places : length s.arrays ≡ n
    pub wide : n < length rows
    pub more_rows : length rows ≡ row_count
    pub copied : (m : List ℤ) → copy ≡ Some m → row_of rows n ≡ m
    pub size : length slots ≡ many

  -- hidden slots below b are as they were
  abbrev pub Kept : ℕ → List ℤ → List ℤ → Type 0
  Kept b xs ys = (k : ℕ) → n ≤ k → k < b → slot xs k ≡ slot ys k

  pub kept-on : (b b1 : ℕ) (xs ys zs : List ℤ) → b ≤ b1 → Kept b xs ys → Kept b1 ys zs → Kept b xs zs
  kept-on b b1 xs ys zs le h g k from lt = h k from lt ∙ g k from (omega (arith, lt, le))

  pub kept-refl : (b : ℕ) (xs : List ℤ) → Kept b xs xs
  kept-refl b xs k from lt = refl

  -- the run comes to a place, with what a state is
  abbrev pub Lands : Trail → ℕ → ℕ → List ℤ → Place row_count → State → Type 0
  Lands T to b slots m s = (slots' : List ℤ) × (rows' : Storage) × Reaches table row_count moves code T m (stands table row_count moves code to slots' rows' s.printed) × Kept b slots slots'
      × Holds s slots' rows'

  module _ (leave again : ℕ) where
    abbrev pub Flows : Trail → ℕ → ℕ → List ℤ → Place row_count → State → Completion → Type 0
    Flows T to b slots m s Normal = Lands T to b slots m s
    Flows T to b slots m s Exited = Lands T leave b slots m s
    Flows T to b slots m s Cycled = Lands T again b slots m s
    Flows T to b slots m s Stopped =
        (i : Idle row_count) → (m' : Machine Instruction Fault) × ((k : ℕ) × (steps (meaning_of table) k (m i) ≡ m') × IsTrail moves (passed table k (m i)) T)
        × (m'.control.status ≡ Finished) × (m'.printed ≡ s.printed) × Holds s m'.control.slots m'.rows × (m'.kept ≡ None)
    Flows T to b slots m s (runs.Faulted f) = Stops table row_count moves code T m f s.printed

    abbrev pub Goes : Trail → ℕ → ℕ → List ℤ → Place row_count → Run → Type 0
    Goes T to b slots m r = Flows T to b slots m r.state r.completion

    lands-on : (T U : Trail) (to b b1 : ℕ) (slots slots1 : List ℤ) (m m1 : Place row_count) (s : State) → b ≤ b1 → Reaches table row_count moves code T m m1 → Kept b slots slots1
        → Lands U to b1 slots1 m1 s → Lands (T ++ U) to b slots m s
    lands-on T U to b b1 slots slots1 m m1 s le reach kept h =
        (h.0, h.1, reaches-on table row_count moves code m m1 (stands table row_count moves code to h.0 h.1 s.printed) reach h.2, kept-on b b1 slots slots1 h.0 le kept h.3, h.4)

    flows-on : (T U : Trail) (to b b1 : ℕ) (slots slots1 : List ℤ) (m m1 : Place row_count) (s : State) (flow : Completion) → b ≤ b1 → Reaches table row_count moves code T m m1
        → Kept b slots slots1 → Flows U to b1 slots1 m1 s flow → Flows (T ++ U) to b slots m s flow
    flows-on T U to b b1 slots slots1 m m1 s Normal le reach kept h = lands-on T U to b b1 slots slots1 m m1 s le reach kept h
    flows-on T U to b b1 slots slots1 m m1 s Exited le reach kept h = lands-on T U leave b b1 slots slots1 m m1 s le reach kept h
    flows-on T U to b b1 slots slots1 m m1 s Cycled le reach kept h = lands-on T U again b b1 slots slots1 m m1 s le reach kept h
    flows-on T U to b b1 slots slots1 m m1 s Stopped le reach kept h = λ i.
        let a = reach i in
        let b = h a.1 in (
          b.0,
          (
            b.1.0 + a.0,
            steps-more table row_count moves code a.0 b.1.0 (m i) ∙ ap (steps (meaning_of table) b.1.0) a.2 ∙ b.1.1,
            entries-more table row_count moves code a.0 b.1.0 (m i) (m1 a.1) T U a.2 a.3 b.1.2,
          ),
          b.2,
          b.3,
          b.4,
          b.5,
        )
    flows-on T U to b b1 slots slots1 m m1 s (runs.Faulted f) le reach kept h = stops-on table row_count moves code m m1 f s.printed reach h

    pub goes-on : (T U : Trail) (to b b1 : ℕ) (slots slots1 : List ℤ) (m m1 : Place row_count) (r : Run) → b ≤ b1 → Reaches table row_count moves code T m m1 → Kept b slots slots1
        → Goes U to b1 slots1 m1 r → Goes (T ++ U) to b slots m r
    goes-on T U to b b1 slots slots1 m m1 r le reach kept h = flows-on T U to b b1 slots slots1 m m1 r.state r.completion le reach kept h

    pub goes-as : (T U : Trail) (to b : ℕ) (slots : List ℤ) (m : Place row_count) (r : Run) → T ≡ U → Goes T to b slots m r → Goes U to b slots m r
    goes-as T U to b slots m r e h = subst (λ V. Goes V to b slots m r) e h

    -- one statement and what follows it from the state that it leaves, which may use the hidden slots
    pub goes-next : (T : Trail) (U : State → Trail) (mid to b : ℕ) (slots : List ℤ) (m : Place row_count) (r : Run) (f : State → Run) → Goes T mid b slots m r
        → ((slots1 : List ℤ) (rows1 : Storage) → Kept b slots slots1 → Holds r.state slots1 rows1
        → Goes (U r.state) to b slots1 (stands table row_count moves code mid slots1 rows1 r.state.printed) (f r.state))
        → Goes (T ++ after_run r U) to b slots m (then_do r f)
    goes-next T U mid to b slots m r f h next = by_flow r.completion h
      where
        ended : (flow : Completion) → Flows T mid b slots m r.state flow → Flows (T ++ []) mid b slots m r.state flow
        ended flow h = subst (λ V. Flows V mid b slots m r.state flow) (sym (append-nil T)) h

        by_flow : (flow : Completion) → Flows T mid b slots m r.state flow
            → Goes (T ++ after_run (record { state = r.state; completion = flow }) U) to b slots m (if_normal flow r.state f)
        by_flow Normal h = goes-on T (U r.state) to b b slots h.0 m (stands table row_count moves code mid h.0 h.1 r.state.printed) (f r.state) (omega arith) h.2 h.3
            (next h.0 h.1 h.3 h.4)
        by_flow Exited h = ended Exited h
        by_flow Cycled h = ended Cycled h
        by_flow Stopped h = ended Stopped h
        by_flow (runs.Faulted f) h = ended (runs.Faulted f) h

    -- one statement and what follows it from any state
    pub goes-then-kept : (T : Trail) (U : State → Trail) (mid to b : ℕ) (slots : List ℤ) (m : Place row_count) (r : Run) (f : State → Run) → Goes T mid b slots m r
        → ((slots1 : List ℤ) (rows1 : Storage) (s : State) → Kept b slots slots1 → Holds s slots1 rows1
        → Goes (U s) to b slots1 (stands table row_count moves code mid slots1 rows1 s.printed) (f s))
        → Goes (T ++ after_run r U) to b slots m (then_do r f)
    goes-then-kept T U mid to b slots m r f h next = goes-next T U mid to b slots m r f h (λ slots1 rows1 kept holds. next slots1 rows1 r.state kept holds)

    -- a value and what follows it
    pub goes-value : {A : Type 0} (T : Trail) (U : A → Trail) (line pc pc1 to b b1 : ℕ) (slots : List ℤ) (rows : Storage) (s : State) (P : List ℤ → A → Type 0)
        (r : Result A Cause) (next : A → Run)
        → b ≤ b1 → n ≤ b → Holds s slots rows → Comes table row_count moves code line rows s.printed T pc pc1 b slots P r
        → ((slots1 : List ℤ) (a : A) → r ≡ Ok a → SameBelow b slots slots1 → P slots1 a → Holds s slots1 rows
        → Goes (U a) to b1 slots1 (stands table row_count moves code pc1 slots1 rows s.printed) (next a))
        → Goes (T ++ after_value r U) to b slots (stands table row_count moves code pc slots rows s.printed) (with_value line s r next)
    goes-value T U line pc pc1 to b b1 slots rows s P (Ok a) next le from holds h go =
        let same = h.2 in
        goes-on T (U a) to b b1 slots h.0 (stands table row_count moves code pc slots rows s.printed) (stands table row_count moves code pc1 h.0 rows s.printed) (next a) le h.1
        (λ k from lt. same.1 k lt)
        (go h.0 a refl same h.3 (record {
          scalars = λ k lt. sym (same.1 k (omega (arith, lt, from))) ∙ holds.scalars k lt;
          arrays = holds.arrays;
          places = holds.places;
          more_places = holds.more_places;
          wide = holds.wide;
          more_rows = holds.more_rows;
          copied = holds.copied;
          size = sym same.0 ∙ holds.size;
        }))
    goes-value T U line pc pc1 to b b1 slots rows s P (Err c) next le from holds h go =
        subst (λ V. Stops table row_count moves code V (stands table row_count moves code pc slots rows s.printed) (fault_at line c) s.printed) (sym (append-nil T)) h

    -- a value, where what follows passes nothing
    pub goes-value-last : {A : Type 0} (T : Trail) (line pc pc1 to b b1 : ℕ) (slots : List ℤ) (rows : Storage) (s : State) (P : List ℤ → A → Type 0)
        (r : Result A Cause) (next : A → Run)
        → b ≤ b1 → n ≤ b → Holds s slots rows → Comes table row_count moves code line rows s.printed T pc pc1 b slots P r
        → ((slots1 : List ℤ) (a : A) → r ≡ Ok a → SameBelow b slots slots1 → P slots1 a → Holds s slots1 rows
        → Goes [] to b1 slots1 (stands table row_count moves code pc1 slots1 rows s.printed) (next a))
        → Goes T to b slots (stands table row_count moves code pc slots rows s.printed) (with_value line s r next)
    goes-value-last {A} T line pc pc1 to b b1 slots rows s P r next le from holds h go =
        goes-as (T ++ after_value r (λ a. [])) T to b slots (stands table row_count moves code pc slots rows s.printed) (with_value line s r next)
        (ap (λ U. T ++ U) (none r) ∙ append-nil T)
        (goes-value T (λ a. []) line pc pc1 to b b1 slots rows s P r next le from holds h go)
      where
        none : (q : Result A Cause) → after_value q (λ a. []) ≡ []
        none (Ok a) = refl
        none (Err c) = refl

    pub lands-done : (pc b : ℕ) (slots : List ℤ) (rows : Storage) (s : State) → Holds s slots rows
        → Goes [] pc b slots (stands table row_count moves code pc slots rows s.printed) (normal s)
    lands-done pc b slots rows s holds = (slots, rows, (λ i. (0, i, refl, tt)), kept-refl b slots, holds)

    pub goes-at : (T : Trail) (to to' b : ℕ) (slots : List ℤ) (m : Place row_count) (r : Run) → to ≡ to' → Goes T to b slots m r → Goes T to' b slots m r
    goes-at T to to' b slots m r e h = subst (λ x. Goes T x b slots m r) e h

  -- ---- single instructions

  abbrev control : ℕ → List ℤ → Control Fault
  control pc slots = record { at = pc; slots = slots; status = Running }

  pub set-reaches : (line pc x : ℕ) (slots : List ℤ) (rows : Storage) (out : List ℕ) (f : Flat) (v : ℤ) → slice_get code pc ≡ Some (Set line x f) → flat_value slots [] [] f
      ≡ Ok v
      → Reaches table row_count moves code [] (stands table row_count moves code pc slots rows out) (stands table row_count moves code (pc + 1) (slice_set slots x v) rows out)
  set-reaches line pc x slots rows out f v h e =
      λ i. (
        1,
        i,
        one table row_count moves code pc slots rows out (Set line x f) h i
            ∙ ap (λ r. record (stands table row_count moves code pc slots rows out i) { control = set_result (at_line line r) x (control pc slots) }) e,
        still table row_count moves code pc slots rows out (Set line x f) h refl i,
      )

  pub jump-reaches : (pc target : ℕ) (slots : List ℤ) (rows : Storage) (out : List ℕ) → slice_get code pc ≡ Some (Jump target)
      → Reaches table row_count moves code [] (stands table row_count moves code pc slots rows out) (stands table row_count moves code target slots rows out)
  jump-reaches pc target slots rows out h i = (1, i, one table row_count moves code pc slots rows out (Jump target) h i, still table row_count moves code pc slots rows out (Jump target) h refl i)

  pub test-reaches : (pc target x : ℕ) (slots : List ℤ) (rows : Storage) (out : List ℕ) (holds : Bool) → slice_get code pc ≡ Some (JumpIfZero target x) → is_true (slot slots x)
      ≡ holds
      → Reaches table row_count moves code [] (stands table row_count moves code pc slots rows out) (λ i. record (stands table row_count moves code pc slots rows out i) { control = go_if holds target (control pc slots) })
  test-reaches pc target x slots rows out holds h e =
      λ i. (
        1,
        i,
        one table row_count moves code pc slots rows out (JumpIfZero target x) h i
            ∙ ap (λ t. record (stands table row_count moves code pc slots rows out i) { control = go_if t target (control pc slots) }) e,
        still table row_count moves code pc slots rows out (JumpIfZero target x) h refl i,
      )

  -- ---- stores

  pub holds-slot : (s : State) (slots : List ℤ) (rows : Storage) (x : ℕ) (v : ℤ) → n ≤ x → Holds s slots rows → Holds s (slice_set slots x v) rows
  holds-slot s slots rows x v le h = record {
    scalars = λ k lt. get_or-set_other slots x k v (pos 0) (λ e. absurd (omega (arith, e, lt, le))) ∙ h.scalars k lt;
    arrays = h.arrays;
    places = h.places;
    more_places = h.more_places;
    wide = h.wide;
    more_rows = h.more_rows;
    copied = h.copied;
    size = length-set slots x v ∙ h.size;
  }

  pub holds-scalar : (s : State) (slots : List ℤ) (rows : Storage) (k : ℕ) (v : ℤ) → k < n → n ≤ many → Holds s slots rows → Holds (set_scalar s k v) (slice_set slots k v) rows
  holds-scalar s slots rows k v lt few h = record {
    scalars = λ j lj. ⊎_elim
        (λ (e : j ≡ k). subst (λ j. slot (slice_set slots k v) j ≡ slice_index_or (slice_set s.scalars k v) j (pos 0)) (sym e)
        (get_or-set_same slots k v (pos 0) (omega (arith, lt, few, h.size)) ∙ sym (get_or-set_same s.scalars k v (pos 0) (omega (arith, lt, h.places)))))
        (λ (ne : j ≡ k → ⊥). get_or-set_other slots k j v (pos 0) ne ∙ h.scalars j lj ∙ sym (get_or-set_other s.scalars k j v (pos 0) ne))
        (cases_eq j k);
    arrays = record { elements = h.arrays.elements; shape = h.arrays.shape; places = length-set s.scalars k v ∙ h.places };
    places = length-set s.scalars k v ∙ h.places;
    more_places = h.more_places;
    wide = h.wide;
    more_rows = h.more_rows;
    copied = h.copied;
    size = length-set slots k v ∙ h.size;
  }

  abbrev pub put : State → ℕ → ℕ → ℤ → Array
  put s a k v = record (array s a) { elements = slice_set (array s a).elements k v }

  pub holds-store : (s : State) (slots : List ℤ) (rows : Storage) (a k : ℕ) (v : ℤ) → a < n → Holds s slots rows → Holds (store s a k v) slots
      (write rows (record { row = a; at = k }) v)
  holds-store s slots rows a k v lt h = record {
    scalars = h.scalars;
    arrays = record {
      elements = λ j lj. ⊎_elim
          (λ (e : j ≡ a). subst (λ j. row_of (write rows (record { row = a; at = k }) v) j ≡ (array (store s a k v) j).elements) (sym e)
          (get_or-set_same rows a (slice_set (row_of rows a) k v) [] (omega (arith, lt, h.wide)) ∙ ap (λ r. slice_set r k v) (h.arrays.elements a lt)
          ∙ sym (ap (λ (x : Array). x.elements) (get_or-set_same s.arrays a (put s a k v) no_array (omega (arith, lt, h.more_places))))))
          (λ (ne : j ≡ a → ⊥). get_or-set_other rows a j (slice_set (row_of rows a) k v) [] ne ∙ h.arrays.elements j lj
          ∙ sym (ap (λ (x : Array). x.elements) (get_or-set_other s.arrays a j (put s a k v) no_array ne)))
          (cases_eq j a);
      shape = λ j lj. ⊎_elim
          (λ (e : j ≡ a). subst (λ j. (array (store s a k v) j).dims ≡ slice_index_or table.shapes j []) (sym e)
          (ap (λ (x : Array). x.dims) (get_or-set_same s.arrays a (put s a k v) no_array (omega (arith, lt, h.more_places))) ∙ h.arrays.shape a lt))
          (λ (ne : j ≡ a → ⊥). ap (λ (x : Array). x.dims) (get_or-set_other s.arrays a j (put s a k v) no_array ne) ∙ h.arrays.shape j lj)
          (cases_eq j a);
      places = h.places;
    };
    places = h.places;
    more_places = length-set s.arrays a (put s a k v) ∙ h.more_places;
    wide = omega (arith, h.wide, length-set rows a (slice_set (row_of rows a) k v));
    more_rows = length-set rows a (slice_set (row_of rows a) k v) ∙ h.more_rows;
    copied = λ m e. get_or-set_other rows a n (slice_set (row_of rows a) k v) [] (λ e. absurd (omega (arith, e, lt))) ∙ h.copied m e;
    size = h.size;
  }
