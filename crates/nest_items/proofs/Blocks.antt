-- A block of a nest ends as its statements do.
use Rattle.std.proofs.Common.{◌≡◌, ℕ, zero, suc, ◌+◌, ◌<◌, [], get_or, Bool, true, false, if◌then◌else◌, Result, Ok, Err, Option, Some, None, refl, ap, sym, ◌∙◌, subst, ℤ, arith, ◌&&◌, not, nat_eq, true≢false, length-set}
use Rattle.std.proofs.lemmas.Bool.{and_parts}
use Rattle.std.proofs.lemmas.Bool.Decides.{nat_tests}
use Rattle.op_tables.specs.Operators.{wrapped, is_true}
use Rattle.nest_order.specs.Turns.{in_turn, after_turns}
use Rattle.storage.specs.Storage.{Storage, write}
use Rattle.storage.specs.Effect.{then_apply}
use Rattle.nest_order.specs.Items as items
use Rattle.nest_order.specs.Items.{Items, Branches, exec, exec_branches}
use Rattle.nest_order.specs.Nest.{evaluated}
use Rattle.nest_syntax.specs.NestKinds.{Kind, has_copies}
use Rattle.nest_order.specs.Copies.{scalar_at}
use Rattle.array_meaning.specs.Terms.{Term, Number, Scalar, Index, Element, Section, Apply, Reduce, Terms, NoTerm, More}
use Rattle.array_meaning.specs.Statements.{Loop, Block, Done, Then, Statement, AssignScalar, AssignElement, AssignSection, Transform, If, Do, Where, Forall, Print, Stop, Exit, Cycle, Continue, Redistribute, Mark, Arms, NoArm, Arm}
use Rattle.array_meaning.specs.Faults.{Cause, Fault, ◌>>=◌}
use Rattle.array_meaning.specs.State.{State, no_array, set_scalar, store, place_in}
use Rattle.array_meaning.specs.Runs.{Run, then_do, with_value, one_step}
use Rattle.array_meaning.specs.Expressions.{value, values, index_values}
use Rattle.array_meaning.specs.declared.sections.Sequence.{Sequence}
use Rattle.array_meaning.specs.Iterations.{values_of, turn_value}
use Rattle.array_meaning.specs.Execution.{run, run_block, run_arms, iterate, after_iteration}
use Rattle.nest_items.specs.StateStorage.{state_of}
use Rattle.nest_items.specs.NestItems.{one, scalar_effect, element_effect, truth_or_fault, items_of, items_in, branches_of, else_of, Action, Condition}
use Rattle.nest_items.specs.Naming.{IsNaming, AreNaming}
use Rattle.nest_items.specs.Settled.{SameBut, SameIn, settled, settled_by, without}
use Rattle.nest_items.specs.Standing.{has_no_loop, is_no_loop, have_no_loop, IsFixed, Stands, AllStand, AreFixedTerms, IsInner, BlockStands, StatementStands, ArmsStand}
use Rattle.nest_items.specs.NestEnds.{HasRows, EndsAs}
use Rattle.nest_items.proofs.Values.{value_near, values_near, control_near, place_near, then_same, namings_more}
use Rattle.nest_items.proofs.Storing.{scalar-stored, element-stored, index-stored, rows-kept, fixed-scalar}
use Rattle.nest_items.proofs.SameStates.{same_set, same_narrow, same_free, same_free_right, same_store, same_assign, ind_enter, ind_leave, ind_end, ind_assign, ind_store}
use Rattle.nest_items.proofs.Turns.{◌⊳◌, later, in_turn_later, next_value, first_value}

module _ (kinds : ℕ → Kind) where
  abbrev pub does : Items Action Condition → Storage → Result Storage Fault
  does xs m = exec (evaluated (one kinds)) xs m

  abbrev pub branches_do : Branches Action Condition → Storage → Result Storage Fault
  branches_do xs m = exec_branches (evaluated (one kinds)) xs m

  abbrev pub Goes : (ℕ → Bool) → State → (State → State) → (State → Run) → (Storage → Result Storage Fault) → Type 0
  Goes free s f next rest = (r z : State) (m : Storage) → SameBut free r (state_of kinds s m) → HasRows kinds m → SameIn free z r → EndsAs kinds free s (f z) (next r) (rest m)

  -- what is assigned isn't free
  abbrev pub Quiet : (ℕ → Bool) → Type 0
  Quiet free = (k : ℕ) → has_copies (kinds k) ≡ true → free k ≡ false

  -- one after the other
  seq : (free : ℕ → Bool) (s z : State) (q : Run) (result : Result Storage Fault) (f : State → State) (next : State → Run) (rest : Storage → Result Storage Fault)
      → EndsAs kinds free s z q result → Goes free s f next rest → EndsAs kinds free s (f z) (then_do q next) (result ⊳ rest)
  seq free s z q (Ok m) f next rest h go = subst (λ y. EndsAs kinds free s (f z) (then_do y next) (rest m)) (sym h.1) (go h.0 z m h.2 h.3 h.4)
  seq free s z q (Err e) f next rest h go = (h.0, ap (λ z. then_do z next) h.1, h.2)

  -- ---- assignments

  abbrev ScalarEnds : (free : ℕ → Bool) (s r u : State) (m : Storage) (line k : ℕ) (next : State → Run) (rest : Items Action Condition) → Result ℤ Cause → Result ℤ Cause → Type 0
  ScalarEnds free s r u m line k next rest x y =
      EndsAs kinds free s u (then_do (one_step line r (x >>= (λ v. Ok (set_scalar r k v)))) next) (then_apply (scalar_effect line k y) m ⊳ does rest)

  scalar_ends : (free : ℕ → Bool) → Quiet free → (s r z : State) (m : Storage) (line k : ℕ) (f : State → State) (next : State → Run) (rest : Items Action Condition)
      → has_copies (kinds k) ≡ true → SameBut free r (state_of kinds s m) → HasRows kinds m → SameIn free z r → Goes free s f next (does rest)
      → (x : Result ℤ Cause) → ScalarEnds free s r (f z) m line k next rest x x
  scalar_ends free quiet s r z m line k f next rest c same rows ind go (Ok v) =
      go (set_scalar r k v) z (write m (scalar_at k) v)
      (subst (λ z. SameBut free (set_scalar r k v) z) (sym (scalar-stored kinds s m k v c (rows k c))) (same_assign free r (state_of kinds s m) k v same))
      (rows-kept kinds m (scalar_at k) v rows)
      (ind_assign free z r k v (quiet k c) ind)
  scalar_ends free quiet s r z m line k f next rest c same rows ind go (Err e) = (r, refl, same.printed)

  abbrev ElementEnds : (free : ℕ → Bool) (s r u : State) (m : Storage) (line a : ℕ) (next : State → Run) (rest : Items Action Condition)
      → Result ℕ Cause → Result ℕ Cause → Result ℤ Cause → Result ℤ Cause → Type 0
  ElementEnds free s r u m line a next rest p p' x x' =
      EndsAs kinds free s u (then_do (one_step line r (p >>= (λ k. x >>= (λ v. Ok (store r a k v))))) next) (then_apply (element_effect line a p' x') m ⊳ does rest)

  element_ends : (free : ℕ → Bool) (s r z : State) (m : Storage) (line a : ℕ) (f : State → State) (next : State → Run) (rest : Items Action Condition)
      → has_copies (kinds a) ≡ false → SameBut free r (state_of kinds s m) → HasRows kinds m → SameIn free z r → Goes free s f next (does rest)
      → (p : Result ℕ Cause) (x : Result ℤ Cause) → ElementEnds free s r (f z) m line a next rest p p x x
  element_ends free s r z m line a f next rest c same rows ind go (Ok k) (Ok v) =
      go (store r a k v) z (write m (record { row = a; at = k }) v)
      (subst (λ z. SameBut free (store r a k v) z) (sym (element-stored kinds s m a k v c)) (same_store free r (state_of kinds s m) a k v same))
      (rows-kept kinds m (record { row = a; at = k }) v rows)
      (ind_store free z r a k v ind)
  element_ends free s r z m line a f next rest c same rows ind go (Ok k) (Err e) = (r, refl, same.printed)
  element_ends free s r z m line a f next rest c same rows ind go (Err e) x = (r, refl, same.printed)

  fixed_names : (free : ℕ → Bool) (ts : Terms) → AreFixedTerms kinds free ts → AreNaming (λ k. free k ≡ false) (λ a. Unit {0}) ts
  fixed_names free ts h = namings_more (IsFixed kinds free) (λ a. ⊥) (λ k. free k ≡ false) (λ a. Unit {0}) (λ k f. f.0) (λ a f. tt) ts h

  mutual
    seen_names : (free : ℕ → Bool) (own : Option ℕ) (t : Term) → Stands kinds free own t → IsNaming (λ k. free k ≡ false) (λ a. Unit {0}) t
    seen_names free own (Number v) h = tt
    seen_names free own (Scalar k) h = h.0
    seen_names free own (Index k) h = tt
    seen_names free own (Element a ts) h = (tt, fixed_names free ts h.1)
    seen_names free own (Section a subs) h = tt
    seen_names free own (Apply o ts) h = all_seen free own ts h
    seen_names free own (Reduce o t) h = absurd h

    all_seen : (free : ℕ → Bool) (own : Option ℕ) (ts : Terms) → AllStand kinds free own ts → AreNaming (λ k. free k ≡ false) (λ a. Unit {0}) ts
    all_seen free own NoTerm h = tt
    all_seen free own (More t ts) h = (seen_names free own t h.0, all_seen free own ts h.1)

  value_same : (free : ℕ → Bool) (own : Option ℕ) (r s : State) (t : Term) → SameBut free r s → Stands kinds free own t → value [] r t ≡ value [] s t
  value_same free own r s t same h = value_near (λ k. free k ≡ false) (λ a. Unit {0}) r s same.scalars (λ a u. ap (λ xs. get_or xs a no_array) same.arrays) t (seen_names free own t h)

  place_same : (free : ℕ → Bool) (r s : State) (a : ℕ) (ts : Terms) → SameBut free r s → AreFixedTerms kinds free ts
      → (values [] r ts >>= place_in r a) ≡ (values [] s ts >>= place_in s a)
  place_same free r s a ts same h =
      ap (λ vs. vs >>= place_in r a)
      (values_near (λ k. free k ≡ false) (λ a. Unit {0}) r s same.scalars (λ a u. ap (λ xs. get_or xs a no_array) same.arrays) ts (fixed_names free ts h))
      ∙ then_same (values [] s ts) (place_in r a) (place_in s a) (λ is. place_near r s a is (ap (λ xs. get_or xs a no_array) same.arrays))

  -- ---- loops

  -- so many turns, from a turn on
  module _ (free : ℕ → Bool) (s : State) (x : ℕ) (p : Sequence) (unseen : free x ≡ true) (index : has_copies (kinds x) ≡ false)
      (body : State → Run) (of_body : ℕ → Storage → Result Storage Fault) (settles : ℕ → State → State)
      (ends : (j : ℕ) → j < p.count → (r z : State) (m : Storage) → SameBut (without free x) r (state_of kinds (set_scalar s x (turn_value p j)) m) → HasRows kinds m
      → SameIn (without free x) z r → EndsAs kinds (without free x) (set_scalar s x (turn_value p j)) (settles j z) (body r) (of_body j m)) where
    entered_turn : (j : ℕ) (r : State) (m : Storage) → SameBut free r (state_of kinds s m)
        → SameBut (without free x) (set_scalar r x (turn_value p j)) (state_of kinds (set_scalar s x (turn_value p j)) m)
    entered_turn j r m same = subst (λ z. SameBut (without free x) (set_scalar r x (turn_value p j)) z) (sym (index-stored kinds s m x (turn_value p j) index))
        (same_set free r (state_of kinds s m) x (turn_value p j) same)

    -- the index isn't free in its loop
    inside_turn : (j : ℕ) (r : State) (m : Storage) → SameBut (without free x) r (state_of kinds (set_scalar s x (turn_value p j)) m) → SameBut (without free x) r (set_scalar (state_of kinds s m) x (turn_value p j))
    inside_turn j r m same = subst (λ z. SameBut (without free x) r z) (index-stored kinds s m x (turn_value p j) index) same

    left_turn : (j : ℕ) (r : State) (m : Storage) → SameBut (without free x) r (state_of kinds (set_scalar s x (turn_value p j)) m) → SameBut free r (state_of kinds s m)
    left_turn j r m same = same_free_right free r (state_of kinds s m) x (turn_value p j) unseen
        (same_narrow free r (set_scalar (state_of kinds s m) x (turn_value p j)) x (inside_turn j r m same))

    left_indices : (j : ℕ) (r z : State) (m : Storage) → SameBut (without free x) r (state_of kinds (set_scalar s x (turn_value p j)) m) → SameIn (without free x) z r
        → SameIn free (set_scalar z x (turn_value p j)) r
    left_indices j r z m same ind =
        let inside = inside_turn j r m same in
        ind_leave free z r (state_of kinds s m) x (turn_value p j) ind (ind.count ∙ inside.count ∙ length-set (state_of kinds s m).scalars x (turn_value p j))
        (inside.scalars x (seen (free x) (nat_eq x x) (equal_self x)))
      where
        seen : (a b : Bool) → b ≡ true → (a && not b) ≡ false
        seen a true e = none a where
          none : (a : Bool) → (a && false) ≡ false
          none true = refl
          none false = refl
        seen a false e = absurd (true≢false (sym e))

        equal_self : (k : ℕ) → nat_eq k k ≡ true
        equal_self k = grind (arith, nat_tests)

    abbrev turn : ℕ → State → State
    turn j z = set_scalar (settles j z) x (turn_value p j)

    turn_left : (j : ℕ) (z : State) (q : Run) (result : Result Storage Fault) (u : State) (next : State → Run) (rest : Storage → Result Storage Fault)
        → EndsAs kinds (without free x) (set_scalar s x (turn_value p j)) (settles j z) q result
        → ((r : State) (m : Storage) → SameBut free r (state_of kinds s m) → HasRows kinds m → SameIn free (turn j z) r → EndsAs kinds free s u (next r) (rest m))
        → EndsAs kinds free s u (after_iteration q.completion q.state next) (result ⊳ rest)
    turn_left j z q (Ok m) u next rest h go =
        subst (λ z. EndsAs kinds free s u (after_iteration z.completion z.state next) (rest m)) (sym h.1) (go h.0 m (left_turn j h.0 m h.2) h.3 (left_indices j h.0 (settles j z) m h.2 h.4))
    turn_left j z q (Err f) u next rest h go = (h.0, ap (λ z. after_iteration z.completion z.state next) h.1, h.2)

    abbrev all_turns : State → State
    all_turns z = set_scalar (after_turns p.count turn z) x (turn_value p p.count)

    pub turns_end : (z : State) (n j : ℕ) → n + j ≡ p.count → (r : State) (m : Storage) → SameBut free r (state_of kinds s m) → HasRows kinds m → SameIn free (after_turns j turn z) r
        → EndsAs kinds free s (all_turns z) (iterate n x (turn_value p j) p.step body r) (later n j of_body m)
    turns_end z zero j e r m same rows ind =
        let last : j ≡ p.count = omega (arith, e) in (
          set_scalar r x (turn_value p j),
          refl,
          same_free free r (state_of kinds s m) x (turn_value p j) unseen same,
          rows,
          subst (λ k. SameIn free (set_scalar (after_turns k turn z) x (turn_value p k)) (set_scalar r x (turn_value p j))) last
              (ind_end free (after_turns j turn z) r x (turn_value p j) ind),
        )
    turns_end z (suc n) j e r m same rows ind =
        subst (λ v. EndsAs kinds free s (all_turns z) (let q = body (set_scalar r x (turn_value p j)) in after_iteration q.completion q.state (iterate n x v p.step body)) (of_body j m ⊳ later n (suc j) of_body))
        (sym (next_value p j))
        (turn_left j (after_turns j turn z) (body (set_scalar r x (turn_value p j))) (of_body j m) (all_turns z) (iterate n x (turn_value p (suc j)) p.step body) (later n (suc j) of_body)
        (ends j (omega (arith, e)) (set_scalar r x (turn_value p j)) (after_turns j turn z) m (entered_turn j r m same) rows (ind_enter free (after_turns j turn z) r x (turn_value p j) ind))
        (turns_end z n (suc j) (omega (arith, e))))

    pub loop_ends : wrapped p.first ≡ p.first → (r z : State) (m : Storage) → SameBut free r (state_of kinds s m) → HasRows kinds m → SameIn free z r
        → EndsAs kinds free s (set_scalar (after_turns p.count (λ j y. set_scalar (settles j y) x (turn_value p j)) z) x (turn_value p p.count)) (iterate p.count x p.first p.step body r) (in_turn p.count of_body m)
    loop_ends fits r z m same rows ind =
        let e : p.count + 0 ≡ p.count = omega arith in
        subst (λ v. EndsAs kinds free s (all_turns z) (iterate p.count x v p.step body r) (in_turn p.count of_body m)) (first_value p fits)
        (subst (λ y. EndsAs kinds free s (all_turns z) (iterate p.count x (turn_value p 0) p.step body r) y) (sym (in_turn_later of_body p.count m)) (turns_end z p.count 0 e r m same rows ind))

  -- the values of a loop's index
  known_values : (free : ℕ → Bool) (s r : State) (m : Storage) (mark : Mark) (loop : Loop) → IsInner kinds free s mark loop → SameBut free r (state_of kinds s m)
      → index_values r loop.control ≡ Ok (values_of s loop)
  known_values free s r m mark loop h same =
      control_near (IsFixed kinds free) (λ a. ⊥) r s (λ k f. same.scalars k f.0 ∙ fixed-scalar kinds s m k f.1) (λ a f. absurd f) loop.control h.first h.last h.step ∙ h.known

  -- ---- conditions

  -- what comes of a condition
  abbrev BranchEnds : (free : ℕ → Bool) (s r u : State) (m : Storage) (line : ℕ) (taken other : State → Run) (body : Items Action Condition) (others : Branches Action Condition)
      → Result ℤ Cause → Result ℤ Cause → Type 0
  BranchEnds free s r u m line taken other body others x y =
      EndsAs kinds free s u (with_value line r (x >>= (λ v. Ok (is_true v))) (λ is_met. (if is_met then taken else other) r))
      (truth_or_fault line y ⊳ (λ holds. if holds then does body m else branches_do others m))

  branch_ends : (free : ℕ → Bool) (s r z : State) (m : Storage) (line : ℕ) (taken other : State → Run) (body : Items Action Condition) (others : Branches Action Condition)
      → SameBut free r (state_of kinds s m) → HasRows kinds m → SameIn free z r → Goes free s (λ z. z) taken (does body) → Goes free s (λ z. z) other (branches_do others)
      → (x : Result ℤ Cause) → BranchEnds free s r z m line taken other body others x x
  branch_ends free s r z m line taken other body others same rows ind t o (Ok v) = chosen (is_true v) where
    chosen : (b : Bool) → EndsAs kinds free s z ((if b then taken else other) r) (if b then does body m else branches_do others m)
    chosen true = t r z m same rows ind
    chosen false = o r z m same rows ind
  branch_ends free s r z m line taken other body others same rows ind t o (Err c) = (r, refl, same.printed)

  else_does : (body : Items Action Condition) (m : Storage) → branches_do (else_of body) m ≡ does body m
  else_does items.Done m = refl
  else_does (items.Then x rest) m = refl
  else_does (items.If branches rest) m = refl
  else_does (items.Repeat n body rest) m = refl

  -- what has no loop sets no index
  mutual
    settled_none : (b : Block) (s z : State) → has_no_loop b ≡ true → settled s b z ≡ z
    settled_none Done s z e = refl
    settled_none (Then line statement rest) s z e =
        let h = and_parts (is_no_loop statement) (has_no_loop rest) e in
        ap (settled s rest) (settled_by_none statement s z h.0) ∙ settled_none rest s z h.1

    settled_by_none : (statement : Statement) (s z : State) → is_no_loop statement ≡ true → settled_by s statement z ≡ z
    settled_by_none (Do mark loop body) s z e = absurd (true≢false (sym e))
    settled_by_none statement s z e = refl

  -- ---- all statements

  quiet_inside : (free : ℕ → Bool) (x : ℕ) → Quiet free → Quiet (without free x)
  quiet_inside free x quiet k c = ap (λ b. b && not (nat_eq k x)) (quiet k c)

  mutual
    pub block_ends : (b : Block) (free : ℕ → Bool) → Quiet free → (s : State) → BlockStands kinds free s b → Goes free s (settled s b) (run_block b) (does (items_of s b))
    block_ends Done free quiet s h r z m same rows ind = (r, refl, same, rows, ind)
    block_ends (Then line statement rest) free quiet s h r z m same rows ind =
        statement_ends statement line free quiet s h.0 (settled s rest) (run_block rest) (items_of s rest) (block_ends rest free quiet s h.1) r z m same rows ind

    statement_ends : (statement : Statement) (line : ℕ) (free : ℕ → Bool) → Quiet free → (s : State) → StatementStands kinds free s statement
        → (f : State → State) (next : State → Run) (rest : Items Action Condition) → Goes free s f next (does rest)
        → Goes free s (λ z. f (settled_by s statement z)) (λ r. then_do (run statement line r) next) (does (items_in line s statement rest))
    statement_ends (AssignScalar k t) line free quiet s h f next rest go r z m same rows ind =
        subst (λ x. ScalarEnds free s r (f z) m line k next rest x (value [] (state_of kinds s m) t)) (sym (value_same free (Some k) r (state_of kinds s m) t same h.1))
        (scalar_ends free quiet s r z m line k f next rest h.0 same rows ind go (value [] (state_of kinds s m) t))
    statement_ends (AssignElement a ts t) line free quiet s h f next rest go r z m same rows ind =
        let y = state_of kinds s m in
        subst (λ p. ElementEnds free s r (f z) m line a next rest p (values [] y ts >>= place_in y a) (value [] r t) (value [] y t)) (sym (place_same free r y a ts same h.1))
        (subst (λ x. ElementEnds free s r (f z) m line a next rest (values [] y ts >>= place_in y a) (values [] y ts >>= place_in y a) x (value [] y t)) (sym (value_same free None r y t same h.2))
        (element_ends free s r z m line a f next rest h.0 same rows ind go (values [] y ts >>= place_in y a) (value [] y t)))
    statement_ends (AssignSection a subs t) line free quiet s h f next rest go r z m same rows ind = absurd h
    statement_ends (Transform x y how) line free quiet s h f next rest go r z m same rows ind = absurd h
    statement_ends (If arms other) line free quiet s h f next rest go r z m same rows ind =
        let loops = and_parts (have_no_loop arms) (has_no_loop other) h.2 in
        seq free s z (run_arms arms (run_block other) r) (branches_do (branches_of s arms (items_of s other)) m) f next (does rest)
        (arms_end arms other free quiet s h.0 loops.0 h.1 (λ r z m same rows ind. subst (λ u. EndsAs kinds free s u (run_block other r) (does (items_of s other) m)) (settled_none other s z loops.1)
        (block_ends other free quiet s h.1 r z m same rows ind)) r z m same rows ind) go
    statement_ends (Do mark loop body) line free quiet s h f next rest go r z m same rows ind =
        subst (λ k. EndsAs kinds free s (f (settled_by s (Do mark loop body) z)) (then_do (run (Do k loop body) line r) next) (does (items_in line s (Do mark loop body) rest) m)) (sym h.0.unmarked)
        (subst (λ p. EndsAs kinds free s (f (settled_by s (Do mark loop body) z)) (then_do (with_value line r p (λ q. iterate q.count loop.index q.first q.step (run_block body) r)) next) (does (items_in line s (Do mark loop body) rest) m))
        (sym (known_values free s r m mark loop h.0 same))
        (seq free s (settled_by s (Do mark loop body) z) (iterate (values_of s loop).count loop.index (values_of s loop).first (values_of s loop).step (run_block body) r)
        (in_turn (values_of s loop).count (λ x. does (items_of (set_scalar s loop.index (turn_value (values_of s loop) x)) body)) m) f next (does rest)
        (loop_ends free s loop.index (values_of s loop) h.0.unseen h.0.index (run_block body) (λ x. does (items_of (set_scalar s loop.index (turn_value (values_of s loop) x)) body))
        (λ x. settled (set_scalar s loop.index (turn_value (values_of s loop) x)) body)
        (λ j lt. block_ends body (without free loop.index) (quiet_inside free loop.index quiet) (set_scalar s loop.index (turn_value (values_of s loop) j)) (h.1 j lt))
        h.0.fits r z m same rows ind) go))
    statement_ends (Where mask body others) line free quiet s h f next rest go r z m same rows ind = absurd h
    statement_ends (Forall controls mask body) line free quiet s h f next rest go r z m same rows ind = absurd h
    statement_ends (Print xs) line free quiet s h f next rest go r z m same rows ind = absurd h
    statement_ends Stop line free quiet s h f next rest go r z m same rows ind = absurd h
    statement_ends Exit line free quiet s h f next rest go r z m same rows ind = absurd h
    statement_ends Cycle line free quiet s h f next rest go r z m same rows ind = absurd h
    statement_ends Continue line free quiet s h f next rest go r z m same rows ind = go r z m same rows ind
    statement_ends Redistribute line free quiet s h f next rest go r z m same rows ind = absurd h

    arms_end : (arms : Arms) (other : Block) (free : ℕ → Bool) → Quiet free → (s : State) → ArmsStand kinds free s arms → have_no_loop arms ≡ true → BlockStands kinds free s other
        → Goes free s (λ z. z) (run_block other) (does (items_of s other))
        → Goes free s (λ z. z) (run_arms arms (run_block other)) (branches_do (branches_of s arms (items_of s other)))
    arms_end NoArm other free quiet s h e h' go r z m same rows ind = subst (λ y. EndsAs kinds free s z (run_block other r) y) (sym (else_does (items_of s other) m)) (go r z m same rows ind)
    arms_end (Arm line t body arms) other free quiet s h e h' go r z m same rows ind =
        let loops = and_parts (has_no_loop body) (have_no_loop arms) e in
        subst (λ x. BranchEnds free s r z m line (run_block body) (run_arms arms (run_block other)) (items_of s body) (branches_of s arms (items_of s other)) x (value [] (state_of kinds s m) t))
        (sym (value_same free None r (state_of kinds s m) t same h.0))
        (branch_ends free s r z m line (run_block body) (run_arms arms (run_block other)) (items_of s body) (branches_of s arms (items_of s other)) same rows ind
        (λ r z m same rows ind. subst (λ u. EndsAs kinds free s u (run_block body r) (does (items_of s body) m)) (settled_none body s z loops.0) (block_ends body free quiet s h.1 r z m same rows ind))
        (arms_end arms other free quiet s h.2 loops.1 h' go) (value [] (state_of kinds s m) t))
