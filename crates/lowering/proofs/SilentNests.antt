-- Loops of a nest reach no part.
use Rattle.std.proofs.Common.{◌≡◌, ℕ, zero, suc, List, [], ◌∷◌, ◌++◌, ℤ, ◌+ℤ◌, Bool, true, false, if◌then◌else◌, Option, Some, None, Result, Ok, Err, refl, sym, ap₂, subst}
use Rattle.std.specs.Prelude.{option_and_then}
use Rattle.op_tables.specs.declared.op.Op.{Op}
use Rattle.op_tables.specs.Operators.{operator_value, wrapped}
use Rattle.nest_syntax.specs.NestKinds.{Kind, kind_of}
use Rattle.array_meaning.specs.declared.sections.Sequence.{Sequence}
use Rattle.array_meaning.specs.Execution.{condition, run, run_block}
use Rattle.array_meaning.specs.Expressions.{value, values, index_values}
use Rattle.array_meaning.specs.Faults.{Cause, ◌>>=◌}
use Rattle.array_meaning.specs.Runs.{Completion, Normal, Cycled, Run}
use Rattle.array_meaning.specs.State.{State, place_in, set_scalar}
use Rattle.array_meaning.specs.Statements.{Loop, Nest, Block, Done, Then, Statement, AssignScalar, AssignElement, AssignSection, Transform, If, Do, Where, Forall, Print, Stop, Exit, Cycle, Continue, Redistribute, Unmarked, Arms, NoArm, Arm}
use Rattle.array_meaning.specs.Terms.{Term, Number, Scalar, Index, Element, Section, Apply, Reduce, Terms, NoTerm, More, Control}
use Rattle.statement_trail.specs.Trail.{Trail, after_value, after_run, after_iteration, value_trail, values_trail, control_trail, iterate_trail, trail, arms_trail, block_trail}
use Rattle.nest_items.specs.BlockForms.{HasForm}
use Rattle.nest_items.specs.NestForm.{IsExact, AreExact, IsPlain, ArePlain, TextsKeep, TextKeeps, ArmsTextsKeep, IsKeptLoop, BlockKeeps, StatementKeeps, ArmsKeep, LoopsKeep}
use Rattle.nest_syntax.specs.ClosedTerms.{with_closed, closed_value, closed_values}
use Rattle.nest_items.specs.Settled.{without}

after-none : {A : Type 0} (r : Result A Cause) (next : A → Trail) → ((a : A) → next a ≡ []) → after_value r next ≡ []
after-none (Ok a) next h = h a
after-none (Err c) next h = refl

run-none : (r : Run) (next : State → Trail) → ((s : State) → next s ≡ []) → after_run r next ≡ []
run-none r next h = by r.completion
  where
    by : (c : Completion) → after_run (record { state = r.state; completion = c }) next ≡ []
    by Normal = h r.state
    by c = refl

turn-none : (r : Run) (next : State → Trail) → ((s : State) → next s ≡ []) → after_iteration r next ≡ []
turn-none r next h = by r.completion
  where
    by : (c : Completion) → after_iteration (record { state = r.state; completion = c }) next ≡ []
    by Normal = h r.state
    by Cycled = h r.state
    by c = refl

none-joined : (xs ys : Trail) → xs ≡ [] → ys ≡ [] → xs ++ ys ≡ []
none-joined xs ys h g = ap₂ (λ a b. a ++ b) h g

iterate-none : (n x : ℕ) (index step : ℤ) (body : State → Run) (inner : State → Trail) → ((s : State) → inner s ≡ []) → (s : State) → iterate_trail n x index step body inner s ≡ []
iterate-none zero x index step body inner h s = refl
iterate-none (suc n) x index step body inner h s =
    none-joined (inner (set_scalar s x index)) (after_iteration (body (set_scalar s x index)) (iterate_trail n x (wrapped (index +ℤ step)) step body inner)) (h (set_scalar s x index))
    (turn-none (body (set_scalar s x index)) (iterate_trail n x (wrapped (index +ℤ step)) step body inner) (iterate-none n x (wrapped (index +ℤ step)) step body inner h))

module _ (line : ℕ) (s : State) where
  more-none : (t : Term) (ts : Terms) → value_trail line s t ≡ [] → values_trail line s ts ≡ [] → values_trail line s (More t ts) ≡ []
  more-none t ts h g = none-joined (value_trail line s t) (after_value (value [] s t) (λ v. values_trail line s ts)) h (after-none (value [] s t) (λ v. values_trail line s ts) (λ v. g))

  mutual
    exact-none : (t : Term) → IsExact t → value_trail line s t ≡ []
    exact-none (Number v) h = refl
    exact-none (Scalar k) h = refl
    exact-none (Index k) h = absurd h
    exact-none (Element a ts) h = absurd h
    exact-none (Section a subs) h = absurd h
    exact-none (Apply o ts) h = all-exact-none ts h.1
    exact-none (Reduce o t) h = absurd h

    all-exact-none : (ts : Terms) → AreExact ts → values_trail line s ts ≡ []
    all-exact-none NoTerm h = refl
    all-exact-none (More t ts) h = more-none t ts (exact-none t h.0) (all-exact-none ts h.1)

  mutual
    plain-none : (t : Term) → IsPlain t → value_trail line s t ≡ []
    plain-none (Number v) h = refl
    plain-none (Scalar k) h = refl
    plain-none (Index k) h = absurd h
    plain-none (Element a ts) h = all-exact-none ts h
    plain-none (Section a subs) h = refl
    plain-none (Apply o ts) h = all-plain-none ts h
    plain-none (Reduce o t) h = absurd h

    all-plain-none : (ts : Terms) → ArePlain ts → values_trail line s ts ≡ []
    all-plain-none NoTerm h = refl
    all-plain-none (More t ts) h = more-none t ts (plain-none t h.0) (all-plain-none ts h.1)

  closed-apply : (o : Op) (a : Option (List ℤ)) (v : ℤ) → option_and_then (operator_value o) a ≡ Some v → (vs : List ℤ) × (a ≡ Some vs)
  closed-apply o (Some vs) v h = (vs, refl)
  closed-apply o None v h = absurd cc

  closed-more : (a : Option ℤ) (b : Option (List ℤ)) (vs : List ℤ) → with_closed a b ≡ Some vs → (v : ℤ) × (ws : List ℤ) × (a ≡ Some v) × (b ≡ Some ws)
  closed-more (Some v) (Some ws) vs h = (v, ws, refl, refl)
  closed-more (Some v) None vs h = absurd cc
  closed-more None b vs h = absurd cc

  mutual
    closed-none : (t : Term) (v : ℤ) → closed_value t ≡ Some v → value_trail line s t ≡ []
    closed-none (Number w) v h = refl
    closed-none (Scalar k) v h = refl
    closed-none (Index k) v h = refl
    closed-none (Element a ts) v h = absurd cc
    closed-none (Section a subs) v h = refl
    closed-none (Apply o ts) v h = let m = closed-apply o (closed_values ts) v h in all-closed-none ts m.0 m.1
    closed-none (Reduce o t) v h = absurd cc

    all-closed-none : (ts : Terms) (vs : List ℤ) → closed_values ts ≡ Some vs → values_trail line s ts ≡ []
    all-closed-none NoTerm vs h = refl
    all-closed-none (More t ts) vs h = let m = closed-more (closed_value t) (closed_values ts) vs h in more-none t ts (closed-none t m.0 m.2) (all-closed-none ts m.1 m.3)

  control-none : (c : Control) → IsExact c.first → IsExact c.last → (v : ℤ) → closed_value c.step ≡ Some v → control_trail line s c ≡ []
  control-none c first last v step =
      none-joined (value_trail line s c.first) (after_value (value [] s c.first) (λ a. value_trail line s c.last ++ after_value (value [] s c.last) (λ b. value_trail line s c.step)))
      (exact-none c.first first) (after-none (value [] s c.first) (λ a. value_trail line s c.last ++ after_value (value [] s c.last) (λ b. value_trail line s c.step)) (λ a.
      none-joined (value_trail line s c.last) (after_value (value [] s c.last) (λ b. value_trail line s c.step)) (exact-none c.last last)
      (after-none (value [] s c.last) (λ b. value_trail line s c.step) (λ b. closed-none c.step v step))))

module _ (kinds : ℕ → Kind) (all : ℕ → Bool) where
  loop-none : (free : ℕ → Bool) (loop : Loop) (body : Block) (line : ℕ) (s : State) → IsKeptLoop kinds free Unmarked loop → ((s : State) → block_trail body s ≡ []) → trail (Do Unmarked loop body) line s ≡ []
  loop-none free loop body line s kept inner =
      none-joined (control_trail line s loop.control)
      (after_value (index_values s loop.control) (λ p. after_value (Ok s) (iterate_trail p.count loop.index p.first p.step (run_block body) (block_trail body))))
      (control-none line s loop.control kept.first_exact kept.last_exact kept.step_exact.number kept.step_exact.is)
      (after-none (index_values s loop.control) (λ p. iterate_trail p.count loop.index p.first p.step (run_block body) (block_trail body) s)
      (λ p. iterate-none p.count loop.index p.first p.step (run_block body) (block_trail body) inner s))

  mutual
    block-none : (free : ℕ → Bool) (b : Block) → BlockKeeps kinds free b → TextsKeep all b → (s : State) → block_trail b s ≡ []
    block-none free Done keeps texts s = refl
    block-none free (Then line st rest) keeps texts s =
        none-joined (trail st line s) (after_run (run st line s) (block_trail rest)) (statement-none free st keeps.0 texts.0 line s) (run-none (run st line s) (block_trail rest) (block-none free rest keeps.1 texts.1))

    statement-none : (free : ℕ → Bool) (st : Statement) → StatementKeeps kinds free st → TextKeeps all st → (line : ℕ) (s : State) → trail st line s ≡ []
    statement-none free (AssignScalar k t) keeps text line s = plain-none line s t text
    statement-none free (AssignElement a ts t) keeps text line s =
        none-joined (values_trail line s ts) (after_value (values [] s ts >>= place_in s a) (λ k. value_trail line s t)) (all-exact-none line s ts text.0)
        (after-none (values [] s ts >>= place_in s a) (λ k. value_trail line s t) (λ k. plain-none line s t text.1))
    statement-none free (If arms other) keeps text line s = arms-none free arms (block_trail other) keeps.0 text.0 (block-none free other keeps.1 text.1) s
    statement-none free (Do mark loop body) keeps text line s =
        subst (λ m. trail (Do m loop body) line s ≡ []) (sym keeps.0.unmarked)
        (loop-none free loop body line s (subst (λ m. IsKeptLoop kinds free m loop) keeps.0.unmarked keeps.0) (block-none (without free loop.index) body keeps.1 text.1))
    statement-none free Continue keeps text line s = refl
    statement-none free (AssignSection a subs t) keeps text line s = absurd keeps
    statement-none free (Transform x y how) keeps text line s = absurd keeps
    statement-none free (Where mask b others) keeps text line s = absurd keeps
    statement-none free (Forall controls mask b) keeps text line s = absurd keeps
    statement-none free (Print items) keeps text line s = absurd keeps
    statement-none free Stop keeps text line s = absurd keeps
    statement-none free Exit keeps text line s = absurd keeps
    statement-none free Cycle keeps text line s = absurd keeps
    statement-none free Redistribute keeps text line s = absurd keeps

    arms-none : (free : ℕ → Bool) (arms : Arms) (other : State → Trail) → ArmsKeep kinds free arms → ArmsTextsKeep all arms → ((s : State) → other s ≡ []) → (s : State) → arms_trail arms other s ≡ []
    arms-none free NoArm other keeps text h s = h s
    arms-none free (Arm line t body arms) other keeps text h s =
        none-joined (value_trail line s t) (after_value (condition s t) (λ is_met. (if is_met then block_trail body else arms_trail arms other) s)) (plain-none line s t text.0)
        (after-none (condition s t) (λ is_met. (if is_met then block_trail body else arms_trail arms other) s)
        (λ is_met. either is_met (block_trail body) (arms_trail arms other) (block-none free body keeps.1 text.1 s) (arms-none free arms other keeps.2 text.2 h s)))
      where
        either : (t : Bool) (one others : State → Trail) → one s ≡ [] → others s ≡ [] → (if t then one else others) s ≡ []
        either true one others h g = h
        either false one others h g = g

  nested-none : (free : ℕ → Bool) (ls : List Loop) (block body : Block) → LoopsKeep kinds all free ls block body → TextsKeep all body → (s : State) → block_trail block s ≡ []
  nested-none free [] block body keeps texts s = subst (λ b. block_trail b s ≡ []) (sym keeps.0) (block-none free body keeps.1 texts s)
  nested-none free (l ∷ ls) block body keeps texts s =
      subst (λ b. block_trail b s ≡ []) (sym keeps.2)
      (none-joined (trail (Do Unmarked l keeps.1) keeps.0 s) (after_run (run (Do Unmarked l keeps.1) keeps.0 s) (block_trail Done))
      (loop-none all l keeps.1 keeps.0 s keeps.3 (nested-none (without free l.index) ls keeps.1 body keeps.5 texts))
      (run-none (run (Do Unmarked l keeps.1) keeps.0 s) (block_trail Done) (λ s. refl)))

pub silent : (nest : Nest) (loop : Loop) (block body : Block) → HasForm nest loop block body → (p : Sequence) (s : State)
    → iterate_trail p.count loop.index p.first p.step (run_block block) (block_trail block) s ≡ []
silent nest loop block body form p s =
    iterate-none p.count loop.index p.first p.step (run_block block) (block_trail block)
    (nested-none (kind_of form.operators nest body) form.all (without form.all loop.index) form.form.inner block body form.form.tight form.texts) s
