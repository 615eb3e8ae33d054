-- What statements come to, by the parts of a plan.
use Rattle.std.proofs.Common.{◌≡◌, ℕ, suc, ◌+◌, ◌-◌, ◌<◌, ap, sym, ◌∙◌, ℤ, ◌+ℤ◌, List, ◌∷◌, drop, get_or, length, Bool, true, false, if◌then◌else◌, Vec, Global, IfOk, Result, Ok, Err, Option, Some, None, refl, arith, ◌⊎◌, inl, inr}
use Rattle.resolved_program.specs.declared.statements.Action.{Action}
use Rattle.resolved_program.specs.declared.statements.Action.TheVariants as action
use Rattle.resolved_program.specs.declared.statements.Arm.{Arm, out-Arm}
use Rattle.resolved_program.specs.declared.statements.Loop.{Loop as HeldLoop}
use Rattle.resolved_program.specs.declared.statements.Nest.{Nest as HeldNest}
use Rattle.resolved_program.specs.declared.statements.Statement.{Statement}
use Rattle.resolved_program.specs.Resolved.{arms_of, block_of, loop_of, mark, statement, term}
use Rattle.expression_rules.proofs.Lists.{drop_item}
use Rattle.resolved_program.proofs.Rows.{arm_parts, do_vec, if_vec}
use Rattle.std.specs.Prelude.{◌==◌}
use Rattle.op_tables.specs.Operators.{wrapped}
use Rattle.array_meaning.specs.declared.sections.Sequence.{Sequence}
use Rattle.array_meaning.specs.declared.faults.FaultKind.TheVariants.{SpaceLimit}
use Rattle.array_meaning.specs.Faults.{Cause, fails, ◌>>=◌}
use Rattle.array_meaning.specs.Statements.{Block, Do, Loop, Mark, Unmarked, Outermost}
use Rattle.array_meaning.specs.State.{State, set_scalar}
use Rattle.array_meaning.specs.Runs.{Completion, Run, one_step, then_do, with_value}
use Rattle.array_meaning.specs.Expressions.{index_values}
use Rattle.array_meaning.specs.Iterations.{iteration_count, nest_axes}
use Rattle.array_meaning.specs.Touches.{iteration_touches}
use Rattle.array_meaning.specs.Clashes.{Clash, first_clash}
use Rattle.array_meaning.specs.NestLimits.{is_nest_in_limits}
use Rattle.array_meaning.specs.NestEntry.{entered, unless_clash}
use Rattle.array_meaning.specs.Execution.{after_iteration, condition, iterate, run, run_arms, run_block}
use Rattle.serial_run.specs.declared.completion.Completion.{Completion as HeldCompletion}
use Rattle.serial_run.specs.declared.completion.Completion.TheVariants as held
use Rattle.term_values.specs.declared.stops.Stop.{Stop as HeldStop}
use Rattle.term_values.specs.declared.stops.Stop.TheVariants as stop
use Rattle.term_values.specs.Stops.{IsStop}
use Rattle.serial_run.specs.Completions.{IsFaulted, IsRun, completion}
use Rattle.serial_run.specs.LoopEntry.{loop_entry}

-- ---- IF

pub if_is : (a : Action) (as' : Vec Arm Global) (other : Vec Statement Global) (line : ℕ) (s : State) → a ≡ action.If as' other →
    run (statement a) line s ≡ run_arms (arms_of as'.items) (run_block (block_of other.items)) s
if_is a as' other line s is = ap (λ a. run (statement a) line s) is ∙ ap (λ x. run x line s) (if_vec as' other)

-- an arm, once its condition has a value
pub arm_is : (a : Arm) (rest : List Arm) (s : State) (other : State → Run) →
    run_arms (arms_of (a ∷ rest)) other s
    ≡ with_value (out-Arm a).line s (condition s (term (out-Arm a).condition)) (λ is_met. (if is_met then run_block (block_of (out-Arm a).body.items) else run_arms (arms_of rest) other) s)
arm_is a rest s other = ap (λ x. run_arms x other s) (arm_parts a (arms_of rest))

-- the first arm of those from one on: its block, or what stands after it
pub arm_taken : (xs : List Arm) (i : ℕ) (a : Arm) (s : State) (other : State → Run) → i < length xs → a ≡ get_or xs i a → condition s (term (out-Arm a).condition) ≡ Ok true →
    run_arms (arms_of (drop i xs)) other s ≡ run_block (block_of (out-Arm a).body.items) s
arm_taken xs i a s other lt is met =
    ap (λ xs. run_arms (arms_of xs) other s) (drop_item xs i a lt is)
    ∙ arm_is a (drop (i + 1) xs) s other
    ∙ ap (λ r. with_value (out-Arm a).line s r (λ is_met. (if is_met then run_block (block_of (out-Arm a).body.items) else run_arms (arms_of (drop (i + 1) xs)) other) s)) met

pub arm_passed : (xs : List Arm) (i : ℕ) (a : Arm) (s : State) (other : State → Run) → i < length xs → a ≡ get_or xs i a → condition s (term (out-Arm a).condition) ≡ Ok false →
    run_arms (arms_of (drop i xs)) other s ≡ run_arms (arms_of (drop (i + 1) xs)) other s
arm_passed xs i a s other lt is met =
    ap (λ xs. run_arms (arms_of xs) other s) (drop_item xs i a lt is)
    ∙ arm_is a (drop (i + 1) xs) s other
    ∙ ap (λ r. with_value (out-Arm a).line s r (λ is_met. (if is_met then run_block (block_of (out-Arm a).body.items) else run_arms (arms_of (drop (i + 1) xs)) other) s)) met

-- ---- DO

-- after its entry a loop has the state from before
entered_first : (m : Mark) (line : ℕ) (s : State) (next : State → Run) → then_do (one_step line s (entered m s)) next ≡ with_value line s (entered m s) (λ r. next s)
entered_first Unmarked line s next = refl
entered_first (Outermost nest body) line s next =
    checked (iteration_count nest s == 0) (is_nest_in_limits nest body s) (first_clash (iteration_touches nest body s) (iteration_count nest s)) where
      checked : (empty limits : Bool) (c : Option Clash) →
          let r = if empty then Ok s else if limits then unless_clash s (nest_axes s nest) c else fails SpaceLimit in
          then_do (one_step line s r) next ≡ with_value line s r (λ r. next s)
      checked true limits c = refl
      checked false true None = refl
      checked false true (Some c) = refl
      checked false false c = refl

loop_is : (m : Mark) (l : Loop) (body : Block) (line : ℕ) (s : State) →
    run (Do m l body) line s ≡ with_value line s (loop_entry m l s) (λ p. iterate p.count l.index p.first p.step (run_block body) s)
loop_is m l body line s = after (index_values s l.control) where
  after : (r : Result Sequence Cause) →
      with_value line s r (λ p. then_do (one_step line s (entered m s)) (iterate p.count l.index p.first p.step (run_block body)))
      ≡ with_value line s (r >>= (λ p. entered m s >>= (λ r. Ok p))) (λ p. iterate p.count l.index p.first p.step (run_block body) s)
  after (Err c) = refl
  after (Ok p) = entered_first m line s (iterate p.count l.index p.first p.step (run_block body)) ∙ enters (entered m s) where
    enters : (r : Result State Cause) →
        with_value line s r (λ r. iterate p.count l.index p.first p.step (run_block body) s)
        ≡ with_value line s (r >>= (λ r. Ok p)) (λ p. iterate p.count l.index p.first p.step (run_block body) s)
    enters (Ok r) = refl
    enters (Err c) = refl

-- a loop, once it is known whether it is entered
pub do_is : (a : Action) (nest : Option HeldNest) (l : HeldLoop) (body : Vec Statement Global) (line : ℕ) (s : State) → a ≡ action.Do nest l body →
    run (statement a) line s
    ≡ with_value line s (loop_entry (mark nest (loop_of l) (block_of body.items)) (loop_of l) s) (λ p. iterate p.count l.index p.first p.step (run_block (block_of body.items)) s)
do_is a nest l body line s is =
    ap (λ a. run (statement a) line s) is
    ∙ ap (λ x. run x line s) (do_vec nest l body)
    ∙ loop_is (mark nest (loop_of l) (block_of body.items)) (loop_of l) (block_of body.items) line s

-- what has a value first ends with the fault of that
pub fault_is : {A E : Type 0} (whole : Run) (line : ℕ) (s new : State) (r : Result A Cause) (next : A → Run) (e : HeldStop) (made : Result HeldCompletion E) →
    whole ≡ with_value line s r next → new ≡ s → IsStop r e → IfOk made (IsFaulted line e) → IfOk made (IsRun whole new)
fault_is whole line s new r next (stop.Fault c) (Ok x) is same stops ends =
    is ∙ ap (λ r. with_value line s r next) stops ∙ (λ i. record { state = sym same i; completion = completion (sym ends i) })
fault_is whole line s new r next stop.Memory (Ok x) is same stops ends = absurd ends
fault_is whole line s new r next e (Err x) is same stops ends = tt

-- an iteration after which the loop goes on
iterate_next : (n k x : ℕ) (at at' step : ℤ) (body : State → Run) (s s' : State) (c : Completion) → k < n → at' ≡ wrapped (at +ℤ step) →
    body (set_scalar s x at) ≡ record { state = s'; completion = c } → ((next : State → Run) → after_iteration c s' next ≡ next s') →
    iterate (n - k) x at step body s ≡ iterate (n - (k + 1)) x at' step body s'
iterate_next n k x at at' step body s s' c lt next one goes =
    let e : n - k ≡ suc (n - (k + 1)) = omega (arith, lt) in
    ap (λ m. iterate m x at step body s) e
    ∙ ap (λ r. after_iteration r.completion r.state (iterate (n - (k + 1)) x (wrapped (at +ℤ step)) step body)) one
    ∙ goes (iterate (n - (k + 1)) x (wrapped (at +ℤ step)) step body)
    ∙ ap (λ a. iterate (n - (k + 1)) x a step body s') (sym next)

-- after the iterations before it
pub turn_next : (whole : Run) (n k x : ℕ) (at at' step : ℤ) (body : State → Run) (s s' last : State) (c : Completion) → whole ≡ iterate (n - k) x at step body s → k < n →
    at' ≡ wrapped (at +ℤ step) → body (set_scalar s x at) ≡ record { state = s'; completion = c } → ((next : State → Run) → after_iteration c s' next ≡ next s') → last ≡ s' →
    whole ≡ iterate (n - (k + 1)) x at' step body last
turn_next whole n k x at at' step body s s' last c before lt next one goes same =
    before ∙ iterate_next n k x at at' step body s s' c lt next one goes ∙ ap (iterate (n - (k + 1)) x at' step body) (sym same)

-- it does so where the body completes normally, and by CYCLE
pub goes_on : (c : HeldCompletion) → (c ≡ held.Normal) ⊎ (c ≡ held.Cycled) → (s : State) (next : State → Run) → after_iteration (completion c) s next ≡ next s
goes_on c (inl e) s next = ap (λ c. after_iteration (completion c) s next) e
goes_on c (inr e) s next = ap (λ c. after_iteration (completion c) s next) e
