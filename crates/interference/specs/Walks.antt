-- Of private clauses.
-- The walk of iterations of a nest: what it knows of the nest, and how the objects were visited so far.
use Rattle.std.specs.Prelude.{◌≡◌, ℕ, List, ◌∷◌, ◌++◌, drop, fold, reverse, Bool, if◌then◌else◌}
use Rattle.resolved_program.specs.declared.statements.Arm.{Arm}
use Rattle.resolved_program.specs.Resolved.{with_arm}
use Rattle.array_meaning.specs.Terms.{Term, Terms}
use Rattle.array_meaning.specs.Statements.{Block, Statement, Arms}
use Rattle.array_meaning.specs.State.{State, set_scalar}
use Rattle.array_meaning.specs.declared.sections.Sequence.{Sequence}
use Rattle.array_meaning.specs.Iterations.{in_turns, turn_value}
use Rattle.array_meaning.specs.Touches.{Touch, reads, all_reads, touches, touches_in, touches_in_arms}
use Rattle.nest_clash.specs.Visits.{Visit}
use Rattle.interference.specs.declared.walk.Walk.{Walk as HeldWalk}
use Rattle.visited_objects.specs.Visits.{touched, visits_of}

-- the iteration; the scalars that the nest assigns; the indices of the inner loops round a statement, and the other scalars of which each
-- iteration has its own; and the visits so far
pub record Walk : Type 0 where
  pub iteration : ℕ
  pub assigned : List ℕ
  pub inner : List ℕ
  pub own : List ℕ
  pub visits : ℕ → ℕ → Visit

abbrev pub walk_of : HeldWalk → Walk
walk_of w = record { iteration = w.iteration; assigned = w.assigned.items; inner = reverse w.inner.items; own = w.own.items; visits = visits_of w.visits }

abbrev pub hidden : Walk → List ℕ
hidden w = w.inner ++ w.own

-- the walk after touches of its iteration, in order
abbrev pub noted : Walk → List Touch → Walk
noted w ts = record w { visits = fold (touched w.iteration) w.visits ts }

-- inside a loop, and outside it again
abbrev pub inside : ℕ → Walk → Walk
inside index w = record w { inner = index ∷ w.inner }

abbrev pub outside : Walk → Walk
outside w = record w { inner = drop 1 w.inner }

-- the walk after what is read, and after statements
abbrev pub read : Walk → State → Term → Walk
read w s t = noted w (reads (hidden w) s t)

abbrev pub all_read : Walk → State → Terms → Walk
all_read w s ts = noted w (all_reads (hidden w) s ts)

abbrev pub walked : Walk → State → Block → Walk
walked w s block = noted w (touches w.assigned (hidden w) s block)

abbrev pub walked_in : Walk → State → Statement → Walk
walked_in w s statement = noted w (touches_in w.assigned (hidden w) s statement)

-- after so many turns of a loop inside which the walk is
abbrev pub turned : Walk → State → ℕ → Sequence → Block → ℕ → Walk
turned w s index p body n = noted w (in_turns n (λ x. touches w.assigned (hidden w) (set_scalar s index (turn_value p x)) body))

-- after arms of an IF and what stands after them
abbrev pub walked_arms : Walk → State → Arms → List Touch → Walk
walked_arms w s arms other = noted w (touches_in_arms w.assigned (hidden w) s arms other)

-- an arm was walked, whatever other arms stand after it, and whether these count
abbrev pub IsWalkedArm : Walk → State → Arm → Walk → Bool → Type 0
IsWalkedArm w s arm after goes_on =
    (rest : Arms) (other : List Touch) → walked_arms w s (with_arm arm rest) other ≡ (if goes_on then walked_arms after s rest other else after)

-- all arms were walked, whatever stands after them, and whether that counts
abbrev pub AreWalkedArms : Walk → State → Arms → Walk → Bool → Type 0
AreWalkedArms w s arms after goes_on = (other : List Touch) → walked_arms w s arms other ≡ (if goes_on then noted after other else after)
