-- A fact of each text of a block.
use Rattle.std.proofs.Common.{ℕ, Bool, Option, Some, None, IfSome}
use Rattle.nest_order.specs.Items as items
use Rattle.nest_order.specs.Items.{Items, Branches, EndIf, Branch, EachIn, EachInBranches}
use Rattle.nest_syntax.specs.NestKinds.{Kind}
use Rattle.nest_order.specs.Copies.{InIteration, in_iteration, condition_in, items_in, branches_in}
use Rattle.array_meaning.specs.Terms.{Term}
use Rattle.array_meaning.specs.Statements.{Block, Done, Then, Statement, AssignScalar, AssignElement, AssignSection, Transform, If, Do, Where, Forall, Print, Stop, Exit, Cycle, Continue, Redistribute, Arms, NoArm, Arm}
use Rattle.array_meaning.specs.State.{State, set_scalar}
use Rattle.array_meaning.specs.declared.sections.Sequence.{Sequence}
use Rattle.array_meaning.specs.Iterations.{values_of, turn_value}
use Rattle.nest_items.specs.NestItems as made
use Rattle.nest_items.specs.NestItems.{Action, Condition, text_at, items_of, branches_of, else_of}
use Rattle.nest_syntax.specs.Assigning.{Assigning, ToScalar, ToElement}
use Rattle.nest_items.specs.Settled.{without}
use Rattle.nest_items.specs.Standing.{Stands, BlockStands, StatementStands, ArmsStand}
use Rattle.nest_parts.proofs.Nearness.{AssigningStands}

module _ (kinds : ℕ → Kind) (I : State → Type 0) (keeps : (s : State) (x : ℕ) (p : Sequence) (j : ℕ) → I s → I (set_scalar s x (turn_value p j)))
    (P : Action → Type 0) (Q : Condition → Type 0)
    (actions : (free : ℕ → Bool) (line : ℕ) (s : State) (x : Assigning) → I s → AssigningStands kinds s free x → P (text_at line s x))
    (conditions : (free : ℕ → Bool) (line : ℕ) (s : State) (t : Term) → I s → Stands kinds free None t → Q (text_at line s t)) where
  each_else : (body : Items Action Condition) → EachIn P Q body → EachInBranches P Q (else_of body)
  each_else items.Done h = tt
  each_else (items.Then x rest) h = (tt, h, tt)
  each_else (items.If branches rest) h = (tt, h, tt)
  each_else (items.Repeat n body rest) h = (tt, h, tt)

  mutual
    pub block_each : (b : Block) (free : ℕ → Bool) (s : State) → I s → BlockStands kinds free s b → EachIn P Q (items_of s b)
    block_each Done free s k h = tt
    block_each (Then line statement rest) free s k h = statement_each statement line free s k h.0 (items_of s rest) (block_each rest free s k h.1)

    statement_each : (statement : Statement) (line : ℕ) (free : ℕ → Bool) (s : State) → I s → StatementStands kinds free s statement → (rest : Items Action Condition) → EachIn P Q rest
        → EachIn P Q (made.items_in line s statement rest)
    statement_each (AssignScalar n t) line free s i h rest r = (actions free line s (ToScalar n t) i h, r)
    statement_each (AssignElement a ts t) line free s k h rest r = (actions free line s (ToElement a ts t) k h, r)
    statement_each (AssignSection a subs t) line free s k h rest r = absurd h
    statement_each (Transform x y how) line free s k h rest r = absurd h
    statement_each (If arms other) line free s k h rest r = (arms_each arms other free s k h.0 (block_each other free s k h.1), r)
    statement_each (Do mark loop body) line free s k h rest r =
        (λ x lt. block_each body (without free loop.index) (set_scalar s loop.index (turn_value (values_of s loop) x)) (keeps s loop.index (values_of s loop) x k) (h.1 x lt), r)
    statement_each (Where mask body others) line free s k h rest r = absurd h
    statement_each (Forall controls mask body) line free s k h rest r = absurd h
    statement_each (Print xs) line free s k h rest r = absurd h
    statement_each Stop line free s k h rest r = absurd h
    statement_each Exit line free s k h rest r = absurd h
    statement_each Cycle line free s k h rest r = absurd h
    statement_each Continue line free s k h rest r = r
    statement_each Redistribute line free s k h rest r = absurd h

    arms_each : (arms : Arms) (other : Block) (free : ℕ → Bool) (s : State) → I s → ArmsStand kinds free s arms → EachIn P Q (items_of s other)
        → EachInBranches P Q (branches_of s arms (items_of s other))
    arms_each NoArm other free s k h o = each_else (items_of s other) o
    arms_each (Arm line t body arms) other free s k h o = (conditions free line s t k h.0, block_each body free s k h.1, arms_each arms other free s k h.2 o)

-- the same of the texts of an iteration
module _ {A C : Type 0} (i : ℕ) (P : InIteration A → Type 0) (Q : InIteration C → Type 0) where
  test_in : (x : Option C) → IfSome x (λ c. Q (in_iteration i c)) → IfSome (condition_in i x) Q
  test_in None h = h
  test_in (Some x) h = h

  mutual
    pub each_in : (xs : Items A C) → EachIn (λ x. P (in_iteration i x)) (λ x. Q (in_iteration i x)) xs → EachIn P Q (items_in i xs)
    each_in items.Done h = tt
    each_in (items.Then x rest) h = (h.0, each_in rest h.1)
    each_in (items.If branches rest) h = (each_in_branches branches h.0, each_in rest h.1)
    each_in (items.Repeat n body rest) h = (λ x lt. each_in (body x) (h.0 x lt), each_in rest h.1)

    each_in_branches : (bs : Branches A C) → EachInBranches (λ x. P (in_iteration i x)) (λ x. Q (in_iteration i x)) bs → EachInBranches P Q (branches_in i bs)
    each_in_branches EndIf h = tt
    each_in_branches (Branch test body others) h = (test_in test h.0, each_in body h.1, each_in_branches others h.2)
