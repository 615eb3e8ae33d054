-- Of the claim.
-- Cores that are reached from phased nodes, what one step of them answers, and where they end.
use Rattle.std.specs.Prelude.{◌≡◌, ℕ, zero, suc, ◌-◌, ◌+◌, ◌⊎◌, List, [], length, Option, Some, None}
use Rattle.std.specs.List.{slice_get}
use Rattle.node_law.specs.declared.act.Act.{Act}
use Rattle.node_law.specs.declared.act.Act.TheVariants.{Local, Send, Take, Done}
use Rattle.hpf_base.specs.declared.node.NodeId.{NodeId}
use Rattle.node_law.specs.declared.stepped.Stepped.{Stepped}
use Rattle.node_law.specs.declared.stepped.Stepped.TheVariants.{Moved, NotReady, Ended}
use Rattle.node_law.specs.NodeSteps.{NodeSteps, Move, after_at}
use Rattle.node_law.specs.Phases.{Lockstep, all_moves}
use Rattle.node_law.specs.Cores.{CoreState, capacity, start, core_run, made_in, core_move, core_step}

-- the sum of f at the numbers below n
abbrev pub total : ℕ → (ℕ → ℕ) → ℕ
total zero f = 0
total (suc n) f = f n + total n f

-- what a step of a node with this act answers where it can make no move
abbrev pub unmoved : Act → Stepped
unmoved Local = NotReady
unmoved (Send q) = NotReady
unmoved (Take p) = NotReady
unmoved Done = Ended

module _ {N M : Type 0} (S : NodeSteps N M) where
  -- the core is reached from phased nodes by core steps
  pub record IsReached (c : CoreState N M) : Type 0 where
    pub from : List N
    pub run : Lockstep S (slice_get from)
    pub choices : List ℕ
    pub is : c ≡ core_run S (start from) choices

  -- how many moves of the lockstep run are left
  abbrev pub moves_left : {c : CoreState N M} → IsReached c → ℕ
  moves_left w = total (length w.from) (λ p. length (all_moves w.run.phases w.run.last p) - length (made_in S (start w.from) w.choices p))

  -- core steps lead from one core to the other
  abbrev pub RunsTo : CoreState N M → CoreState N M → Type 0
  RunsTo old new = (choices : List ℕ) × (new ≡ core_run S old choices)

  -- from whichever phased nodes the core is reached, these are the last nodes of their lockstep run
  abbrev pub EndsInLockstep : CoreState N M → List N → Type 0
  EndsInLockstep c ns =
      (from : List N) (run : Lockstep S (slice_get from)) (before : List ℕ) → c ≡ core_run S (start from) before
      → (p : ℕ) → slice_get ns p ≡ after_at S (slice_get from p) (all_moves run.phases run.last p)

  -- the node at p does this next
  abbrev pub ActsAt : List N → ℕ → Act → Type 0
  ActsAt ns p act = (a : N) × (slice_get ns p ≡ Some a) × (S.act a ≡ act)

  -- the node p is to send to a queue of four letters, or to take from an empty one
  abbrev pub IsWaiting : CoreState N M → ℕ → Type 0
  IsWaiting c p =
      ((q : NodeId) × ActsAt c.nodes p (Send q) × (length (c.queue p q.0) ≡ capacity))
      ⊎ ((q : NodeId) × ActsAt c.nodes p (Take q) × (c.queue q.0 p ≡ []))

  -- what a step of the node p answers
  abbrev pub answer_by : Option N → Option (Move M) → Stepped
  answer_by o (Some x) = Moved
  answer_by None None = Ended
  answer_by (Some a) None = unmoved (S.act a)

  abbrev pub answer : CoreState N M → ℕ → Stepped
  answer c p = answer_by (slice_get c.nodes p) (core_move S c p)

  -- from old, a core step of the node p leads to new and answers so
  pub record IsStep (old : CoreState N M) (p : ℕ) (stepped : Stepped) (new : CoreState N M) : Type 0 where
    pub leads : new ≡ core_step S old p
    pub answers : stepped ≡ answer old p

-- this many moves are left
abbrev pub HasLeft : {N M : Type 0} (S : NodeSteps N M) (c : CoreState N M) → ℕ → Type 0
HasLeft S c n = ∥ ((w : IsReached S c) × (moves_left S w ≡ n)) ∥₁

-- how many moves are left, which is one number however the core was reached
abbrev pub MovesLeft : {N M : Type 0} (S : NodeSteps N M) (c : CoreState N M) → Type 0
MovesLeft S c = (n : ℕ) × HasLeft S c n
