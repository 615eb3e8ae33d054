-- Of the claim.
-- Cores: nodes with a queue of letters for each ordered pair of them, and the steps of a core.
use Rattle.std.specs.Prelude.{◌≡◌, ℕ, zero, suc, ◌==◌, ◌&&◌, List, [], ◌∷◌, ◌++◌, length, Option, Some, None, IsSome, if◌then◌else◌, nat_lt}
use Rattle.std.specs.List.{slice_get, All}
use Rattle.node_law.specs.declared.act.Act.{Act}
use Rattle.node_law.specs.declared.act.Act.TheVariants.{Local, Send, Take, Done}
use Rattle.node_law.specs.NodeSteps.{NodeSteps, Move, Worked, Sent, Taken, node_after}

-- the most letters that a queue holds
abbrev pub capacity : ℕ
capacity = 4

-- a core: its nodes, and for each pair the letters on their way from the source to the target, the oldest first
pub record CoreState (N M : Type 0) : Type 0 where
  pub nodes : List N
  pub queue : ℕ → ℕ → List M

-- the core of these nodes with empty queues
abbrev pub start : {N M : Type 0} → List N → CoreState N M
start ns = record { nodes = ns; queue = λ p q. [] }

-- the queues with another list from p to q
abbrev pub put : {M : Type 0} → (ℕ → ℕ → List M) → ℕ → ℕ → List M → ℕ → ℕ → List M
put queue p q letters s t = if (p == s) && (q == t) then letters else queue s t

-- the list without its first
abbrev pub tail : {A : Type 0} → List A → List A
tail [] = []
tail (x ∷ xs) = xs

-- the queues after a move of the node p
abbrev pub queue_after : {M : Type 0} → (ℕ → ℕ → List M) → ℕ → Move M → ℕ → ℕ → List M
queue_after queue p Worked = queue
queue_after queue p (Sent q m) = put queue p q (queue p q ++ (m ∷ []))
queue_after queue p (Taken q m) = put queue q p (tail (queue q p))

module _ {N M : Type 0} (S : NodeSteps N M) where
  -- the take of the front letter, if there is one
  abbrev pub take_of : ℕ → List M → Option (Move M)
  take_of q [] = None
  take_of q (m ∷ ms) = Some (Taken q m)

  -- the move that the node a at p can make where the queues are so
  abbrev pub move_by : (ℕ → ℕ → List M) → ℕ → N → Act → Option (Move M)
  move_by queue p a Local = Some Worked
  move_by queue p a (Send q) = if nat_lt (length (queue p q.0)) capacity then Some (Sent q.0 (S.letter a)) else None
  move_by queue p a (Take q) = take_of q.0 (queue q.0 p)
  move_by queue p a Done = None

  -- the same at a number, where there may be no node
  abbrev pub move_at : (ℕ → ℕ → List M) → ℕ → Option N → Option (Move M)
  move_at queue p None = None
  move_at queue p (Some a) = move_by queue p a (S.act a)

  -- the move that the node p can make now
  abbrev pub core_move : CoreState N M → ℕ → Option (Move M)
  core_move c p = move_at c.queue p (slice_get c.nodes p)

  -- the nodes after a move of the node p
  abbrev pub nodes_after : List N → ℕ → Move M → List N
  nodes_after [] p x = []
  nodes_after (a ∷ rest) zero x = node_after S a x ∷ rest
  nodes_after (a ∷ rest) (suc p) x = a ∷ nodes_after rest p x

  -- the core after a move of the node p, if there is one
  abbrev pub moved : CoreState N M → ℕ → Option (Move M) → CoreState N M
  moved c p None = c
  moved c p (Some x) = record { nodes = nodes_after c.nodes p x; queue = queue_after c.queue p x }

  -- a core step of the node p: its next move where it can make it, and else nothing
  abbrev pub core_step : CoreState N M → ℕ → CoreState N M
  core_step c p = moved c p (core_move c p)

  -- the core after steps of these nodes, one after another
  abbrev pub core_run : CoreState N M → List ℕ → CoreState N M
  core_run c [] = c
  core_run c (p ∷ ps) = core_run (core_step c p) ps

  -- the move of the node p as moves of the node q: none where they differ
  abbrev pub moves_in : ℕ → ℕ → Option (Move M) → List (Move M)
  moves_in p q None = []
  moves_in p q (Some x) = if p == q then x ∷ [] else []

  -- the moves of the node q in such a run
  abbrev pub made_in : CoreState N M → List ℕ → ℕ → List (Move M)
  made_in c [] q = []
  made_in c (p ∷ ps) q = moves_in p q (core_move c p) ++ made_in (core_step c p) ps q

  -- the node p is enabled: its act is a local step, a send to a queue with room, or a take from a queue with a letter
  abbrev pub IsEnabled : CoreState N M → ℕ → Type 0
  IsEnabled c p = IsSome (core_move c p)

  -- the core is finished: all its nodes are Done
  abbrev pub IsFinished : CoreState N M → Type 0
  IsFinished c = All (λ a. S.act a ≡ Done) c.nodes

  -- the core is stuck: it isn't finished, and no node is enabled
  abbrev pub IsStuck : CoreState N M → Type 0
  IsStuck c = ¬ IsFinished c × ((p : ℕ) → ¬ IsEnabled c p)
