-- Of private clauses.
-- No public clause cites this file.
-- Which phase comes next, where nodes pass their phases one after another.
use Rattle.std.specs.Prelude.{◌≡◌, ◌≢◌, ◌⊎◌, ℕ, List, [], Option, Some}
use Rattle.std.specs.List.{slice_get}
use Rattle.node_law.specs.declared.act.Act.TheVariants.{Done}
use Rattle.node_law.specs.NodeSteps.{NodeSteps, Move, after_at, sent, taken}
use Rattle.node_law.specs.Phases.{PhaseShare, moves, next_number, IsShareAt, IsEndAt, IsLockstep}

module _ {N M : Type 0} (S : NodeSteps N M) where
  -- a phase under way: some of its local steps are made, and perhaps no node has its number any more
  pub record UnderWay (n : ℕ) (ns : ℕ → Option N) : Type 0 where
    pub shares : ℕ → PhaseShare M
    pub each : (p : ℕ) → IsShareAt S n (ns p) (shares p)
    pub letters : (p q : ℕ) → sent q (shares p).front ≡ taken p (shares q).back
    pub to_others : (p : ℕ) → sent p (shares p).front ≡ []
    pub phases : List (ℕ → PhaseShare M)
    pub last : ℕ → List (Move M)
    pub rest : IsLockstep S (next_number n) (λ p. after_at S (ns p) (moves (shares p))) phases last

  -- no phase is left: local steps lead to nodes that are all Done
  abbrev pub AreEnding : (ℕ → Option N) → Type 0
  AreEnding ns = (last : ℕ → List (Move M)) × ((p : ℕ) → IsEndAt S (ns p) (last p))

  -- the phase n comes next or is under way, or no phase is left
  abbrev pub IsNextPhase : ℕ → (ℕ → Option N) → Type 0
  IsNextPhase n ns = UnderWay n ns ⊎ AreEnding ns

  -- a node that is not Done has this number
  abbrev pub UnfinishedAt : List N → ℕ → Type 0
  UnfinishedAt ns n = (p : ℕ) × (a : N) × (slice_get ns p ≡ Some a) × (S.act a ≢ Done) × (S.phase a ≡ n)

  -- n is the number before `first` where a node that is not Done has that one, and else `first` itself
  abbrev pub IsEarlierNumber : List N → ℕ → ℕ → Type 0
  IsEarlierNumber ns first n = ((n ≡ first) × ((m : ℕ) → UnfinishedAt ns m → next_number m ≢ first)) ⊎ ((next_number n ≡ first) × UnfinishedAt ns n)
