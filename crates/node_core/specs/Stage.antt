-- Of private clauses.
-- No public clause cites this file.
-- The stages of a phase, and what a core does in it.
use Rattle.std.specs.Prelude.{◌≡◌, ℕ, ◌<◌, ◌⊎◌, Some}
use Rattle.std.specs.List.{slice_get}
use Rattle.hpf_base.specs.declared.node.NodeId.{NodeId}
use Rattle.node_law.specs.declared.act.Act.{Act}
use Rattle.node_law.specs.declared.act.Act.TheVariants.{Local, Send, Take}
use Rattle.node_law.specs.NodeSteps.{NodeSteps}
use Rattle.node_law.specs.Cores.{CoreState, IsEnabled}
use Rattle.node_law.specs.Reached.{RunsTo}
use Rattle.node_core.specs.declared.stage.Stage.{Stage}
use Rattle.node_core.specs.declared.stage.Stage.TheVariants.{Steps, Sends, Takes}
use Rattle.node_core.specs.CoreView.{CoreView, state}

-- the act belongs to the stage
abbrev pub IsOfStage : Stage → Act → Type 0
IsOfStage Steps act = act ≡ Local
IsOfStage Sends act = (target : NodeId) × (act ≡ Send target)
IsOfStage Takes act = (source : NodeId) × (act ≡ Take source)

module _ {N M : Type 0} (S : NodeSteps N M) where
  -- the node has the number, and its act belongs to the stage
  abbrev pub IsInStage : ℕ → Stage → N → Type 0
  IsInStage n stage a = (S.phase a ≡ n) × IsOfStage stage (S.act a)

  -- the node p is at this stage of the phase n, and it is enabled
  abbrev pub CanStep : ℕ → Stage → CoreState N M → ℕ → Type 0
  CanStep n stage c p = (a : N) × (slice_get c.nodes p ≡ Some a) × IsInStage n stage a × IsEnabled S c p

  -- the node p can send or take a letter of the phase n
  abbrev pub CanPass : ℕ → CoreState N M → ℕ → Type 0
  CanPass n c p = CanStep n Sends c p ⊎ CanStep n Takes c p

  -- core steps lead from old to new, which is old itself or nearer to the end
  pub record Advances (old new : CoreView N M) : Type 0 where
    pub runs : RunsTo S (state old) (state new)
    pub nearer : (new ≡ old) ⊎ (new.left < old.left)
