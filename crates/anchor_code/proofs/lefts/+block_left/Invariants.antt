use Rattle.std.proofs.Common.{◌≡◌, ℕ, Option, drop}
use Rattle.resolved_program.specs.Resolved.{arms_of, block_of}
use Rattle.statement_trail.specs.Anchors.{arms_anchor, block_anchor}
use Rattle.anchor_code.proofs.lefts.+block_left.Given as goal

-- the first is that of what is left
abbrev pub invariant-block_left-loop-s : goal.invariant-block_left-loop-s
invariant-block_left-loop-s l = (index : ℕ → Option ℕ) → block_anchor index (block_of (drop l.s-index l.statements)) ≡ block_anchor index (block_of l.statements)

abbrev pub invariant-arms_left-loop-a : goal.invariant-arms_left-loop-a
invariant-arms_left-loop-a l = (index : ℕ → Option ℕ) → arms_anchor index (arms_of (drop l.a-index l.arms)) ≡ arms_anchor index (arms_of l.arms)
