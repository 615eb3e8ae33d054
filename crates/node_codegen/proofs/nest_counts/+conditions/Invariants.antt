use Rattle.std.proofs.Common.{◌≡◌, ◌+◌, drop}
use Rattle.program_code.specs.NestCode.{PlainArms, plain, plain_arms}
use Rattle.program_code.specs.NestInstructions.{count_nest, count_nest_arms}
use Rattle.resolved_program.specs.Resolved.{arms_of, block_of}
use Rattle.node_codegen.proofs.nest_counts.+conditions.Given as goal

-- those so far, and those of what is left, are all
abbrev pub invariant-block_conditions-loop-s : goal.invariant-block_conditions-loop-s
invariant-block_conditions-loop-s l = l.sum + count_nest (plain (block_of (drop l.s-index l.statements))) ≡ count_nest (plain (block_of l.statements))

abbrev pub invariant-arms_conditions-loop-a : goal.invariant-arms_conditions-loop-a
invariant-arms_conditions-loop-a l = (other : PlainArms) →
    l.sum + count_nest_arms (plain_arms (arms_of (drop l.a-index l.arms)) other) ≡ count_nest_arms (plain_arms (arms_of l.arms) other)
