use Rattle.std.proofs.Common.{◌≡◌, drop, max}
use Rattle.program_code.specs.NestCode.{PlainArms, plain, plain_arms}
use Rattle.program_code.specs.NestInstructions.{slots_of_arms, slots_of_nest}
use Rattle.resolved_program.specs.Resolved.{arms_of, block_of}
use Rattle.node_codegen.proofs.nest_counts.+slots.Given as goal

-- the most so far, or of what is left, is the most of all
abbrev pub invariant-inner_slots-loop-s : goal.invariant-inner_slots-loop-s
invariant-inner_slots-loop-s l = max l.most (slots_of_nest (plain (block_of (drop l.s-index l.statements)))) ≡ slots_of_nest (plain (block_of l.statements))

abbrev pub invariant-arms_slots-loop-a : goal.invariant-arms_slots-loop-a
invariant-arms_slots-loop-a l = (other : PlainArms) →
    max l.most (slots_of_arms (plain_arms (arms_of (drop l.a-index l.arms)) other)) ≡ slots_of_arms (plain_arms (arms_of l.arms) other)
