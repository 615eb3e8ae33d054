use Rattle.std.proofs.Common.{◌≡◌, drop}
use Rattle.array_meaning.specs.Iterations.{is_in}
use Rattle.array_meaning.specs.Touches.{assigned_in, assigned_in_arms}
use Rattle.program_code.specs.NestCode.{rights_in_arms, rights_of}
use Rattle.resolved_program.specs.Resolved.{arms_of, block_of}
use Rattle.node_codegen.specs.NestScalars.{first_operator}
use Rattle.node_codegen.proofs.nest_scalars.+first_operator.Given as goal

-- the first is that of what is left
abbrev pub invariant-first_operator-loop-s : goal.invariant-first_operator-loop-s
invariant-first_operator-loop-s l = record {
  operator : first_operator (rights_of l.k (block_of (drop l.s-index l.statements))) ≡ first_operator (rights_of l.k (block_of l.statements));
  assigned : is_in l.k (assigned_in (block_of (drop l.s-index l.statements))) ≡ is_in l.k (assigned_in (block_of l.statements));
}

abbrev pub invariant-operator_in_arms-loop-a : goal.invariant-operator_in_arms-loop-a
invariant-operator_in_arms-loop-a l = record {
  operator : first_operator (rights_in_arms l.k (arms_of (drop l.a-index l.arms))) ≡ first_operator (rights_in_arms l.k (arms_of l.arms));
  assigned : is_in l.k (assigned_in_arms (arms_of (drop l.a-index l.arms))) ≡ is_in l.k (assigned_in_arms (arms_of l.arms));
}
