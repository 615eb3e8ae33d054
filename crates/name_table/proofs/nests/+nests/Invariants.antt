use Rattle.std.proofs.Common.{◌≡◌, drop}
use Rattle.std.specs.List.{flat_map}
use Rattle.hpf_base.specs.FirstBreach.{earlier, least}
use Rattle.syntax_tree.specs.Statement.{arms_of, block_of}
use Rattle.name_table.specs.NameRules.{nest_breaches}
use Rattle.statement_walk.specs.Nests.{arm_nests, nests}
use Rattle.name_table.proofs.nests.+nests.Given as goal

-- the first deep nest so far, or else in the rest, is the first of all
abbrev pub invariant-first_deep_nest-loop-stmt : goal.invariant-first_deep_nest-loop-stmt
invariant-first_deep_nest-loop-stmt l =
    earlier l.first (least (flat_map nest_breaches (nests (block_of (drop l.stmt-index l.stmts))))) ≡ least (flat_map nest_breaches (nests (block_of l.stmts)))

abbrev pub invariant-deep_nest_of_arms-loop-arm : goal.invariant-deep_nest_of_arms-loop-arm
invariant-deep_nest_of_arms-loop-arm l =
    earlier l.first (least (flat_map nest_breaches (arm_nests (arms_of (drop l.arm-index l.arms))))) ≡ least (flat_map nest_breaches (arm_nests (arms_of l.arms)))
