use Rattle.std.proofs.Common.{◌≡◌, drop}
use Rattle.std.specs.List.{flat_map}
use Rattle.hpf_base.specs.FirstBreach.{earlier, least}
use Rattle.syntax_tree.specs.Statement.{arms_of, block_of}
use Rattle.nest_check.specs.NestRules.{path_breaches_at}
use Rattle.nest_check.specs.Paths.{assigned_after, assigned_by_arms, reached_heads, reached_in_arms}
use Rattle.nest_check.proofs.paths.+paths.Given as goal

-- what is assigned after the rest is what is assigned after all; the first breach so far, or else in the rest, is the first of all
abbrev pub invariant-walk_paths-loop-stmt : goal.invariant-walk_paths-loop-stmt
invariant-walk_paths-loop-stmt l =
    (assigned_after l.assigned.items (block_of (drop l.stmt-index l.stmts)) ≡ assigned_after l.fn.assigned.items (block_of l.stmts))
    × (earlier l.first (least (flat_map (path_breaches_at l.names) (reached_heads l.conditional l.assigned.items (block_of (drop l.stmt-index l.stmts)))))
    ≡ least (flat_map (path_breaches_at l.names) (reached_heads l.conditional l.fn.assigned.items (block_of l.stmts))))

abbrev pub invariant-walk_arms-loop-arm : goal.invariant-walk_arms-loop-arm
invariant-walk_arms-loop-arm l =
    (assigned_by_arms l.before l.kept.items (arms_of (drop l.arm-index l.arms)) ≡ assigned_by_arms l.before l.fn.kept.items (arms_of l.arms))
    × (earlier l.first (least (flat_map (path_breaches_at l.names) (reached_in_arms l.before (arms_of (drop l.arm-index l.arms)))))
    ≡ least (flat_map (path_breaches_at l.names) (reached_in_arms l.before (arms_of l.arms))))
