-- Of private clauses.
-- What private contracts see of the names of a nest while they are gathered, and of a nest after its outermost loop. No public clause cites
-- this file.
use Rattle.std.specs.Prelude.{ℕ, Bool, true, false, List, [], ◌∷◌, ◌++◌, map, Some}
use Rattle.std.specs.List.{flat_map}
use Rattle.hpf_base.specs.declared.refusal.Refusal.{Refusal}
use Rattle.syntax_tree.specs.declared.stmt.DoLoop.{DoLoop, out-DoLoop}
use Rattle.syntax_tree.specs.declared.stmt.Arm.{Arm}
use Rattle.syntax_tree.specs.declared.stmt.StatementKind.TheBlock.{struct-Arm}
use Rattle.syntax_tree.specs.declared.stmt.Mark.{Mark}
use Rattle.syntax_tree.specs.Expression.{expression}
use Rattle.expression_rules.specs.Symbols.{Name}
use Rattle.syntax_tree.specs.Statement.{Axis, Independent, Block, Done, Then, Statement, Do, block, block_of, independent}
use Rattle.statement_walk.specs.Head.{Head}
use Rattle.statement_walk.specs.Head as head
use Rattle.statement_walk.specs.Nests.{Loop, Nest, in_loop, loop, nest_in}
use Rattle.name_table.specs.declared.names.Entry.{Entry}
use Rattle.body_forms.specs.Axes.{axis_of}
use Rattle.nest_check.specs.NestNames.{NestNames, added, all_added, constant_symbols, do_variable_of, inner_heads, operators_added, operators_of, scalar_assigned}
use Rattle.nest_check.specs.NestRules.{body_part_breaches, inner_loop_breaches}
use Rattle.nest_check.specs.Paths.{ReachedHead, assigned_after, common, reached, reached_heads}

abbrev pub no_names : List Entry → NestNames
no_names es = record { declared = es; constants = constant_symbols es; loops = []; indices = []; assigned = []; new_names = []; reduction_names = []; operators = [] }

-- with loops of the nest, with statements of its body, and with all of a nest
abbrev pub with_loops : NestNames → List Loop → NestNames
with_loops n ls = record n {
  loops = n.loops ++ map (λ l. l.axis.index) ls;
  indices = all_added n.indices (map (λ l. l.axis.index) ls);
  new_names = all_added n.new_names (flat_map (λ l. l.mark.new) ls);
  reduction_names = all_added n.reduction_names (flat_map (λ l. l.mark.reduction) ls);
}

abbrev pub with_mark : NestNames → Name → Independent → NestNames
with_mark n x m = record n {
  loops = n.loops ++ x ∷ [];
  indices = added n.indices x;
  new_names = all_added n.new_names m.new;
  reduction_names = all_added n.reduction_names m.reduction;
}

abbrev pub with_heads : NestNames → List Head → NestNames
with_heads n hs = record n {
  indices = all_added n.indices (flat_map do_variable_of hs);
  assigned = all_added n.assigned (flat_map scalar_assigned hs);
  operators = operators_added n.operators (flat_map (operators_of n.reduction_names) hs);
}

abbrev pub with_nest : NestNames → Nest → NestNames
with_nest n t = with_heads (with_loops n t.loops) (inner_heads t.body)

-- a block that is one INDEPENDENT loop and no more
abbrev pub is_independent : Statement → Bool
is_independent (Do (Some mark) axis b) = true
is_independent s = false

abbrev pub is_one_loop : Block → Bool
is_one_loop (Then line s Done) = is_independent s
is_one_loop b = false

-- the bounds and the step of a loop
abbrev pub axis_in : DoLoop → Axis
axis_in d = axis_of (out-DoLoop d).first (out-DoLoop d).last (out-DoLoop d).step

-- a loop of a nest, and the nest of a loop
abbrev pub loop_of : ℕ → Mark → DoLoop → Loop
loop_of line mark d = loop line (independent mark) (record (axis_in d) { index = (out-DoLoop d).index })

abbrev pub nest_of : ℕ → Mark → DoLoop → Nest
nest_of line mark d = in_loop (loop_of line mark d) (nest_in (block_of (out-DoLoop d).body.items))

-- what is wrong with a nest, its outermost loop left out
abbrev pub breaches_inside : NestNames → Nest → List Refusal
breaches_inside n t = flat_map (inner_loop_breaches n) t.loops ++ body_part_breaches n t.body

-- what a path reaches in one arm of an IF, and what is common to the arm and to those before it
abbrev pub reached_arm : List Name → Arm → List ReachedHead
reached_arm xs (struct-Arm n cond shape row glued) = reached true xs n (head.Condition (expression cond)) ∷ reached_heads true xs (block row)

abbrev pub common_with_arm : List Name → List Name → Arm → List Name
common_with_arm xs ys (struct-Arm n cond shape row glued) = common ys (assigned_after xs (block row))
