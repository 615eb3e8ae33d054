-- Symbol is found one after the other is the first of all.
use Rattle.std.proofs.Common.{ap, ◌∙◌, refl, map, ◌++◌}
use Rattle.std.specs.Prelude.{option_map}
use Rattle.std.specs.List.{flat_map}
use Rattle.syntax_tree.specs.declared.stmt.Arm.{out-Arm}
use Rattle.syntax_tree.specs.declared.stmt.DoLoop.{out-DoLoop}
use Rattle.syntax_tree.specs.Expression.{expression}
use Rattle.syntax_tree.specs.Statement.{axis, block_of, independent, statement}
use Rattle.hpf_base.specs.FirstBreach.{least}
use Rattle.statement_walk.specs.Heads.{arm_heads, heads, indexed, independent_heads, masked, placed, statement_heads}
use Rattle.statement_walk.specs.Head as head
use Rattle.statement_walk.specs.Views.{arm_alone, elsewhere_of}
use Rattle.syntax_tree.specs.Statement.{arms_of, assignments_of}
use Rattle.expression_rules.proofs.Turns.{first_next}
use Rattle.statement_walk.proofs.Measures.{measured}
use Rattle.statement_walk.proofs.WalkSteps.{more_first, both_first, arm_first, do_first, axis_in, if_one_heads, if_heads, if_alone_heads, forall_heads, where_heads, arm_step}
use Rattle.statement_walk.proofs.statements.+walk.Goals as goal

pub walk-loop-stmt-preserved : goal.walk-loop-stmt-preserved
walk-loop-stmt-preserved g t c =
    let f = g.J.Judge.breaches c.args.judge.now in
    let run = c.args.do_variables.now.items in
    let s = c.stmt-item.result in (
      c.in_ok-found.ensures.kept ∙ c.loop-stmt.invariant.0,
      first_next f (λ ss. heads run (block_of ss)) (λ s. statement_heads run s.line (statement s.line s.what)) (λ s ss. refl)
          c.args.stmts.now c.loop-stmt.stmt-index s c.loop-stmt.first c.in_ok-found.found c.earlier-first.result c.loop-stmt-test.true c.stmt-item.is
          (c.in_ok-found.ensures.first ∙ ap (λ r. least (flat_map f (statement_heads r s.line (statement s.line s.what)))) c.loop-stmt.invariant.0)
          c.earlier-first.ensures c.loop-stmt.invariant.1,
    )

pub walk_arms-loop-arm-preserved : goal.walk_arms-loop-arm-preserved
walk_arms-loop-arm-preserved g t c =
    let f = g.J.Judge.breaches c.args.judge.now in
    let run = c.args.do_variables.now.items in (
      c.in_ok-found.ensures.kept ∙ c.loop-arm.invariant.0,
      first_next f (λ as'. arm_heads run (arms_of as')) (λ a. arm_alone run a) (λ a as'. arm_step run a as')
          c.args.arms.now c.loop-arm.arm-index c.arm-item.result c.loop-arm.first c.in_ok-found.found c.earlier-first.result c.loop-arm-test.true c.arm-item.is
          (c.in_ok-found.ensures.first ∙ ap (λ r. least (flat_map f (arm_alone r c.arm-item.result))) c.loop-arm.invariant.0)
          c.earlier-first.ensures c.loop-arm.invariant.1,
    )

pub walk_arm-returns-clause-first : goal.walk_arm-returns-clause-first
walk_arm-returns-clause-first g t c =
    let f = g.J.Judge.breaches c.args.judge.now in
    let a = c.args.arm.now in
    let run = c.args.do_variables.now.items in
    arm_first f run a c.in_ok-tested.tested c.in_ok-inside.inside c.earlier.result
    (c.in_ok-tested.ensures ∙ ap (λ r. least (f (placed r (out-Arm a).line (head.Condition (expression (out-Arm a).cond))))) c.deref.ensures.value)
    (c.in_ok-inside.ensures.first ∙ ap (λ l. least (flat_map f (heads run (block_of l)))) c.deref-2.ensures.value)
    c.earlier.ensures

pub walk_do-returns-clause-first : goal.walk_do-returns-clause-first
walk_do-returns-clause-first g t c =
    let f = g.J.Judge.breaches c.args.judge.now in
    let d = c.args.inner.now in
    do_first f c.args.do_variables.now.items c.push.new.self.items c.args.line d c.in_ok-marked.marked c.in_ok-looped.looped c.in_ok-inside.inside c.earlier.result c.earlier-2.result
    (c.in_ok-marked.ensures ∙ ap (λ r. least (flat_map f (independent_heads r (option_map independent (out-DoLoop d).mark)))) c.deref.ensures.value)
    (c.in_ok-looped.ensures ∙ ap (λ r. least (f (placed r c.args.line (head.Do (option_map independent (out-DoLoop d).mark) (axis_in d))))) c.deref-2.ensures.value)
    c.in_ok-push.ensures.items
    (c.in_ok-inside.ensures.first ∙ ap (λ l. least (flat_map f (heads c.push.new.self.items (block_of l)))) c.deref-3.ensures.value)
    c.earlier.ensures c.earlier-2.ensures

pub walk_one-returns-in_ok-inside-in-IfOne-clause-first : goal.walk_one-returns-in_ok-inside-in-IfOne-clause-first
walk_one-returns-in_ok-inside-in-IfOne-clause-first g t c =
    let f = g.J.Judge.breaches c.args.judge.now in
    let run = c.args.do_variables.now.items in
    let line = c.args.stmt.now.line in
    let s = c.deref-in-IfOne-2.result.now in
    more_first f (placed run line (head.Condition (expression c.in-IfOne.cond))) (statement_heads run s.line (statement s.line s.what))
    (statement_heads run line (statement line c.args.stmt.now.what))
    c.in_ok-tested-in-IfOne.tested c.in_ok-inside-in-IfOne.inside c.earlier.result
    (c.in_ok-tested-in-IfOne.ensures ∙ ap (λ r. least (f (placed r line (head.Condition (expression c.in-IfOne.cond))))) c.deref-in-IfOne.ensures.value)
    c.in_ok-inside-in-IfOne.ensures.first c.earlier.ensures
    (if_one_heads run line c.args.stmt.now.what c.in-IfOne.cond c.in-IfOne.body s c.in-IfOne.is c.deref-in-IfOne-2.ensures)

pub walk_one-returns-in_ok-inside-in-Forall-clause-first : goal.walk_one-returns-in_ok-inside-in-Forall-clause-first
walk_one-returns-in_ok-inside-in-Forall-clause-first g t c =
    let f = g.J.Judge.breaches c.args.judge.now in
    let run = c.args.do_variables.now.items in
    let line = c.args.stmt.now.line in
    let axes = map axis c.in-Forall.axes.items in
    more_first f (placed run line (head.Forall axes (option_map expression c.in-Forall.mask))) (indexed run axes (assignments_of c.in-Forall.body.items))
    (statement_heads run line (statement line c.args.stmt.now.what))
    c.in_ok-indexed-in-Forall.indexed c.in_ok-inside-in-Forall.inside c.earlier-in-Forall.result
    (c.in_ok-indexed-in-Forall.ensures ∙ (λ i. least (f (placed (c.deref-in-Forall.ensures.value i) line
    (head.Forall (map axis (c.deref-in-Forall-2.ensures.value i)) (option_map expression c.in-Forall.mask))))))
    (c.in_ok-inside-in-Forall.ensures ∙ (λ i. least (flat_map f (indexed (c.deref-in-Forall-3.ensures.value i) (map axis (c.deref-in-Forall-4.ensures.value i))
    (assignments_of (c.deref-in-Forall-5.ensures.value i))))))
    c.earlier-in-Forall.ensures
    (forall_heads run line c.args.stmt.now.what c.in-Forall.axes c.in-Forall.mask c.in-Forall.body c.in-Forall.one c.in-Forall.glued c.in-Forall.marked c.in-Forall.is)

pub walk_one-returns-in_ok-last-in-Where-clause-first : goal.walk_one-returns-in_ok-last-in-Where-clause-first
walk_one-returns-in_ok-last-in-Where-clause-first g t c =
    let f = g.J.Judge.breaches c.args.judge.now in
    let run = c.args.do_variables.now.items in
    let line = c.args.stmt.now.line in
    let mask = expression c.in-Where.mask in
    let first = masked run mask (assignments_of c.in-Where.body.items) in
    let last = masked run mask (elsewhere_of c.in-Where.rest) in
    more_first f (placed run line (head.Where mask)) (first ++ last) (statement_heads run line (statement line c.args.stmt.now.what))
    c.in_ok-masked-in-Where.masked c.earlier-in-Where.result c.earlier-in-Where-2.result
    (c.in_ok-masked-in-Where.ensures ∙ ap (λ r. least (f (placed r line (head.Where mask)))) c.deref-in-Where.ensures.value)
    (both_first f first last (first ++ last) c.in_ok-first-in-Where.first c.in_ok-last-in-Where.last c.earlier-in-Where.result
    (c.in_ok-first-in-Where.ensures ∙ (λ i. least (flat_map f (masked (c.deref-in-Where-2.ensures.value i) mask (assignments_of (c.deref-in-Where-3.ensures.value i))))))
    (c.in_ok-last-in-Where.ensures ∙ ap (λ r. least (flat_map f (masked r mask (elsewhere_of c.in-Where.rest)))) c.deref-in-Where-4.ensures.value)
    c.earlier-in-Where.ensures refl)
    c.earlier-in-Where-2.ensures
    (where_heads run line c.args.stmt.now.what c.in-Where.mask c.in-Where.body c.in-Where.rest c.in-Where.one c.in-Where.glued c.in-Where.is)

pub walk_one-returns-in-None-clause-first : goal.walk_one-returns-in-None-clause-first
walk_one-returns-in-None-clause-first g t c =
    let f = g.J.Judge.breaches c.args.judge.now in
    let run = c.args.do_variables.now.items in
    c.in_ok-first-in-If.ensures.first
    ∙ ap (λ l. least (flat_map f (arm_heads run (arms_of l)))) c.deref-in-If.ensures.value
    ∙ ap (λ l. least (flat_map f l)) (if_alone_heads run c.args.stmt.now.line c.args.stmt.now.what c.in-If.arms c.in-If.rest c.in-If.glued c.in-If.is c.in-None.is)

pub walk_one-returns-in_ok-last-in-Some-clause-first : goal.walk_one-returns-in_ok-last-in-Some-clause-first
walk_one-returns-in_ok-last-in-Some-clause-first g t c =
    let f = g.J.Judge.breaches c.args.judge.now in
    let run = c.args.do_variables.now.items in
    let line = c.args.stmt.now.line in
    both_first f (arm_heads run (arms_of c.in-If.arms.items)) (heads run (block_of c.in-Some.stmts.items)) (statement_heads run line (statement line c.args.stmt.now.what))
    c.in_ok-first-in-If.first c.in_ok-last-in-Some.last c.earlier-in-Some.result
    (c.in_ok-first-in-If.ensures.first ∙ ap (λ l. least (flat_map f (arm_heads run (arms_of l)))) c.deref-in-If.ensures.value)
    (c.in_ok-last-in-Some.ensures.first ∙ (λ i. least (flat_map f (heads (c.in_ok-first-in-If.ensures.kept i) (block_of (c.deref-in-Some.ensures.value i))))))
    c.earlier-in-Some.ensures
    (if_heads run line c.args.stmt.now.what c.in-If.arms c.in-If.rest c.in-Some.stmts c.in-If.glued c.in-If.is c.in-Some.is)

pub walk_one-walk-requires : goal.walk_one-walk-requires
walk_one-walk-requires g t c κs within =
    (measured c.args.stmt.now c.in-If.arms c.in-If.rest c.in-Some.stmts c.in-If.glued c.deref-in-Some.result.now t c.in-If.is c.in-Some.is c.deref-in-Some.ensures.value c.decreases, within)
