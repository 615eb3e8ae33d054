use Rattle.std.proofs.Common.{◌≡◌, ℕ, ◌+◌, ◌++◌, ◌∷◌, IfOk, arith, drop, length, sym, ap, ◌∙◌, subst}
use Rattle.std.proofs.lemmas.List.{length-map}
use Rattle.std.proofs.Math.ListN.{drop_of_length-le}
use Rattle.expression_rules.proofs.Lists.{drop_item}
use Rattle.node_code.specs.Instructions.{JumpIfZero}
use Rattle.node_code.specs.Texts.{instruction, instructions}
use Rattle.resolved_program.specs.declared.statements.Arm.{out-Arm}
use Rattle.resolved_program.specs.Resolved.{arms_of, block_of, term}
use Rattle.resolved_program.proofs.Rows.{arm_parts}
use Rattle.program_code.specs.StatementCode.{arms_code, block_code, loop_code}
use Rattle.node_codegen.specs.Arms.{AreArms, arms_before, codes, jumping_to}
use Rattle.node_codegen.specs.Moves.{moves_by}
use Rattle.node_codegen.specs.NestCodes.{or_loops}
use Rattle.node_codegen.proofs.Arms.{arm_is, arms_next, codes_next}
use Rattle.node_codegen.proofs.Parts.{do_is, if_is}
use Rattle.node_codegen.proofs.statements.+code.Goals as goal

pub statement_code-returns-in_ok-rest-in-If : goal.statement_code-returns-in_ok-rest-in-If
statement_code-returns-in_ok-rest-in-If t c =
    let made = c.in_ok-made-in-If.made in
    subst (λ w. IfOk c.if_code.result (λ v. instructions v.items ≡ w))
    (ap (λ l. jumping_to (made.after + length l) (codes made.codes.items) ++ l)
    (c.in_ok-rest-in-If.ensures ∙ ap (λ l. block_code c.args.copy (moves_by c.args.moves.now) (block_of l) c.args.b made.after c.args.leave c.args.again) c.deref-in-If-2.ensures.value)
    ∙ sym (if_is c.args.copy (moves_by c.args.moves.now) c.args.line c.args.b c.args.pc c.args.leave c.args.again c.args.s.now c.in-If.arms c.in-If.other (codes made.codes.items) made.after c.in-If.is
    (subst (λ l. AreArms c.args.copy (moves_by c.args.moves.now) (arms_of l) c.args.b c.args.pc c.args.leave c.args.again (codes made.codes.items) made.after) c.deref-in-If.ensures.value c.in_ok-made-in-If.ensures)))
    c.if_code.ensures

pub code_of_arm-returns : goal.code_of_arm-returns
code_of_arm-returns t c = λ tail other.
    let copy = c.args.copy in
    let moves = moves_by c.args.moves.now in
    let b = c.args.b in
    let a = out-Arm c.args.a.now in
    let condition = c.in_ok-code.code in
    let body = c.in_ok-body.body in
    ap (λ x. arms_code copy moves x other b c.args.pc c.args.leave c.args.again) (arm_parts c.args.a.now tail)
    ∙ arm_is a.line c.args.pc b (term a.condition) (λ pc. block_code copy moves (block_of a.body.items) b pc c.args.leave c.args.again) (λ pc. arms_code copy moves tail other b pc c.args.leave c.args.again)
    condition.items body.items c.add_arm.new.code.items c.in_ok-code.ensures
    (c.in_ok-body.ensures ∙ (λ i. block_code copy moves (block_of (c.deref.ensures.value i)) b (c.in_ok-inside.ensures i) c.args.leave c.args.again))
    (c.in_ok-add_arm.ensures
    ∙ ap (λ x. instructions condition.items ++ JumpIfZero (c.args.pc + length condition.items + 1 + length body.items + 1) x ∷ instructions body.items)
    (c.in_ok-slot.ensures ∙ ap (λ n. b + n) c.in_ok-slots_of.ensures))

pub statement_code-returns-in-Some : goal.statement_code-returns-in-Some
statement_code-returns-in-Some t c =
    let l = c.in-Do.l in
    let first = c.in_ok-first-in-Do.first in
    let at = c.in_ok-at-in-Do.at in
    let loops = loop_code c.args.line at first l.index (block_code c.args.copy (moves_by c.args.moves.now) (block_of c.in-Do.body.items) (first + 4)) in
    subst (λ w. IfOk c.with_more.result (λ v. instructions v.items ≡ w))
    (do_is c.args.copy (moves_by c.args.moves.now) c.args.line c.args.b c.args.pc c.args.leave c.args.again first at c.args.s.now c.in-Do.nest l c.in-Do.body
    c.in_ok-head-in-Do.head.items (instructions c.in-Some.turns.items) c.in-Do.is
    (c.in_ok-first-in-Do.ensures ∙ ap (λ n. c.args.b + n) c.in_ok-control_slots-in-Do.ensures) c.in_ok-head-in-Do.ensures c.in_ok-at-in-Do.ensures
    (ap (λ r. or_loops r loops) (sym c.in-Some.is) ∙ c.in_ok-turns-in-Do.ensures loops))
    c.with_more.ensures

pub statement_code-returns-in_ok-add_loop-in-None : goal.statement_code-returns-in_ok-add_loop-in-None
statement_code-returns-in_ok-add_loop-in-None t c =
    let l = c.in-Do.l in
    let first = c.in_ok-first-in-Do.first in
    let at = c.in_ok-at-in-Do.at in
    let code = block_code c.args.copy (moves_by c.args.moves.now) (block_of c.in-Do.body.items) (first + 4) in
    let loops = loop_code c.args.line at first l.index code in
    c.in_ok-add_loop-in-None.ensures
    ∙ do_is c.args.copy (moves_by c.args.moves.now) c.args.line c.args.b c.args.pc c.args.leave c.args.again first at c.args.s.now c.in-Do.nest l c.in-Do.body
    c.in_ok-head-in-Do.head.items (loop_code c.args.line at first l.index (λ inside leave again. instructions c.in_ok-inner-in-None.inner.items)) c.in-Do.is
    (c.in_ok-first-in-Do.ensures ∙ ap (λ n. c.args.b + n) c.in_ok-control_slots-in-Do.ensures) c.in_ok-head-in-Do.ensures c.in_ok-at-in-Do.ensures
    (ap (λ i. loop_code c.args.line at first l.index (λ inside leave again. i))
    (c.in_ok-inner-in-None.ensures
    ∙ ap (λ x. block_code c.args.copy (moves_by c.args.moves.now) (block_of x) (first + 4) (at + 8) (at + 3) (at + 4)) c.deref-in-None.ensures.value)
    ∙ ap (λ r. or_loops r loops) (sym c.in-None.is) ∙ c.in_ok-turns-in-Do.ensures loops)

pub arm_codes-loop-arm-preserved : goal.arm_codes-loop-arm-preserved
arm_codes-loop-arm-preserved t c = λ other.
    let n = c.loop-arm.arm-index in
    let after = c.loop-arm.after in
    let one = c.in_ok-one.one in
    let tail = arms_of (drop (n + 1) c.args.arms.now) in
    let rest = λ (pc : ℕ). arms_code c.args.copy (moves_by c.args.moves.now) tail other c.args.b pc c.args.leave c.args.again in
    c.loop-arm.invariant other
    ∙ ap (λ l. arms_before after (codes c.loop-arm.codes.items) (λ pc. arms_code c.args.copy (moves_by c.args.moves.now) (arms_of l) other c.args.b pc c.args.leave c.args.again))
    (drop_item c.args.arms.now n c.arm-item.result c.loop-arm-test.true c.arm-item.is)
    ∙ arms_next after c.in_ok-after.after (codes c.loop-arm.codes.items) (instructions one.items)
    (λ pc. arms_code c.args.copy (moves_by c.args.moves.now) (arms_of (c.arm-item.result ∷ drop (n + 1) c.args.arms.now)) other c.args.b pc c.args.leave c.args.again) rest
    (c.in_ok-after.ensures ∙ ap (λ k. after + k + 1) (sym (length-map one.items instruction)))
    (c.in_ok-one.ensures tail other)
    ∙ ap (λ cs. arms_before c.in_ok-after.after cs rest) (sym (codes_next c.loop-arm.codes.items c.push.new.self.items one c.in_ok-push.ensures.items))

pub arm_codes-returns : goal.arm_codes-returns
arm_codes-returns t c = λ other.
    c.loop-arm.invariant other
    ∙ ap (λ l. arms_before c.loop-arm.after (codes c.loop-arm.codes.items) (λ pc. arms_code c.args.copy (moves_by c.args.moves.now) (arms_of l) other c.args.b pc c.args.leave c.args.again))
    (drop_of_length-le c.args.arms.now (omega arith))
