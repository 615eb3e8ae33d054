use Rattle.std.proofs.Common.{◌≡◌, ℕ, ◌+◌, [], ◌∷◌, ◌++◌, None, Some, drop, arith, refl, sym, ap, ◌∙◌, subst}
use Rattle.std.proofs.lemmas.List.{append-nil, length-map}
use Rattle.std.proofs.Math.ListN.{drop_of_length-le}
use Rattle.expression_rules.proofs.Lists.{drop_item}
use Rattle.array_meaning.specs.Statements.{If}
use Rattle.nest_syntax.specs.Assigning.{ToElement}
use Rattle.program_code.specs.NestInstructions.{AndArm, NoArm, count_nest, loop_instructions}
use Rattle.node_code.specs.Texts.{instruction, instructions}
use Rattle.resolved_program.specs.Resolved.{arms_of, block_of, loop_of, statement, term, terms_of}
use Rattle.resolved_program.proofs.Rows.{arm_parts, do_vec, if_vec}
use Rattle.program_code.specs.NestCode.{bounds_in, plain, plain_arms, plain_else}
use Rattle.node_codegen.specs.NestNames.{arms_by, body_by, texts_by}
use Rattle.node_codegen.specs.NestTexts.{IsTextCode, arm_body, arm_test, statement_conditions}
use Rattle.node_codegen.proofs.NestBody.{arm_is, bare_else, put_after, some_else, with_code}
use Rattle.node_codegen.proofs.nest_body.+body.Goals as goal

pub body_code-loop-s-preserved : goal.body_code-loop-s-preserved
body_code-loop-s-preserved t c =
    let n = c.loop-s.s-index in
    let s = c.s-item.result in
    let w = c.args.w.now in
    let one = c.in_ok-one.one in
    let rest = plain (block_of (drop (n + 1) c.args.statements.now)) in
    put_after c.loop-s.code.items c.put_at.new.code.items one.items _ _ _ c.in_ok-at.ensures.code c.loop-s.invariant
    (ap (λ l. body_by w (plain (block_of l)) c.args.guard c.loop-s.next c.args.b c.loop-s.at) (drop_item c.args.statements.now n s c.loop-s-test.true c.s-item.is)
    ∙ c.in_ok-one.ensures rest
    ∙ (λ i. instructions one.items ++ body_by w rest c.args.guard (sym (c.in_ok-following.ensures ∙ ap (λ m. c.loop-s.next + m) c.in_ok-statement_conditions.ensures) i) c.args.b
    (sym (c.in_ok-at.ensures.place ∙ ap (λ m. c.loop-s.at + m) (sym (length-map one.items instruction))) i)))

pub body_code-returns : goal.body_code-returns
body_code-returns t c =
    sym (c.loop-s.invariant
    ∙ ap (λ l. instructions c.loop-s.code.items ++ body_by c.args.w.now (plain (block_of l)) c.args.guard c.loop-s.next c.args.b c.loop-s.at)
    (drop_of_length-le c.args.statements.now (omega arith))
    ∙ append-nil (instructions c.loop-s.code.items))

pub statement_code-returns-in_ok-code-in-AssignScalar : goal.statement_code-returns-in_ok-code-in-AssignScalar
statement_code-returns-in_ok-code-in-AssignScalar t c =
    let k = c.args.k in
    subst (λ a. IsTextCode c.args.w.now c.args.line (statement a) c.args.guard k c.args.b c.args.pc (instructions c.in_ok-code-in-AssignScalar.code.items)) (sym c.in-AssignScalar.is)
    (λ rest. with_code c.args.w.now rest c.args.guard k (k + 0) c.args.b c.args.pc _ _ c.in_ok-code-in-AssignScalar.ensures (omega arith))

pub statement_code-returns-in_ok-code-in-AssignElement : goal.statement_code-returns-in_ok-code-in-AssignElement
statement_code-returns-in_ok-code-in-AssignElement t c =
    let k = c.args.k in
    subst (λ a. IsTextCode c.args.w.now c.args.line (statement a) c.args.guard k c.args.b c.args.pc (instructions c.in_ok-code-in-AssignElement.code.items)) (sym c.in-AssignElement.is)
    (λ rest. with_code c.args.w.now rest c.args.guard k (k + 0) c.args.b c.args.pc _ _ (c.in_ok-code-in-AssignElement.ensures
    ∙ ap (λ ts. texts_by c.args.w.now c.args.guard (record { line = c.args.line; text = ToElement c.in-AssignElement.a (terms_of ts) (term c.in-AssignElement.right) })) c.deref.ensures.value) (omega arith))

pub statement_code-returns-in_ok-code-in-If : goal.statement_code-returns-in_ok-code-in-If
statement_code-returns-in_ok-code-in-If t c =
    let w = c.args.w.now in
    let k = c.args.k in
    let b = c.args.b in
    let made = c.in_ok-made-in-If.made in
    let arms = arms_of c.in-If.arms.items in
    let other = block_of c.in-If.other.items in
    let last = plain_else (plain other) in
    let code = instructions c.in_ok-code-in-If.code.items in
    let whole = arms_by w (plain_arms arms last) c.args.guard [] k b c.args.pc in
    let first : whole ≡ instructions made.code.items ++ arms_by w last c.args.guard made.earlier.items made.next b made.after =
    ap (λ l. arms_by w (plain_arms (arms_of l) last) c.args.guard [] k b c.args.pc) (sym c.deref-in-If.ensures.value) ∙ c.in_ok-made-in-If.ensures last in
    let same : code ≡ whole = c.in_ok-code-in-If.ensures
    ∙ ap (λ l. instructions made.code.items ++ l) (c.in_ok-rest-in-If.ensures
    ∙ (λ i. arms_by w (plain_else (plain (block_of (c.deref-in-If-2.ensures.value i)))) c.args.guard (c.deref-in-If-3.ensures.value i) made.next b made.after))
    ∙ sym first in
    let number : ℕ = k + statement_conditions (If arms other) in
    subst (λ st. IsTextCode w c.args.line st c.args.guard k b c.args.pc code) (sym (ap statement c.in-If.is ∙ if_vec c.in-If.arms c.in-If.other))
    (λ rest. with_code w rest c.args.guard number number b c.args.pc whole code same refl)

pub statement_code-returns-in_ok-code-in-Do : goal.statement_code-returns-in_ok-code-in-Do
statement_code-returns-in_ok-code-in-Do t c =
    let w = c.args.w.now in
    let k = c.args.k in
    let b = c.args.b in
    let body = plain (block_of c.in-Do.body.items) in
    let code = instructions c.in_ok-code-in-Do.code.items in
    let turns = loop_instructions w.line (bounds_in (loop_of c.in-Do.l)) b c.args.pc in
    let whole = turns (body_by w body c.args.guard k (b + 4) (c.args.pc + 5)) in
    let same : code ≡ whole = c.in_ok-code-in-Do.ensures
    ∙ ap turns (c.in_ok-inner-in-Do.ensures
    ∙ (λ i. body_by w (plain (block_of (c.deref-in-Do.ensures.value i))) c.args.guard k (c.in_ok-slots-in-Do.ensures i) (c.in_ok-inside-in-Do.ensures i))) in
    let number : ℕ = k + count_nest body in
    subst (λ st. IsTextCode w c.args.line st c.args.guard k b c.args.pc code) (sym (ap statement c.in-Do.is ∙ do_vec c.in-Do.field-0 c.in-Do.l c.in-Do.body))
    (λ rest. with_code w rest c.args.guard number number b c.args.pc whole code same refl)

pub arms_code-loop-a-preserved : goal.arms_code-loop-a-preserved
arms_code-loop-a-preserved t c = λ other.
    let n = c.loop-a.a-index in
    let a = c.a-item.result in
    let w = c.args.w.now in
    let b = c.args.b in
    let guard = c.args.guard in
    let one = c.in_ok-one.one in
    let tail = arms_of (drop (n + 1) c.args.arms.now) in
    let rest = plain_arms tail other in
    let earlier = c.loop-a.earlier.items in
    let number : c.in_ok-following.following ≡ c.loop-a.next + 1 + count_nest (arm_body a) =
    c.in_ok-following.ensures ∙ ap (λ l. c.loop-a.next + 1 + count_nest (plain (block_of l))) c.deref.ensures.value in
    put_after c.loop-a.code.items c.put_at.new.code.items one.items _ _ _ c.in_ok-after.ensures.code (c.loop-a.invariant other)
    (ap (λ l. arms_by w (plain_arms (arms_of l) other) guard earlier c.loop-a.next b c.loop-a.after) (drop_item c.args.arms.now n a c.loop-a-test.true c.a-item.is)
    ∙ ap (λ l. arms_by w (plain_arms l other) guard earlier c.loop-a.next b c.loop-a.after) (arm_parts a tail)
    ∙ ap (λ l. arms_by w (AndArm (arm_test a) (arm_body a) rest) guard l c.loop-a.next b c.loop-a.after) (sym c.deref-in-loop-a.ensures.value)
    ∙ c.in_ok-one.ensures rest
    ∙ (λ i. instructions one.items ++ arms_by w rest guard ((ap (λ l. c.loop-a.next ∷ l) c.deref-in-loop-a.ensures.value ∙ sym (c.in_ok-earlier.ensures ∙ ap (λ l. c.loop-a.next ∷ l) c.deref-in-loop-a-2.ensures.value)) i) (sym number i) b
    (sym (c.in_ok-after.ensures.place ∙ ap (λ m. c.loop-a.after + m) (sym (length-map one.items instruction))) i)))

pub arms_code-returns : goal.arms_code-returns
arms_code-returns t c = λ other.
    c.loop-a.invariant other
    ∙ ap (λ l. instructions c.loop-a.code.items ++ arms_by c.args.w.now (plain_arms (arms_of l) other) c.args.guard c.loop-a.earlier.items c.loop-a.next c.args.b c.loop-a.after)
    (drop_of_length-le c.args.arms.now (omega arith))

pub arm_code-returns : goal.arm_code-returns
arm_code-returns t c =
    let a = c.args.a.now in
    arm_is c.args.w.now (arm_test a) (arm_body a) c.args.guard c.args.earlier.now c.args.k c.args.b c.args.pc c.in_ok-copy.copy (instruction c.in_ok-test.test)
    (instructions c.in_ok-body.body.items) (instructions c.in_ok-code.code.items) c.in_ok-copy.ensures c.in_ok-test.ensures
    (c.in_ok-body.ensures
    ∙ (λ i. body_by c.args.w.now (plain (block_of (c.deref.ensures.value i))) (Some c.args.k) (c.in_ok-next.ensures i) c.args.b (c.in_ok-inside.ensures i)))
    c.in_ok-code.ensures

pub else_code-returns-then-is_bare : goal.else_code-returns-then-is_bare
else_code-returns-then-is_bare t c =
    ap instructions c.new.ensures.items
    ∙ ap (λ l. arms_by c.args.w.now l c.args.guard c.args.earlier.now c.args.k c.args.b c.args.pc) (sym (bare_else (plain (block_of c.args.other.now)) (sym c.is_bare.ensures ∙ c.if-is_bare.true)))

pub else_code-returns : goal.else_code-returns
else_code-returns t c =
    let w = c.args.w.now in
    let other = plain (block_of c.args.other.now) in
    let earlier = c.args.earlier.now in
    let code = instructions c.in_ok-code.code.items in
    sym (append-nil code)
    ∙ sym (arm_is w None other c.args.guard earlier c.args.k c.args.b c.args.pc c.in_ok-copy.copy (instruction c.in_ok-test.test)
    (instructions c.in_ok-body.body.items) code c.in_ok-copy.ensures c.in_ok-test.ensures
    (c.in_ok-body.ensures ∙ (λ i. body_by w other (Some c.args.k) (c.in_ok-next.ensures i) c.args.b (c.in_ok-inside.ensures i)))
    c.in_ok-code.ensures NoArm)
    ∙ ap (λ l. arms_by w l c.args.guard earlier c.args.k c.args.b c.args.pc) (sym (some_else other (sym c.is_bare.ensures ∙ c.if-is_bare.false)))
