use Rattle.std.proofs.Common.{◌≡◌, ◌+◌, ◌||◌, true, false, nat_eq, drop, sym, ap, ◌∙◌}
use Rattle.std.specs.Prelude.{is_some}
use Rattle.std.specs.Option.{option_or}
use Rattle.std.proofs.lemmas.List.Folds.{list_any-append}
use Rattle.expression_rules.proofs.Lists.{drop_item}
use Rattle.array_meaning.specs.Iterations.{is_in}
use Rattle.array_meaning.specs.Touches.{assigned_by, assigned_in, assigned_in_arms}
use Rattle.resolved_program.specs.declared.statements.Arm.{out-Arm}
use Rattle.resolved_program.specs.Resolved.{arms_of, block_of, statement}
use Rattle.resolved_program.proofs.Rows.{arm_parts, do_vec, if_vec}
use Rattle.program_code.specs.NestCode.{rights_in, rights_in_arms, rights_of}
use Rattle.node_codegen.specs.NestScalars.{first_operator}
use Rattle.node_codegen.proofs.NestOperators.{first_here, first_later, first_of_both, in_here, in_later, some_of_both}
use Rattle.node_codegen.proofs.nest_scalars.+first_operator.Goals as goal

pub first_operator-returns-then-is_some-clause-operator : goal.first_operator-returns-then-is_some-clause-operator
first_operator-returns-then-is_some-clause-operator t c =
    let k = c.args.k in
    let s = c.s-item.result in
    first_here (rights_in k (statement s.what)) (rights_of k (block_of (drop (c.loop-s.s-index + 1) c.args.statements.now))) c.operator_by-first.result c.operator_by-first.ensures.operator
    (sym c.is_some.ensures ∙ c.if-is_some.true)
    ∙ ap (λ l. first_operator (rights_of k (block_of l))) (sym (drop_item c.args.statements.now c.loop-s.s-index s c.loop-s-test.true c.s-item.is))
    ∙ c.loop-s.invariant.operator

pub first_operator-loop-s-preserved : goal.first_operator-loop-s-preserved
first_operator-loop-s-preserved t c =
    let k = c.args.k in
    let s = c.s-item.result in
    let rest = block_of (drop (c.loop-s.s-index + 1) c.args.statements.now) in
    let at = drop_item c.args.statements.now c.loop-s.s-index s c.loop-s-test.true c.s-item.is in
    let none : is_some c.operator_by-first.result ≡ false = sym c.is_some.ensures ∙ c.if-is_some.false in
    record {
      operator = sym (first_later (rights_in k (statement s.what)) (rights_of k rest) c.operator_by-first.result c.operator_by-first.ensures.operator none)
          ∙ ap (λ l. first_operator (rights_of k (block_of l))) (sym at) ∙ c.loop-s.invariant.operator;
      assigned = sym (in_later k (assigned_by (statement s.what)) (assigned_in rest) (sym c.operator_by-first.ensures.assigned ∙ none))
          ∙ ap (λ l. is_in k (assigned_in (block_of l))) (sym at) ∙ c.loop-s.invariant.assigned;
    }

pub operator_by-returns-in-If-clause-operator : goal.operator_by-returns-in-If-clause-operator
operator_by-returns-in-If-clause-operator t c =
    let k = c.args.k in
    let arms = arms_of c.in-If.arms.items in
    let other = block_of c.in-If.other.items in
    c.earlier.ensures
    ∙ (λ i. option_or ((c.operator_in_arms.ensures.operator ∙ ap (λ l. first_operator (rights_in_arms k (arms_of l))) c.deref.ensures.value) i)
    ((c.first_operator.ensures.operator ∙ ap (λ l. first_operator (rights_of k (block_of l))) c.deref-in-If.ensures.value) i))
    ∙ first_of_both (rights_in_arms k arms) (rights_of k other)
    ∙ ap (λ st. first_operator (rights_in k st)) (sym (ap statement c.in-If.is ∙ if_vec c.in-If.arms c.in-If.other))

pub operator_by-returns-in-If-clause-assigned : goal.operator_by-returns-in-If-clause-assigned
operator_by-returns-in-If-clause-assigned t c =
    let k = c.args.k in
    let arms = arms_of c.in-If.arms.items in
    let other = block_of c.in-If.other.items in
    ap is_some c.earlier.ensures
    ∙ some_of_both c.operator_in_arms.result c.first_operator.result
    ∙ (λ i. (c.operator_in_arms.ensures.assigned ∙ ap (λ l. is_in k (assigned_in_arms (arms_of l))) c.deref.ensures.value) i
    || (c.first_operator.ensures.assigned ∙ ap (λ l. is_in k (assigned_in (block_of l))) c.deref-in-If.ensures.value) i)
    ∙ sym (list_any-append (nat_eq k) (assigned_in_arms arms) (assigned_in other))
    ∙ ap (λ st. is_in k (assigned_by st)) (sym (ap statement c.in-If.is ∙ if_vec c.in-If.arms c.in-If.other))

pub operator_by-returns-in-Do-clause-operator : goal.operator_by-returns-in-Do-clause-operator
operator_by-returns-in-Do-clause-operator t c =
    let k = c.args.k in
    c.first_operator-in-Do.ensures.operator
    ∙ ap (λ l. first_operator (rights_of k (block_of l))) c.deref-in-Do.ensures.value
    ∙ ap (λ st. first_operator (rights_in k st)) (sym (ap statement c.in-Do.is ∙ do_vec c.in-Do.field-0 c.in-Do.field-1 c.in-Do.body))

pub operator_by-returns-in-Do-clause-assigned : goal.operator_by-returns-in-Do-clause-assigned
operator_by-returns-in-Do-clause-assigned t c =
    let k = c.args.k in
    c.first_operator-in-Do.ensures.assigned
    ∙ ap (λ l. is_in k (assigned_in (block_of l))) c.deref-in-Do.ensures.value
    ∙ ap (λ st. is_in k (assigned_by st)) (sym (ap statement c.in-Do.is ∙ do_vec c.in-Do.field-0 c.in-Do.field-1 c.in-Do.body))

pub operator_in_arms-returns-then-is_some-clause-operator : goal.operator_in_arms-returns-then-is_some-clause-operator
operator_in_arms-returns-then-is_some-clause-operator t c =
    let k = c.args.k in
    let a = c.a-item.result in
    let tail = arms_of (drop (c.loop-a.a-index + 1) c.args.arms.now) in
    first_here (rights_of k (block_of (out-Arm a).body.items)) (rights_in_arms k tail) c.first_operator-first.result
    (c.first_operator-first.ensures.operator ∙ ap (λ l. first_operator (rights_of k (block_of l))) c.deref.ensures.value) (sym c.is_some.ensures ∙ c.if-is_some.true)
    ∙ ap (λ l. first_operator (rights_in_arms k l)) (sym (arm_parts a tail))
    ∙ ap (λ l. first_operator (rights_in_arms k (arms_of l))) (sym (drop_item c.args.arms.now c.loop-a.a-index a c.loop-a-test.true c.a-item.is))
    ∙ c.loop-a.invariant.operator

pub operator_in_arms-returns-then-is_some-clause-assigned : goal.operator_in_arms-returns-then-is_some-clause-assigned
operator_in_arms-returns-then-is_some-clause-assigned t c =
    let k = c.args.k in
    let a = c.a-item.result in
    let tail = arms_of (drop (c.loop-a.a-index + 1) c.args.arms.now) in
    let some : is_some c.first_operator-first.result ≡ true = sym c.is_some.ensures ∙ c.if-is_some.true in
    some
    ∙ sym (in_here k (assigned_in (block_of (out-Arm a).body.items)) (assigned_in_arms tail)
    (sym (c.first_operator-first.ensures.assigned ∙ ap (λ l. is_in k (assigned_in (block_of l))) c.deref.ensures.value) ∙ some))
    ∙ ap (λ l. is_in k (assigned_in_arms l)) (sym (arm_parts a tail))
    ∙ ap (λ l. is_in k (assigned_in_arms (arms_of l))) (sym (drop_item c.args.arms.now c.loop-a.a-index a c.loop-a-test.true c.a-item.is))
    ∙ c.loop-a.invariant.assigned

pub operator_in_arms-loop-a-preserved : goal.operator_in_arms-loop-a-preserved
operator_in_arms-loop-a-preserved t c =
    let k = c.args.k in
    let a = c.a-item.result in
    let body = block_of (out-Arm a).body.items in
    let tail = arms_of (drop (c.loop-a.a-index + 1) c.args.arms.now) in
    let at = drop_item c.args.arms.now c.loop-a.a-index a c.loop-a-test.true c.a-item.is in
    let none : is_some c.first_operator-first.result ≡ false = sym c.is_some.ensures ∙ c.if-is_some.false in
    record {
      operator = sym (first_later (rights_of k body) (rights_in_arms k tail) c.first_operator-first.result
          (c.first_operator-first.ensures.operator ∙ ap (λ l. first_operator (rights_of k (block_of l))) c.deref.ensures.value) none)
          ∙ ap (λ l. first_operator (rights_in_arms k l)) (sym (arm_parts a tail))
          ∙ ap (λ l. first_operator (rights_in_arms k (arms_of l))) (sym at) ∙ c.loop-a.invariant.operator;
      assigned = sym (in_later k (assigned_in body) (assigned_in_arms tail)
          (sym (c.first_operator-first.ensures.assigned ∙ ap (λ l. is_in k (assigned_in (block_of l))) c.deref.ensures.value) ∙ none))
          ∙ ap (λ l. is_in k (assigned_in_arms l)) (sym (arm_parts a tail))
          ∙ ap (λ l. is_in k (assigned_in_arms (arms_of l))) (sym at) ∙ c.loop-a.invariant.assigned;
    }
