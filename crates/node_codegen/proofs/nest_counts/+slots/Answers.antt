use Rattle.std.proofs.Common.{◌≡◌, ◌+◌, ℕ, drop, max, arith, refl, sym, ap, ◌∙◌}
use Rattle.expression_rules.proofs.Lists.{drop_item}
use Rattle.program_code.specs.NestInstructions as forms
use Rattle.program_code.specs.NestInstructions.{slots_of_arms, slots_of_nest}
use Rattle.resolved_program.specs.Resolved.{arms_of, block_of, statement}
use Rattle.resolved_program.proofs.Rows.{arm_parts, do_vec, if_vec}
use Rattle.program_code.specs.NestCode.{PlainBody, plain, plain_arms, plain_else, plain_in}
use Rattle.node_codegen.proofs.nest_counts.+slots.Goals as goal

more_of : (most here n rest : ℕ) → n ≡ max most here → max n rest ≡ max most (max here rest)
more_of most here n rest is = omega (arith, is)

with_none : (n : ℕ) → max n 0 ≡ n
with_none n = omega arith

else_slots : (b : PlainBody) → slots_of_nest b ≡ slots_of_arms (plain_else b)
else_slots forms.NoText = refl
else_slots (forms.AndText a rest) = sym (with_none (slots_of_nest rest))
else_slots (forms.AndIf arms rest) = sym (with_none (max (slots_of_arms arms) (slots_of_nest rest)))
else_slots (forms.AndLoop bounds inner rest) = sym (with_none (max (4 + slots_of_nest inner) (slots_of_nest rest)))

pub arms_slots-loop-a-preserved : goal.arms_slots-loop-a-preserved
arms_slots-loop-a-preserved t c = λ other.
    let n = c.loop-a.a-index in
    let a = c.a-item.result in
    let tail = arms_of (drop (n + 1) c.args.arms.now) in
    more_of c.loop-a.most c.in_ok-here.here c.max-most.result (slots_of_arms (plain_arms tail other)) c.max-most.ensures
    ∙ ap (λ h. max c.loop-a.most (max h (slots_of_arms (plain_arms tail other)))) (c.in_ok-here.ensures ∙ ap (λ l. slots_of_nest (plain (block_of l))) c.deref.ensures.value)
    ∙ ap (λ l. max c.loop-a.most (slots_of_arms (plain_arms l other))) (sym (arm_parts a tail))
    ∙ ap (λ l. max c.loop-a.most (slots_of_arms (plain_arms (arms_of l) other))) (sym (drop_item c.args.arms.now n a c.loop-a-test.true c.a-item.is))
    ∙ c.loop-a.invariant other

pub statement_slots-returns-in_ok-rest-in-If : goal.statement_slots-returns-in_ok-rest-in-If
statement_slots-returns-in_ok-rest-in-If t c = λ line rest.
    ap (λ m. max m (slots_of_nest rest))
    (c.max.ensures
    ∙ ap (λ m. max c.in_ok-most-in-If.most m) (c.in_ok-rest-in-If.ensures ∙ ap (λ l. slots_of_nest (plain (block_of l))) c.deref-in-If.ensures.value ∙ else_slots (plain (block_of c.in-If.other.items)))
    ∙ c.in_ok-most-in-If.ensures (plain_else (plain (block_of c.in-If.other.items)))
    ∙ ap (λ l. slots_of_arms (plain_arms (arms_of l) (plain_else (plain (block_of c.in-If.other.items))))) c.deref.ensures.value)
    ∙ ap (λ st. slots_of_nest (plain_in line st rest)) (sym (ap statement c.in-If.is ∙ if_vec c.in-If.arms c.in-If.other))

pub statement_slots-returns-in_ok-all-in-Do : goal.statement_slots-returns-in_ok-all-in-Do
statement_slots-returns-in_ok-all-in-Do t c = λ line rest.
    ap (λ m. max m (slots_of_nest rest))
    (c.in_ok-all-in-Do.ensures ∙ ap (λ m. 4 + m) (c.in_ok-inner-in-Do.ensures ∙ ap (λ l. slots_of_nest (plain (block_of l))) c.deref-in-Do.ensures.value))
    ∙ ap (λ st. slots_of_nest (plain_in line st rest)) (sym (ap statement c.in-Do.is ∙ do_vec c.in-Do.field-0 c.in-Do.field-1 c.in-Do.body))
