use Rattle.std.proofs.Common.{◌≡◌, ℕ, ◌+◌, List, [], ◌∷◌, ◌++◌, OnOk, append_assoc, arith, drop, sym, ap, ◌∙◌, subst}
use Rattle.std.proofs.lemmas.List.{at_drop_more}
use Rattle.resolved_program.specs.declared.terms.SectionSubscript.{SectionSubscript as HeldSubscript}
use Rattle.resolved_program.specs.declared.terms.SectionSubscript.TheBlock.{Subscript as Subscript', Triplet as Triplet'}
use Rattle.program_code.specs.ExpressionCode.{code_of, control_code, control_slots, parts_code, subscripts_code, triplet}
use Rattle.node_code.specs.Instructions.{TestStride}
use Rattle.node_code.specs.Texts.{instructions}
use Rattle.resolved_program.proofs.Forms.{apply_is, element_is, section_is}
use Rattle.resolved_program.specs.Resolved.{subscripts_of, term}
use Rattle.expression_code.specs.Subscripts.{subscript_code, subscript_slots}
use Rattle.expression_code.proofs.code.+code.Goals as goal

pub add_code-returns-in-Element : goal.add_code-returns-in-Element
add_code-returns-in-Element t c =
    subst (λ w. OnOk c.add_element.result (instructions c.add_element.new.code.items ≡ instructions c.args.code.now.items ++ code_of c.args.line c.args.b w))
    (element_is c.args.t.now _ c.in-Element.subscripts c.deref.result.now c.in-Element.is c.deref.ensures.value)
    c.add_element.ensures

pub add_code-returns-in-Apply : goal.add_code-returns-in-Apply
add_code-returns-in-Apply t c =
    subst (λ w. OnOk c.add_operation.result (instructions c.add_operation.new.code.items ≡ instructions c.args.code.now.items ++ code_of c.args.line c.args.b w))
    (apply_is c.args.t.now _ c.in-Apply.operands c.deref-in-Apply.result.now c.in-Apply.is c.deref-in-Apply.ensures.value)
    c.add_operation.ensures

pub add_parts-returns-in-Element : goal.add_parts-returns-in-Element
add_parts-returns-in-Element t c =
    subst (λ w. OnOk c.add_element.result (instructions c.add_element.new.code.items ≡ instructions c.args.code.now.items ++ parts_code c.args.line c.args.b w))
    (element_is c.args.t.now _ c.in-Element.subscripts c.deref.result.now c.in-Element.is c.deref.ensures.value)
    c.add_element.ensures

pub add_parts-returns-in-Section : goal.add_parts-returns-in-Section
add_parts-returns-in-Section t c =
    subst (λ w. OnOk c.add_subscripts.result (instructions c.add_subscripts.new.code.items ≡ instructions c.args.code.now.items ++ parts_code c.args.line c.args.b w))
    (section_is c.args.t.now _ c.in-Section.subscripts c.deref-in-Section.result.now c.in-Section.is c.deref-in-Section.ensures.value)
    c.add_subscripts.ensures

pub add_parts-returns-in-Apply : goal.add_parts-returns-in-Apply
add_parts-returns-in-Apply t c =
    subst (λ w. OnOk c.add_all_parts.result (instructions c.add_all_parts.new.code.items ≡ instructions c.args.code.now.items ++ parts_code c.args.line c.args.b w))
    (apply_is c.args.t.now _ c.in-Apply.operands c.deref-in-Apply.result.now c.in-Apply.is c.deref-in-Apply.ensures.value)
    c.add_all_parts.ensures

-- the code of one subscript more
one_more : (line at next : ℕ) (d : HeldSubscript) (ds : List HeldSubscript) → next ≡ at + subscript_slots d →
    subscripts_code line at (subscripts_of (d ∷ ds)) ≡ subscript_code line at d ++ subscripts_code line next (subscripts_of ds)
one_more line at next (Subscript' t) ds e = ap (λ n. code_of line at (term t) ++ subscripts_code line n (subscripts_of ds)) (sym e)
one_more line at next (Triplet' first last step) ds e =
    let c = triplet (term first) (term last) (term step) in
    let slot : ℕ = at + control_slots c in
    let number : slot + 3 ≡ next = omega (arith, e) in
    ap (λ n. control_code line at c ++ TestStride line (slot + 2) ∷ subscripts_code line n (subscripts_of ds)) number
    ∙ sym (append_assoc (control_code line at c) (TestStride line (slot + 2) ∷ []) (subscripts_code line next (subscripts_of ds)))

pub add_subscripts-loop-d-preserved : goal.add_subscripts-loop-d-preserved
add_subscripts-loop-d-preserved t c =
    let n = c.loop-d.d-index in
    let at = c.loop-d.at in
    let d = c.d-item.result in
    let line = c.args.line in
    let before = instructions c.loop-d.code.items in
    let ds = drop (n + 1) c.args.subscripts.now in
    let rest = subscripts_code line c.in_ok-at.at (subscripts_of ds) in
    let now = λ (l : List HeldSubscript). before ++ subscripts_code line at (subscripts_of l) in
    ap (λ l. l ++ rest) c.in_ok-add_subscript.ensures
    ∙ append_assoc before (subscript_code line at d) rest
    ∙ ap (λ l. before ++ l) (sym (one_more line at c.in_ok-at.at d ds (c.in_ok-at.ensures ∙ ap (λ m. at + m) c.in_ok-subscript_slots.ensures)))
    ∙ ap (λ x. now (x ∷ ds)) c.d-item.is
    ∙ sym (at_drop_more now c.args.subscripts.now n d c.loop-d-test.true)
    ∙ c.loop-d.invariant
