use Rattle.std.proofs.Common.{◌≡◌, ◌++◌, OnOk, map, subst}
use Rattle.array_meaning.specs.Forall.{subscripts_in}
use Rattle.node_code.specs.Texts.{flat}
use Rattle.program_code.specs.ExpressionCode.{index_flat}
use Rattle.resolved_program.proofs.Forms.{apply_is, element_is}
use Rattle.node_codegen.proofs.forall_subscripts.+subscripts.Goals as goal

pub add_subscripts-returns-in-Element : goal.add_subscripts-returns-in-Element
add_subscripts-returns-in-Element t c =
    subst (λ e. OnOk c.add_elements.result (map flat c.add_elements.new.found.items ≡ map flat c.args.found.now.items ++ map index_flat (subscripts_in e)))
    (element_is c.args.t.now c.in-Element.field-0 c.in-Element.subscripts c.deref.result.now c.in-Element.is c.deref.ensures.value)
    c.add_elements.ensures

pub add_subscripts-returns-in-Apply : goal.add_subscripts-returns-in-Apply
add_subscripts-returns-in-Apply t c =
    subst (λ e. OnOk c.add_all_subscripts.result (map flat c.add_all_subscripts.new.found.items ≡ map flat c.args.found.now.items ++ map index_flat (subscripts_in e)))
    (apply_is c.args.t.now c.in-Apply.field-0 c.in-Apply.operands c.deref-in-Apply.result.now c.in-Apply.is c.deref-in-Apply.ensures.value)
    c.add_all_subscripts.ensures
