use Rattle.std.proofs.Common.{◌≡◌, ◌∙◌, ◌++◌, append_assoc, ap, subst, OnOk}
use Rattle.array_meaning.specs.Touches.{assigned_in, assigned_in_arms}
use Rattle.expression_rules.proofs.Lists.{drop_item}
use Rattle.resolved_program.specs.Resolved.{arms_of, block_of}
use Rattle.resolved_program.proofs.Made.{joined_next}
use Rattle.interference.proofs.AssignedParts.{if_assigned, do_assigned, arm_assigned}
use Rattle.interference.proofs.assigned.+assigned.Goals as goal

pub add_assigned_by-returns-in_ok-add_assigned_in_arms-in-If : goal.add_assigned_by-returns-in_ok-add_assigned_in_arms-in-If
add_assigned_by-returns-in_ok-add_assigned_in_arms-in-If t c =
    subst (λ ks. OnOk c.add_assigned.result (c.add_assigned.new.names.items ≡ ks))
    (ap (λ ks. ks ++ assigned_in (block_of c.in-If.other.items)) c.in_ok-add_assigned_in_arms-in-If.ensures
    ∙ append_assoc c.args.names.now.items (assigned_in_arms (arms_of c.in-If.arms.items)) (assigned_in (block_of c.in-If.other.items))
    ∙ ap (λ ks. c.args.names.now.items ++ ks) (if_assigned c.args.stmt.now.what c.in-If.arms c.in-If.other c.in-If.is))
    c.add_assigned.ensures

pub add_assigned_by-returns-in-Do : goal.add_assigned_by-returns-in-Do
add_assigned_by-returns-in-Do t c =
    subst (λ ks. OnOk c.add_assigned-in-Do.result (c.add_assigned-in-Do.new.names.items ≡ c.args.names.now.items ++ ks))
    (do_assigned c.args.stmt.now.what _ c.in-Do.field-1 c.in-Do.body c.in-Do.is) c.add_assigned-in-Do.ensures

pub add_assigned_in_arms-loop-arm-preserved : goal.add_assigned_in_arms-loop-arm-preserved
add_assigned_in_arms-loop-arm-preserved t c =
    joined_next (λ as'. assigned_in_arms (arms_of as')) c.deref-arm-items.result.now c.loop-arm.arm-index c.arm-item.result c.loop-arm.names.items c.add_assigned.new.names.items _ _
    (drop_item _ c.loop-arm.arm-index _ c.loop-arm-test.true c.arm-item.is) c.in_ok-add_assigned.ensures (arm_assigned c.arm-item.result _) c.loop-arm.invariant
