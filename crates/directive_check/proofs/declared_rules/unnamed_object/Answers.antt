use Rattle.std.proofs.Common.{[], bytes_eq, false, ◌≡◌, subst}
use Rattle.directive_check.proofs.ListTurns.{find_next}
use Rattle.directive_check.proofs.Unnamed.{has_bytes}
use Rattle.directive_check.proofs.declared_rules.unnamed_object.Goals as goal

pub loop-object-preserved : goal.loop-object-preserved
loop-object-preserved c =
    find_next (λ o. bytes_eq [] o.name) c.args.objects.now c.loop-object.object-index c.object-item.result c.loop-object-test.true
    (subst (λ o. bytes_eq [] o.name ≡ false) c.object-item.is (has_bytes c.object-item.result.name c.bytes.ensures.valid)) c.loop-object.invariant
