use Rattle.std.proofs.Common.{◌≡◌, [], drop, bytes_eq}
use Rattle.std.specs.Prelude.{find}
use Rattle.directive_check.proofs.declared_rules.unnamed_object.Given as goal

abbrev pub invariant-loop-object : goal.invariant-loop-object
invariant-loop-object l = find (λ o. bytes_eq [] o.name) (drop l.object-index l.objects) ≡ find (λ o. bytes_eq [] o.name) l.objects
