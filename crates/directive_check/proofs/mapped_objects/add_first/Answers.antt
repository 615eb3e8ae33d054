use Rattle.std.proofs.Common.{◌≡◌, ◌∷◌, ◌++◌, [], subst}
use Rattle.directive_check.specs.MappedObjects.{how_mapped}
use Rattle.directive_check.specs.MappedSteps.{mapped}
use Rattle.directive_check.proofs.MappedTurns.{found_before}
use Rattle.directive_check.proofs.mapped_objects.add_first.Goals as goal

pub returns-in-Some : goal.returns-in-Some
returns-in-Some c = λ x.
    subst (λ l. how_mapped (mapped l) x ≡ how_mapped (mapped (l ++ c.args.object.now ∷ [])) x) c.deref.ensures.value
    (found_before c.deref.result.now c.args.object.now c.in-Some.field-0.now c.in-Some.ensures x)
