use Rattle.std.proofs.Common.{◌≡◌, subst, rules}
use Rattle.std.specs.Arc.{arc_value}
use Rattle.owner_tables.specs.Views.{OwnersView}
use Rattle.node_program.specs.Fits.{FitsRows}
use Rattle.whole_machine.proofs.machine.WholeMachine.opening.Goals as goal

pub invariant_of-result : goal.invariant_of-result
invariant_of-result c =
    let program : arc_value c.args.program.now ≡ arc_value c.in_ok-try_clone.field-0 = search rules in
    let owners : c.args.owners.now ≡ c.in_ok-shared.field-0 = search rules in
    record {
      nodes = search rules;
      fits = subst (λ p. FitsRows p c.in_ok-shared.field-0.layouts) program (subst (λ (o : OwnersView). FitsRows (arc_value c.args.program.now) o.layouts) owners c.requires.fits);
    }
