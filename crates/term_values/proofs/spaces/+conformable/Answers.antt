use Rattle.std.proofs.Common.{◌≡◌, subst, IfOk}
use Rattle.std.specs.List.{list_all}
use Rattle.array_meaning.specs.Sections.{is_conformable}
use Rattle.term_values.proofs.Operands.{sections_are}
use Rattle.term_values.proofs.spaces.+conformable.Goals as goal

pub are_conformable-returns-in-Operation : goal.are_conformable-returns-in-Operation
are_conformable-returns-in-Operation t c =
    subst (λ l. IfOk c.all_conformable.result (λ b. b ≡ list_all (is_conformable c.args.ns.now) l)) (sections_are c.args.x.now c.in-Operation.field-0 c.in-Operation.xs c.in-Operation.is) c.all_conformable.ensures
