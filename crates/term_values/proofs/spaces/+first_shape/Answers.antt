use Rattle.std.proofs.Common.{◌≡◌, ℕ, List, Global, subst, IfOk}
use Rattle.std.specs.Prelude.{Vec, option_map}
use Rattle.term_values.specs.Spaces.{first_shape}
use Rattle.term_values.proofs.Operands.{sections_are}
use Rattle.term_values.proofs.spaces.+first_shape.Goals as goal

pub first_shape-returns-in-Operation : goal.first_shape-returns-in-Operation
first_shape-returns-in-Operation t c =
    subst (λ l. IfOk c.first_shape_of_all.result (λ p. option_map {T = Vec ℕ Global} {U = List ℕ} (λ ns. ns.items) p ≡ first_shape l)) (sections_are c.args.x.now c.in-Operation.field-0 c.in-Operation.xs c.in-Operation.is) c.first_shape_of_all.ensures
