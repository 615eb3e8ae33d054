use Rattle.nest_order.proofs.ScalarLaws.{loops_end}
use Rattle.nest_order.proofs.scalars.one_scalar_or_copies.Goals as goal

pub returns : goal.returns
returns g c one kinds reads written reducing start n items free = loops_end one kinds reads written reducing start n items free
