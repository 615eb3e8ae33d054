use Rattle.nest_order.proofs.ScalarLaws.{noted_end}
use Rattle.nest_order.proofs.scalars.scalar_by_its_copies.Goals as goal

pub returns : goal.returns
returns g c one kinds reads written reducing start n items row m free is ends = noted_end one kinds reads written reducing start n items free row is m ends
