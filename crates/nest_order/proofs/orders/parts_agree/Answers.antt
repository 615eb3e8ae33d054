use Rattle.nest_order.proofs.Parting.{plain_kept}
use Rattle.nest_order.proofs.orders.parts_agree.Goals as goal

pub returns : goal.returns
returns g c act start n parts touches i j before m free = plain_kept act start n parts touches free i j before m
