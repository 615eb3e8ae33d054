use Rattle.nest_order.proofs.Numbering.{numbered, back_to_tuple, is_tuple, back_to_number}
use Rattle.nest_order.proofs.nest_index.numbered_tuples.Goals as goal

pub returns-clause-numbered : goal.returns-clause-numbered
returns-clause-numbered c = numbered

pub returns-clause-back_to_tuple : goal.returns-clause-back_to_tuple
returns-clause-back_to_tuple c = back_to_tuple

pub returns-clause-tuple : goal.returns-clause-tuple
returns-clause-tuple c = is_tuple

pub returns-clause-back_to_number : goal.returns-clause-back_to_number
returns-clause-back_to_number c = back_to_number
