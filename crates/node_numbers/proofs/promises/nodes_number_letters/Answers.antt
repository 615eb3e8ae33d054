use Rattle.node_numbers.proofs.Numbered.{openings-lettered}
use Rattle.node_numbers.proofs.promises.nodes_number_letters.Goals as goal

pub returns : goal.returns
returns g c faults meaning count m p a e = openings-lettered faults meaning count m p a e
