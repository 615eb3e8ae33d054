use Rattle.distribution_rules.proofs.DistributedMaps.{gives_mapping}
use Rattle.distribution_rules.proofs.promises.distributed_maps.Goals as goal

pub returns : goal.returns
returns c = gives_mapping
