use Rattle.hpf_reader.proofs.Programs.{one_tree}
use Rattle.hpf_reader.proofs.promises.one_tree.Goals as goal

pub returns : goal.returns
returns c = one_tree
