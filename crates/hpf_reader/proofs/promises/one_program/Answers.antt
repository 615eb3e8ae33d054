use Rattle.hpf_reader.proofs.Programs.{one_program}
use Rattle.hpf_reader.proofs.promises.one_program.Goals as goal

pub returns : goal.returns
returns c = one_program
