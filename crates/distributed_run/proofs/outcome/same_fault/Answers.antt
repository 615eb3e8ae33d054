use Rattle.std.proofs.Common.{ap, ◌∙◌}
use Rattle.code_meaning.specs.FaultNumbers.{fault_of}
use Rattle.code_meaning.specs.FaultValues.{fault_back}
use Rattle.term_values.specs.Faults.{fault}
use Rattle.distributed_run.proofs.outcome.same_fault.Goals as goal

pub returns : goal.returns
returns c = c.in_ok-same.ensures ∙ ap fault_of (c.deref.ensures.value ∙ c.in_ok-numbers.ensures) ∙ fault_back (fault c.args.f.now)
