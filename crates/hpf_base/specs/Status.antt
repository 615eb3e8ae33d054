-- Of a promise.
use Rattle.std.specs.Prelude.{ℕ}
use Rattle.hpf_base.specs.declared.status.Status.{Status}
use Rattle.hpf_base.specs.declared.status.Status.TheVariants.{Done, Refused, Usage, Fault, ReadFault, WriteFault, Memory, TooLong}

-- the number that the process exits with
abbrev pub exit_code_of : Status → ℕ
exit_code_of Done = 0
exit_code_of Refused = 1
exit_code_of Usage = 2
exit_code_of Fault = 3
exit_code_of ReadFault = 4
exit_code_of WriteFault = 5
exit_code_of Memory = 6
exit_code_of TooLong = 7
