use Rattle.std.proofs.Common.{◌≡◌, ◌++◌, drop}
use Rattle.node_code.specs.Texts.{forms_of}
use Rattle.tuple_values.specs.Here.{all_reads_here}
use Rattle.tuple_values.specs.Spots.{reads_of}
use Rattle.tuple_values.proofs.reads.+form_reads.Given as goal

-- the reads so far, before those of the operands that are left
abbrev pub invariant-all_form_reads-loop-f : goal.invariant-all_form_reads-loop-f
invariant-all_form_reads-loop-f l =
    reads_of l.initial.reads.items ++ all_reads_here l.here (forms_of l.f-items) ≡ reads_of l.reads.items ++ all_reads_here l.here (forms_of (drop l.f-index l.f-items))
