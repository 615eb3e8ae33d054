use Rattle.std.proofs.Common.{◌≡◌, ◌++◌, drop}
use Rattle.code_meaning.specs.NestStatements.{row_spots}
use Rattle.tuple_values.specs.Spots.{reads_of}
use Rattle.tuple_values.proofs.reads.copy_reads.Given as goal

-- the reads so far, before those of the copies that are left
abbrev pub invariant-loop-row : goal.invariant-loop-row
invariant-loop-row l = reads_of l.initial.reads.items ++ row_spots l.rows l.tuple ≡ reads_of l.reads.items ++ row_spots (drop l.row-index l.rows) l.tuple
