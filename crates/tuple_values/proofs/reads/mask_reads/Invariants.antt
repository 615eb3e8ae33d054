use Rattle.std.proofs.Common.{◌≡◌, ◌++◌, drop, map}
use Rattle.code_meaning.specs.NestStatements.{when_spots}
use Rattle.node_code.specs.Texts.{when}
use Rattle.tuple_values.specs.Spots.{reads_of}
use Rattle.tuple_values.proofs.reads.mask_reads.Given as goal

-- the reads so far, before those of the masks that are left
abbrev pub invariant-loop-w : goal.invariant-loop-w
invariant-loop-w l =
    reads_of l.initial.reads.items ++ when_spots (map when l.whens) l.tuple ≡ reads_of l.reads.items ++ when_spots (map when (drop l.w-index l.whens)) l.tuple
