use Rattle.owner_tables.specs.Columns.{part_in}
use Rattle.owner_tables.specs.Samples.{AreSamples}
use Rattle.owner_tables.proofs.SampleLaws.{AreMet}
use Rattle.owner_tables.proofs.samples.sample_places.Given as goal

-- of the places so far
abbrev pub invariant-loop-place : goal.invariant-loop-place
invariant-loop-place l =
    AreSamples l.place (part_in l.one) (part_in l.other) l.places.items × AreMet (part_in l.one) (part_in l.other) l.places.items l.met.items
