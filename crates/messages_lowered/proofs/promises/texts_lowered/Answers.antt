use Rattle.well_formed.proofs.PassedPrograms.{program-passes}
use Rattle.well_formed.specs.Lowered.{opening}
use Rattle.lowered_expressions.specs.Passed.{passed}
use Rattle.statement_trail.specs.Trail.{block_trail}
use Rattle.messages_lowered.proofs.TrailPlaces.{block-places}
use Rattle.messages_lowered.proofs.SameLines.{text-same}
use Rattle.messages_lowered.proofs.promises.texts_lowered.Goals as goal

pub returns : goal.returns
returns c = λ n room table moves nodes names shapes body s layouts starts is tabled roomy laid lie ok forms ranked fit fits.
    let p = program-passes table n room moves body s is tabled roomy fit fits layouts laid ok forms ranked in
    let m = opening n room moves body s layouts in
    (p.0, p.1, text-same nodes names shapes table.maps moves n starts (passed table p.0 m) (block_trail body s) lie (block-places n body s is.scalars) p.2)
