use Rattle.std.proofs.Common.{length}
use Rattle.std.proofs.lemmas.List.{length-map}
use Rattle.name_table.specs.declared.names.Entry.{Entry}
use Rattle.name_table.specs.Entries.{entries}
use Rattle.array_meaning.specs.Resolution.{initial_scalar, initial_state, resolved_block}
use Rattle.well_formed.specs.Lowered.{opening}
use Rattle.lowered_expressions.specs.Passed.{passed}
use Rattle.statement_trail.specs.Trail.{serial_trail}
use Rattle.messages_lowered.proofs.TrailPlaces.{block-places}
use Rattle.messages_lowered.proofs.SameLines.{text-same}
use Rattle.messages_lowered.proofs.promises.accepted_texts_lowered.Goals as goal

pub returns : goal.returns
returns c = λ p room table moves nodes names shapes layouts starts is-table roomy laid lie rules bodies forms fit.
    let t = c.accepted_trails_lowered.ensures p room moves table layouts is-table roomy laid rules bodies forms fit in
    let n = length (entries p) in
    let body = resolved_block (entries p) p.body in
    let m = opening n room moves body (initial_state (entries p)) layouts in (
      t.0,
      t.1,
      text-same nodes names shapes table.maps moves n starts (passed table t.0 m) (serial_trail p) lie (block-places n body (initial_state (entries p)) (length-map (entries p) (λ (e : Entry). initial_scalar e.what))) t.2,
    )
