use Rattle.std.proofs.Common.{◌+◌, ◌∷◌, [], ◌++◌, ◌∙◌, ap, drop, map}
use Rattle.array_meaning.specs.Resolution.{initial_array}
use Rattle.name_table.specs.declared.names.Entry.{Entry}
use Rattle.compiled_program.proofs.Entries.{next_entry}
use Rattle.compiled_program.proofs.starts.shapes.Goals as goal

pub loop-place-preserved : goal.loop-place-preserved
loop-place-preserved c =
    ap (λ l. l ++ map (λ (e : Entry). (initial_array e.what).dims) (drop (c.loop-place.place + 1) c.args.names.now))
    (c.in_ok-push.ensures.items ∙ ap (λ dims. c.loop-place.shapes.items ++ dims ∷ []) c.in_ok-dims.ensures)
    ∙ next_entry (λ (e : Entry). (initial_array e.what).dims) c.args.names.now c.loop-place.place c.entry_at.result.now c.loop-place.shapes.items
    c.entry_at.ensures c.loop-place.invariant
