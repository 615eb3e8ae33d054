use Rattle.std.proofs.Common.{rules, ◌≡◌, ◌+◌, ◌∷◌, [], ◌++◌, ◌∙◌, ap, drop, map}
use Rattle.name_table.specs.declared.names.Entry.{Entry}
use Rattle.compiled_program.specs.Starts.{start_of}
use Rattle.compiled_program.proofs.Entries.{next_entry}
use Rattle.compiled_program.proofs.starts.first_values.Goals as goal

pub loop-place-preserved : goal.loop-place-preserved
loop-place-preserved c =
    let pushed : c.push.new.self.items ≡ c.loop-place.values.items ++ start_of c.entry_at.result.now.what ∷ [] = search rules in
    ap (λ l. l ++ map (λ (e : Entry). start_of e.what) (drop (c.loop-place.place + 1) c.args.names.now)) pushed
    ∙ next_entry (λ (e : Entry). start_of e.what) c.args.names.now c.loop-place.place c.entry_at.result.now c.loop-place.values.items c.entry_at.ensures
    c.loop-place.invariant
