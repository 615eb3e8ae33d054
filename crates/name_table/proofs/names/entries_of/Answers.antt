use Rattle.std.proofs.Common.{bytes_eq, map, ◌++◌, subst}
use Rattle.std.specs.List.{IsDistinct}
use Rattle.name_table.proofs.NamedEntries.{is_new}
use Rattle.name_table.proofs.names.entries_of.Goals as goal

pub add-requires : goal.add-requires
add-requires c =
    is_new c.in-Some.name.now c.loop-name.names (map (λ e. e.0) c.next.new.self)
    (subst (λ es. IsDistinct bytes_eq (map (λ e. e.name) c.loop-name.names ++ map (λ e. e.0) es)) c.in-Some.ensures.steps c.loop-name.invariant.distinct)
