use Rattle.std.proofs.Common.{bytes_eq, position, ap, ◌∙◌}
use Rattle.name_table.proofs.NamedEntries.{position_named}
use Rattle.name_table.proofs.names.Names.find.Goals as goal

pub returns : goal.returns
returns c =
    c.get_index_of.ensures.index
    ∙ position_named c.args.name.now c.self.inside.entries.entries c.self.invariant
    ∙ ap (position (λ e. bytes_eq c.args.name.now e.name)) c.self.view_is
