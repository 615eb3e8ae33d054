use Rattle.std.proofs.Common.{◌≡◌, ◌++◌, ◌∷◌, [], sym, subst, ap, ◌∙◌}
use Rattle.name_table.specs.NewNames.{IsNew}
use Rattle.name_table.proofs.NamedEntries.{entries_more, insert_new, named_more}
use Rattle.name_table.proofs.names.Names.add.Goals as goal

made : (c : goal.Joined-branch-2) → c.insert.new.self.entries ≡ c.self.inside.entries.entries ++ (c.args.entry.name, c.args.entry) ∷ []
made c =
    c.in_ok-insert.ensures.entries
    ∙ insert_new c.args.entry c.self.inside.entries.entries c.self.invariant (subst (IsNew c.args.entry.name) (sym c.self.view_is) c.requires)

pub invariant_of-self-2 : goal.invariant_of-self-2
invariant_of-self-2 c = named_more c.args.entry c.self.inside.entries.entries c.insert.new.self.entries c.self.invariant (made c)

pub returns : goal.returns
returns c = entries_more c.args.entry c.self.inside.entries.entries c.insert.new.self.entries (made c) ∙ ap (λ l. l ++ c.args.entry ∷ []) c.self.view_is
