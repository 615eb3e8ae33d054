use Rattle.std.proofs.Common.{◌<◌, All, sym, ◌∙◌, ap, subst, arith}
use Rattle.owner_tables.proofs.TableLaws.{alike-below, alike-row, seen}
use Rattle.owner_tables.proofs.tables.Tables.sharers.Goals as goal

pub index-requires : goal.index-requires
index-requires c =
    let l = seen c.self.inside c.args.self.now c.self.view_is c.self.invariant in omega (arith, l.alike, c.requires)

pub returns-clause-owners : goal.returns-clause-owners
returns-clause-owners c = λ at below h.
    let l = seen c.self.inside c.args.self.now c.self.view_is c.self.invariant in
    l.sharers c.args.node at c.requires below h
    ∙ sym (c.as_slice.ensures.value ∙ ap (λ v. v.items) c.index.ensures
    ∙ alike-row (λ v. v.items) c.self.inside.alike.items c.args.self.now.layout c.args.self.now.nodes c.args.node c.index.result.now l.rows c.requires)

pub returns-clause-nodes : goal.returns-clause-nodes
returns-clause-nodes c =
    let l = seen c.self.inside c.args.self.now c.self.view_is c.self.invariant in
    subst (All (λ other. other < c.args.self.now.nodes))
    (sym (c.as_slice.ensures.value ∙ ap (λ v. v.items) c.index.ensures
    ∙ alike-row (λ v. v.items) c.self.inside.alike.items c.args.self.now.layout c.args.self.now.nodes c.args.node c.index.result.now l.rows c.requires))
    (alike-below c.args.self.now.layout.mapping c.args.self.now.nodes c.args.node)
