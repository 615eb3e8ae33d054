use Rattle.std.proofs.Common.{◌∙◌, ap, arith, get_or}
use Rattle.owner_tables.proofs.TableLaws.{owners-row, seen}
use Rattle.owner_tables.proofs.tables.Tables.owners.Goals as goal

pub index-requires : goal.index-requires
index-requires c =
    let l = seen c.self.inside c.args.self.now c.self.view_is c.self.invariant in omega (arith, l.alike, c.least_owner.ensures.below)

pub returns : goal.returns
returns c =
    let l = seen c.self.inside c.args.self.now c.self.view_is c.self.invariant in
    let alike = c.self.inside.alike.items in
    c.as_slice.ensures.value ∙ ap (λ v. v.items) c.index.ensures
    ∙ ap (λ n. (get_or alike n c.index.result.now).items) c.least_owner.ensures.value
    ∙ owners-row (λ v. v.items) alike c.args.self.now.layout c.args.self.now.nodes c.args.at c.index.result.now l.rows (l.below c.args.at c.requires)
    ∙ l.owners c.args.at c.requires
