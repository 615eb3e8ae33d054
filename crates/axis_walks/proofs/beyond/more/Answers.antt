use Rattle.std.proofs.Common.{◌∷◌, sym, ◌∙◌, subst}
use Rattle.axis_walks.specs.Rows.{ArePicked, both, rows}
use Rattle.axis_walks.proofs.RowLaws.{both-rows}
use Rattle.axis_walks.proofs.beyond.more.Goals as goal

pub returns-clause-within : goal.returns-clause-within
returns-clause-within c = λ es os is picked.
    let extent = c.args.extent in
    let common = c.in_ok-common.common.items in
    subst (ArePicked both (extent ∷ es) (c.args.outer.now ∷ os) (c.args.inner.now ∷ is))
    (sym (c.in_ok-within.ensures ∙ (λ i. rows extent (c.deref.ensures.value i) (c.deref-2.ensures.value i))))
    (both-rows es os is c.args.split.now.within.items extent c.args.outer.now c.args.inner.now common picked
    (c.in_ok-common.ensures.within extent c.requires.places) c.in_ok-common.ensures.value)
