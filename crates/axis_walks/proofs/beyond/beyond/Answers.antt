use Rattle.std.proofs.Common.{◌∷◌, ◌++◌, sym, ◌∙◌, ap, subst}
use Rattle.axis_walks.specs.Rows.{ArePicked, first_alone, rows}
use Rattle.axis_walks.proofs.RowLaws.{alone-rows}
use Rattle.axis_walks.proofs.beyond.beyond.Goals as goal

pub returns : goal.returns
returns c = λ es os is both alone.
    let extent = c.args.extent in
    let within = c.args.split.now.within.items in
    let left = c.in_ok-left.left.items in
    subst (ArePicked first_alone (extent ∷ es) (c.args.outer.now ∷ os) (c.args.inner.now ∷ is))
    (sym (c.in_ok-push_rows.ensures ∙ ap (λ tuples. tuples ++ rows extent c.deref-2.result.now c.deref-3.result.now) c.in_ok-tuples.ensures
    ∙ ap (λ ns. rows extent ns c.args.outer.now ++ rows extent c.deref-2.result.now c.deref-3.result.now) c.deref.ensures.value
    ∙ (λ i. rows extent c.args.split.now.beyond.items c.args.outer.now ++ rows extent (c.deref-2.ensures.value i) (c.deref-3.ensures.value i))))
    (alone-rows es os is within c.args.split.now.beyond.items extent c.args.outer.now c.args.inner.now left both alone c.requires.places
    (c.in_ok-left.ensures.within extent c.requires.places) c.in_ok-left.ensures.value)
