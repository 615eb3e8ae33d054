use Rattle.std.proofs.Common.{map, option_map, sym, ◌∙◌, ap}
use Rattle.mappings.specs.Alignment.{composed}
use Rattle.copy_anchors.specs.Anchors.{align_of}
use Rattle.copy_anchors.specs.Settled.{good_subscripts}
use Rattle.owner_tables.proofs.BesideLaws.{apart-are, mapping-laid, numbers-are, target-is}
use Rattle.owner_tables.proofs.copies.good_mapping.Goals as goal

pub compose-requires-clause-target : goal.compose-requires-clause-target
compose-requires-clause-target c =
    let t = c.args.table.now in
    let ns = c.args.extents.now in
    let xs = map align_of c.args.subscripts.now in
    let good = ap (option_map (λ v. v.items)) (sym c.in-Some.is) ∙ c.in_ok-align.ensures ∙ ap (λ s. good_subscripts s ns xs) c.shape.ensures.value in
    rw (c.deref.ensures.value, c.mapping.ensures.value) (target-is t.layout ns xs t.nodes c.mapping.ensures.laid c.requires.each c.in-Some.align.items good)

pub compose-requires-clause-fits : goal.compose-requires-clause-fits
compose-requires-clause-fits c =
    let t = c.args.table.now in
    let ns = c.args.extents.now in
    let xs = map align_of c.args.subscripts.now in
    let good = ap (option_map (λ v. v.items)) (sym c.in-Some.is) ∙ c.in_ok-align.ensures ∙ ap (λ s. good_subscripts s ns xs) c.shape.ensures.value in
    rw (c.deref.ensures.value, c.mapping.ensures.value) (numbers-are t.layout ns xs t.nodes c.mapping.ensures.laid c.requires.each c.in-Some.align.items good)

pub compose-requires-clause-apart : goal.compose-requires-clause-apart
compose-requires-clause-apart c =
    let t = c.args.table.now in
    let ns = c.args.extents.now in
    let xs = map align_of c.args.subscripts.now in
    let good = ap (option_map (λ v. v.items)) (sym c.in-Some.is) ∙ c.in_ok-align.ensures ∙ ap (λ s. good_subscripts s ns xs) c.shape.ensures.value in
    rw c.deref.ensures.value (apart-are t.layout ns xs t.nodes c.mapping.ensures.laid c.requires.each c.in-Some.align.items good)

pub returns-in_ok-mapping-in-Some-clause-laid : goal.returns-in_ok-mapping-in-Some-clause-laid
returns-in_ok-mapping-in-Some-clause-laid c =
    let t = c.args.table.now in
    let ns = c.args.extents.now in
    let xs = map align_of c.args.subscripts.now in
    let good = ap (option_map (λ v. v.items)) (sym c.in-Some.is) ∙ c.in_ok-align.ensures ∙ ap (λ s. good_subscripts s ns xs) c.shape.ensures.value in
    mapping-laid t.layout ns xs t.nodes c.mapping.ensures.laid c.requires.each c.in-Some.align.items good c.in_ok-mapping-in-Some.mapping
    (c.in_ok-mapping-in-Some.ensures.value ∙ (λ i. composed (c.mapping.ensures.value i) (c.deref.ensures.value i)))
