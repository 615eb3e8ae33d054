use Rattle.std.proofs.Common.{◌<◌, ◌≤◌, ◌∷◌, ◌++◌, [], refl, sym, ◌∙◌, ap₂, arith, length}
use Rattle.std.proofs.lemmas.List.{take_all, take_more}
use Rattle.part_visits.proofs.alike.same_courses.Goals as goal

pub loop-k-init : goal.loop-k-init
loop-k-init c = refl

pub loop-k-preserved : goal.loop-k-preserved
loop-k-preserved c =
    let k = c.loop-k.k in
    let within : k < length c.args.other.now = (let l = c.loop-k-test.true in let s = c.if-one-other.false in omega (arith, l, s)) in
    take_more c.args.one.now k _ c.loop-k-test.true
    ∙ ap₂ (λ xs x. xs ++ x ∷ []) c.loop-k.invariant (c.same_course.ensures c.if-not-same_course.false)
    ∙ sym (take_more c.args.other.now k _ within)

pub returns : goal.returns
returns c t =
    let past : length c.args.other.now ≤ c.loop-k.k = (let l = c.loop-k-test.false in let s = c.if-one-other.false in omega (arith, l, s)) in
    sym (take_all c.loop-k.k c.args.one.now c.loop-k-test.false) ∙ c.loop-k.invariant ∙ take_all c.loop-k.k c.args.other.now past
