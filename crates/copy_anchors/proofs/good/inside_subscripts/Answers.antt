use Rattle.std.proofs.Common.{◌+◌, ◌++◌, drop, length, map, option_map, sym, ◌∙◌, ap}
use Rattle.std.proofs.lemmas.List.{length-map}
use Rattle.copy_anchors.specs.Anchors.{align_of}
use Rattle.copy_anchors.specs.Settled.{inside_subscripts}
use Rattle.copy_anchors.proofs.Steps.{other_lengths, settled_next, settled_stop}
use Rattle.copy_anchors.proofs.good.inside_subscripts.Goals as goal

pub returns-then-numbers-subscripts : goal.returns-then-numbers-subscripts
returns-then-numbers-subscripts c =
    let xs = c.args.subscripts.now in
    sym (other_lengths c.args.extents.now c.args.shape.now.lower c.args.shape.now.extent (map align_of xs)
    (λ p q. c.if-numbers-subscripts.true (ap length c.numbers.ensures.value ∙ p ∙ length-map xs align_of)))

pub returns-in-None : goal.returns-in-None
returns-in-None c =
    let long = c.loop-k.invariant.long in
    settled_stop c.args.extents.now c.args.shape.now.lower c.args.shape.now.extent c.args.subscripts.now c.loop-k.k _ c.loop-k-test.true long
    (sym c.requires.shape.rank ∙ long) c.loop-k.settled.items c.in-None.ensures
    ∙ c.loop-k.invariant.same

pub loop-k-preserved : goal.loop-k-preserved
loop-k-preserved c =
    let ns = c.args.extents.now in
    let ls = c.args.shape.now.lower in
    let es = c.args.shape.now.extent in
    let xs = c.args.subscripts.now in
    let k = c.loop-k.k in
    let long = c.loop-k.invariant.long in
    record {
      same = ap (λ done. option_map (λ rest. done ++ rest) (inside_subscripts ns (drop (k + 1) ls) (drop (k + 1) es) (map align_of (drop (k + 1) xs)))) c.in_ok-push-in-Some.ensures.items
          ∙ settled_next ns ls es xs k _ c.loop-k-test.true long (sym c.requires.shape.rank ∙ long) c.loop-k.settled.items c.in-Some.align c.in-Some.ensures
          ∙ c.loop-k.invariant.same;
      long = long;
    }
