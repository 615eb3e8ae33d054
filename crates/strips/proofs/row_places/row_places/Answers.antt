use Rattle.std.proofs.Common.{◌≡◌, ◌+◌, ◌*◌, ◌++◌, ◌∷◌, [], ◌∙◌, ap, sym, subst, length}
use Rattle.std.proofs.lemmas.List.{length-append}
use Rattle.array_meaning.specs.Sections.{positions}
use Rattle.term_values.specs.States.{state_of}
use Rattle.strips.specs.Places.{AreRuns, IsRun}
use Rattle.strips.proofs.Runs.{runs_more}
use Rattle.strips.proofs.row_places.row_places.Goals as goal

pub loop-y-preserved : goal.loop-y-preserved
loop-y-preserved c =
    let run : IsRun (state_of c.args.s.now) c.args.a c.args.ds.now 0 c.as_slice.result.now c.args.first c.in-Some-2.place = rw c.in-Some-2.is at c.in_ok-place.ensures in
    let rest : c.as_slice.result.now ≡ positions c.args.others.now c.loop-y.y = c.as_slice.ensures ∙ c.in_ok-rest.ensures in
    let items : c.push.new.self.items ≡ c.loop-y.firsts.items ++ c.in-Some-2.place ∷ [] = c.in_ok-push-in-Some-2.ensures.items in
    let all =
    runs_more (state_of c.args.s.now) c.args.a c.args.ds.now c.args.first c.args.others.now c.loop-y.y c.in-Some-2.place c.loop-y.firsts.items c.requires.some c.loop-y.invariant.0 c.loop-y.invariant.1
    (subst (λ r. IsRun (state_of c.args.s.now) c.args.a c.args.ds.now 0 r c.args.first c.in-Some-2.place) rest run) in
    let long : length c.loop-y.firsts.items ≡ c.loop-y.y = c.loop-y.invariant.0 in (
      ap length items ∙ length-append c.loop-y.firsts.items (c.in-Some-2.place ∷ []) ∙ ap (λ n. n + 1) long,
      subst (AreRuns (state_of c.args.s.now) (c.args.first ∷ c.args.others.now) c.args.a c.args.ds.now ((c.loop-y.y + 1) * c.args.first)) (sym items) all,
    )
