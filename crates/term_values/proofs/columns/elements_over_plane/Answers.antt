use Rattle.std.proofs.Common.{◌∙◌, ◌++◌, ◌∷◌, [], ap, sym, rules, w64, SFits, Ok}
use Rattle.std.proofs.lemmas.Int.{to_z-of_z}
use Rattle.term_values.specs.States.{state_of}
use Rattle.term_values.proofs.LinesAndPlanes.{one_of_plane}
use Rattle.term_values.proofs.columns.elements_over_plane.Goals as goal

pub loop-x-preserved : goal.loop-x-preserved
loop-x-preserved c =
    let fits : SFits w64 c.in-Ok.v = search rules in
    one_of_plane (state_of c.args.s.now) c.args.first c.args.second c.args.a c.args.p.now c.args.q.now c.loop-x.x c.loop-y.y _ _ _ _ c.in-Ok.v c.loop-x.vs.items
    c.loop-x-test.true c.loop-y-test.true c.position-u.ensures c.position-w.ensures c.nth-i.ensures c.nth-j.ensures c.in-Ok.ensures.value c.loop-x.invariant
    ∙ ap (λ v. Ok (c.loop-x.vs.items ++ v ∷ [])) (sym (to_z-of_z w64 c.in-Ok.v fits))
    ∙ ap Ok (sym c.in_ok-push-in-Ok.ensures.items)
