use Rattle.std.proofs.Common.{◌≡◌, ◌+◌, ◌++◌, ◌∷◌, [], cond, filter, map, sym, ◌∙◌, ap, arith}
use Rattle.std.proofs.lemmas.List.FromFn.{filter_of_map_range_with_len_more}
use Rattle.std.specs.List.{range_with_len}
use Rattle.courses.specs.Subscripts.{axis_pass}
use Rattle.course_forms.specs.Views.{courses_of}
use Rattle.owned_places.specs.Candidates.{candidate}
use Rattle.owned_places.specs.Dims.{held_dim}
use Rattle.owned_places.proofs.passing.places_held.Goals as goal

pub loop-n-preserved : goal.loop-n-preserved
loop-n-preserved c =
    let test = axis_pass (held_dim c.args.dims.now c.args.mapping.now c.args.node) 0 (courses_of c.args.courses.now) c.args.axis in
    let place = candidate c.args.candidates.now in
    let n = c.loop-n.n in
    let at : 0 + n ≡ n = omega arith in
    let held = c.are_held_at.ensures ∙ ap test c.place-place.ensures in
    c.in_ok-push_if.ensures ∙ ap (λ ps. ps ++ cond c.are_held_at.result (c.place-place.result ∷ []) []) c.loop-n.invariant
    ∙ (λ i. filter test (map place (range_with_len 0 n)) ++ cond (held i) (c.place-place.ensures i ∷ []) [])
    ∙ sym (filter_of_map_range_with_len_more test place 0 n n at)
