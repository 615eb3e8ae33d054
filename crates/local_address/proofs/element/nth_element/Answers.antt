use Rattle.std.proofs.Common.{rules, ◌≡◌, ◌%◌, ◌/◌, ◌+◌, ◌<◌, pos, ◌+ℤ◌, FitsSigned, sym, ◌∙◌, ap, arith, get_or, drop, take, length, map, unsigned_abs, to_z, of_z, Some}
use Rattle.std.proofs.lemmas.Int.{to_z-of_z}
use Rattle.std.proofs.lemmas.List.{length-map, length-set}
use Rattle.std.specs.Int.{w64}
use Rattle.hpf_base.specs.ElementOrder.{extents_of, index_at}
use Rattle.hpf_base.proofs.Places.{length-place_at, place_at, place_at-next}
use Rattle.local_address.proofs.ElementLaws.{extent_some, written_all, written_more}
use Rattle.local_address.proofs.element.nth_element.Goals as goal

pub nonzero_rem-rest : goal.nonzero_rem-rest
nonzero_rem-rest c =
    extent_some c.args.shape.now c.numbers-lower.result.now c.numbers-extent.result.now c.loop-dim.dim c.args.number c.extent_of-count.result
    c.requires.shape c.requires.number c.loop-dim-test.true c.numbers-lower.ensures.value c.numbers-extent.ensures.value c.extent_of-count.ensures

pub nonzero_div-rest : goal.nonzero_div-rest
nonzero_div-rest c =
    extent_some c.args.shape.now c.numbers-lower.result.now c.numbers-extent.result.now c.loop-dim.dim c.args.number c.extent_of-count.result
    c.requires.shape c.requires.number c.loop-dim-test.true c.numbers-lower.ensures.value c.numbers-extent.ensures.value c.extent_of-count.ensures

pub loop-dim-preserved : goal.loop-dim-preserved
loop-dim-preserved c =
    let lower = c.numbers-lower.result.now in
    let extents = map unsigned_abs c.numbers-extent.result.now in
    let place = place_at extents c.args.number in
    let dim = c.loop-dim.dim in
    let count : length extents ≡ length lower =
    length-map c.numbers-extent.result.now unsigned_abs ∙ ap length c.numbers-extent.ensures.value ∙ sym c.requires.shape.rank
    ∙ ap length (sym c.numbers-lower.ensures.value) in
    let within : dim < length extents = omega (arith, count) in
    let inside : dim < length c.loop-dim.index =
    omega (arith, c.loop-dim.invariant.long, c.numbers-lower.ensures.short, ap length c.numbers-lower.ensures.value) in
    let next = place_at-next extents c.args.number c.loop-dim.rest dim within c.loop-dim.invariant.left in
    let rank : length place ≡ length lower = length-place_at extents c.args.number ∙ count in
    let fits : FitsSigned w64 c.subscript.result = search rules in
    let digit : c.loop-dim.rest % c.extent_of-count.result ≡ get_or place dim 0 = ap (λ n. c.loop-dim.rest % n) c.extent_of-count.ensures ∙ next.0 in
    let value : to_z w64 (of_z w64 c.subscript.result) ≡ get_or lower dim (pos 0) +ℤ pos (get_or place dim 0) =
    to_z-of_z w64 c.subscript.result fits ∙ c.subscript.ensures ∙ ap (λ n. get_or lower dim (pos 0) +ℤ pos n) digit in
    record {
      long = length-set c.loop-dim.index dim (to_z w64 (of_z w64 c.subscript.result)) ∙ c.loop-dim.invariant.long;
      written = written_more lower c.loop-dim.index place dim (to_z w64 (of_z w64 c.subscript.result)) rank c.loop-dim-test.true inside value
          c.loop-dim.invariant.written;
      left = ap (λ n. place_at (drop (dim + 1) extents) (c.loop-dim.rest / n)) c.extent_of-count.ensures ∙ next.1;
    }

pub returns-clause-value : goal.returns-clause-value
returns-clause-value c =
    let dim = c.loop-dim.dim in
    let all : dim ≡ length c.numbers-lower.result.now = omega arith in
    let written : take dim c.loop-dim.index ≡ take dim (index_at c.args.shape.now.lower (place_at (extents_of c.args.shape.now) c.args.number)) =
    c.loop-dim.invariant.written
    ∙ ap (λ lower. take dim (index_at lower (place_at (map unsigned_abs c.numbers-extent.result.now) c.args.number))) c.numbers-lower.ensures.value
    ∙ ap (λ extents. take dim (index_at c.args.shape.now.lower (place_at (map unsigned_abs extents) c.args.number))) c.numbers-extent.ensures.value in
    written_all c.args.shape.now c.loop-dim.index dim c.args.number c.requires.shape c.requires.number (all ∙ ap length c.numbers-lower.ensures.value) written
    ∙ ap (λ n. Some (take n c.loop-dim.index)) all ∙ ap Some (sym c.in-Some.ensures.value)
