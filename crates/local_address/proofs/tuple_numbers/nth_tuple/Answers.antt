use Rattle.std.proofs.Common.{rules, ◌≡◌, ◌+◌, ◌/◌, ◌%◌, ◌<◌, pos, FitsSigned, of_z, to_z, sym, ◌∙◌, ap, subst, arith, length, map, take, drop, get_or, [], Some}
use Rattle.std.proofs.lemmas.Int.{to_z-of_z}
use Rattle.std.proofs.lemmas.List.{length-map, length-set, take_all}
use Rattle.std.proofs.lemmas.Nat.{mod_below}
use Rattle.std.proofs.lemmas.Option.{get_or_from_slice_get}
use Rattle.std.specs.Int.{w64}
use Rattle.hpf_base.proofs.Places.{length-place_at, place_at, place_at-next}
use Rattle.local_address.proofs.TupleLaws.{length-picked, list_at, picked, picked-get, some-length, tuples-get, written-next}
use Rattle.local_address.proofs.Tuples.{length-tuples}
use Rattle.local_address.proofs.tuple_numbers.nth_tuple.Goals as goal

pub nonzero_rem-rest : goal.nonzero_rem-rest
nonzero_rem-rest c =
    (some-length c.args.dims.now c.loop-dim.dim c.args.number c.len-count.result c.index-dims-dim.result c.requires.number c.loop-dim-test.true c.index-dims-dim.is
    c.len-count.ensures).0

pub nth-requires : goal.nth-requires
nth-requires c =
    let some = (some-length c.args.dims.now c.loop-dim.dim c.args.number c.len-count.result c.index-dims-dim.result c.requires.number c.loop-dim-test.true c.index-dims-dim.is
    c.len-count.ensures).0 in
    let size : c.len-count.result ≡ length c.index-dims-dim-in-loop-dim.result =
    c.len-count.ensures ∙ ap length (list_at c.args.dims.now c.loop-dim.dim c.index-dims-dim.result c.loop-dim-test.true c.index-dims-dim.is
    ∙ sym (list_at c.args.dims.now c.loop-dim.dim c.index-dims-dim-in-loop-dim.result c.loop-dim-test.true c.index-dims-dim-in-loop-dim.is)) in
    subst (λ n. c.loop-dim.rest % c.len-count.result < n) size (mod_below c.loop-dim.rest c.len-count.result some)

pub loop-dim-preserved : goal.loop-dim-preserved
loop-dim-preserved c =
    let dims = c.args.dims.now in
    let lens = map length dims in
    let place = place_at lens c.args.number in
    let dim = c.loop-dim.dim in
    let same = (some-length dims dim c.args.number c.len-count.result c.index-dims-dim.result c.requires.number c.loop-dim-test.true c.index-dims-dim.is c.len-count.ensures).1 in
    let within : dim < length lens = omega (arith, length-map dims length, c.loop-dim-test.true) in
    let rank : length place ≡ length dims = length-place_at lens c.args.number ∙ length-map dims length in
    let inside : dim < length c.loop-dim.tuple = omega (arith, c.loop-dim.invariant.long, c.requires.rank, c.loop-dim-test.true) in
    let long : dim < length (picked dims place) = omega (arith, length-picked dims place rank, c.loop-dim-test.true) in
    let next = place_at-next lens c.args.number c.loop-dim.rest dim within c.loop-dim.invariant.left in
    let digit : c.loop-dim.rest % c.len-count.result ≡ get_or place dim 0 = ap (λ n. c.loop-dim.rest % n) same ∙ next.0 in
    let fits : FitsSigned w64 c.nth.result = search rules in
    let value : to_z w64 (of_z w64 c.nth.result) ≡ get_or (picked dims place) dim (pos 0) =
    to_z-of_z w64 c.nth.result fits
    ∙ sym (get_or_from_slice_get c.index-dims-dim-in-loop-dim.result (c.loop-dim.rest % c.len-count.result) c.nth.result (pos 0) c.nth.ensures)
    ∙ ap (λ l. get_or l (c.loop-dim.rest % c.len-count.result) (pos 0)) (list_at dims dim c.index-dims-dim-in-loop-dim.result c.loop-dim-test.true c.index-dims-dim-in-loop-dim.is)
    ∙ ap (λ n. get_or (get_or dims dim []) n (pos 0)) digit
    ∙ sym (picked-get dims place dim (pos 0) rank c.loop-dim-test.true) in
    record {
      long = length-set c.loop-dim.tuple dim (to_z w64 (of_z w64 c.nth.result)) ∙ c.loop-dim.invariant.long;
      written = written-next (picked dims place) c.loop-dim.tuple dim (to_z w64 (of_z w64 c.nth.result)) long inside value c.loop-dim.invariant.written;
      left = ap (λ n. place_at (drop (dim + 1) lens) (c.loop-dim.rest / n)) same ∙ next.1;
    }

pub returns : goal.returns
returns c =
    let dims = c.args.dims.now in
    let lens = map length dims in
    let place = place_at lens c.args.number in
    let all : c.loop-dim.dim ≡ length dims = omega (arith, c.loop-dim-test.false, c.loop-dim.auto.dim-end) in
    let rank : length place ≡ length dims = length-place_at lens c.args.number ∙ length-map dims length in
    let whole : take c.loop-dim.dim (picked dims place) ≡ picked dims place = take_all c.loop-dim.dim (picked dims place) (omega (arith, length-picked dims place rank, all)) in
    tuples-get dims c.args.number (omega (arith, length-tuples dims, c.requires.number))
    ∙ ap Some (sym whole ∙ sym c.loop-dim.invariant.written ∙ ap (λ n. take n c.loop-dim.tuple) all ∙ sym c.in-Some.ensures.value)
