use Rattle.std.proofs.Common.{rules, ◌≡◌, ◌↔◌, ℕ, ◌+◌, ◌*◌, ◌<◌, pos, FitsSigned, of_z, to_z, sym, ◌∙◌, ap, subst, arith, length, map, take, get_or, [], refl, Option, Some, None, slice_get}
use Rattle.std.proofs.lemmas.Int.{to_z-of_z}
use Rattle.std.specs.Int.{w64}
use Rattle.hpf_base.specs.ElementOrder.{product}
use Rattle.local_address.specs.Runs.{tuples}
use Rattle.local_address.proofs.AddressLaws.{at_address}
use Rattle.local_address.proofs.TupleLaws.{lengths-more, list_at, not-among, number-all, number-few, number-more, other-rank, part-missing, part_at}
use Rattle.local_address.proofs.tuple_numbers.number_of.Goals as goal

-- the subscript of the dimension is the one with this number in its list
here : (c : goal.In_ok-number) → slice_get (get_or c.args.dims.now c.loop-dim.dim []) c.in_ok-number.field-0 ≡ Some (get_or c.args.tuple.now c.loop-dim.dim (pos 0))
here c =
    let fits : FitsSigned w64 (get_or c.args.tuple.now c.loop-dim.dim (pos 0)) = search rules in
    part_at c.args.dims.now c.loop-dim.dim c.in_ok-number.field-0 c.index-dims-dim.result (get_or c.args.tuple.now c.loop-dim.dim (pos 0))
    (to_z w64 (of_z w64 (get_or c.args.tuple.now c.loop-dim.dim (pos 0)))) c.loop-dim-test.true c.index-dims-dim.is
    (to_z-of_z w64 (get_or c.args.tuple.now c.loop-dim.dim (pos 0)) fits) ((c.in_ok-number.ensures c.in_ok-number.field-0).0 refl)

pub returns-then-tuple-dims : goal.returns-then-tuple-dims
returns-then-tuple-dims c = not-among c.args.dims.now c.args.tuple.now (other-rank c.args.dims.now c.args.tuple.now c.if-tuple-dims.true)

pub returns-in_err-number : goal.returns-in_err-number
returns-in_err-number c =
    let i = get_or c.args.tuple.now c.loop-dim.dim (pos 0) in
    let fits : FitsSigned w64 i = search rules in
    subst (λ o. (q : ℕ) → (o ≡ Some q) ↔ (slice_get (tuples c.args.dims.now) q ≡ Some c.args.tuple.now)) (sym c.from_residual.ensures)
    (not-among c.args.dims.now c.args.tuple.now (part-missing c.args.dims.now c.args.tuple.now c.index-dims-dim.result c.loop-dim.dim (to_z w64 (of_z w64 i))
    c.loop-dim-test.true c.index-dims-dim.is (to_z-of_z w64 i fits) (λ n at. let none : ◌≡◌ {A = Option ℕ} None (Some n) = (c.in_err-number.ensures n).1 at in cc)))

pub overflow_mul-number : goal.overflow_mul-number
overflow_mul-number c =
    let few = number-few c.args.dims.now c.loop-dim.dim c.loop-dim.number c.loop-dim.stride c.in_ok-number.field-0 (get_or c.args.tuple.now c.loop-dim.dim (pos 0))
    c.loop-dim-test.true c.loop-dim.invariant.stride c.loop-dim.invariant.below (here c) in
    omega (arith, few.0, c.requires.few (c.loop-dim.dim + 1))

pub overflow_add-number : goal.overflow_add-number
overflow_add-number c =
    let few = number-few c.args.dims.now c.loop-dim.dim c.loop-dim.number c.loop-dim.stride c.in_ok-number.field-0 (get_or c.args.tuple.now c.loop-dim.dim (pos 0))
    c.loop-dim-test.true c.loop-dim.invariant.stride c.loop-dim.invariant.below (here c) in
    omega (arith, few.1, c.requires.few (c.loop-dim.dim + 1))

stride_next : (c : goal.After-len) → c.loop-dim.stride * c.len.result ≡ product (map length (take (c.loop-dim.dim + 1) c.args.dims.now))
stride_next c =
    ap (λ n. c.loop-dim.stride * n) (c.len.ensures ∙ ap length (list_at c.args.dims.now c.loop-dim.dim c.index-dims-dim-in-loop-dim.result c.loop-dim-test.true c.index-dims-dim-in-loop-dim.is))
    ∙ ap (λ n. n * length (get_or c.args.dims.now c.loop-dim.dim [])) c.loop-dim.invariant.stride ∙ sym (lengths-more c.args.dims.now c.loop-dim.dim c.loop-dim-test.true)

pub overflow_mul-stride : goal.overflow_mul-stride
overflow_mul-stride c = omega (arith, stride_next c, c.requires.few (c.loop-dim.dim + 1))

pub loop-dim-preserved : goal.loop-dim-preserved
loop-dim-preserved c =
    let dims = c.args.dims.now in
    let dim = c.loop-dim.dim in
    let i = get_or c.args.tuple.now dim (pos 0) in
    let fits : FitsSigned w64 i = search rules in
    let rank : length c.args.tuple.now ≡ length dims = c.if-tuple-dims.false in
    let inside : dim < length c.args.tuple.now = omega (arith, rank, c.loop-dim-test.true) in
    let at : slice_get (get_or dims dim []) c.in_ok-number.field-0 ≡ Some i =
    part_at dims dim c.in_ok-number.field-0 c.index-dims-dim.result i (to_z w64 (of_z w64 i)) c.loop-dim-test.true c.index-dims-dim.is (to_z-of_z w64 i fits)
    ((c.in_ok-number.ensures c.in_ok-number.field-0).0 refl) in
    let size : c.len.result ≡ length (get_or dims dim []) =
    c.len.ensures ∙ ap length (list_at dims dim c.index-dims-dim-in-loop-dim.result c.loop-dim-test.true c.index-dims-dim-in-loop-dim.is) in
    record {
      stride = stride_next c;
      below = subst (λ m. c.loop-dim.number + c.loop-dim.stride * c.in_ok-number.field-0 < m) (sym (stride_next c))
          (number-few dims dim c.loop-dim.number c.loop-dim.stride c.in_ok-number.field-0 i c.loop-dim-test.true c.loop-dim.invariant.stride c.loop-dim.invariant.below at).1;
      found = λ a rest there.
          ap (λ m. slice_get (tuples dims) (c.loop-dim.number + c.loop-dim.stride * c.in_ok-number.field-0 + c.loop-dim.stride * m * a)) size
          ∙ number-more dims c.args.tuple.now dim c.loop-dim.number c.loop-dim.stride c.in_ok-number.field-0 c.loop-dim-test.true inside at c.loop-dim.invariant.found
          a rest there;
    }

pub returns : goal.returns
returns c =
    let all : c.loop-dim.dim ≡ length c.args.dims.now = omega (arith, c.loop-dim-test.false, c.loop-dim.auto.dim-end) in
    let rank : length c.args.tuple.now ≡ length c.args.dims.now = c.if-tuple-dims.false in
    at_address (tuples c.args.dims.now) c.args.tuple.now c.loop-dim.number c.requires.apart
    (number-all c.args.dims.now c.args.tuple.now c.loop-dim.dim c.loop-dim.number c.loop-dim.stride all (all ∙ sym rank) c.loop-dim.invariant.found)
