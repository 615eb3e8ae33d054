use Rattle.std.proofs.Common.{length, get_or, sym, ◌∙◌, arith}
use Rattle.std.proofs.lemmas.List.{ext_get_or}
use Rattle.std.proofs.lemmas.List.FromFn.{get_or-range_with_len, length-range_with_len}
use Rattle.std.specs.List.{range_with_len}
use Rattle.tuple_numbers.proofs.product.is_row.Goals as goal

pub returns : goal.returns
returns c t =
    let places = c.args.places.now in
    let first = get_or places 0 0 in
    ext_get_or 0 places (range_with_len first (length places)) (sym (length-range_with_len first (length places)))
    (λ k lt. c.loop-index.invariant k (omega (arith, lt)) ∙ sym (get_or-range_with_len first (length places) k 0 lt))
