use Rattle.std.proofs.Common.{◌≡◌, ◌+◌, ◌*◌, sym, ◌∙◌, ap, arith, length, map, take, get_or, []}
use Rattle.std.proofs.lemmas.List.{take_all}
use Rattle.hpf_base.specs.ElementOrder.{product}
use Rattle.local_address.proofs.TupleLaws.{list_at, lengths-more}
use Rattle.local_address.proofs.Tuples.{length-tuples}
use Rattle.local_address.proofs.tuple_numbers.tuple_number.Goals as goal

pub loop-dim-preserved : goal.loop-dim-preserved
loop-dim-preserved c =
    let dims = c.args.dims.now in
    ap (λ n. c.loop-dim.count * n) (c.len-count.ensures ∙ ap length (list_at dims c.loop-dim.dim c.index-dims-dim.result c.loop-dim-test.true c.index-dims-dim.is))
    ∙ ap (λ n. n * length (get_or dims c.loop-dim.dim [])) c.loop-dim.invariant ∙ sym (lengths-more dims c.loop-dim.dim c.loop-dim-test.true)

pub overflow_mul-count : goal.overflow_mul-count
overflow_mul-count c =
    let is : c.loop-dim.count * c.len-count.result ≡ product (map length (take (c.loop-dim.dim + 1) c.args.dims.now)) = loop-dim-preserved c in
    omega (arith, is, c.requires (c.loop-dim.dim + 1))

pub returns : goal.returns
returns c =
    c.loop-dim.invariant ∙ ap (λ xss. product (map length xss)) (take_all c.loop-dim.dim c.args.dims.now c.loop-dim-test.false)
    ∙ sym (length-tuples c.args.dims.now)
