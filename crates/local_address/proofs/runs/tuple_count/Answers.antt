use Rattle.std.proofs.Common.{◌≡◌, ◌*◌, ◌<◌, ◌≤◌, pos, ◌∙◌, sym, ap, arith, drop, get_or, length, map, ◌+◌}
use Rattle.std.proofs.lemmas.List.{get_or-map, length-map}
use Rattle.std.proofs.lemmas.List.Elements.{All-map}
use Rattle.hpf_base.specs.ElementOrder.{product}
use Rattle.hpf_base.proofs.ElementOrder.{product-drop_more, product-front}
use Rattle.local_address.proofs.runs.tuple_count.Goals as goal

pub overflow_mul-count : goal.overflow_mul-count
overflow_mul-count c =
    let counts = map (λ run. run.count) c.args.runs.now in
    let i = c.loop-run.run-index in
    let within : i < length counts = omega (arith, length-map c.args.runs.now (λ run. run.count)) in
    let read : get_or counts i 0 ≡ (get_or c.args.runs.now i record { count = 0; first = pos 0; last = pos 0 }).count =
    get_or-map (λ run. run.count) c.args.runs.now i record { count = 0; first = pos 0; last = pos 0 } 0 c.loop-run-test.true in
    let upto : c.loop-run.count * get_or counts i 0 ≤ product counts =
    product-front counts c.loop-run.count i within c.loop-run.invariant (All-map (λ n. 1 ≤ n) (λ run. run.count) c.args.runs.now c.requires.some) in
    let is : c.loop-run.count * (get_or c.args.runs.now i record { count = 0; first = pos 0; last = pos 0 }).count ≡ c.loop-run.count * get_or counts i 0 =
    ap (λ n. c.loop-run.count * n) (sym read) in
    omega (arith, upto, is, c.requires.few)

pub loop-run-preserved : goal.loop-run-preserved
loop-run-preserved c =
    let counts = map (λ run. run.count) c.args.runs.now in
    let i = c.loop-run.run-index in
    let within : i < length counts = omega (arith, length-map c.args.runs.now (λ run. run.count)) in
    ap (λ n. c.loop-run.count * n * product (drop (i + 1) counts))
    (sym (get_or-map (λ run. run.count) c.args.runs.now i record { count = 0; first = pos 0; last = pos 0 } 0 c.loop-run-test.true))
    ∙ sym (product-drop_more counts c.loop-run.count i within) ∙ c.loop-run.invariant
