use Rattle.std.proofs.Common.{◌≡◌, ℕ, ◌+◌, ◌-◌, ◌*◌, ◌<◌, ◌≤◌, All, List, drop, filter, unsigned_abs, sym, ◌∙◌, ap, subst, arith, get_or, length, map}
use Rattle.std.proofs.lemmas.List.{length-map}
use Rattle.std.specs.List.{flat_map, range_with_len}
use Rattle.hpf_base.specs.ElementOrder.{extents_of, product}
use Rattle.axis_products.specs.Products.{combined, number_at, passing}
use Rattle.local_address.proofs.SpanLaws.{fixed-inside}
use Rattle.machine_steps.specs.Layout.{Layout}
use Rattle.owner_tables.proofs.ColumnLaws.{own_at}
use Rattle.owner_tables.proofs.PositionLaws.{filter-below, numbers-few, numbers-more, owned-empty, owned-none, owned-numbers}
use Rattle.owner_tables.proofs.positions.positions.Goals as goal

pub fixed_agree-requires-clause-inside : goal.fixed_agree-requires-clause-inside
fixed_agree-requires-clause-inside c =
    let some : 1 ≤ product (extents_of c.args.shape.now) = omega (arith, c.element_count.ensures.value, c.if-element_count-eq0.false) in
    fixed-inside c.args.mapping.now c.args.shape.now c.requires.laid.shape some c.requires.laid.mapping c.requires.laid.inside

pub returns-then-element_count-eq0 : goal.returns-then-element_count-eq0
returns-then-element_count-eq0 c =
    let layout : Layout = record { shape = c.args.shape.now; mapping = c.args.mapping.now } in
    c.new-positions.ensures.items ∙ owned-empty layout c.args.node (omega (arith, c.element_count.ensures.value, c.if-element_count-eq0.true))

pub returns-then-not-fixed_agree : goal.returns-then-not-fixed_agree
returns-then-not-fixed_agree c =
    let layout : Layout = record { shape = c.args.shape.now; mapping = c.args.mapping.now } in
    c.new-positions.ensures.items ∙ owned-none c.args.nodes layout c.requires.laid c.requires.some c.args.node c.if-not-fixed_agree.ensures

pub loop-done-preserved : goal.loop-done-preserved
loop-done-preserved c =
    let lowers = c.args.shape.now.lower in
    let es = extents_of c.args.shape.now in
    let test = own_at c.args.mapping.now lowers c.args.node in
    let done = c.loop-done.done in
    let ns = c.loop-done.positions.items in
    let k = length lowers - (done + 1) in
    let less : done < length lowers = omega (arith, c.loop-done-test.true, ap length c.numbers-done-end.ensures.value) in
    let dim : length c.numbers.result.now - 1 - done ≡ k = omega (arith, less, ap length c.numbers.ensures.value) in
    let at : length lowers - done ≡ k + 1 = omega (arith, less) in
    let within : k < length es = omega (arith, less, c.requires.laid.shape.rank, length-map c.args.shape.now.extent unsigned_abs) in
    let step : ℕ → List ℕ → List ℕ = λ d xs. flat_map (λ n. map (λ place. n * get_or es d 0 + place) (filter (test d) (range_with_len 0 (get_or es d 0)))) xs in
    let is : c.in_ok-positions.positions.items ≡ step k ns = c.in_ok-positions.ensures ∙ (λ i. step (dim i) (c.deref.ensures.value i)) in (
      is
          ∙ numbers-more test es k ns within
          (c.loop-done.invariant.0 ∙ ap (λ d. map (number_at (drop d es)) (combined (passing test d (drop d es)))) at),
      subst (All (λ n. n < product (drop k es))) (sym is)
          (numbers-few es k (filter (test k) (range_with_len 0 (get_or es k 0))) ns within
          (subst (λ d. All (λ n. n < product (drop d es)) ns) at c.loop-done.invariant.1) (filter-below (test k) (get_or es k 0))),
    )

pub returns : goal.returns
returns c =
    let layout : Layout = record { shape = c.args.shape.now; mapping = c.args.mapping.now } in
    let lowers = c.args.shape.now.lower in
    let es = extents_of c.args.shape.now in
    let test = own_at c.args.mapping.now lowers c.args.node in
    let all : length lowers - c.loop-done.done ≡ 0 = omega (arith, c.loop-done-test.false, ap length c.numbers-done-end.ensures.value) in
    c.loop-done.invariant.0 ∙ ap (λ d. map (number_at (drop d es)) (combined (passing test d (drop d es)))) all
    ∙ owned-numbers c.args.nodes layout c.requires.laid c.requires.some c.args.node c.if-not-fixed_agree.ensures
