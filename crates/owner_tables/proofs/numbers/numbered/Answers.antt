use Rattle.std.proofs.Common.{◌≡◌, ℕ, ◌≤◌, if◌then◌else◌, ◌∙◌, ap, arith, get_or, length, map, replicate}
use Rattle.std.proofs.lemmas.List.{length-replicate}
use Rattle.std.specs.List.{list_all, range_with_len}
use Rattle.hpf_base.specs.ElementOrder.{extents_of, product}
use Rattle.hpf_base.specs.Grid.{node_coordinates}
use Rattle.hpf_base.proofs.Ranges.{map-range_agree}
use Rattle.local_address.specs.Runs.{fixed_agrees}
use Rattle.local_address.proofs.SpanLaws.{fixed-inside}
use Rattle.machine_steps.specs.Layout.{Layout, count_passing, owned_by, size_of}
use Rattle.owner_tables.specs.Columns.{totals_of}
use Rattle.owner_tables.proofs.ColumnLaws.{base-within, length-totals, owned-total}
use Rattle.owner_tables.proofs.Ranges.{replicate-range}
use Rattle.owner_tables.proofs.numbers.numbered.Goals as goal

pub returns-then-element_count-eq0-clause-base : goal.returns-then-element_count-eq0-clause-base
unfolding size_of
returns-then-element_count-eq0-clause-base c = λ some. absurd (omega (arith, some, c.element_count.ensures.value, c.if-element_count-eq0.true))

pub returns-then-element_count-eq0-clause-columns :
    goal.returns-then-element_count-eq0-clause-columns
unfolding size_of
returns-then-element_count-eq0-clause-columns c = λ some. absurd (omega (arith, some, c.element_count.ensures.value, c.if-element_count-eq0.true))

pub returns-then-element_count-eq0-clause-owned : goal.returns-then-element_count-eq0-clause-owned
unfolding size_of
returns-then-element_count-eq0-clause-owned c =
    let layout : Layout = record { shape = c.args.shape.now; mapping = c.args.mapping.now } in
    let none : 0 ≡ product (extents_of c.args.shape.now) = omega (arith, c.element_count.ensures.value, c.if-element_count-eq0.true) in
    c.in_ok-zeros.ensures ∙ replicate-range 0 0 c.args.nodes
    ∙ map-range_agree (λ node. 0) (λ node. count_passing (owned_by layout node) 0 (product (extents_of c.args.shape.now))) 0 c.args.nodes
    (λ node from below. ap (count_passing (owned_by layout node) 0) none)

pub base-requires-clause-inside : goal.base-requires-clause-inside
base-requires-clause-inside c =
    let some : 1 ≤ product (extents_of c.args.shape.now) = omega (arith, c.element_count.ensures.value, c.if-element_count-eq0.false) in
    fixed-inside c.args.mapping.now c.args.shape.now c.requires.laid.shape some c.requires.laid.mapping c.requires.laid.inside

pub base-requires-clause-small : goal.base-requires-clause-small
unfolding size_of
base-requires-clause-small c =
    let layout : Layout = record { shape = c.args.shape.now; mapping = c.args.mapping.now } in
    let some : 1 ≤ product (extents_of c.args.shape.now) = omega (arith, c.element_count.ensures.value, c.if-element_count-eq0.false) in
    omega (arith, base-within c.args.nodes layout c.requires.laid c.requires.some some, c.requires.few)

pub owned-requires-clause-totals : goal.owned-requires-clause-totals
owned-requires-clause-totals c =
    let nodes = c.args.nodes in
    ap length (c.deref.ensures.value ∙ c.in_ok-columns.ensures.totals)
    ∙ length-totals c.args.mapping.now c.args.shape.now.lower 0 nodes (extents_of c.args.shape.now) (replicate nodes 1) c.requires.laid.grid
    (length-replicate {A = ℕ} nodes 1)

pub owned-requires-clause-inside : goal.owned-requires-clause-inside
owned-requires-clause-inside c =
    let some : 1 ≤ product (extents_of c.args.shape.now) = omega (arith, c.element_count.ensures.value, c.if-element_count-eq0.false) in
    fixed-inside c.args.mapping.now c.args.shape.now c.requires.laid.shape some c.requires.laid.mapping c.requires.laid.inside

pub returns-clause-owned : goal.returns-clause-owned
returns-clause-owned c =
    let layout : Layout = record { shape = c.args.shape.now; mapping = c.args.mapping.now } in
    let totals = totals_of layout.mapping layout.shape.lower 0 (extents_of layout.shape) (replicate c.args.nodes 1) in
    c.in_ok-owned.ensures
    ∙ ap (λ ts. map (λ node. if list_all (fixed_agrees (node_coordinates layout.mapping.grid node)) layout.mapping.dims then get_or ts node 0 else 0)
    (range_with_len 0 c.args.nodes)) (c.deref.ensures.value ∙ c.in_ok-columns.ensures.totals)
    ∙ map-range_agree (λ node. if list_all (fixed_agrees (node_coordinates layout.mapping.grid node)) layout.mapping.dims then get_or totals node 0 else 0)
    (λ node. count_passing (owned_by layout node) 0 (size_of layout)) 0 c.args.nodes
    (λ node from below. owned-total c.args.nodes layout c.requires.laid c.requires.some node (omega (arith, below)))
