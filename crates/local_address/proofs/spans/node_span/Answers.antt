use Rattle.std.proofs.Common.{◌<◌, All, sym, ◌∙◌, ap, subst, arith, length, get_or, map, []}
use Rattle.std.proofs.lemmas.List.{length-map}
use Rattle.hpf_base.specs.ElementOrder.{extents_of}
use Rattle.local_address.specs.Runs.{along, run_of}
use Rattle.local_address.specs.Spans.{span_of}
use Rattle.local_address.proofs.Tuples.{passing}
use Rattle.local_address.proofs.SpanLaws.{column-long, fixed-inside, node-runs, owned-empty, owned-none, owned-tuples, runs-few}
use Rattle.local_address.proofs.spans.node_span.Goals as goal
use Rattle.local_address.proofs.spans.node_span.Goals.{then-element_count-eq0-via-then-element_count-eq0, then-element_count-eq0-via-else-element_count-eq0+then-not-fixed_agree}

pub fixed_agree-requires-clause-inside : goal.fixed_agree-requires-clause-inside
fixed_agree-requires-clause-inside c =
    fixed-inside c.args.map.now c.args.shape.now c.requires.shape (omega (arith, c.element_count.ensures.value, c.if-element_count-eq0.false)) c.requires.mapping
    c.requires.inside

pub returns-then-element_count-eq0 : goal.returns-then-element_count-eq0
returns-then-element_count-eq0 c = elim c.then-element_count-eq0.branch [
  | then-element_count-eq0-via-then-element_count-eq0 w ↦
      sym (ap span_of (owned-empty c.args.map.now c.args.shape.now c.args.node (sym c.element_count.ensures.value ∙ w.if-element_count-eq0.true)))
  | then-element_count-eq0-via-else-element_count-eq0+then-not-fixed_agree w ↦
      sym (ap span_of (owned-none c.args.map.now c.args.shape.now c.args.node c.requires.shape c.requires.mapping (sym w.if-not-fixed_agree.true ∙ w.fixed_agree.ensures)))
]

pub runs_of_node-requires : goal.runs_of_node-requires
runs_of_node-requires c =
    let is = c.requires.columns (omega (arith, c.element_count.ensures.value, c.if-element_count-eq0.false)) in
    subst (All (λ column. c.args.node < length column)) (sym is)
    (column-long c.args.map.now c.args.node 0 c.args.shape.now.lower (extents_of c.args.shape.now) c.requires.node)

pub span_of_runs-requires-clause-short : goal.span_of_runs-requires-clause-short
span_of_runs-requires-clause-short c =
    omega (
      arith,
      ap length c.deref.ensures.value,
      ap length c.in_ok-runs.ensures,
      length-map c.args.columns.now (λ column. get_or column c.args.node (run_of [])),
      c.requires.short,
    )

pub span_of_runs-requires-clause-few : goal.span_of_runs-requires-clause-few
span_of_runs-requires-clause-few c =
    let is = c.requires.columns (omega (arith, c.element_count.ensures.value, c.if-element_count-eq0.false)) in
    let runs = c.deref.ensures.value ∙ c.in_ok-runs.ensures ∙ ap (map (λ column. get_or column c.args.node (run_of []))) is
    ∙ node-runs c.args.map.now c.args.node 0 c.args.shape.now.lower (extents_of c.args.shape.now) c.requires.node in
    omega (arith, runs-few c.args.map.now c.args.node c.args.shape.now c.deref.result.now c.requires.shape runs, c.requires.shape.size)

pub returns : goal.returns
returns c =
    let is = c.requires.columns (omega (arith, c.element_count.ensures.value, c.if-element_count-eq0.false)) in
    c.in_ok-span.ensures (passing (along c.args.map.now c.args.node) 0 c.args.shape.now.lower (extents_of c.args.shape.now))
    (c.deref.ensures.value ∙ c.in_ok-runs.ensures ∙ ap (map (λ column. get_or column c.args.node (run_of []))) is
    ∙ node-runs c.args.map.now c.args.node 0 c.args.shape.now.lower (extents_of c.args.shape.now) c.requires.node)
    ∙ sym (ap span_of (owned-tuples c.args.map.now c.args.shape.now c.args.node c.requires.shape c.requires.mapping
    (sym c.if-not-fixed_agree.false ∙ c.fixed_agree.ensures)))
