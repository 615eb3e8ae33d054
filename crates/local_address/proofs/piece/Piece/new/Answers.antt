use Rattle.std.proofs.Common.{sym, ◌∙◌, arith}
use Rattle.local_address.proofs.PieceLaws.{owned-dimensions, owned-elements}
use Rattle.local_address.proofs.SpanLaws.{fixed-inside, owned-empty, owned-none}
use Rattle.local_address.proofs.piece.Piece.new.Goals as goal
use Rattle.local_address.proofs.piece.Piece.new.Goals.{then-element_count-eq0-via-then-element_count-eq0, then-element_count-eq0-via-else-element_count-eq0+then-not-fixed_agree}

pub fixed_agree-requires-clause-inside : goal.fixed_agree-requires-clause-inside
fixed_agree-requires-clause-inside c =
    fixed-inside c.args.map.now c.args.shape.now c.requires.shape (omega (arith, c.element_count.ensures.value, c.if-element_count-eq0.false)) c.requires.mapping
    c.requires.inside

pub returns-then-element_count-eq0 : goal.returns-then-element_count-eq0
returns-then-element_count-eq0 c = c.empty_piece.ensures ∙ elim c.then-element_count-eq0.branch [
  | then-element_count-eq0-via-then-element_count-eq0 w ↦
      sym (owned-empty c.args.map.now c.args.shape.now c.args.node.0 (sym c.element_count.ensures.value ∙ w.if-element_count-eq0.true))
  | then-element_count-eq0-via-else-element_count-eq0+then-not-fixed_agree w ↦
      sym (owned-none c.args.map.now c.args.shape.now c.args.node.0 c.requires.shape c.requires.mapping (sym w.if-not-fixed_agree.true ∙ w.fixed_agree.ensures))
]

pub invariant_of-result : goal.invariant_of-result
invariant_of-result c =
    owned-dimensions c.args.map.now c.args.shape.now c.args.node.0 c.in_ok-dims.dims.items c.requires.shape c.requires.mapping
    (sym c.if-not-fixed_agree.false ∙ c.fixed_agree.ensures) (omega (arith, c.element_count.ensures.value, c.if-element_count-eq0.false)) c.in_ok-dims.ensures.short
    c.in_ok-dims.ensures.value

pub returns : goal.returns
returns c =
    owned-elements c.args.map.now c.args.shape.now c.args.node.0 c.in_ok-dims.dims.items c.requires.shape c.requires.mapping
    (sym c.if-not-fixed_agree.false ∙ c.fixed_agree.ensures) c.in_ok-dims.ensures.value
