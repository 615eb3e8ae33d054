use Rattle.std.proofs.Common.{◌≡◌, ◌≤◌, ◌*◌, refl, sym, ◌∙◌, arith, get_or}
use Rattle.std.proofs.lemmas.List.{drop_all, take_all}
use Rattle.std.proofs.lemmas.List.Elements.{All-more}
use Rattle.std.proofs.lemmas.Nat.{mul-le}
use Rattle.hpf_base.specs.ElementOrder.{product}
use Rattle.hpf_base.proofs.ElementOrder.{product-drop_more, product-front, factor_some}
use Rattle.hpf_base.proofs.grid.nodes_of.Goals as goal
use Rattle.hpf_base.proofs.grid.nodes_of.Goals.{then-more-eq0-via-then-more-eq0, then-more-eq0-via-else-more-eq0+then-more}

pub returns-then-more-eq0-clause-some : goal.returns-then-more-eq0-clause-some
returns-then-more-eq0-clause-some c = (
  λ h. cc,
  λ h.
      let upto : c.loop-extent.nodes * get_or c.args.dims.now c.loop-extent.extent-index 0 ≤ product c.args.dims.now =
      product-front c.args.dims.now c.loop-extent.nodes c.loop-extent.extent-index c.loop-extent-test.true c.loop-extent.invariant.2 h.0 in
      let here : 1 ≤ get_or c.args.dims.now c.loop-extent.extent-index 0 = h.0 c.loop-extent.extent-index 0 c.loop-extent-test.true in
      elim c.then-more-eq0.branch [
        | then-more-eq0-via-then-more-eq0 w ↦ absurd (omega (
          arith,
          mul-le 1 1 c.loop-extent.nodes
              (get_or c.args.dims.now c.loop-extent.extent-index 0) c.loop-extent.invariant.0 here,
          w.if-more-eq0.true,
        ))
        | then-more-eq0-via-else-more-eq0+then-more w ↦ absurd (omega (arith, upto, h.1, w.if-more.true))
      ],
)

pub loop-extent-preserved : goal.loop-extent-preserved
loop-extent-preserved c = (
  omega arith,
  omega arith,
  sym (product-drop_more c.args.dims.now c.loop-extent.nodes c.loop-extent.extent-index c.loop-extent-test.true) ∙ c.loop-extent.invariant.2,
  All-more (λ e. 1 ≤ e) c.args.dims.now c.loop-extent.extent-index 0 c.loop-extent-test.true c.loop-extent.invariant.3
      (factor_some c.loop-extent.nodes (get_or c.args.dims.now c.loop-extent.extent-index 0) (omega arith)),
)

pub returns-clause-some : goal.returns-clause-some
returns-clause-some c =
    let none = drop_all c.loop-extent.extent-index c.args.dims.now c.loop-extent-test.false in
    let all = take_all c.loop-extent.extent-index c.args.dims.now c.loop-extent-test.false in
    let is : product c.args.dims.now ≡ c.loop-extent.nodes = grind (arith, none, c.loop-extent.invariant.2) in
    (λ h. (rw all at c.loop-extent.invariant.3, omega (arith, is, c.loop-extent.invariant.1)), λ h. refl)
