use Rattle.std.proofs.Common.{◌+◌, [], ◌∷◌, Some, ap, ◌∙◌}
use Rattle.array_meaning.specs.Terms.{Scalar}
use Rattle.node_code.specs.Instructions.{Check, TestStride}
use Rattle.node_code.specs.Texts.{instructions}
use Rattle.resolved_program.specs.Resolved.{block_of, mark}
use Rattle.node_codegen.proofs.nests.entry_code.Goals as goal

pub returns : goal.returns
returns c =
    let first = c.args.first in
    let marks = (λ i. mark (Some c.in_ok-nest.nest)
    ((c.with_bounds.ensures ∙ (λ i. record { index = c.args.l.now.index; control = record { first = Scalar first; last = Scalar (c.in_ok-last.ensures i); step = Scalar (c.in_ok-slot.ensures i) } })) i)
    (c.in_ok-body.ensures i))
    ∙ c.in_ok-nest.ensures (record { index = c.args.l.now.index; control = record { first = Scalar first; last = Scalar (first + 1); step = Scalar (first + 2) } }) (block_of c.args.body.now.items) in
    ap instructions c.in_ok-vec.ensures.items ∙ (λ i. TestStride c.args.line (c.in_ok-slot.ensures i) ∷ Check c.args.line (marks i) ∷ [])
