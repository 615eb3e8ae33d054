use Rattle.std.proofs.Common.{◌≡◌, IfOk, ap, sym, ◌∙◌, subst}
use Rattle.node_code.specs.Flat.{Operated}
use Rattle.node_code.specs.Texts.{flat, flats_of}
use Rattle.node_code.proofs.Rows.{operated_vec}
use Rattle.anchor_code.proofs.Flats.{same_flats}
use Rattle.anchor_code.proofs.copies.+copied_flat.Goals as goal

pub copied_flat-returns-in-Operated : goal.copied_flat-returns-in-Operated
copied_flat-returns-in-Operated t c =
    subst (λ w. IfOk c.operated.result (λ r. flat r ≡ w))
    (ap (λ l. Operated c.in-Operated.op (flats_of l)) c.deref.ensures.value ∙ sym (operated_vec c.in-Operated.op c.in-Operated.operands) ∙ ap flat (sym c.in-Operated.is))
    c.operated.ensures

pub operated-returns : goal.operated-returns
operated-returns t c =
    operated_vec c.args.op c.in_ok-copied_flats.field-0
    ∙ ap (Operated c.args.op) (same_flats c.in_ok-copied_flats.field-0.items c.args.operands.now c.in_ok-copied_flats.ensures)
