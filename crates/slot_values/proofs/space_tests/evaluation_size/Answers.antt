use Rattle.std.proofs.Common.{◌∙◌, IfErr, ap, subst}
use Rattle.array_meaning.specs.Elementals.{sections}
use Rattle.array_meaning.specs.Sections.{extents, space_size}
use Rattle.code_meaning.specs.Forms.{selections_in}
use Rattle.node_code.specs.Texts.{subs}
use Rattle.term_values.specs.Stops.{IsStop}
use Rattle.term_values.specs.Views.{elemental}
use Rattle.slot_values.proofs.space_tests.evaluation_size.Goals as goal

pub returns-clause-stopped : goal.returns-clause-stopped
returns-clause-stopped c =
    subst (λ r. IfErr c.own_size.result (IsStop r))
    (ap (λ ns. space_size ns (sections (elemental c.in_ok-x.x)))
    (c.deref-3.ensures.value ∙ c.in_ok-ns.ensures
    ∙ ap extents (c.deref-2.ensures.value ∙ c.in_ok-over.ensures ∙ ap (λ ds. selections_in c.args.slots.now (subs ds)) c.deref.ensures.value))
    ∙ ap (λ x. space_size (extents (selections_in c.args.slots.now (subs c.args.p.now.over.items))) (sections x)) c.in_ok-x.ensures)
    c.own_size.ensures.stopped
