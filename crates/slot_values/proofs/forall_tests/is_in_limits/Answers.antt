use Rattle.std.proofs.Common.{◌∙◌, ◌<◌, map, ap, subst}
use Rattle.array_meaning.specs.declared.limits.TheConstants.{MAX_TUPLES}
use Rattle.hpf_base.specs.ElementOrder.{product}
use Rattle.array_meaning.specs.Sections.{extents}
use Rattle.code_meaning.specs.ForallLimits.{slots_state, term_of}
use Rattle.code_meaning.specs.Forms.{selections_in}
use Rattle.node_code.specs.Texts.{flat, subs}
use Rattle.slot_values.proofs.ForallTests.{too_many}
use Rattle.slot_values.proofs.forall_tests.is_in_limits.Goals as goal

pub returns-in-None : goal.returns-in-None
returns-in-None c =
    too_many (selections_in c.args.slots.now (subs c.args.over.now)) (slots_state c.args.slots.now) (map term_of (map flat c.args.subscripts.now.items)) (subst (λ ns. MAX_TUPLES < product ns) (c.deref-2.ensures.value ∙ c.in_ok-ns.ensures ∙ ap extents (c.deref.ensures.value ∙ c.in_ok-ds.ensures)) c.in-None.ensures.none)
