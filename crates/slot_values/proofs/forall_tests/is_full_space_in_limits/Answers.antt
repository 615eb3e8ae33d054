use Rattle.std.proofs.Common.{◌≡◌, ◌∙◌, ◌<◌, ◌≤◌, IfOk, ap, sym, subst}
use Rattle.array_meaning.specs.declared.limits.TheConstants.{MAX_TUPLES}
use Rattle.hpf_base.specs.ElementOrder.{product}
use Rattle.array_meaning.specs.Forall.{index_extents, is_forall_in_limits}
use Rattle.array_meaning.specs.Terms.{list_of}
use Rattle.code_meaning.specs.ForallLimits.{sequences_of, slots_state}
use Rattle.resolved_program.specs.Resolved.{terms_of}
use Rattle.slot_values.proofs.ForallTests.{listed_terms, same_extents}
use Rattle.slot_values.proofs.forall_tests.is_full_space_in_limits.Goals as goal

pub are_subscripts_in_limits-requires-clause-some : goal.are_subscripts_in_limits-requires-clause-some
are_subscripts_in_limits-requires-clause-some c =
    subst (λ ns. 0 < product ns) (same_extents c.args.ds.now ∙ ap index_extents (sym (c.deref.ensures.value ∙ c.in_ok-axes.ensures))) c.requires.some

pub are_subscripts_in_limits-requires-clause-few : goal.are_subscripts_in_limits-requires-clause-few
are_subscripts_in_limits-requires-clause-few c =
    subst (λ ns. product ns ≤ MAX_TUPLES) (same_extents c.args.ds.now ∙ ap index_extents (sym (c.deref.ensures.value ∙ c.in_ok-axes.ensures))) c.requires.few

pub returns : goal.returns
returns c =
    subst (λ t. IfOk c.are_subscripts_in_limits.result (λ b. b ≡ t))
    (ap (λ s. is_forall_in_limits s c.deref.result.now (list_of (terms_of c.in_ok-subscripts.subscripts.items))) c.in_ok-s.ensures
    ∙ ap (λ axes. is_forall_in_limits (slots_state c.args.slots.now) axes (list_of (terms_of c.in_ok-subscripts.subscripts.items))) (c.deref.ensures.value ∙ c.in_ok-axes.ensures)
    ∙ ap (is_forall_in_limits (slots_state c.args.slots.now) (sequences_of c.args.ds.now)) (ap list_of c.in_ok-subscripts.ensures ∙ listed_terms c.args.subscripts.now.items))
    c.are_subscripts_in_limits.ensures
