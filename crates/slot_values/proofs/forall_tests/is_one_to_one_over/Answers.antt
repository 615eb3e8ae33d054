use Rattle.std.proofs.Common.{◌≡◌, ◌∙◌, IfOk, ap, subst}
use Rattle.array_meaning.specs.Forall.{is_one_to_one}
use Rattle.array_meaning.specs.Terms.{list_of}
use Rattle.code_meaning.specs.ForallLimits.{slots_state}
use Rattle.resolved_program.specs.Resolved.{terms_of}
use Rattle.slot_values.proofs.ForallTests.{listed_terms}
use Rattle.slot_values.proofs.forall_tests.is_one_to_one_over.Goals as goal

pub returns : goal.returns
returns c =
    subst (λ t. IfOk c.is_one_to_one.result (λ b. b ≡ t))
    (ap (λ s. is_one_to_one s (list_of (terms_of c.in_ok-left.left.items)) 0 c.args.ns.now) c.in_ok-s.ensures
    ∙ ap (λ ts. is_one_to_one (slots_state c.args.slots.now) ts 0 c.args.ns.now) (ap list_of c.in_ok-left.ensures ∙ listed_terms c.args.left.now.items))
    c.is_one_to_one.ensures
