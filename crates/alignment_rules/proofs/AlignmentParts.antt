-- What is wrong with an ALIGN, whatever its alignees are, from its parts.
use Rattle.std.proofs.Common.{◌≡◌, Bool, List, ◌++◌, Option, Some, Global, map, sym, ap, ◌∙◌}
use Rattle.std.specs.Prelude.{Vec, ◌&&◌, ◌||◌, not, option_map}
use Rattle.std.specs.List.{flat_map}
use Rattle.hpf_base.specs.declared.refusal.Reason.{Reason}
use Rattle.hpf_base.specs.declared.refusal.Reason.TheVariants as reason
use Rattle.syntax_tree.specs.declared.directive.AlignSpec.{AlignSpec}
use Rattle.syntax_tree.specs.declared.directive.Target.{Target as HeldTarget}
use Rattle.syntax_tree.specs.Directive.{Target, alignment, target_of}
use Rattle.expression_rules.specs.Symbols.{Name}
use Rattle.declarations.specs.Declaring.{least_reason}
use Rattle.declarations.specs.Reasons.{when}
use Rattle.name_table.specs.Directives.{dummies, targets_of}
use Rattle.name_table.specs.Uses.{repeats}
use Rattle.distribution_rules.specs.Setting.{Setting, has_kind, is_mapped_kind, object}
use Rattle.alignment_rules.specs.AlignmentRules.{alignment_reasons, dummies_of_target, overlap, target_reasons}
use Rattle.alignment_rules.proofs.PairReasons.{tests_regrouped}

-- the entries of a list by themselves, and a test of all
abbrev listed : Setting → List Name → List Target → Bool → Option Reason
listed s ds ts bad = least_reason (flat_map (target_reasons s ds) ts ++ when bad reason.BadDirective)

abbrev is_mapped : Setting → AlignSpec → Bool
is_mapped s a = has_kind is_mapped_kind (object s a.target)

pub alignment_parts : (s : Setting) (a : AlignSpec) (ds : List Name) (v : Vec HeldTarget Global) (ts : List HeldTarget) (good : Bool) (least : Option Reason) →
    a.subs ≡ Some v → ts ≡ v.items → ds ≡ dummies (alignment a) → good ≡ (not (repeats ds) && is_mapped s a) →
    least ≡ listed s ds (map target_of ts) (overlap (map (dummies_of_target ds) (map target_of ts)) || not good) → least ≡ least_reason (alignment_reasons s (alignment a))
alignment_parts s a ds v ts good least is items names good_is found =
    let xs = map target_of ts in
    let given : Some xs ≡ (alignment a).subscripts =
    ap (λ l. Some (map target_of l)) items ∙ sym (ap (option_map (λ (w : Vec HeldTarget Global). map target_of w.items)) is) in
    found
    ∙ ap (λ g. listed s ds xs (overlap (map (dummies_of_target ds) xs) || not g)) good_is
    ∙ ap (listed s ds xs) (tests_regrouped (repeats ds) (overlap (map (dummies_of_target ds) xs)) (is_mapped s a))
    ∙ ap (λ x. listed s x xs (repeats x || overlap (map (dummies_of_target x) xs) || not (is_mapped s a))) names
    ∙ ap (λ t. listed s (dummies (alignment a)) (targets_of t)
    (repeats (dummies (alignment a)) || overlap (map (dummies_of_target (dummies (alignment a))) (targets_of t)) || not (is_mapped s a))) given
