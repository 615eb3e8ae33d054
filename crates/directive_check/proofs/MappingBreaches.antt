-- The first of what a program breaks of the rules of mapping directives, from the firsts of its parts.
use Rattle.std.proofs.Common.{◌≡◌, ℕ, Bool, true, false, List, [], ◌∷◌, ◌++◌, Option, Some, None, refl, sym, ap, subst, ◌∙◌}
use Rattle.std.specs.Prelude.{is_some, nat_lt, if◌then◌else◌}
use Rattle.std.specs.List.{flat_map}
use Rattle.std.proofs.lemmas.List.{append-nil}
use Rattle.hpf_base.specs.Refusal.{number_of}
use Rattle.hpf_base.specs.declared.refusal.Reason.{Reason}
use Rattle.hpf_base.specs.declared.refusal.Refusal.{Refusal}
use Rattle.hpf_base.specs.FirstBreach.{Among, IsFirstOrNone, at_line, earlier, least}
use Rattle.hpf_base.proofs.FirstBreaches.{earlier_assoc, least_append, least_first}
use Rattle.syntax_tree.specs.Directive.{Distribution}
use Rattle.declarations.specs.Declaring.{least_reason, lesser}
use Rattle.declarations.specs.Reasons.{at}
use Rattle.declarations.proofs.LeastReasons.{least_at, least_reason_append}
use Rattle.distribution_rules.specs.declared.evaluated_formats.DistributionValues.{DistributionValues}
use Rattle.distribution_rules.specs.DistributionRules.{distribute_reasons, distributee_reasons, distribution_reasons, distribution_values}
use Rattle.distribution_rules.specs.Setting.{Setting, object}
use Rattle.directive_check.specs.MappedObjects.{MappedObject}
use Rattle.directive_check.specs.Chains.{has_some}
use Rattle.directive_check.specs.ChainSteps.{chain_breaches_in}
use Rattle.directive_check.specs.MappingRules.{chain_breaches}
use Rattle.directive_check.proofs.SameMapped.{MapSame, chain_breaches_same}

-- of five lists, one after the other
first_of_five : (a b c d e : List Refusal) → earlier (least a) (earlier (least b) (earlier (least c) (earlier (least d) (least e)))) ≡ least (a ++ b ++ c ++ d ++ e)
first_of_five a b c d e =
    sym (least_append (a ++ b ++ c ++ d) e
    ∙ ap (λ r. earlier r (least e)) (least_append (a ++ b ++ c) d ∙ ap (λ r. earlier r (least d)) (least_append (a ++ b) c ∙ ap (λ r. earlier r (least c)) (least_append a b)))
    ∙ earlier_assoc (earlier (earlier (least a) (least b)) (least c)) (least d) (least e)
    ∙ earlier_assoc (earlier (least a) (least b)) (least c) (earlier (least d) (least e))
    ∙ earlier_assoc (least a) (least b) (earlier (least c) (earlier (least d) (least e))))

pub earliest_of_five : (a b c d e : List Refusal) (x y z v w last after more all : Option Refusal) →
    x ≡ least a → y ≡ least b → z ≡ least c → v ≡ least d → w ≡ least e →
    last ≡ earlier v w → after ≡ earlier z last → more ≡ earlier y after → all ≡ earlier x more → all ≡ least (a ++ b ++ c ++ d ++ e)
earliest_of_five a b c d e x y z v w last after more all xa yb zc vd we h1 h2 h3 h4 = let five = first_of_five a b c d e in cc

-- there is a least reason where there is some
some_lesser : (why : Reason) (other : Option Reason) → is_some (lesser (Some why) other) ≡ true
some_lesser why None = refl
some_lesser why (Some other) = by (nat_lt (number_of other) (number_of why))
  where
    by : (t : Bool) → is_some (if t then Some other else Some why) ≡ true
    by true = refl
    by false = refl

pub some_least : (whys : List Reason) → is_some (least_reason whys) ≡ has_some whys
some_least [] = refl
some_least (why ∷ whys) = some_lesser why (least_reason whys)

-- where the first object with each name is known, and each name of DYNAMIC
pub chained : (s : Setting) (ms firsts objects : List MappedObject) (o : Option Refusal) → objects ≡ ms → MapSame firsts objects →
    o ≡ least (chain_breaches_in s firsts objects) → o ≡ least (chain_breaches s ms)
chained s ms firsts objects o is same found =
    found ∙ ap least (chain_breaches_same s firsts objects same objects) ∙ ap (λ l. least (chain_breaches s l)) is

pub is_first : (rs : List Refusal) (found first : Option Refusal) → found ≡ least rs → found ≡ first → IsFirstOrNone (Among rs) first
is_first rs found first is found_is = subst (IsFirstOrNone (Among rs)) (sym is ∙ found_is) (least_first rs)

-- the first of the breaches at a line, from the least of the reasons
pub first_of_line : (line : ℕ) (whys : List Reason) (reason : Option Reason) (found : Option Refusal) → reason ≡ least_reason whys → found ≡ at_line line reason →
    found ≡ least (at line whys ++ [])
first_of_line line whys reason found is at_it = at_it ∙ ap (at_line line) is ∙ sym (least_at line whys) ∙ ap least (sym (append-nil (at line whys)))

-- the least reason for which a DISTRIBUTE breaks a rule
pub least_of_distribute : (s : Setting) (d : Distribution) (v : DistributionValues) (own named both : Option Reason) → v ≡ distribution_values s d →
    own ≡ least_reason (distribution_reasons v) → named ≡ least_reason (flat_map (λ x. distributee_reasons v (object s x)) d.names) → both ≡ lesser own named →
    both ≡ least_reason (distribute_reasons s d)
least_of_distribute s d v own named both values a b is =
    is
    ∙ (λ i. lesser (a i) (b i))
    ∙ (λ i. lesser (least_reason (distribution_reasons (values i))) (least_reason (flat_map (λ x. distributee_reasons (values i) (object s x)) d.names)))
    ∙ sym (least_reason_append (distribution_reasons (distribution_values s d)) (flat_map (λ x. distributee_reasons (distribution_values s d) (object s x)) d.names))
