-- Lists of operators.
use Rattle.std.proofs.Common.{◌≡◌, Bool, true, false, bytes_eq, List, [], ◌∷◌, ◌++◌, refl, sym, ap, ◌∙◌, subst}
use Rattle.std.specs.Prelude.{◌||◌, if◌then◌else◌}
use Rattle.std.specs.List.{AllByRecursion, list_any}
use Rattle.std.proofs.lemmas.List.Folds.{list_any-append}
use Rattle.std.proofs.lemmas.Slice.Eq.{bytes_eq-Decides}
use Rattle.expression_rules.specs.Symbols.{Name}
use Rattle.nest_check.specs.NestNames.{operator_added, operators_added}
use Rattle.nest_standing.proofs.Exprs.{or_case}
use Rattle.nest_standing.proofs.Bodies.{or_true}

pub operators_hold : (P : _ → Type 0) (os ps : List _) → AllByRecursion P os → AllByRecursion P ps → AllByRecursion P (operators_added os ps)
operators_hold P os [] d f = d
operators_hold P os (p ∷ ps) d f = operators_hold P (operator_added os p) ps (one (list_any (λ q. bytes_eq p.variable q.variable) os)) f.1
  where
    last : (os : List _) → AllByRecursion P os → AllByRecursion P (os ++ p ∷ [])
    last [] d = (f.0, tt)
    last (o ∷ os) d = (d.0, last os d.1)

    one : (b : Bool) → AllByRecursion P (if b then os else os ++ p ∷ [])
    one true = d
    one false = last os d

or_false : (b : Bool) → (b || false) ≡ b
or_false true = refl
or_false false = refl

or_assoc : (a b c : Bool) → ((a || b) || c) ≡ (a || (b || c))
or_assoc true b c = refl
or_assoc false b c = refl

or_mono : (a b c : Bool) → (a ≡ true → c ≡ true) → (a || b) ≡ true → (c || b) ≡ true
or_mono true b c f h = subst (λ q. (q || b) ≡ true) (sym (f refl)) refl
or_mono false b true f h = refl
or_mono false b false f h = h

has_added : (os : List _) (o : _) (rs : List _) → operator_added os o ≡ rs → (x : Name) → (list_any (λ p. bytes_eq x p.variable) os || bytes_eq x o.variable) ≡ true
    → list_any (λ p. bytes_eq x p.variable) rs ≡ true
has_added os o rs e x h = ap (λ q. list_any (λ p. bytes_eq x p.variable) q) (sym e) ∙ by (list_any (λ p. bytes_eq o.variable p.variable) os) refl
  where
    by : (b : Bool) → list_any (λ p. bytes_eq o.variable p.variable) os ≡ b → list_any (λ p. bytes_eq x p.variable) (if b then os else os ++ o ∷ []) ≡ true
    by true f = or_case (or_true (list_any (λ p. bytes_eq x p.variable) os) (bytes_eq x o.variable) h) (λ r. r)
        (λ r. subst (λ q. list_any (λ p. bytes_eq q p.variable) os ≡ true) (sym ((bytes_eq-Decides x o.variable).0 r)) f)
    by false f = list_any-append (λ p. bytes_eq x p.variable) os (o ∷ []) ∙ ap (λ q. list_any (λ p. bytes_eq x p.variable) os || q) (or_false (bytes_eq x o.variable)) ∙ h

pub has_all : (os ps rs : List _) → operators_added os ps ≡ rs → (x : Name) → (list_any (λ p. bytes_eq x p.variable) os || list_any (λ p. bytes_eq x p.variable) ps) ≡ true
    → list_any (λ p. bytes_eq x p.variable) rs ≡ true
has_all os [] rs e x h = ap (λ q. list_any (λ p. bytes_eq x p.variable) q) (sym e) ∙ sym (or_false (list_any (λ p. bytes_eq x p.variable) os)) ∙ h
has_all os (p ∷ ps) rs e x h =
    has_all (operator_added os p) ps rs e x
    (or_mono (list_any (λ p. bytes_eq x p.variable) os || bytes_eq x p.variable) (list_any (λ p. bytes_eq x p.variable) ps) (list_any (λ p. bytes_eq x p.variable) (operator_added os p))
    (has_added os p (operator_added os p) refl x)
    (or_assoc (list_any (λ p. bytes_eq x p.variable) os) (bytes_eq x p.variable) (list_any (λ p. bytes_eq x p.variable) ps) ∙ h))
