-- What is given: fields by their names, and lists of parts, in which a field stands once or twice.
use Rattle.std.proofs.Common.{ap, refl, sym, Bool, true, false, List, [], ◌∷◌, ◌++◌, ◌≡◌, ◌∙◌, true≢false, Some}
use Rattle.std.specs.Prelude.{◌||◌, ◌&&◌, not, find}
use Rattle.std.specs.Str.{bytes_eq}
use Rattle.std.proofs.Math.Bool.{or-false}
use Rattle.std.proofs.lemmas.Bool.{and_parts, and_right, or_left, or_parts, or_right}
use Rattle.std.proofs.lemmas.List.Folds.{list_any-append}
use Rattle.std.proofs.lemmas.Option.{same_Some}
use Rattle.std.proofs.lemmas.Slice.Eq.{bytes_eq-Decides}
use Rattle.hpf_words.specs.Parts.{Part, Field, value_of, flag, action, grid, threads, size, arrays, fixed, name_of}
use Rattle.hpf_words.specs.Jobs.{same, is_given, is_once}
use Rattle.hpf_words.proofs.Rules.{fields}

-- ---- fields

named : (f : Field) → find (λ g. bytes_eq (name_of g) (name_of f)) fields ≡ Some f
named (value_of grid) = refl
named (value_of threads) = refl
named (value_of size) = refl
named (flag arrays) = refl
named (flag fixed) = refl
named action = refl

-- fields of one name are one
pub same_is : (f g : Field) → same f g ≡ true → f ≡ g
same_is f g e =
    let names : name_of g ≡ name_of f = (bytes_eq-Decides (name_of g) (name_of f)).0 e in
    same_Some f g (sym (named f) ∙ ap (λ t. find (λ h. bytes_eq (name_of h) t) fields) (sym names) ∙ named g)

pub same_refl : (f : Field) → same f f ≡ true
same_refl f = (bytes_eq-Decides (name_of f) (name_of f)).1 refl

same_sym : (f g : Field) → same f g ≡ same g f
same_sym f g = go (same f g) (same g f) refl refl
  where
    go : (a b : Bool) → same f g ≡ a → same g f ≡ b → a ≡ b
    go true true e d = refl
    go false false e d = refl
    go true false e d = absurd (true≢false (sym (same_refl g) ∙ ap (same g) (sym (same_is f g e)) ∙ d))
    go false true e d = absurd (true≢false (sym (same_refl f) ∙ ap (same f) (sym (same_is g f d)) ∙ e))

-- an option is no action
abbrev pub is_option : Field → Bool
is_option action = false
is_option _ = true

pub not_action : (f : Field) → is_option f ≡ true → same action f ≡ false
not_action (value_of grid) o = refl
not_action (value_of threads) o = refl
not_action (value_of size) o = refl
not_action (flag arrays) o = refl
not_action (flag fixed) o = refl
not_action action o = absurd (true≢false (sym o))

-- ---- parts

pub given_more : (f : Field) (ps : List Part) (x : Part) → is_given f (ps ++ x ∷ []) ≡ (is_given f ps || same f x.0)
given_more f ps x = list_any-append (λ p. same f p.0) ps (x ∷ []) ∙ ap (λ b. is_given f ps || b) (or-false (same f x.0))

-- what is given again stands twice
pub twice : (ps : List Part) (x : Part) (qs : List Part) → is_given x.0 ps ≡ true → is_once (ps ++ x ∷ qs) ≡ false
twice [] x qs e = absurd (true≢false (sym e))
twice (p ∷ ps) x qs e = go (same x.0 p.0) refl e (twice ps x qs)
  where
    met : same x.0 p.0 ≡ true → is_given p.0 (ps ++ x ∷ qs) ≡ true
    met is = list_any-append (λ q. same p.0 q.0) ps (x ∷ qs) ∙ or_right (is_given p.0 ps) _ (or_left (same p.0 x.0) _ (same_sym p.0 x.0 ∙ is))

    go : (b : Bool) → same x.0 p.0 ≡ b → (b || is_given x.0 ps) ≡ true → (is_given x.0 ps ≡ true → is_once (ps ++ x ∷ qs) ≡ false) → is_once ((p ∷ ps) ++ x ∷ qs) ≡ false
    go true is h below = ap (λ b. not b && is_once (ps ++ x ∷ qs)) (met is)
    go false is h below = and_right (not (is_given p.0 (ps ++ x ∷ qs))) _ (below h)

pub once_more : (ps : List Part) (x : Part) → is_once ps ≡ true → is_given x.0 ps ≡ false → is_once (ps ++ x ∷ []) ≡ true
once_more [] x once new = refl
once_more (p ∷ ps) x once new =
    let parts = or_parts (same x.0 p.0) _ new in
    let was = and_parts (not (is_given p.0 ps)) _ once in
    let kept : is_given p.0 (ps ++ x ∷ []) ≡ is_given p.0 ps = given_more p.0 ps x ∙ ap (λ b. is_given p.0 ps || b) (same_sym p.0 x.0 ∙ parts.0) ∙ or-false (is_given p.0 ps) in
    ap (λ b. not b && is_once (ps ++ x ∷ [])) kept ∙ ap (λ b. b && is_once (ps ++ x ∷ [])) was.0 ∙ once_more ps x was.1 parts.1
