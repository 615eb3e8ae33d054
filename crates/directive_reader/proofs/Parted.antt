-- A directive's word, and what stands after it.
use Rattle.std.proofs.Common.{◌≡◌, Bool, false, List, [], ◌∷◌, length, Some, refl, sym, ap, ◌∙◌}
use Rattle.std.specs.Prelude.{◌==◌, codes, if◌then◌else◌}
use Rattle.source_lines.specs.declared.token.Token.{Token}
use Rattle.syntax_tree.specs.Lexeme.{Lexeme, lexemes}
use Rattle.line_forms.specs.declared.depths.Depths.{Depths}
use Rattle.line_forms.specs.declared.read_error.ReadError.TheVariants as read_error
use Rattle.line_forms.specs.Marks.{key}
use Rattle.line_forms.specs.Reading.{Reading, Found, Stopped, ◌>>=◌}
use Rattle.line_forms.specs.Read.{after_marks, read}
use Rattle.directive_reader.specs.declared.kind.Kind.{Kind}
use Rattle.directive_reader.specs.declared.kind.Kind.TheVariants as kind
use Rattle.directive_reader.specs.Forms.{DirectiveForm, Known, Passed, alignment, distribution, is_passed}
use Rattle.directive_reader.specs.Reading.{DistributionSpec, AlignmentSpec, distribution_spec, directive, ended, directive_kind, known, alignment_spec, of_kind}

told : {A B C : Type 0} (r : Reading A) (f : A → B) (g : B × List Lexeme → Reading C) → ((r >>= λ v. Found (f v.0, v.1)) >>= g) ≡ (r >>= λ v. g (f v.0, v.1))
told (Found v) f g = refl
told (Stopped why) f g = refl

pub aligned : (depths : Depths) (many : Bool) (ts us : List Lexeme) (x : AlignmentSpec) (vs : List Lexeme)
    → after_marks (key (codes "ALIGN")) ts ≡ Found (tt, us) → alignment_spec depths many us ≡ Found (x, vs)
    → known depths (kind.Align many) ts ≡ Found (Known (kind.Align x.0) x.1, vs)
aligned depths many ts us x vs word is =
    ap (λ r. (r >>= λ x. read depths (alignment many) x.1) >>= λ v. Found (Known (kind.Align many) v.0, v.1)) word
    ∙ sym (told (read depths (alignment many) us) (λ v. (many, v)) (λ x. Found (Known (kind.Align x.0.0) x.0.1, x.1)))
    ∙ ap (λ r. r >>= λ x. Found (Known (kind.Align x.0.0) x.0.1, x.1)) is

pub distributed : (depths : Depths) (many : Bool) (ts us : List Lexeme) (x : DistributionSpec) (vs : List Lexeme)
    → after_marks (key (codes "DISTRIBUTE")) ts ≡ Found (tt, us) → distribution_spec depths many us ≡ Found (x, vs)
    → known depths (kind.Distribute many) ts ≡ Found (Known (kind.Distribute x.0) x.1, vs)
distributed depths many ts us x vs word is =
    ap (λ r. (r >>= λ x. read depths (distribution many) x.1) >>= λ v. Found (Known (kind.Distribute many) v.0, v.1)) word
    ∙ sym (told (read depths (distribution many) us) (λ v. (many, v)) (λ x. Found (Known (kind.Distribute x.0.0) x.0.1, x.1)))
    ∙ ap (λ r. r >>= λ x. Found (Known (kind.Distribute x.0.0) x.0.1, x.1)) is

pub redistributed : (depths : Depths) (many : Bool) (ts us : List Lexeme) (x : DistributionSpec) (vs : List Lexeme)
    → after_marks (key (codes "REDISTRIBUTE")) ts ≡ Found (tt, us) → distribution_spec depths many us ≡ Found (x, vs)
    → known depths (kind.Redistribute many) ts ≡ Found (Known (kind.Redistribute x.0) x.1, vs)
redistributed depths many ts us x vs word is =
    ap (λ r. (r >>= λ x. read depths (distribution many) x.1) >>= λ v. Found (Known (kind.Redistribute many) v.0, v.1)) word
    ∙ sym (told (read depths (distribution many) us) (λ v. (many, v)) (λ x. Found (Known (kind.Redistribute x.0.0) x.0.1, x.1)))
    ∙ ap (λ r. r >>= λ x. Found (Known (kind.Redistribute x.0.0) x.0.1, x.1)) is

-- something is left after a directive
pub left_over : (depths : Depths) (k : Kind) (ts : List Lexeme) (form : DirectiveForm) (rest : List Token) → is_passed ts ≡ false → directive_kind ts ≡ Some k
    → known depths k ts ≡ Found (form, lexemes rest) → false ≡ (length rest == 0) → directive depths ts ≡ Stopped read_error.Malformed
left_over depths k ts form rest other is found more =
    ap (λ b. if b then Found (Passed [], []) else (of_kind depths (directive_kind ts) ts >>= ended)) other
    ∙ ap (λ o. of_kind depths o ts >>= ended) is
    ∙ ap (λ r. r >>= ended) found
    ∙ left rest more
  where
    left : (rest : List Token) → false ≡ (length rest == 0) → ended (form, lexemes rest) ≡ Stopped read_error.Malformed
    left [] more = absurd cc
    left (t ∷ rest) more = refl
