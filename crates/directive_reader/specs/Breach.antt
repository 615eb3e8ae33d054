-- Of the claim.
-- The directive that a line is, and why it is none.
use Rattle.std.specs.Prelude.{◌≡◌, ◌≢◌, ℕ, Bool, true, false, ◌||◌, List, [], ◌++◌, codes, Option, Some, None}
use Rattle.hpf_base.specs.declared.refusal.Reason.{Reason}
use Rattle.hpf_base.specs.declared.refusal.Reason.TheVariants.{BadDirective, Limit, LeftOut}
use Rattle.syntax_tree.specs.Lexeme.{Lexeme}
use Rattle.line_forms.specs.declared.depths.Depths.TheVariants.{Limited}
use Rattle.line_forms.specs.declared.read_error.ReadError.{ReadError}
use Rattle.line_forms.specs.declared.read_error.ReadError.TheVariants as read_error
use Rattle.line_forms.specs.Marks.{starts, key}
use Rattle.line_forms.specs.Reading.{Reading, Found, Stopped}
use Rattle.line_forms.specs.Shape.{names_shape}
use Rattle.directive_reader.specs.Forms.{DirectiveForm, IsForm, form_front, form_printed, form_kept}

-- what a tree keeps of a well-formed directive that spells the line and has no expression deeper than 200
pub record IsDirective (ts : List Lexeme) (form : DirectiveForm) : Type 0 where
  pub written : DirectiveForm
  pub well : IsForm written
  pub shallow : form_front Limited written ≡ None
  pub spelled : form_printed written ≡ ts
  pub same : form_kept written ≡ form

-- a well-formed directive spells the line, its expressions as deep as may be
abbrev pub IsSpelled : List Lexeme → Type 0
IsSpelled ts = (written : DirectiveForm) × IsForm written × (form_printed written ≡ ts)

-- it begins with REALIGN, or names PROCESSORS_SHAPE (HPF 2.0, 7 and 8)
abbrev pub is_left_out : List Lexeme → Bool
is_left_out ts = starts (key (codes "REALIGN")) ts || names_shape ts

-- a front of the line is that of a well-formed directive up to and with its first expression that is deeper than 200,
-- whatever stands after
pub record IsTooDeep (ts : List Lexeme) : Type 0 where
  pub written : DirectiveForm
  pub well : IsForm written
  pub front : List Lexeme
  pub deep : form_front Limited written ≡ Some front
  pub rest : List Lexeme
  pub parts : ts ≡ front ++ rest

-- the rules of a directive alone that a line breaks
abbrev pub IsDirectiveBreach : List Lexeme → Reason → Type 0
IsDirectiveBreach ts LeftOut = is_left_out ts ≡ true
IsDirectiveBreach ts Limit = IsTooDeep ts
IsDirectiveBreach ts BadDirective = (is_left_out ts ≡ false) × (IsSpelled ts → ⊥)
IsDirectiveBreach ts reason = ⊥

-- those at the number of the line
abbrev pub IsBreachAt : ℕ → List Lexeme → ℕ → Reason → Type 0
IsBreachAt line ts n reason = (n ≡ line) × IsDirectiveBreach ts reason

-- what a reading stopped at, if it did; want of memory has no cause in the lexemes
abbrev pub WhyNotRead : Option ReadError → Reading DirectiveForm → Type 0
WhyNotRead None r = (form : DirectiveForm) × (r ≡ Found (form, []))
WhyNotRead (Some why) r = why ≢ read_error.Memory → r ≡ Stopped why
