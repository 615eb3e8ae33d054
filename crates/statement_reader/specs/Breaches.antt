-- Of the claim.
-- Which lines are statements, and what is wrong with the others.
use Rattle.std.specs.Prelude.{◌≡◌, ℕ, List, ◌++◌, Some, None}
use Rattle.hpf_base.specs.declared.refusal.Reason.{Reason}
use Rattle.hpf_base.specs.declared.refusal.Reason.TheVariants.{NotAStatement, Limit, LeftOut}
use Rattle.syntax_tree.specs.Lexeme.{Lexeme}
use Rattle.line_forms.specs.declared.depths.Depths.TheVariants.{Limited}
use Rattle.statement_reader.specs.Forms.{StatementForm, form_printed, form_kept, form_front, IsForm}
use Rattle.statement_reader.specs.LeftOut.{IsLeftOut}

-- a statement spells the line, its expressions as deep as may be
pub record IsSpelled (ts : List Lexeme) : Type 0 where
  pub written : StatementForm
  pub formed : IsForm written
  pub parts : form_printed written ≡ ts

-- a front of the line is that of a well-formed statement up to and with its first expression that is deeper than 200,
-- whatever stands after
pub record IsTooDeep (ts : List Lexeme) : Type 0 where
  pub written : StatementForm
  pub formed : IsForm written
  pub front : List Lexeme
  pub deep : form_front Limited written ≡ Some front
  pub rest : List Lexeme
  pub parts : ts ≡ front ++ rest

-- any other line that no statement spells
abbrev pub IsNone : List Lexeme → Type 0
IsNone ts = (IsSpelled ts → ⊥) × (IsLeftOut ts → ⊥) × (IsTooDeep ts → ⊥)

-- what is wrong with a line as a statement
abbrev pub IsStatementBreach : List Lexeme → Reason → Type 0
IsStatementBreach ts NotAStatement = IsNone ts
IsStatementBreach ts Limit = IsTooDeep ts
IsStatementBreach ts LeftOut = IsLeftOut ts
IsStatementBreach ts reason = ⊥

-- the same, of the line of a number
abbrev pub IsBreachOn : ℕ → List Lexeme → ℕ → Reason → Type 0
IsBreachOn line ts n reason = (n ≡ line) × IsStatementBreach ts reason

-- what a tree keeps of a statement that spells the line, has no expression deeper than 200 and isn't left out
pub record IsStatement (ts : List Lexeme) (form : StatementForm) : Type 0 where
  pub written : StatementForm
  pub same : form_kept written ≡ form
  pub formed : IsForm written
  pub shallow : form_front Limited written ≡ None
  pub parts : form_printed written ≡ ts
  pub within : IsLeftOut ts → ⊥
