-- Of a promise.
-- The longest expression that begins at a token (Fortran 95, 7.1).
use Rattle.std.specs.Prelude.{◌≡◌, ◌≤◌, ◌<◌, ℕ, ◌-◌, List, ◌++◌, length, drop}
use Rattle.expr_reader.specs.declared.limits.TheConstants.{MAX_DEPTH}
use Rattle.hpf_base.specs.declared.refusal.Reason.{Reason}
use Rattle.hpf_base.specs.declared.refusal.Reason.TheVariants.{NotAStatement, Limit}
use Rattle.hpf_base.specs.declared.refusal.StaticError.{StaticError}
use Rattle.hpf_base.specs.declared.refusal.StaticError.TheVariants.{Refused, Memory}
use Rattle.source_lines.specs.declared.token.Token.{Token}
use Rattle.syntax_tree.specs.Lexeme.{Lexeme, lexemes}
use Rattle.syntax_tree.specs.Expression.{Expression, kept}
use Rattle.syntax_tree.specs.Spelling.{spelling, IsFormed, depth}
use Rattle.expr_reader.specs.Spelled.{Spelled}

-- a well-formed expression is spelled by so many of the first lexemes, and none by more of them
pub record IsLongest (ts : List Lexeme) (x : Expression × ℕ) : Type 0 where
  pub spelled : Spelled 0 ts x
  pub longest : (e : Expression) (rest : List Lexeme) → IsFormed e → ts ≡ spelling e ++ rest → length (spelling e) ≤ x.1

-- no well-formed expression is spelled by a front of the lexemes
abbrev pub NoneBegins : List Lexeme → Type 0
NoneBegins ts = (e : Expression) (rest : List Lexeme) → IsFormed e → ts ≡ spelling e ++ rest → ⊥

-- the tree of the longest expression, which goes from a place to another and isn't too deep
pub record IsRead (tokens : List Token) (from : ℕ) (tree : Expression) (to : ℕ) : Type 0 where
  pub forward : from ≤ to
  pub written : Expression
  pub same : kept written ≡ tree
  pub longest : IsLongest (drop from (lexemes tokens)) (written, to - from)
  pub shallow : depth written ≤ MAX_DEPTH

-- why no expression is read
abbrev pub Why : List Lexeme → Reason → Type 0
Why ts NotAStatement = NoneBegins ts
Why ts Limit = (x : Expression × ℕ) × IsLongest ts x × (MAX_DEPTH < depth x.0)
Why ts reason = ⊥

abbrev pub IsRefused : ℕ → List Token → ℕ → StaticError → Type 0
IsRefused line tokens from Memory = Unit {0}
IsRefused line tokens from (Refused r) = (r.line ≡ line) × Why (drop from (lexemes tokens)) r.reason
