-- Of the claim.
-- Which programs a text spells, what it means, and what is wrong with other texts (Fortran 95, 2, 3 and 11.1; HPF 2.0, 2.3).
use Rattle.std.specs.Prelude.{◌≡◌, ℕ, ◌⊎◌, List, [], ◌∷◌, length, map}
use Rattle.hpf_base.specs.declared.refusal.Reason.{Reason}
use Rattle.hpf_base.specs.declared.refusal.Refusal.{Refusal}
use Rattle.hpf_base.specs.declared.refusal.StaticError.{StaticError}
use Rattle.hpf_base.specs.declared.refusal.StaticError.TheVariants.{Refused, Memory}
use Rattle.hpf_base.specs.Refusal.{IsFirstBreach, NoBreach}
use Rattle.source_lines.specs.declared.line.LogicalLine.{LogicalLine}
use Rattle.source_lines.specs.declared.line.LineKind.{LineKind}
use Rattle.source_lines.specs.declared.line.LineKind.TheVariants as line
use Rattle.source_lines.specs.PhysicalLines.{physical_lines}
use Rattle.source_lines.specs.Breaches.{IsLineBreach}
use Rattle.source_lines.specs.LogicalLines.{logical_lines}
use Rattle.fixed_lines.specs.FixedBreaches.{IsFixedBreach}
use Rattle.fixed_lines.specs.FixedLogicalLines.{fixed_lines}
use Rattle.token_scan.specs.Tokens.{tokens, IsTokenBreach}
use Rattle.syntax_tree.specs.Lexeme.{Lexeme, lexemes}
use Rattle.syntax_tree.specs.MainProgram.{MainProgram}
use Rattle.statement_reader.specs.Breaches.{IsStatement, IsStatementBreach}
use Rattle.directive_reader.specs.Breach.{IsDirective, IsDirectiveBreach}
use Rattle.construct_rules.specs.ProgramLine.{ProgramLine, LineContent, OfStatement, OfDirective}
use Rattle.construct_rules.specs.Breaches.{IsNestBreach}
use Rattle.construct_reader.specs.SpelledProgram.{SpelledProgram}
use Rattle.construct_reader.specs.ProgramLines.{IsSpelled}
use Rattle.construct_reader.specs.Formed.{IsProgram}
use Rattle.construct_reader.specs.Meant.{meant}
use Rattle.hpf_reader.specs.declared.source_form.SourceForm.{SourceForm}
use Rattle.hpf_reader.specs.declared.source_form.SourceForm.TheVariants.{Free, Fixed}

-- the logical lines of a text in a source form (Fortran 95, 3.3.1 and 3.3.2)
abbrev pub lines_in : SourceForm → List ℕ → List LogicalLine
lines_in Free text = logical_lines text
lines_in Fixed text = fixed_lines text

-- a line of a text breaks a rule of its source form
abbrev pub LinesBreak : SourceForm → List ℕ → ℕ → Reason → Type 0
LinesBreak Free text number reason = IsLineBreach text number reason
LinesBreak Fixed text number reason = IsFixedBreach text number reason

-- a logical line as its lexemes: the number of its first line, whether it is a statement or a directive, and the lexemes
pub record LexemeLine : Type 0 where
  pub number : ℕ
  pub kind : LineKind
  pub lexemes : List Lexeme

abbrev pub lexeme_line : LogicalLine → LexemeLine
lexeme_line l = record { number = l.line; kind = l.kind; lexemes = lexemes (tokens l.bytes) }

-- the lines of a text
abbrev pub lexeme_lines : SourceForm → List ℕ → List LexemeLine
lexeme_lines form text = map lexeme_line (lines_in form text)

-- the statement or the directive that lexemes are
abbrev pub IsContent : LineKind → List Lexeme → LineContent → Type 0
IsContent line.Statement ts (OfStatement form) = IsStatement ts form
IsContent line.Directive ts (OfDirective form) = IsDirective ts form
IsContent kind ts content = ⊥

abbrev pub IsLineOf : LexemeLine → ProgramLine → Type 0
IsLineOf l s = (s.number ≡ l.number) × IsContent l.kind l.lexemes s.what

-- the lines are these statements and directives, in order
abbrev pub AreLinesOf : List LexemeLine → List ProgramLine → Type 0
AreLinesOf [] [] = Unit {0}
AreLinesOf [] (s ∷ ss) = ⊥
AreLinesOf (l ∷ ls) [] = ⊥
AreLinesOf (l ∷ ls) (s ∷ ss) = IsLineOf l s × AreLinesOf ls ss

-- the text spells the program: its lines are statements and directives that do
pub record IsProgramText (form : SourceForm) (text : List ℕ) (p : SpelledProgram) : Type 0 where
  pub lines : List ProgramLine
  pub read : AreLinesOf (lexeme_lines form text) lines
  pub spelled : IsSpelled lines p
  pub formed : IsProgram p

-- the text means the program: it spells lines that mean it
pub record IsMeantBy (form : SourceForm) (text : List ℕ) (p : MainProgram) : Type 0 where
  pub spelled : SpelledProgram
  pub reads : IsProgramText form text spelled
  pub means : meant spelled ≡ p

-- one of the lines has the breach
abbrev pub OneBreaks : {A : Type 0} → (A → ℕ → Reason → Type 0) → List A → ℕ → Reason → Type 0
OneBreaks breach [] number reason = ⊥
OneBreaks breach (l ∷ ls) number reason = breach l number reason ⊎ OneBreaks breach ls number reason

-- the tokens of one of the lines break a rule
abbrev pub TokensBreak : List LogicalLine → ℕ → Reason → Type 0
TokensBreak ls number reason = OneBreaks IsTokenBreach ls number reason

-- what is wrong with a line of a kind
abbrev pub IsWrong : LineKind → List Lexeme → Reason → Type 0
IsWrong line.Statement ts reason = IsStatementBreach ts reason
IsWrong line.Directive ts reason = IsDirectiveBreach ts reason

abbrev pub FormBreaks : LexemeLine → ℕ → Reason → Type 0
FormBreaks l number reason = (number ≡ l.number) × IsWrong l.kind l.lexemes reason

-- one of the lines is no statement or directive of the language
abbrev pub FormsBreak : List LexemeLine → ℕ → Reason → Type 0
FormsBreak ls number reason = OneBreaks FormBreaks ls number reason

-- the lines are statements and directives, and one of them stands where it may not
pub record NestBreaks (form : SourceForm) (text : List ℕ) (number : ℕ) (reason : Reason) : Type 0 where
  pub lines : List ProgramLine
  pub read : AreLinesOf (lexeme_lines form text) lines
  pub broken : IsNestBreach (length (physical_lines text)) lines number reason

-- the breaches of a text stand in four stages: of its lines, of their tokens, of each statement and directive alone, and of
-- the nest. The text is refused for the first breach of the first stage that has one
pub data IsRefused (form : SourceForm) (text : List ℕ) (r : Refusal) : Type 0 where
  by_lines : IsFirstBreach (LinesBreak form text) r → IsRefused form text r
  by_tokens : NoBreach (LinesBreak form text) → IsFirstBreach (TokensBreak (lines_in form text)) r → IsRefused form text r
  by_forms : NoBreach (LinesBreak form text) → NoBreach (TokensBreak (lines_in form text))
      → IsFirstBreach (FormsBreak (lexeme_lines form text)) r → IsRefused form text r
  by_nest : NoBreach (LinesBreak form text) → NoBreach (TokensBreak (lines_in form text)) → NoBreach (FormsBreak (lexeme_lines form text))
      → IsFirstBreach (NestBreaks form text) r → IsRefused form text r

-- no stage has a breach
pub record HasNoBreach (form : SourceForm) (text : List ℕ) : Type 0 where
  pub lines : NoBreach (LinesBreak form text)
  pub tokens : NoBreach (TokensBreak (lines_in form text))
  pub forms : NoBreach (FormsBreak (lexeme_lines form text))
  pub nest : NoBreach (NestBreaks form text)

-- why no tree is given; want of memory has no cause in the text
abbrev pub IsProgramRefusal : SourceForm → List ℕ → StaticError → Type 0
IsProgramRefusal form text (Refused r) = IsRefused form text r
IsProgramRefusal form text Memory = Unit {0}
