-- The lines of a text, and what is wrong with their nest.
use Rattle.std.proofs.Common.{◌≡◌, ℕ, List, [], ◌∷◌, length, Some, None, refl, sym, ap, ◌∙◌, subst}
use Rattle.hpf_base.specs.declared.refusal.Reason.{Reason}
use Rattle.hpf_base.specs.declared.refusal.StaticError.{StaticError}
use Rattle.hpf_base.specs.declared.refusal.StaticError.TheVariants.{Refused, Memory}
use Rattle.hpf_base.specs.Refusal.{IsRefusalBy, NoBreach}
use Rattle.source_lines.specs.declared.line.LineKind.{LineKind}
use Rattle.source_lines.specs.declared.line.LineKind.TheVariants as line
use Rattle.source_lines.specs.PhysicalLines.{physical_lines}
use Rattle.syntax_tree.specs.Lexeme.{Lexeme}
use Rattle.statement_reader.specs.Forms as statements
use Rattle.statement_reader.specs.Breaches.{IsStatement}
use Rattle.statement_reader.proofs.Spelled.{one_form}
use Rattle.directive_reader.specs.Forms as directives
use Rattle.directive_reader.specs.Breach.{IsDirective}
use Rattle.directive_reader.proofs.Verdicts.{one_directive}
use Rattle.construct_rules.specs.ProgramLine.{ProgramLine, LineContent, OfStatement, OfDirective}
use Rattle.construct_rules.specs.Breaches.{IsNestBreach}
use Rattle.hpf_base.proofs.FirstBreaches.{first_same}
use Rattle.construct_reader.specs.SpelledProgram.{SpelledProgram}
use Rattle.construct_reader.specs.ProgramLines.{IsSpelled}
use Rattle.construct_reader.proofs.Same.{same_program}
use Rattle.syntax_tree.specs.declared.decl.Tree.{Tree}
use Rattle.syntax_tree.specs.MainProgram.{MainProgram, main_program}
use Rattle.construct_reader.specs.Meant.{meant}
use Rattle.construct_reader.specs.Views.{spelled_program}
use Rattle.construct_reader.specs.Said.{IsSaid, AreSaid}
use Rattle.construct_reader.proofs.Meanings.{meant_is}
use Rattle.construct_reader.proofs.Said.{declarations_said}
use Rattle.hpf_reader.specs.ProgramText.{LexemeLine, lexeme_lines, lines_in, IsContent, IsLineOf, AreLinesOf, IsProgramText, IsMeantBy, LinesBreak, TokensBreak, FormsBreak, NestBreaks, IsProgramRefusal, by_nest}
use Rattle.hpf_reader.specs.declared.source_form.SourceForm.{SourceForm}

-- lexemes are one directive to a tree
same_directive : (ts : List Lexeme) (f g : directives.DirectiveForm) → IsDirective ts f → IsDirective ts g → f ≡ g
same_directive ts f g h i = sym h.same ∙ one_directive h.written i.written h.well i.well (h.spelled ∙ sym i.spelled) ∙ i.same

-- lexemes are one statement to a tree
same_statement : (ts : List Lexeme) (f g : statements.StatementForm) → IsStatement ts f → IsStatement ts g → f ≡ g
same_statement ts f g h i = sym h.same ∙ one_form h.written i.written h.formed i.formed (h.parts ∙ sym i.parts) ∙ i.same

same_content : (k : LineKind) (ts : List Lexeme) (a b : LineContent) → IsContent k ts a → IsContent k ts b → a ≡ b
same_content line.Statement ts (OfStatement f) (OfStatement g) h i = ap OfStatement (same_statement ts f g h i)
same_content line.Statement ts (OfStatement f) (OfDirective g) h i = absurd i
same_content line.Statement ts (OfDirective f) b h i = absurd h
same_content line.Directive ts (OfDirective f) (OfDirective g) h i = ap OfDirective (same_directive ts f g h i)
same_content line.Directive ts (OfDirective f) (OfStatement g) h i = absurd i
same_content line.Directive ts (OfStatement f) b h i = absurd h

same_line : (l : LexemeLine) (a b : ProgramLine) → IsLineOf l a → IsLineOf l b → a ≡ b
same_line l a b h i = λ k. record { number = (h.0 ∙ sym i.0) k; what = same_content l.kind l.lexemes a.what b.what h.1 i.1 k }

-- logical lines are one list of statements and directives
pub same_lines : (ls : List LexemeLine) (a b : List ProgramLine) → AreLinesOf ls a → AreLinesOf ls b → a ≡ b
same_lines [] [] [] h i = refl
same_lines [] [] (y ∷ b) h i = absurd i
same_lines [] (x ∷ a) b h i = absurd h
same_lines (l ∷ ls) [] b h i = absurd h
same_lines (l ∷ ls) (x ∷ a) [] h i = absurd i
same_lines (l ∷ ls) (x ∷ a) (y ∷ b) h i = λ k. same_line l x y h.0 i.0 k ∷ same_lines ls a b h.1 i.1 k

-- the breaches of the nest of a text are those of its lines
module _ (form : SourceForm) (text : List ℕ) (n : ℕ) (ss : List ProgramLine) (last : n ≡ length (physical_lines text)) (read : AreLinesOf (lexeme_lines form text) ss) where
  of_text : (line : ℕ) (why : Reason) → IsNestBreach n ss line why → NestBreaks form text line why
  of_text line why b = record { lines = ss; read = read; broken = subst (λ n. IsNestBreach n ss line why) last b }

  of_lines : (line : ℕ) (why : Reason) → NestBreaks form text line why → IsNestBreach n ss line why
  of_lines line why b =
      subst (λ n. IsNestBreach n ss line why) (sym last)
      (subst (λ ss. IsNestBreach (length (physical_lines text)) ss line why) (same_lines (lexeme_lines form text) b.lines ss b.read read) b.broken)

  pub nest_free : NoBreach (IsNestBreach n ss) → NoBreach (NestBreaks form text)
  nest_free = first_same (IsNestBreach n ss) (NestBreaks form text) None of_text of_lines

  pub nest_refused : (e : StaticError) → IsRefusalBy (IsNestBreach n ss) e → IsRefusalBy (NestBreaks form text) e
  nest_refused (Refused r) h = first_same (IsNestBreach n ss) (NestBreaks form text) (Some r) of_text of_lines h
  nest_refused Memory h = tt

pub refused_by_nest : (form : SourceForm) (text : List ℕ) (e : StaticError) → NoBreach (LinesBreak form text) → NoBreach (TokensBreak (lines_in form text))
    → NoBreach (FormsBreak (lexeme_lines form text)) → IsRefusalBy (NestBreaks form text) e → IsProgramRefusal form text e
refused_by_nest form text (Refused r) lines tokens forms h = by_nest lines tokens forms h
refused_by_nest form text Memory lines tokens forms h = tt

-- a text spells one program at most
pub one_tree : (form : SourceForm) (text : List ℕ) (p q : SpelledProgram) → IsProgramText form text p → IsProgramText form text q → p ≡ q
one_tree form text p q h i =
    same_program p q h.formed i.formed h.lines h.spelled (subst (λ ls. IsSpelled ls q) (same_lines (lexeme_lines form text) i.lines h.lines i.read h.read) i.spelled)

-- a text means one program at most
pub one_program : (form : SourceForm) (text : List ℕ) (p q : MainProgram) → IsMeantBy form text p → IsMeantBy form text q → p ≡ q
one_program form text p q h i = sym h.means ∙ ap meant (one_tree form text h.spelled i.spelled h.reads i.reads) ∙ i.means

content_said : (k : LineKind) (ts : List Lexeme) (what : LineContent) → IsContent k ts what → IsSaid what
content_said line.Statement ts (OfStatement f) h = (h.written, h.same, h.formed)
content_said line.Statement ts (OfDirective f) h = absurd h
content_said line.Directive ts (OfStatement f) h = absurd h
content_said line.Directive ts (OfDirective f) h = tt

lines_said : (ls : List LexemeLine) (ss : List ProgramLine) → AreLinesOf ls ss → AreSaid ss
lines_said [] [] h = tt
lines_said [] (s ∷ ss) h = absurd h
lines_said (l ∷ ls) [] h = absurd h
lines_said (l ∷ ls) (s ∷ ss) h = (content_said l.kind l.lexemes s.what h.0.1, lines_said ls ss h.1)

-- what a text spells means the abstract syntax of its tree
pub tree_meant : (form : SourceForm) (text : List ℕ) (t : Tree) → IsProgramText form text (spelled_program t) → IsMeantBy form text (main_program t)
tree_meant form text t h = record {
  spelled = spelled_program t;
  reads = h;
  means = meant_is t h.formed (declarations_said h.lines (spelled_program t) h.spelled (lines_said (lexeme_lines form text) h.lines h.read));
}
