-- Breaches of lines.
use Rattle.std.proofs.Common.{◌≡◌, ◌<◌, ℕ, ◌+◌, List, [], ◌∷◌, ◌++◌, length, get_or, take, map, Option, Some, None, Bool, true, false, ◌⊎◌, inl, inr, refl, sym, ap, ◌∙◌, subst, ⊎_elim}
use Rattle.std.specs.Prelude.{if◌then◌else◌, IfNone}
use Rattle.std.proofs.lemmas.List.{take_more}
use Rattle.hpf_base.specs.declared.refusal.Reason.{Reason}
use Rattle.hpf_base.specs.declared.refusal.Refusal.{Refusal}
use Rattle.hpf_base.specs.declared.refusal.StaticError.{StaticError}
use Rattle.hpf_base.specs.Refusal.{IsRefusalBy, NoBreach}
use Rattle.source_lines.specs.declared.line.LogicalLine.{LogicalLine}
use Rattle.source_lines.specs.declared.line.LineKind.TheVariants as line
use Rattle.syntax_tree.specs.Lexeme.{Lexeme}
use Rattle.statement_reader.specs.Breaches.{IsStatementBreach}
use Rattle.directive_reader.specs.Breach.{IsDirectiveBreach}
use Rattle.construct_rules.specs.declared.program_line.ProgramLine.{ProgramLine as HeldLine}
use Rattle.hpf_base.specs.FirstBreach.{IsFirstOrNone, is_before, earlier}
use Rattle.construct_rules.specs.ProgramLine.{line_of, lines_of}
use Rattle.hpf_base.proofs.FirstBreaches.{first_both, first_same}
use Rattle.hpf_reader.specs.ProgramText.{LexemeLine, lexeme_line, OneBreaks, IsLineOf, AreLinesOf, FormBreaks, IsWrong}
use Rattle.hpf_reader.specs.OneMore.{IsRead, IsScanned}

module _ {A : Type 0} (breach : A → ℕ → Reason → Type 0) where
  more_to : (ls : List A) (l : A) (line : ℕ) (reason : Reason) → OneBreaks breach ls line reason ⊎ breach l line reason → OneBreaks breach (ls ++ l ∷ []) line reason
  more_to [] l line reason (inl x) = absurd x
  more_to [] l line reason (inr y) = inl y
  more_to (k ∷ ls) l line reason (inl (inl x)) = inl x
  more_to (k ∷ ls) l line reason (inl (inr x)) = inr (more_to ls l line reason (inl x))
  more_to (k ∷ ls) l line reason (inr y) = inr (more_to ls l line reason (inr y))

  more_from : (ls : List A) (l : A) (line : ℕ) (reason : Reason) → OneBreaks breach (ls ++ l ∷ []) line reason → OneBreaks breach ls line reason ⊎ breach l line reason
  more_from [] l line reason (inl y) = inr y
  more_from [] l line reason (inr x) = absurd x
  more_from (k ∷ ls) l line reason (inl x) = inl (inl x)
  more_from (k ∷ ls) l line reason (inr x) = ⊎_elim (λ y. inl (inr y)) (λ y. inr y) (more_from ls l line reason x)

  -- with a line more, the one at a place
  pub first_more : (ls : List A) (i : ℕ) (l : A) (a b : Option Refusal) → i < length ls → l ≡ get_or ls i l
      → IsFirstOrNone (OneBreaks breach (take i ls)) a → IsFirstOrNone (breach l) b → IsFirstOrNone (OneBreaks breach (take (i + 1) ls)) (earlier a b)
  first_more ls i l a b lt is h k =
      subst (λ ls. IsFirstOrNone (OneBreaks breach ls) (earlier a b)) (sym (take_more ls i l lt ∙ ap (λ l. take i ls ++ l ∷ []) (sym is)))
      (first_same _ _ (earlier a b) (more_to (take i ls) l) (more_from (take i ls) l) (first_both (OneBreaks breach (take i ls)) (breach l) a b h k))

lines_more : (ls : List LexemeLine) (l : LexemeLine) (ss : List HeldLine) (s : HeldLine) → AreLinesOf ls (lines_of ss) → IsLineOf l (line_of s)
    → AreLinesOf (ls ++ l ∷ []) (lines_of (ss ++ s ∷ []))
lines_more [] l [] s h k = (k, tt)
lines_more [] l (t ∷ ss) s h k = absurd h
lines_more (m ∷ ls) l [] s h k = absurd h
lines_more (m ∷ ls) l (t ∷ ss) s h k = (h.0, lines_more ls l ss s h.1 k)

-- one line more was read, the one at a place
pub added : (ls : List LexemeLine) (i : ℕ) (l : LexemeLine) (before after : List HeldLine) → i < length ls → l ≡ get_or ls i l
    → AreLinesOf (take i ls) (lines_of before) → IsRead l before after → AreLinesOf (take (i + 1) ls) (lines_of after)
added ls i l before after lt is h a =
    subst (λ ls. AreLinesOf ls (lines_of after)) (sym (take_more ls i l lt ∙ ap (λ l. take i ls ++ l ∷ []) (sym is)))
    (subst (λ ss. AreLinesOf (take i ls ++ l ∷ []) (lines_of ss)) (sym a.1) (lines_more (take i ls) l before a.0 h a.2))

-- the tokens of one line more, the one at a place
pub scanned : (ls : List LogicalLine) (i : ℕ) (l : LogicalLine) (before after : List LexemeLine) → i < length ls → l ≡ get_or ls i l
    → before ≡ map lexeme_line (take i ls) → IsScanned l before after → after ≡ map lexeme_line (take (i + 1) ls)
scanned ls i l before after lt is h a =
    a ∙ ap (λ ks. ks ++ lexeme_line l ∷ []) h ∙ sym (map_push lexeme_line (take i ls) l)
    ∙ ap (map lexeme_line) (sym (take_more ls i l lt ∙ ap (λ l. take i ls ++ l ∷ []) (sym is)))
  where
    map_push : {A B : Type 0} (f : A → B) (xs : List A) (x : A) → map f (xs ++ x ∷ []) ≡ map f xs ++ f x ∷ []
    map_push f [] x = refl
    map_push f (y ∷ xs) x = ap (λ l. f y ∷ l) (map_push f xs x)

-- what holds where there is none
pub if_none : {P : Type 0} (o : Option Refusal) → o ≡ None → IfNone o P → P
if_none None e h = h
if_none (Some r) e h = absurd cc

-- nothing was the earlier of two
pub none_both : (a b : Option Refusal) → earlier a b ≡ None → (a ≡ None) × (b ≡ None)
none_both None b h = (refl, h)
none_both (Some a) None h = absurd cc
none_both (Some a) (Some b) h = absurd (one_of (is_before b a) h)
  where
    one_of : (t : Bool) → (if t then Some b else Some a) ≡ None → ⊥
    one_of true e = cc
    one_of false e = cc

-- what is wrong with a statement, by the kind of its line
pub statement_wrong : (l : LexemeLine) (ts : List Lexeme) (e : StaticError) → ts ≡ l.lexemes → l.kind ≡ line.Statement
    → IsRefusalBy (λ n reason. (n ≡ l.number) × IsStatementBreach ts reason) e → IsRefusalBy (FormBreaks l) e
statement_wrong l ts e same kind h =
    subst (λ k. IsRefusalBy (λ n reason. (n ≡ l.number) × IsWrong k l.lexemes reason) e) (sym kind)
    (subst (λ ts. IsRefusalBy (λ n reason. (n ≡ l.number) × IsStatementBreach ts reason) e) same h)

pub directive_wrong : (l : LexemeLine) (ts : List Lexeme) (e : StaticError) → ts ≡ l.lexemes → l.kind ≡ line.Directive
    → IsRefusalBy (λ n reason. (n ≡ l.number) × IsDirectiveBreach ts reason) e → IsRefusalBy (FormBreaks l) e
directive_wrong l ts e same kind h =
    subst (λ k. IsRefusalBy (λ n reason. (n ≡ l.number) × IsWrong k l.lexemes reason) e) (sym kind)
    (subst (λ ts. IsRefusalBy (λ n reason. (n ≡ l.number) × IsDirectiveBreach ts reason) e) same h)

pub directive_fine : (l : LexemeLine) (ts : List Lexeme) → ts ≡ l.lexemes → l.kind ≡ line.Directive
    → ((reason : Reason) → IsDirectiveBreach ts reason → ⊥) → NoBreach (FormBreaks l)
directive_fine l ts same kind h n reason b =
    h reason (subst (λ ts. IsDirectiveBreach ts reason) (sym same) (subst (λ k. IsWrong k l.lexemes reason) kind b.1))
