-- Of private clauses.
-- The kind of a line by its first words.
use Rattle.std.specs.Prelude.{ℕ, true, false, List, [], ◌∷◌, drop, codes, if◌then◌else◌}
use Rattle.syntax_tree.specs.Lexeme.{Lexeme}
use Rattle.line_forms.specs.Marks.{starts, key}
use Rattle.statement_reader.specs.declared.kind.Kind.{Kind}
use Rattle.statement_reader.specs.declared.kind.Kind.TheVariants as kind

-- the kind that a table gives for the word in front; another one where the table hasn't that word
abbrev pub kind_in : List (List ℕ × Kind) → Kind → List Lexeme → Kind
kind_in [] k ts = k
kind_in (row ∷ table) k ts = if starts (key row.0) ts then row.1 else kind_in table k ts

-- after END, and after ELSE
abbrev pub end_words : List (List ℕ × Kind)
end_words =
    (codes "IF", kind.EndIf false) ∷ (codes "DO", kind.EndDo false) ∷ (codes "WHERE", kind.EndWhere false) ∷
    (codes "FORALL", kind.EndForall false) ∷ []

abbrev pub else_words : List (List ℕ × Kind)
else_words = (codes "IF", kind.ElseIf false) ∷ (codes "WHERE", kind.ElseWhere false) ∷ []

-- at the front of a line
abbrev pub unit_words : List (List ℕ × Kind)
unit_words =
    (codes "PROGRAM", kind.Program) ∷ (codes "IMPLICIT", kind.ImplicitNone) ∷ (codes "INTEGER", kind.Integer) ∷
    (codes "PARAMETER", kind.Parameter) ∷ []

abbrev pub construct_words : List (List ℕ × Kind)
construct_words =
    (codes "IF", kind.IfThen) ∷ (codes "ELSEIF", kind.ElseIf true) ∷ (codes "ENDIF", kind.EndIf true) ∷
    (codes "DO", kind.Do) ∷ (codes "ENDDO", kind.EndDo true) ∷ (codes "WHERE", kind.Where) ∷
    (codes "ELSEWHERE", kind.ElseWhere true) ∷ (codes "ENDWHERE", kind.EndWhere true) ∷ (codes "FORALL", kind.Forall) ∷
    (codes "ENDFORALL", kind.EndForall true) ∷ []

abbrev pub action_words : List (List ℕ × Kind)
action_words =
    (codes "PRINT", kind.Print) ∷ (codes "STOP", kind.Stop) ∷ (codes "EXIT", kind.Exit) ∷ (codes "CYCLE", kind.Cycle) ∷
    (codes "CONTINUE", kind.Continue) ∷ []

-- what kind of statement a line is, if it is one; it is IF for every IF
abbrev pub statement_kind : List Lexeme → Kind
statement_kind ts =
    if starts (key (codes "END")) ts then kind_in end_words kind.End (drop 1 ts)
    else if starts (key (codes "ELSE")) ts then kind_in else_words kind.Else (drop 1 ts)
    else kind_in unit_words (kind_in construct_words (kind_in action_words kind.Assign ts) ts) ts
