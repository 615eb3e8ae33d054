-- Of a promise.
-- Which lines are said by lexemes.
use Rattle.std.specs.Prelude.{◌≡◌, List, [], ◌∷◌}
use Rattle.statement_reader.specs.Forms as statements
use Rattle.construct_rules.specs.ProgramLine.{LineContent, OfStatement, OfDirective, ProgramLine}

-- a statement is what a tree keeps of a well-formed one
abbrev pub IsSaid : LineContent → Type 0
IsSaid (OfStatement f) = (written : statements.StatementForm) × (statements.form_kept written ≡ f) × statements.IsForm written
IsSaid (OfDirective d) = Unit {0}

abbrev pub AreSaid : List ProgramLine → Type 0
AreSaid [] = Unit {0}
AreSaid (l ∷ ls) = IsSaid l.what × AreSaid ls
