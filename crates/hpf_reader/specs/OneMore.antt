-- Of private clauses.
-- No public clause cites this file. What one line more adds.
use Rattle.std.specs.Prelude.{◌≡◌, List, [], ◌∷◌, ◌++◌}
use Rattle.source_lines.specs.declared.line.LogicalLine.{LogicalLine}
use Rattle.construct_rules.specs.declared.program_line.ProgramLine.{ProgramLine as HeldLine}
use Rattle.construct_rules.specs.ProgramLine.{line_of}
use Rattle.hpf_reader.specs.ProgramText.{LexemeLine, lexeme_line, IsLineOf}

-- the lexemes of a line stand after those before it
abbrev pub IsScanned : LogicalLine → List LexemeLine → List LexemeLine → Type 0
IsScanned l before after = after ≡ before ++ lexeme_line l ∷ []

-- the statement or directive that a line is stands after those before it
abbrev pub IsRead : LexemeLine → List HeldLine → List HeldLine → Type 0
IsRead l before after = (s : HeldLine) × (after ≡ before ++ s ∷ []) × IsLineOf l (line_of s)
