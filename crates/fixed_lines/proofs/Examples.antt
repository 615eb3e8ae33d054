-- Texts in fixed form with what stands on their lines (Fortran 95, 3.3.2; HPF 2.0, 2.3). In `tens` a digit is the last one of its column.
use Rattle.std.specs.Prelude.{◌≡◌, refl, codes, Bool, true, false, List, [], ◌∷◌, ◌++◌, ℕ, map, reverse}
use Rattle.source_lines.specs.declared.line.LineKind.TheVariants as logical
use Rattle.source_lines.specs.LogicalLines.{logical_line}
use Rattle.fixed_lines.specs.declared.kind.FixedKind.TheVariants.{Directive, Statement}
use Rattle.fixed_lines.specs.FixedBreaches.{may_continue}
use Rattle.fixed_lines.specs.FixedLines.{numbered_lines}
use Rattle.fixed_lines.specs.FixedLogicalLines.{fixed_lines}

-- columns 10 to 69
abbrev tens : List ℕ
tens = codes "012345678901234567890123456789012345678901234567890123456789"

-- which lines of a text break a rule by themselves
abbrev are_bad : List ℕ → List Bool
are_bad text = map (λ line. line.bad) (numbered_lines text)

-- column 72 is the last of a statement
column_72 : fixed_lines (codes "      I =" ++ tens ++ codes "012\n") ≡ logical_line 1 logical.Statement (codes "I =" ++ tens ++ codes "012") ∷ []
column_72 = refl

-- column 73 is no part of it, whatever stands there
column_73 : fixed_lines (codes "      I =" ++ tens ++ codes "0123\n") ≡ logical_line 1 logical.Statement (codes "I =" ++ tens ++ codes "012") ∷ []
column_73 = refl

past_72 : are_bad (codes "      I =" ++ tens ++ codes "012'\n") ≡ false ∷ []
past_72 = refl

up_to_72 : are_bad (codes "      I =" ++ tens ++ codes "01'\n") ≡ true ∷ []
up_to_72 = refl

-- `0` in column 6 begins a statement, and `1` continues one; a comment may stand between
continued : fixed_lines (codes "      I = 1\n     0J = 2\nC     K\n     1+ 3\n")
    ≡ logical_line 1 logical.Statement (codes "I = 1") ∷ logical_line 2 logical.Statement (codes "J = 2 + 3") ∷ []
continued = refl

-- a directive begins in column 1, and is continued by a directive line
directive : fixed_lines (codes "*HPF$ DISTRIBUTE A(BLOCK)\n*hpf$*ONTO P\n* A comment\n")
    ≡ logical_line 1 logical.Directive (codes "DISTRIBUTE A(BLOCK) ONTO P") ∷ []
directive = refl

-- a statement is continued past a comment, and a directive isn't
past_comment : may_continue Statement (reverse (numbered_lines (codes "      I = 1\nC\n"))) ≡ true
past_comment = refl

directive_past_comment : may_continue Directive (reverse (numbered_lines (codes "*HPF$ DYNAMIC A\nC\n"))) ≡ false
directive_past_comment = refl

-- a tab may stand from column 7 on, and not before
tabs : are_bad (codes "\tI = 1\n     \tI = 1\n      I\t= 1\n") ≡ true ∷ true ∷ false ∷ []
tabs = refl
