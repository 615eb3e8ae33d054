-- Of the claim.
-- The words of the language, in five tables, each in ascending order of its bytes. A word's code is its place in its
-- table, from 0.
use Rattle.std.specs.Prelude.{ℕ, ◌||◌, Bool, bytes_eq, is_some, List, [], ◌∷◌, Option, position, codes}

-- the words between periods: operators and logical constants (Fortran 95, 3.2 and 7.1.2)
abbrev pub dot_words : List (List ℕ)
dot_words =
    codes ".AND." ∷ codes ".EQ." ∷ codes ".EQV." ∷ codes ".FALSE." ∷ codes ".GE." ∷ codes ".GT." ∷
    codes ".LE." ∷ codes ".LT." ∷ codes ".NE." ∷ codes ".NEQV." ∷ codes ".NOT." ∷ codes ".OR." ∷
    codes ".TRUE." ∷ []

-- the operators and delimiters without letters (Fortran 95, 3.2 and 7.1.2)
abbrev pub symbols : List (List ℕ)
symbols =
    codes "(" ∷ codes ")" ∷ codes "*" ∷ codes "**" ∷ codes "+" ∷ codes "," ∷ codes "-" ∷ codes "/" ∷
    codes "/=" ∷ codes ":" ∷ codes "::" ∷ codes "<" ∷ codes "<=" ∷ codes "=" ∷ codes "==" ∷ codes ">" ∷
    codes ">=" ∷ []

-- the keywords of the language's statements (Fortran 95, 3.2 and 3.3)
abbrev pub statement_words : List (List ℕ)
statement_words =
    codes "CONTINUE" ∷ codes "CYCLE" ∷ codes "DO" ∷ codes "ELSE" ∷ codes "ELSEIF" ∷ codes "ELSEWHERE" ∷
    codes "END" ∷ codes "ENDDO" ∷ codes "ENDFORALL" ∷ codes "ENDIF" ∷ codes "ENDWHERE" ∷ codes "EXIT" ∷
    codes "FORALL" ∷ codes "IF" ∷ codes "IMPLICIT" ∷ codes "INTEGER" ∷ codes "NONE" ∷ codes "PARAMETER" ∷
    codes "PRINT" ∷ codes "PROGRAM" ∷ codes "STOP" ∷ codes "THEN" ∷ codes "WHERE" ∷ codes "WHILE" ∷ []

-- the keywords of statements that the language leaves out (Fortran 95, 3.2 and 3.3)
abbrev pub left_out_words : List (List ℕ)
left_out_words =
    codes "ALLOCATABLE" ∷ codes "ALLOCATE" ∷ codes "BACKSPACE" ∷ codes "CALL" ∷ codes "CASE" ∷
    codes "CHARACTER" ∷ codes "CLOSE" ∷ codes "COMMON" ∷ codes "COMPLEX" ∷ codes "CONTAINS" ∷ codes "DATA" ∷
    codes "DEALLOCATE" ∷ codes "DIMENSION" ∷ codes "DOUBLE" ∷ codes "ENTRY" ∷ codes "EQUIVALENCE" ∷
    codes "EXTERNAL" ∷ codes "FORMAT" ∷ codes "FUNCTION" ∷ codes "GO" ∷ codes "GOTO" ∷ codes "INCLUDE" ∷
    codes "INQUIRE" ∷ codes "INTENT" ∷ codes "INTERFACE" ∷ codes "INTRINSIC" ∷ codes "LOGICAL" ∷
    codes "MODULE" ∷ codes "NAMELIST" ∷ codes "NULLIFY" ∷ codes "OPEN" ∷ codes "OPTIONAL" ∷ codes "POINTER" ∷
    codes "PRIVATE" ∷ codes "PUBLIC" ∷ codes "READ" ∷ codes "REAL" ∷ codes "RECURSIVE" ∷ codes "RETURN" ∷
    codes "REWIND" ∷ codes "SAVE" ∷ codes "SELECT" ∷ codes "SUBROUTINE" ∷ codes "TARGET" ∷ codes "TYPE" ∷
    codes "USE" ∷ codes "WRITE" ∷ []

-- the names of intrinsic procedures (Fortran 95, 13; HPF 2.0, 7)
abbrev pub intrinsic_words : List (List ℕ)
intrinsic_words =
    codes "ABS" ∷ codes "ALL" ∷ codes "ANY" ∷ codes "COUNT" ∷ codes "CSHIFT" ∷ codes "DIM" ∷ codes "IAND" ∷
    codes "IEOR" ∷ codes "IOR" ∷ codes "LBOUND" ∷ codes "MAX" ∷ codes "MAXVAL" ∷ codes "MIN" ∷ codes "MINVAL" ∷
    codes "MOD" ∷ codes "MODULO" ∷ codes "NOT" ∷ codes "NUMBER_OF_PROCESSORS" ∷ codes "PROCESSORS_SHAPE" ∷
    codes "PRODUCT" ∷ codes "SIGN" ∷ codes "SIZE" ∷ codes "SUM" ∷ codes "SUM_PREFIX" ∷ codes "TRANSPOSE" ∷
    codes "UBOUND" ∷ []

-- the code of a word in a table; None exactly where it isn't there
abbrev pub code_in : List (List ℕ) → List ℕ → Option ℕ
code_in words word = position (λ w. bytes_eq w word) words

-- the word is a keyword or the name of an intrinsic procedure: no other thing of a program may bear it
abbrev pub is_reserved : List ℕ → Bool
is_reserved word =
    is_some (code_in statement_words word)
    || is_some (code_in left_out_words word)
    || is_some (code_in intrinsic_words word)
