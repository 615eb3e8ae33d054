-- Of the claim.
-- The names that statements and directives use, beside those in their expressions, and what each must stand for (Fortran 95, 7.5.1.1,
-- 7.5.4.1 and 8.1.4; HPF 2.0, 3 and 5.1).
use Rattle.std.specs.Prelude.{Bool, false, ◌&&◌, ◌||◌, not, List, [], ◌∷◌}
use Rattle.expression_rules.specs.Symbols.{Name, SymbolTable, find, satisfies, is_among, is_declared, is_scalar, is_variable}

-- a name as it is used
pub data Use : Type 0 where
  -- on the left side of an assignment, in a FORALL with these indices
  Assigned : List Name → Name → Use
  -- as the index of a DO, and as an index of a FORALL
  DoVariable : Name → Use
  ForallIndex : Name → Use
  -- in a list of a directive
  Listed : Name → Use

-- the name stands for what its use asks, where these are the indices of the DO loops round the statement. An index of a FORALL
-- hides the variable of its name
abbrev pub allows : SymbolTable → List Name → Use → Bool
allows t do_variables (Assigned hidden x) = satisfies is_variable (find x t) && (not (is_among x do_variables) || is_among x hidden)
allows t do_variables (DoVariable x) = satisfies is_scalar (find x t) && not (is_among x do_variables)
allows t do_variables (ForallIndex x) = satisfies is_scalar (find x t)
allows t do_variables (Listed x) = is_declared x t

-- a name stands twice in a list
abbrev pub repeats : List Name → Bool
repeats [] = false
repeats (x ∷ xs) = is_among x xs || repeats xs
