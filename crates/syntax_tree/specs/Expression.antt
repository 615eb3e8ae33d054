-- Of the claim.
-- Expressions as they are written, apart from where they lie in memory (Fortran 95, 7.1).
use Rattle.std.specs.Prelude.{ℕ, ℤ, Bool, List, [], ◌∷◌}
use Rattle.op_tables.specs.declared.op.Op.{Op}
use Rattle.syntax_tree.specs.declared.expr.Expr.{Expr, Int, Bool as Truth', Ref', Unary', Binary', Call', Paren'}
use Rattle.syntax_tree.specs.declared.expr.Subscript.{Subscript}
use Rattle.syntax_tree.specs.declared.expr.Expr.TheBlock.{Held-Ref-subs, Ref-subs-None', Ref-subs-Some', Held-Subscript-Triplet-0, Subscript-Triplet-0-None', Subscript-Triplet-0-Some', Row_of-Subscript, end_of-Subscript, more_of-Subscript, Row_of-Expr, end_of-Expr, more_of-Expr, One as One', Triplet'}

mutual
  pub data Expression : Type 0 where
    Number : ℤ → Expression
    Truth : Bool → Expression
    -- a name alone, and a name with subscripts after it
    Name : List ℕ → Expression
    Element : List ℕ → Parts → Expression
    -- an intrinsic procedure with its arguments
    Call : Op → Parts → Expression
    Unary : Op → Expression → Expression
    Binary : Op → Expression → Expression → Expression
    Closed : Expression → Expression

  -- what may stand between the commas of a list in parentheses: an expression or a triplet; in `Glued` the two colons
  -- of a triplet without a last part are the one token `::`
  pub data Part : Type 0 where
    One : Expression → Part
    Range : Maybe → Maybe → Maybe → Part
    Glued : Maybe → Expression → Part

  pub data Parts : Type 0 where
    End : Parts
    More : Part → Parts → Parts

  pub data Maybe : Type 0 where
    Absent : Maybe
    Present : Expression → Maybe

-- what a tree keeps of it: it doesn't tell `::` from two colons
abbrev mutual
  pub kept : Expression → Expression
  kept (Number n) = Number n
  kept (Truth b) = Truth b
  kept (Name x) = Name x
  kept (Element x ps) = Element x (all_kept ps)
  kept (Call o ps) = Call o (all_kept ps)
  kept (Unary o a) = Unary o (kept a)
  kept (Binary o a b) = Binary o (kept a) (kept b)
  kept (Closed a) = Closed (kept a)

  pub part_kept : Part → Part
  part_kept (One e) = One (kept e)
  part_kept (Range a b c) = Range (maybe_kept a) (maybe_kept b) (maybe_kept c)
  part_kept (Glued a c) = Range (maybe_kept a) Absent (Present (kept c))

  pub all_kept : Parts → Parts
  all_kept End = End
  all_kept (More p ps) = More (part_kept p) (all_kept ps)

  pub maybe_kept : Maybe → Maybe
  maybe_kept Absent = Absent
  maybe_kept (Present e) = Present (kept e)

-- the expression that a tree is
abbrev mutual
  pub expression : Expr → Expression
  expression (Int n) = Number n
  expression (Truth' b) = Truth b
  expression (Ref' x s) = reference x s
  expression (Unary' o p a) = Unary o (expression a)
  expression (Binary' o p a q b) = Binary o (expression a) (expression b)
  expression (Call' o shape row) = Call o (arguments row)
  expression (Paren' p a) = Closed (expression a)

  pub reference : List ℕ → Held-Ref-subs → Expression
  reference x Ref-subs-None' = Name x
  reference x (Ref-subs-Some' shape row) = Element x (subscripts row)

  pub subscripts : {m : _} → Row_of-Subscript m → Parts
  subscripts end_of-Subscript = End
  subscripts (more_of-Subscript s row) = More (subscript s) (subscripts row)

  pub arguments : {m : _} → Row_of-Expr m → Parts
  arguments end_of-Expr = End
  arguments (more_of-Expr e row) = More (One (expression e)) (arguments row)

  pub subscript : Subscript → Part
  subscript (One' e) = One (expression e)
  subscript (Triplet' a b c) = Range (maybe a) (maybe b) (maybe c)

  pub maybe : Held-Subscript-Triplet-0 → Maybe
  maybe Subscript-Triplet-0-None' = Absent
  maybe (Subscript-Triplet-0-Some' e) = Present (expression e)

-- the same of lists
abbrev pub parts_of : List Subscript → Parts
parts_of [] = End
parts_of (s ∷ ss) = More (subscript s) (parts_of ss)

abbrev pub arguments_of : List Expr → Parts
arguments_of [] = End
arguments_of (e ∷ es) = More (One (expression e)) (arguments_of es)
