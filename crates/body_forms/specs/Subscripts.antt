-- Of the claim.
-- The subscripts that the bodies of FORALL and of INDEPENDENT loops may have, a restriction of this language: `a*x + c` in one index x,
-- where a and c don't depend on an index.
use Rattle.std.specs.Prelude.{Bool, true, false, bytes_eq, List, [], ◌∷◌, ◌++◌, Option, Some, None, if◌then◌else◌}
use Rattle.std.specs.List.{list_all}
use Rattle.op_tables.specs.declared.op.Op.{Op}
use Rattle.op_tables.specs.declared.op.Op.TheVariants as op
use Rattle.syntax_tree.specs.Expression.{Expression, Number, Name as Alone, Element, Unary, Binary, Closed, Part, One, Parts, End, More}
use Rattle.expression_rules.specs.Symbols.{Name, is_among}
use Rattle.body_forms.specs.Names.{BodyNames, is_fixed}

-- a name by itself: an index, or what keeps its value
abbrev pub indices_of_name : BodyNames → Name → Option (List Name)
indices_of_name b x = if is_among x b.indices then Some (x ∷ []) else (if is_fixed b x then Some [] else None)

abbrev pub both : Option (List Name) → Option (List Name) → Option (List Name)
both None ys = None
both (Some xs) None = None
both (Some xs) (Some ys) = Some (xs ++ ys)

-- no product has an index on both sides
abbrev pub in_product : Option (List Name) → Option (List Name) → Option (List Name)
in_product (Some (x ∷ xs)) (Some (y ∷ ys)) = None
in_product xs ys = both xs ys

abbrev pub in_operation : Op → Option (List Name) → Option (List Name) → Option (List Name)
in_operation op.Add xs ys = both xs ys
in_operation op.Sub xs ys = both xs ys
in_operation op.Mul xs ys = in_product xs ys
in_operation o xs ys = None

abbrev pub is_sign : Op → Bool
is_sign op.Neg = true
is_sign op.Plus = true
is_sign o = false

-- the indices that an expression names, where it is built from literals, constants, scalars that the body doesn't assign and
-- indices by signs, `+`, `-`, `*` and parentheses; None where it isn't
abbrev pub indices_in : BodyNames → Expression → Option (List Name)
indices_in b (Number n) = Some []
indices_in b (Alone x) = indices_of_name b x
indices_in b (Closed a) = indices_in b a
indices_in b (Unary o a) = if is_sign o then indices_in b a else None
indices_in b (Binary o a c) = in_operation o (indices_in b a) (indices_in b c)
indices_in b e = None

-- at most one index
abbrev pub is_at_most_one : Option (List Name) → Bool
is_at_most_one None = false
is_at_most_one (Some []) = true
is_at_most_one (Some (x ∷ xs)) = list_all (bytes_eq x) xs

-- none
abbrev pub is_empty : Option (List Name) → Bool
is_empty (Some []) = true
is_empty xs = false

-- a subscript of the form; no triplet is
abbrev pub is_linear : BodyNames → Part → Bool
is_linear b (One e) = is_at_most_one (indices_in b e)
is_linear b p = false

abbrev pub items : Parts → List Part
items End = []
items (More p ps) = p ∷ items ps

-- the subscripts directly after a name, if there are any, are of the form
abbrev pub has_linear_subscripts : BodyNames → Expression → Bool
has_linear_subscripts b (Element x ps) = list_all (is_linear b) (items ps)
has_linear_subscripts b e = true
