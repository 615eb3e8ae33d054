-- What the rules say of a nest's statements, and of its names by their places.
use Rattle.std.proofs.Common.{◌≡◌, ℕ, bytes_eq, List, Bool, true, false, Some}
use Rattle.std.specs.Prelude.{◌&&◌, ◌||◌, not}
use Rattle.std.specs.List.{AllByRecursion, list_any}
use Rattle.op_tables.specs.declared.join.Join.{Join}
use Rattle.expression_rules.specs.Symbols.{Name, is_among}
use Rattle.statement_walk.specs.Head.{Head}
use Rattle.statement_walk.specs.Head as head
use Rattle.statement_walk.specs.Heads.{PlacedHead}
use Rattle.name_table.specs.Entries.{declared_as}
use Rattle.body_forms.specs.Names.{is_scalar}
use Rattle.nest_check.specs.NestNames.{NestNames, reduction_operator, alone}
use Rattle.nest_check.specs.Paths.{ReachedHead}
use Rattle.nest_check.specs.NestRules.{has_one_operator, are_linear_inside, head_expressions, keeps_nest_rules, keeps_path_rules}
use Rattle.nest_syntax.specs.NestKinds.{Kind, New, Reduced, has_copies, is_read}
use Rattle.array_meaning.specs.Resolution.{place_of}
use Rattle.nest_standing.specs.Named.{Declared}

-- the rules of nests on a statement
pub record IsKept (n : NestNames) (h : PlacedHead) : Type 0 where
  pub linear : are_linear_inside n (head_expressions h.what) ≡ true
  pub rules : keeps_nest_rules n h.do_variables h.what ≡ true

-- those on what paths have assigned before it
abbrev pub IsReached : NestNames → ReachedHead → Type 0
IsReached n r = keeps_path_rules n r.is_conditional r.assigned r.what ≡ true

-- what a statement assigns, its index and its operator are among those of the nest
abbrev pub IsGathered : NestNames → Head → Type 0
IsGathered n (head.Assignment left right) =
    AllByRecursion (λ x. is_among x n.assigned ≡ true) (alone left.name left.subscripts)
    × ((o : Join) → reduction_operator n.reduction_names left right ≡ Some o → list_any (λ p. bytes_eq left.name p.variable) n.operators ≡ true)
IsGathered n (head.Do mark axis) = is_among axis.index n.indices ≡ true
IsGathered n h = Unit {0}

-- the kinds of places are what the names are to the nest
pub record Tied (n : NestNames) (kinds : ℕ → Kind) : Type 0 where
  pub copies : (x : Name) → Declared n.declared x → has_copies (kinds (place_of n.declared x)) ≡ is_among x n.assigned
  pub read : (x : Name) → Declared n.declared x → is_among x n.reduction_names ≡ false
      → is_read (kinds (place_of n.declared x)) ≡ has_copies (kinds (place_of n.declared x))
  -- of a REDUCTION variable with a reduction statement of this operator
  pub reduced : (x : Name) (o : Join) → Declared n.declared x → is_among x n.assigned ≡ true → is_among x n.reduction_names ≡ true
      → has_one_operator n x (Some o) ≡ true → list_any (λ p. bytes_eq x p.variable) n.operators ≡ true
      → kinds (place_of n.declared x) ≡ Reduced o
  pub unreduced : (x : Name) (by : Join) → Declared n.declared x → kinds (place_of n.declared x) ≡ Reduced by → is_among x n.reduction_names ≡ true
  pub new : (x : Name) → Declared n.declared x → kinds (place_of n.declared x) ≡ New → is_among x n.new_names ≡ true
  pub quiet : (x : Name) → Declared n.declared x → is_among x n.indices ≡ true → is_among x n.assigned ≡ false
  pub arrays : (x : Name) → is_scalar (declared_as n.declared x) ≡ false → is_among x n.assigned ≡ false
  pub scalars : (x : Name) → is_among x n.indices ≡ true → is_scalar (declared_as n.declared x) ≡ true

-- the free places are the indices that neither a loop of the nest has nor one of these
pub record IsFree (n : NestNames) (xs : List Name) (free : ℕ → Bool) : Type 0 where
  pub is : (x : Name) → Declared n.declared x → free (place_of n.declared x) ≡ (is_among x n.indices && not (is_among x n.loops || is_among x xs))
