-- Of the claim.
-- What a name is to a nest (HPF 2.0, 5.1), and the form of its reduction statements.
use Rattle.std.specs.Prelude.{ℕ, Bool, true, false, if◌then◌else◌}
use Rattle.op_tables.specs.declared.join.Join.{Join}
use Rattle.op_tables.specs.declared.op.Op.{Op}
use Rattle.op_tables.specs.declared.op.Op.TheVariants as op
use Rattle.array_meaning.specs.Terms.{Term, Scalar, Apply, NoTerm, More}
use Rattle.array_meaning.specs.Statements.{Nest, Block}
use Rattle.array_meaning.specs.Iterations.{is_in}
use Rattle.array_meaning.specs.Touches.{assigned_in}

-- what a row of the storage is to a nest: an array, or a scalar that the nest doesn't assign; a NEW variable; another scalar
-- that the nest assigns; a REDUCTION variable with its operator
pub data Kind : Type 0 where
  Shared : Kind
  New : Kind
  Assigned : Kind
  Reduced : Join → Kind

-- iterations have copies of what the nest assigns, and share the rest
abbrev pub has_copies : Kind → Bool
has_copies Shared = false
has_copies New = true
has_copies Assigned = true
has_copies (Reduced op) = true

-- what is assigned in the nest, by its lists; `operators` join the REDUCTION variables. An index in a NEW list isn't assigned
abbrev pub kind_of : (ℕ → Join) → Nest → Block → ℕ → Kind
kind_of operators nest body k =
    if is_in k (assigned_in body) then (if is_in k nest.reduction then Reduced (operators k) else if is_in k nest.new then New else Assigned) else Shared

-- a scalar that iterations read in their copies. A REDUCTION variable is read in its reduction statements alone
abbrev pub is_read : Kind → Bool
is_read Shared = false
is_read New = true
is_read Assigned = true
is_read (Reduced op) = false

abbrev pub is_difference : Op → Bool
is_difference op.Sub = true
is_difference o = false

-- the right side of a reduction statement: the variable on the left or on the right of an operator or procedure, and an expression
abbrev pub reduction_term : Bool → ℕ → Op → Term → Term
reduction_term true k o e = Apply o (More (Scalar k) (More e NoTerm))
reduction_term false k o e = Apply o (More e (More (Scalar k) NoTerm))
