-- Of a promise.
-- Subscripts that go round a dimension: so far above its lower bound, and n less where that isn't below n, as those of a circular shift.
use Rattle.std.specs.Prelude.{◌==◌, Bool, false, ◌&&◌, List, ℤ, Option, Some, None, if◌then◌else◌}
use Rattle.std.specs.Ordering.{int_eq}
use Rattle.op_tables.specs.declared.op.Op.{Op}
use Rattle.op_tables.specs.declared.op.Op.TheVariants as op
use Rattle.node_code.specs.Flat.{Flat, Int, Operated, NoFlat, AndFlat}
use Rattle.courses.specs.StraightForms.{Straight, Constant, Sloped, straight}

-- both forms are the same
abbrev pub is_same_form : Straight → Straight → Bool
is_same_form (Constant v) (Constant w) = int_eq v w
is_same_form (Sloped k f o) (Sloped j g p) = (k == j) && (int_eq f g && int_eq o p)
is_same_form x y = false

-- the lower bound, the number n, and the form of how far above the bound the subscript is before n is taken off
pub record Turned : Type 0 where
  pub lower : ℤ
  pub count : ℤ
  pub above : Straight

-- an operation of two operands
abbrev pub operation : Op → Flat → Flat → Flat
operation o f g = Operated o (AndFlat f (AndFlat g NoFlat))

-- `(t - n * (u >= m)) + lower`, which goes round where t and u have one form and m is n
abbrev pub turned_flat : (lower n m : ℤ) → (t u : Flat) → Flat
turned_flat lower n m t u = operation op.Add (operation op.Sub t (operation op.Mul (Int n) (operation op.Ge u (Int m)))) (Int lower)

-- by the forms of t and u
abbrev pub turned_by : (lower n m : ℤ) → Option Straight → Option Straight → Option Turned
turned_by lower n m (Some x) (Some y) = if is_same_form x y && int_eq n m then Some (record { lower = lower; count = n; above = x }) else None
turned_by lower n m x y = None

-- by what is taken off t
abbrev pub turned_less : List ℤ → (lower : ℤ) → (t g : Flat) → Option Turned
turned_less slots lower t (Operated op.Mul (AndFlat (Int n) (AndFlat (Operated op.Ge (AndFlat u (AndFlat (Int m) NoFlat))) NoFlat))) =
    turned_by lower n m (straight slots t) (straight slots u)
turned_less slots lower t g = None

-- of an expression, where it goes round
abbrev pub turned_in : List ℤ → Flat → Option Turned
turned_in slots (Operated op.Add (AndFlat (Operated op.Sub (AndFlat t (AndFlat g NoFlat))) (AndFlat (Int lower) NoFlat))) = turned_less slots lower t g
turned_in slots f = None
