-- Of a promise.
-- Items that may be missing.
use Rattle.std.specs.Prelude.{Option, Some, None}

abbrev pub IsMissingOr : {V : Type 0} → (V → Type 0) → Option V → Type 0
IsMissingOr InRange None = Unit {0}
IsMissingOr InRange (Some v) = InRange v

-- two items joined, where both are there; else the one that is there, if any is
abbrev pub join_present : {V : Type 0} → (V → V → V) → Option V → Option V → Option V
join_present join None b = b
join_present join (Some a) None = Some a
join_present join (Some a) (Some b) = Some (join a b)
