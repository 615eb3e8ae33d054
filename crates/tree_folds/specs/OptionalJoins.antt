-- Of a promise.
-- What joins items joins items that may be missing. Nothing is neutral, so the unit of the join isn't asked for.
use Rattle.std.proofs.Common.{◌≡◌, Option, Some, None, refl, ap}
use Rattle.op_tables.specs.Joins.{IsJoin}
use Rattle.tree_folds.specs.Optional.{IsMissingOr, join_present}

module _ {V : Type 0} (InRange : V → Type 0) (join : V → V → V) where
  module _ (closed : (a b : V) → InRange a → InRange b → InRange (join a b)) where
    present_closed : (a b : Option V) → IsMissingOr InRange a → IsMissingOr InRange b → IsMissingOr InRange (join_present join a b)
    present_closed None b f g = g
    present_closed (Some x) None f g = f
    present_closed (Some x) (Some y) f g = closed x y f g

  module _ (associative : (a b c : V) → InRange a → InRange b → InRange c → join (join a b) c ≡ join a (join b c)) where
    present_regrouped : (a b c : Option V) → IsMissingOr InRange a → IsMissingOr InRange b → IsMissingOr InRange c
        → join_present join (join_present join a b) c ≡ join_present join a (join_present join b c)
    present_regrouped None b c f g h = refl
    present_regrouped (Some x) None c f g h = refl
    present_regrouped (Some x) (Some y) None f g h = refl
    present_regrouped (Some x) (Some y) (Some z) f g h = ap Some (associative x y z f g h)

  module _ (commutative : (a b : V) → join a b ≡ join b a) where
    present_turned : (a b : Option V) → join_present join a b ≡ join_present join b a
    present_turned None None = refl
    present_turned None (Some y) = refl
    present_turned (Some x) None = refl
    present_turned (Some x) (Some y) = ap Some (commutative x y)

  present_none : (a : Option V) → join_present join a None ≡ a
  present_none None = refl
  present_none (Some x) = refl

  -- a join that gives values, in any order and grouping
  pub present_joins : (closed : (a b : V) → InRange a → InRange b → InRange (join a b))
      → (associative : (a b c : V) → InRange a → InRange b → InRange c → join (join a b) c ≡ join a (join b c))
      → (commutative : (a b : V) → join a b ≡ join b a) → IsJoin (IsMissingOr InRange) (join_present join) None
  present_joins closed associative commutative = record {
    closed = present_closed closed;
    unit_in = tt;
    associative = present_regrouped associative;
    commutative = present_turned commutative;
    neutral = λ a f. present_none a;
  }

pub optional_joins : {V : Type 0} {InRange : V → Type 0} {join : V → V → V} {unit : V} → IsJoin InRange join unit → IsJoin (IsMissingOr InRange) (join_present join) None
optional_joins {InRange = InRange} {join = join} joins = present_joins InRange join joins.closed joins.associative joins.commutative
