-- Of a promise.
-- "Or" and "and" join truths.
use Rattle.std.proofs.Common.{◌≡◌, ◌&&◌, ◌||◌, Bool, true, false, refl}
use Rattle.op_tables.specs.Joins.{IsJoin}

or_regrouped : (a b c : Bool) → ((a || b) || c) ≡ (a || (b || c))
or_regrouped true b c = refl
or_regrouped false b c = refl

or_turned : (a b : Bool) → (a || b) ≡ (b || a)
or_turned true true = refl
or_turned true false = refl
or_turned false true = refl
or_turned false false = refl

or_false : (a : Bool) → (a || false) ≡ a
or_false true = refl
or_false false = refl

and_regrouped : (a b c : Bool) → ((a && b) && c) ≡ (a && (b && c))
and_regrouped true b c = refl
and_regrouped false b c = refl

and_turned : (a b : Bool) → (a && b) ≡ (b && a)
and_turned true true = refl
and_turned true false = refl
and_turned false true = refl
and_turned false false = refl

and_true : (a : Bool) → (a && true) ≡ a
and_true true = refl
and_true false = refl

pub any_joins : IsJoin (λ _. Unit {0}) (λ a b. a || b) false
any_joins = record {
  closed = λ a b f g. tt;
  unit_in = tt;
  associative = λ a b c f g h. or_regrouped a b c;
  commutative = or_turned;
  neutral = λ a f. or_false a;
}

pub all_joins : IsJoin (λ _. Unit {0}) (λ a b. a && b) true
all_joins = record {
  closed = λ a b f g. tt;
  unit_in = tt;
  associative = λ a b c f g h. and_regrouped a b c;
  commutative = and_turned;
  neutral = λ a f. and_true a;
}
