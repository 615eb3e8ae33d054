-- Of a promise.
-- States that differ in some scalars alone, and the values of indices after their loops.
use Rattle.std.specs.Prelude.{◌≡◌, ℕ, nat_eq, length, Bool, true, false, ◌&&◌, not}
use Rattle.nest_order.specs.Turns.{after_turns}
use Rattle.array_meaning.specs.Statements.{Block, Done, Then, Statement, Do}
use Rattle.array_meaning.specs.State.{State, scalar, set_scalar}
use Rattle.array_meaning.specs.Iterations.{values_of, turn_value}

-- states that differ in free scalars alone
pub record SameBut (free : ℕ → Bool) (r s : State) : Type 0 where
  pub count : length r.scalars ≡ length s.scalars
  pub scalars : (k : ℕ) → free k ≡ false → scalar r k ≡ scalar s k
  pub arrays : r.arrays ≡ s.arrays
  pub printed : r.printed ≡ s.printed

-- the free scalars of the second state are as in the first
pub record SameIn (free : ℕ → Bool) (z r : State) : Type 0 where
  pub count : length z.scalars ≡ length r.scalars
  pub values : (k : ℕ) → free k ≡ true → scalar r k ≡ scalar z k

-- the free scalars but one
abbrev pub without : (ℕ → Bool) → ℕ → ℕ → Bool
without free x = λ k. free k && not (nat_eq k x)

-- The state z after a block, as far as the indices of its loops go: an index has the next value after its loop. The values that the loops
-- take are those from the state s. Under an IF there is no loop
abbrev mutual
  pub settled : State → Block → State → State
  settled s Done z = z
  settled s (Then line statement rest) z = settled s rest (settled_by s statement z)

  pub settled_by : State → Statement → State → State
  settled_by s (Do mark loop body) z =
      set_scalar
      (after_turns (values_of s loop).count
      (λ x y. set_scalar (settled (set_scalar s loop.index (turn_value (values_of s loop) x)) body y) loop.index (turn_value (values_of s loop) x)) z)
      loop.index (turn_value (values_of s loop) (values_of s loop).count)
  settled_by s statement z = z
