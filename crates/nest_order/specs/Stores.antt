-- Of a promise.
-- What is noted of the stores of a nest, in the order of its plain loops.
use Rattle.std.specs.Prelude.{ℕ, zero, suc, ℤ, Result, Ok}
use Rattle.nest_order.specs.Turns.{◌>>=◌, in_turn}
use Rattle.storage.specs.Storage.{Storage, Spot}
use Rattle.storage.specs.Effect.{Effect, Skip, Put, Fail, then_apply}
use Rattle.nest_order.specs.Items.{Items, Evaluation, exec}
use Rattle.nest_order.specs.Nest.{Interpretation}

-- what is noted after an effect. Of a part that is skipped or that faults nothing is
abbrev pub noted : {V F : Type 0} → (Spot → ℤ → V → V) → Effect F → V → V
noted note Skip before = before
noted note (Put spot value) before = note spot value before
noted note (Fail fault) before = before

-- `note i` notes a store at iteration i, and `effect i j` is what part j does there
module _ {V F : Type 0} (note : ℕ → Spot → ℤ → V → V) (effect : ℕ → ℕ → Effect F) where
  -- after the first parts of iteration i
  abbrev pub noted_by_parts : ℕ → ℕ → V → V
  noted_by_parts i zero before = before
  noted_by_parts i (suc j) before = noted (note i) (effect i j) (noted_by_parts i j before)

  -- after all parts of the first iterations, one iteration after another and not one part after another
  abbrev pub noted_by_all : (parts : ℕ) → V → ℕ → V
  noted_by_all parts first zero = first
  noted_by_all parts first (suc i) = noted_by_parts i parts (noted_by_all parts first i)

-- a storage, and what was noted of the stores so far
pub record Observed (V : Type 0) : Type 0 where
  pub storage : Storage
  pub noted_so_far : V

module _ {A C F V : Type 0} (interpretation : Interpretation A C F) where
  -- statements whose stores are noted. What is noted changes nothing that they do
  abbrev pub observed : (Spot → ℤ → V → V) → Evaluation A C (Observed V) F
  observed note = record {
    action = λ action s.
        then_apply (interpretation.effect action s.storage) s.storage
        >>= (λ m. Ok (record { storage = m; noted_so_far = noted note (interpretation.effect action s.storage) s.noted_so_far }));
    condition = λ condition s. interpretation.condition condition s.storage;
  }

  -- the plain loops, with their stores noted
  abbrev pub observed_loops : (ℕ → Spot → ℤ → V → V) → (ℕ → Items A C) → Storage → V → ℕ → Result (Observed V) F
  observed_loops note items start first n = in_turn n (λ i. exec (observed (note i)) (items i)) (record { storage = start; noted_so_far = first })
