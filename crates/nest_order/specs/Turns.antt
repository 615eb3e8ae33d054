-- Of a promise.
-- Actions one after another, up to the first fault.
use Rattle.std.specs.Prelude.{ℕ, zero, suc, List, [], ◌++◌, Result, Ok, Err}

infixl 10 ◌>>=◌
-- what goes on with the value, unless there is a fault. Not a way to go on past one
abbrev pub ◌>>=◌ : {A B F : Type 0} → Result A F → (A → Result B F) → Result B F
Ok a >>= f = f a
Err fault >>= f = Err fault

-- the first turns of a body, in order. A turn that follows a fault isn't made
abbrev pub in_turn : {M F : Type 0} → ℕ → (ℕ → M → Result M F) → M → Result M F
in_turn zero body m = Ok m
in_turn (suc turns) body m = in_turn turns body m >>= body turns

-- the lists of the first turns, one after another, the first turn's first
abbrev pub joined_up_to : {A : Type 0} → ℕ → (ℕ → List A) → List A
joined_up_to zero lists = []
joined_up_to (suc turns) lists = joined_up_to turns lists ++ lists turns

-- a value after the first turns, each of which makes it anew
abbrev pub after_turns : {X : Type 0} → ℕ → (ℕ → X → X) → X → X
after_turns zero body x = x
after_turns (suc turns) body x = body turns (after_turns turns body x)
