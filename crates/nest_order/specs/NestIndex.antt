-- Of a promise.
-- The iterations of nested loops, numbered in execution order: innermost loop first.
use Rattle.std.specs.Prelude.{ℕ, ◌+◌, ◌*◌, ◌/◌, ◌%◌, ◌<◌, List, [], ◌∷◌, Result}
use Rattle.nest_order.specs.Turns.{in_turn}

-- how many iterations there are, from the loops' counts, innermost first. Where no loop is left there is one, and not none
abbrev pub iterations : List ℕ → ℕ
iterations [] = 1
iterations (count ∷ counts) = count * iterations counts

-- the turns are one of each loop, counted from 0. A tuple isn't the values of the indices, which first and step give
abbrev pub IsTuple : List ℕ → List ℕ → Type 0
IsTuple [] [] = Unit {0}
IsTuple [] (turn ∷ turns) = ⊥
IsTuple (count ∷ counts) [] = ⊥
IsTuple (count ∷ counts) (turn ∷ turns) = (turn < count) × IsTuple counts turns

-- the number of a tuple in execution order, from 0: the innermost loop is the fastest, and not the outermost
abbrev pub number_of : List ℕ → List ℕ → ℕ
number_of [] turns = 0
number_of (count ∷ counts) [] = 0
number_of (count ∷ counts) (turn ∷ turns) = turn + count * number_of counts turns

-- the tuple of a number, innermost turn first
abbrev pub tuple_of : List ℕ → ℕ → List ℕ
tuple_of [] number = []
tuple_of (count ∷ counts) number = number % count ∷ tuple_of counts (number / count)

-- the loops, each inside the next one of the list, round a body that knows the turns of all
abbrev pub nested : {M F : Type 0} → List ℕ → (List ℕ → M → Result M F) → M → Result M F
nested [] body = body []
nested (count ∷ counts) body = nested counts (λ outer. in_turn count (λ turn. body (turn ∷ outer)))
