-- Of private clauses.
-- Nests of INDEPENDENT loops, while they are put together.
use Rattle.std.specs.Prelude.{◌≡◌, ℕ, suc, List, Option, None, Some}
use Rattle.array_meaning.specs.Statements.{Block, Done, Statement, Do, Mark, Unmarked, Outermost}
use Rattle.array_meaning.specs.Resolution.{inner_mark, union}
use Rattle.resolved_program.specs.declared.statements.Nest.{Nest as HeldNest}
use Rattle.resolved_program.specs.Resolved.{do_loop, inner_loops, innermost}

-- the mark of the loop that is a whole block, by what is kept of its nest
abbrev pub mark_of : Option HeldNest → Block → Mark
mark_of None b = Unmarked
mark_of (Some n) b =
    Outermost record { line = n.line; loops = inner_loops (suc n.inner_loops) b; new = n.new.items; reduction = n.reduction.items } (innermost (suc n.inner_loops) b)

-- it is the nest of the loop that is this whole block, or there is none
abbrev pub IsNestOf : Option HeldNest → Block → Type 0
IsNestOf n b = mark_of n b ≡ inner_mark b

-- how many inner loops the nest has that is round this one, and its lists
abbrev pub count_round : Option HeldNest → ℕ
count_round None = 0
count_round (Some n) = suc n.inner_loops

abbrev pub new_round : List ℕ → Option HeldNest → List ℕ
new_round xs None = xs
new_round xs (Some n) = union xs n.new.items

abbrev pub reduction_round : List ℕ → Option HeldNest → List ℕ
reduction_round xs None = xs
reduction_round xs (Some n) = union xs n.reduction.items

-- a DO with this nest, and its body
abbrev pub with_nest : Option HeldNest → Statement → Statement
with_nest n (Do mark loop body) = do_loop n loop body
with_nest n s = s

abbrev pub body_in : Statement → Block
body_in (Do mark loop body) = body
body_in s = Done
