-- Of a promise.
-- The guarded parts that statements flatten to, and the conditions that they store.
use Rattle.std.specs.Prelude.{◌≡◌, ℕ, zero, suc, ◌+◌, ◌<◌, nat_eq, List, [], ◌∷◌, ◌++◌, Option, Some, None, Result, Ok, Err, Bool, true, false, ◌&&◌, not, max, if◌then◌else◌}
use Rattle.nest_order.specs.Turns.{◌>>=◌, joined_up_to}
use Rattle.nest_order.specs.Items.{Items, Done, Then, If, Repeat, Branches, EndIf, Branch, Evaluation, holds_in}

-- the stored conditions of an iteration, by number
abbrev pub Conditions : Type 0
Conditions = ℕ → Bool

-- the same with one of them stored anew, and the others as they were
abbrev pub set_condition : Conditions → ℕ → Bool → Conditions
set_condition conditions number value = λ x. if nat_eq x number then value else conditions x

-- no guard always holds; else it is the stored condition of the branch in which the part stands, and of that branch alone
abbrev pub guard_holds : Option ℕ → Conditions → Bool
guard_holds None conditions = true
guard_holds (Some number) conditions = conditions number

-- none of the conditions holds: of an IF's branches the first that holds is taken, and no later one
abbrev pub none_holds : List ℕ → Conditions → Bool
none_holds [] conditions = true
none_holds (number ∷ numbers) conditions = not (conditions number) && none_holds numbers conditions

-- a branch is tested: the guard of its IF holds, and no earlier branch was taken
abbrev pub is_tested : Option ℕ → List ℕ → Conditions → Bool
is_tested guard earlier conditions = guard_holds guard conditions && none_holds earlier conditions

-- the guard is one of the first k conditions, so that the parts after it don't store it anew
abbrev pub IsBelow : Option ℕ → ℕ → Type 0
IsBelow None k = Unit {0}
IsBelow (Some number) k = number < k

-- what the parts of an iteration work on: a storage, and beside it the conditions that were stored
pub record Iteration (M : Type 0) : Type 0 where
  pub storage : M
  pub conditions : Conditions

-- a part that acts where its guard holds, or one that stores a condition: with the number, the guard of the IF, and the
-- conditions of the earlier branches
pub data NestPart (A C : Type 0) : Type 0 where
  Acts : (guard : Option ℕ) → A → NestPart A C
  Tests : (number : ℕ) → (guard : Option ℕ) → (earlier : List ℕ) → Option C → NestPart A C

-- the greatest of the first numbers, or 0
abbrev pub most : ℕ → (ℕ → ℕ) → ℕ
most zero numbers = 0
most (suc count) numbers = max (most count numbers) (numbers count)

module _ {A C : Type 0} where
  abbrev mutual
    -- how many stored conditions the statements have: one for each branch, and not one for each trip of an inner loop. The body
    -- of an inner loop without a trip has its numbers too: what a trip more would have is among them, so the numbers after the loop
    -- are those of the text
    pub count_items : Items A C → ℕ
    count_items Done = 0
    count_items (Then action rest) = count_items rest
    count_items (If branches rest) = count_branches branches + count_items rest
    count_items (Repeat trips body rest) = most (suc trips) (λ x. count_items (body x)) + count_items rest

    pub count_branches : Branches A C → ℕ
    count_branches EndIf = 0
    count_branches (Branch test body others) = 1 + count_items body + count_branches others

  abbrev mutual
    -- the parts after a guard, with conditions numbered from k on in text order. Each trip of an inner loop applies the
    -- same parts anew, so the row in this list is the number of parts applied before
    pub flat : Items A C → Option ℕ → ℕ → List (NestPart A C)
    flat Done guard k = []
    flat (Then action rest) guard k = Acts guard action ∷ flat rest guard k
    flat (If branches rest) guard k = flat_branches branches guard [] k ++ flat rest guard (k + count_branches branches)
    flat (Repeat trips body rest) guard k = joined_up_to trips (λ x. flat (body x) guard k) ++ flat rest guard (k + most (suc trips) (λ x. count_items (body x)))

    pub flat_branches : Branches A C → Option ℕ → List ℕ → ℕ → List (NestPart A C)
    flat_branches EndIf guard earlier k = []
    flat_branches (Branch test body others) guard earlier k =
        Tests k guard earlier test ∷ (flat body (Some k) (k + 1) ++ flat_branches others guard (k ∷ earlier) (k + 1 + count_items body))

  -- the part is evaluated: its guard holds, and of the earlier branches of its IF none was taken
  abbrev pub is_evaluated : NestPart A C → Conditions → Bool
  is_evaluated (Acts guard action) conditions = guard_holds guard conditions
  is_evaluated (Tests number guard earlier test) conditions = is_tested guard earlier conditions

module _ {A C M F : Type 0} (evaluation : Evaluation A C M F) where
  -- a part at an iteration. A condition that isn't evaluated is made anew with 0: it doesn't keep its value of an earlier trip
  abbrev pub do_part : NestPart A C → Iteration M → Result (Iteration M) F
  do_part (Acts guard action) s = (if guard_holds guard s.conditions then evaluation.action action s.storage else Ok s.storage) >>= (λ m. Ok (record s { storage = m }))
  do_part (Tests number guard earlier test) s =
      (if is_tested guard earlier s.conditions then holds_in evaluation test s.storage else Ok false)
      >>= (λ holds. Ok (record s { conditions = set_condition s.conditions number holds }))

  -- the parts in order, up to the first fault
  abbrev pub do_parts : List (NestPart A C) → Iteration M → Result (Iteration M) F
  do_parts [] s = Ok s
  do_parts (part ∷ parts) s = do_part part s >>= do_parts parts

-- the parts end with the storage that the statements end with, and with the first k conditions as they were; or with the
-- statements' fault
abbrev pub Matches : {M F : Type 0} → ℕ → Conditions → Result (Iteration M) F → Result M F → Type 0
Matches k conditions result (Ok m) = (new : Conditions) × (result ≡ Ok (record { storage = m; conditions = new })) × ((x : ℕ) → x < k → new x ≡ conditions x)
Matches k conditions result (Err fault) = result ≡ Err fault
