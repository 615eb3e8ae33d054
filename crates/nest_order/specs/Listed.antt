-- Of a promise.
-- What an iteration touches while it goes on past its faults, and what is listed for it.
use Rattle.std.specs.Prelude.{◌≡◌, List, [], ◌∷◌, ◌++◌, Option, Some, None, Result, Ok, Err, Bool, true, false, if◌then◌else◌}
use Rattle.nest_order.specs.Turns.{joined_up_to}
use Rattle.nest_order.specs.Items.{Items, Done, Then, If, Repeat, Branches, EndIf, Branch, Evaluation, holds_in, EachIn}
use Rattle.nest_order.specs.Parts.{set_condition, guard_holds, is_tested, Iteration, NestPart, Acts, Tests, is_evaluated}

-- the value, or where there is a fault what stood there before
abbrev pub value_or : {A F : Type 0} → Result A F → A → A
value_or (Ok value) before = value
value_or (Err fault) before = before

-- what counts of a branch and of the later ones: by a condition that is known one of them, by any other both
abbrev pub counted : {L : Type 0} → Option Bool → List L → List L → List L
counted (Some true) taken later = taken
counted (Some false) taken later = later
counted None taken later = taken ++ later

-- what assignments and conditions name for the check of interference, and which way a condition goes where that is known
-- at the nest's entry
pub record Names (A C L : Type 0) : Type 0 where
  pub of_action : A → List L
  pub of_condition : C → List L
  pub known : C → Option Bool

module _ {A C L : Type 0} (names : Names A C L) where
  -- what a branch's condition names. ELSE names nothing, and is known to hold
  abbrev pub names_in : Option C → List L
  names_in None = []
  names_in (Some condition) = names.of_condition condition

  -- which way a branch's condition is known to go
  abbrev pub known_in : Option C → Option Bool
  known_in None = Some true
  known_in (Some condition) = names.known condition

  -- what a part names, whether it is evaluated or not. A guard is no name: an iteration has its own conditions
  abbrev pub names_of : NestPart A C → List L
  names_of (Acts guard action) = names.of_action action
  names_of (Tests number guard earlier test) = names_in test

  abbrev mutual
    -- what is listed for the check of interference, from the text and the known conditions alone
    pub listed : Items A C → List L
    listed Done = []
    listed (Then action rest) = names.of_action action ++ listed rest
    listed (If branches rest) = listed_branches branches ++ listed rest
    listed (Repeat trips body rest) = joined_up_to trips (λ x. listed (body x)) ++ listed rest

    pub listed_branches : Branches A C → List L
    listed_branches EndIf = []
    listed_branches (Branch test body others) = names_in test ++ counted (known_in test) (listed body) (listed_branches others)

module _ {A C M F : Type 0} (evaluation : Evaluation A C M F) where
  -- a part that goes on past a fault: it stores nothing then, and a condition is 0
  abbrev pub go_on : NestPart A C → Iteration M → Iteration M
  go_on (Acts guard action) s = record s { storage = if guard_holds guard s.conditions then value_or (evaluation.action action s.storage) s.storage else s.storage }
  go_on (Tests number guard earlier test) s =
      record s { conditions = set_condition s.conditions number (if is_tested guard earlier s.conditions then value_or (holds_in evaluation test s.storage) false else false) }

  -- the parts in order, each of them
  abbrev pub go_on_all : List (NestPart A C) → Iteration M → Iteration M
  go_on_all [] s = s
  go_on_all (part ∷ parts) s = go_on_all parts (go_on part s)

  -- what the parts that are evaluated name, faults and what follows them included. A part that isn't evaluated touches nothing
  abbrev pub touched : {L : Type 0} → Names A C L → List (NestPart A C) → Iteration M → List L
  touched names [] s = []
  touched names (part ∷ parts) s = (if is_evaluated part s.conditions then names_of names part else []) ++ touched names parts (go_on part s)

  -- a condition that is called known goes that way in every storage. One that would fault isn't known
  abbrev pub AreKnown : {L : Type 0} → Names A C L → Items A C → Type 0
  AreKnown names items =
      EachIn (λ action. Unit {0}) (λ condition. (holds : Bool) → names.known condition ≡ Some holds → (m : M) → evaluation.condition condition m ≡ Ok holds) items
