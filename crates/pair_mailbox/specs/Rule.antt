-- Of a promise.
-- The rule of a pair's queue, over what it holds and over the views of its passes.
use Rattle.std.specs.Prelude.{◌≡◌, ℕ, ◌+◌, ◌%◌, ◌^◌, ◌≤◌, true, false, List, [], ◌++◌, length, Some, slice_get}
use mathlib.Core.Option.{some}
use lib.ListN.{get_elem?}
use Rattle.crossbeam_queue.specs.Passes.{Pass, view}
use Rattle.letters.specs.declared.letter.Letter.{Letter}
use Rattle.pair_mailbox.specs.declared.route.Route.{Route}
use Rattle.pair_mailbox.specs.declared.rule.View.{View}

-- what a pass of a pair's queue knows
abbrev pub known : Pass Letter View → View
known p = view p

-- the route before the opening
abbrev pub no_route : Route
no_route = record { run = 0; from = record { 0 = 0 }; to = record { 0 = 0 } }

-- the view of the maker, and of a closed queue
abbrev pub whole : Route → List Letter → List Letter → View
whole route sent taken = record { sends = true; takes = true; route = route; sent = sent; taken = taken }

-- the view of the end of the source
abbrev pub sender : Route → List Letter → View
sender route sent = record { sends = true; takes = false; route = route; sent = sent; taken = [] }

-- the view of the end of the target
abbrev pub taker : Route → List Letter → View
taker route taken = record { sends = false; takes = true; route = route; sent = []; taken = taken }

abbrev pub idle : View
idle = record { sends = false; takes = false; route = no_route; sent = []; taken = [] }

-- the letter has the run and the nodes of the route, and the number that comes after so many letters
pub record IsNextLetter (route : Route) (count : ℕ) (x : Letter) : Type 0 where
  pub run : x.run ≡ route.run
  pub from : x.from ≡ route.from
  pub to : x.to ≡ route.to
  pub number : x.number ≡ (count + 1) % 2 ^ 64

-- each letter is one of the route, with its own number, from 1
abbrev pub AreNumbered : Route → List Letter → Type 0
AreNumbered route sent = (k : ℕ) (x : Letter) → slice_get sent k ≡ Some x → IsNextLetter route k x

-- what was sent is what was taken followed by what is held, which is at most four letters
pub record IsAfter (taken sent held : List Letter) : Type 0 where
  pub in_order : sent ≡ taken ++ held
  pub few : length held ≤ 4

-- the one pass that sends knows what was sent, and the one that takes knows what was taken
abbrev pub Knows : ℕ → ℕ → Route → List Letter → List Letter → ℕ → View → Type 0
Knows writer reader route sent taken seat v =
    (v.sends ≡ true → (seat ≡ writer) × (v.route ≡ route) × (v.sent ≡ sent)) × (v.takes ≡ true → (seat ≡ reader) × (v.route ≡ route) × (v.taken ≡ taken))

-- the rule: some pass sends and some takes, and what the queue holds is between what they know
pub record Carries (held : List Letter) (views : List View) : Type 0 where
  pub writer : ℕ
  pub reader : ℕ
  pub route : Route
  pub sent : List Letter
  pub taken : List Letter
  pub after : IsAfter taken sent held
  pub numbered : AreNumbered route sent
  pub knows : (seat : ℕ) (v : View) → get_elem? views seat ≡ some v → Knows writer reader route sent taken seat v
