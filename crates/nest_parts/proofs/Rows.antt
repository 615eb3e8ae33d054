-- What is listed stands in the rows of the names.
use Rattle.std.proofs.Common.{ℕ, zero, suc, ◌<◌, List, [], ◌∷◌, ◌++◌, Bool, true, false, if◌then◌else◌, Option, Some, None, Result, Ok, Err, subst, ⊎_elim, Contains}
use Rattle.std.proofs.lemmas.List.Elements.{Contains-append_cases}
use Rattle.nest_order.specs.Turns.{joined_up_to}
use Rattle.storage.specs.Storage.{Spot}
use Rattle.nest_order.specs.Items.{Items}
use Rattle.nest_order.specs.Listed.{counted, listed, listed_branches}
use Rattle.nest_syntax.specs.NestKinds.{Kind, is_read}
use Rattle.nest_order.specs.Copies.{scalar_at}
use Rattle.array_meaning.specs.Terms.{Term, Number, Scalar, Index, Element, Section, Apply, Reduce, Terms, NoTerm, More}
use Rattle.array_meaning.specs.Statements.{Block, Done, Then, Statement, AssignScalar, AssignElement, AssignSection, Transform, If, Do, Where, Forall, Print, Stop, Exit, Cycle, Continue, Redistribute, Arms, NoArm, Arm}
use Rattle.array_meaning.specs.Faults.{Cause, ◌>>=◌}
use Rattle.array_meaning.specs.State.{State, set_scalar, place_in}
use Rattle.array_meaning.specs.Expressions.{values}
use Rattle.array_meaning.specs.Iterations.{values_of, turn_value}
use Rattle.array_meaning.specs.Touches.{known_truth}
use Rattle.nest_items.specs.NestItems as made
use Rattle.nest_items.specs.NestItems.{Action, Condition, items_of, branches_of}
use Rattle.nest_parts.specs.NestSpots.{spots_in, all_spots, element_spot, names_of}
use Rattle.nest_items.specs.Naming.{AreNaming, TermBelow, BlockBelow, StatementBelow, ArmsBelow}
use Rattle.nest_parts.proofs.Listings.{nothing_in, only_in, else_listed}

module _ (kinds : ℕ → Kind) (assigned : List ℕ) (n : ℕ) (spot : Spot) where
  element_below : (a : ℕ) (r : Result ℕ Cause) → a < n → Contains (element_spot a r) spot → spot.row < n
  element_below a (Ok p) lt c = subst (λ q. q.row < n) (only_in (record { row = a; at = p }) spot c) lt
  element_below a (Err e) lt c = absurd (nothing_in spot c)

  scalar_below : (k : ℕ) (b : Bool) → k < n → Contains (if b then scalar_at k ∷ [] else []) spot → spot.row < n
  scalar_below k true lt c = subst (λ q. q.row < n) (only_in (scalar_at k) spot c) lt
  scalar_below k false lt c = absurd (nothing_in spot c)

  mutual
    term_below : (s : State) (t : Term) → TermBelow n t → Contains (spots_in kinds s t) spot → spot.row < n
    term_below s (Number v) h c = absurd (nothing_in spot c)
    term_below s (Scalar k) h c = scalar_below k (is_read (kinds k)) h c
    term_below s (Index k) h c = absurd (nothing_in spot c)
    term_below s (Element a ts) h c = element_below a (values [] s ts >>= place_in s a) h.0 c
    term_below s (Section a subs) h c = absurd (nothing_in spot c)
    term_below s (Apply o ts) h c = terms_below s ts h c
    term_below s (Reduce o t) h c = absurd (nothing_in spot c)

    terms_below : (s : State) (ts : Terms) → AreNaming (λ k. k < n) (λ a. a < n) ts → Contains (all_spots kinds s ts) spot → spot.row < n
    terms_below s NoTerm h c = absurd (nothing_in spot c)
    terms_below s (More t ts) h c = ⊎_elim (λ l. term_below s t h.0 l) (λ r. terms_below s ts h.1 r) (Contains-append_cases (spots_in kinds s t) (all_spots kinds s ts) spot c)

  counted_below : (k : Option Bool) (xs ys : List Spot) → (Contains xs spot → spot.row < n) → (Contains ys spot → spot.row < n) → Contains (counted k xs ys) spot → spot.row < n
  counted_below None xs ys f g c = ⊎_elim f g (Contains-append_cases xs ys spot c)
  counted_below (Some true) xs ys f g c = f c
  counted_below (Some false) xs ys f g c = g c

  turns_below : (t : ℕ) (f : ℕ → List Spot) → ((x : ℕ) → Contains (f x) spot → spot.row < n) → Contains (joined_up_to t f) spot → spot.row < n
  turns_below zero f each c = absurd (nothing_in spot c)
  turns_below (suc t) f each c = ⊎_elim (λ l. turns_below t f each l) (λ r. each t r) (Contains-append_cases (joined_up_to t f) (f t) spot c)

  abbrev Lists : Items Action Condition → Type 0
  Lists xs = Contains (listed (names_of kinds assigned false) xs) spot

  mutual
    pub block_below : (b : Block) (s : State) → BlockBelow n b → Lists (items_of s b) → spot.row < n
    block_below Done s h c = absurd (nothing_in spot c)
    block_below (Then line statement rest) s h c = statement_below statement line s h.0 (items_of s rest) (block_below rest s h.1) c

    statement_below : (statement : Statement) (line : ℕ) (s : State) → StatementBelow n statement → (rest : Items Action Condition) → (Lists rest → spot.row < n)
        → Lists (made.items_in line s statement rest) → spot.row < n
    statement_below (AssignScalar k t) line s h rest go c = ⊎_elim
        (λ l. ⊎_elim (λ z. term_below s t h.1 z) (λ z. subst (λ q. q.row < n) (only_in (scalar_at k) spot z) h.0) (Contains-append_cases (spots_in kinds s t) (scalar_at k ∷ []) spot l))
        go (Contains-append_cases (spots_in kinds s t ++ scalar_at k ∷ []) (listed (names_of kinds assigned false) rest) spot c)
    statement_below (AssignElement a ts t) line s h rest go c =
        let r = values [] s ts >>= place_in s a in
        ⊎_elim
        (λ l. ⊎_elim (λ z. term_below s t h.1 z) (λ z. element_below a r h.0 z) (Contains-append_cases (spots_in kinds s t) (element_spot a r) spot l))
        go (Contains-append_cases (spots_in kinds s t ++ element_spot a r) (listed (names_of kinds assigned false) rest) spot c)
    statement_below (If arms other) line s h rest go c = ⊎_elim
        (λ l. arms_below arms other s h.0 (block_below other s h.1) l)
        go (Contains-append_cases (listed_branches (names_of kinds assigned false) (branches_of s arms (items_of s other))) (listed (names_of kinds assigned false) rest) spot c)
    statement_below (Do mark loop body) line s h rest go c =
        let p = values_of s loop in
        ⊎_elim
        (λ l. turns_below p.count (λ x. listed (names_of kinds assigned false) (items_of (set_scalar s loop.index (turn_value p x)) body))
        (λ x d. block_below body (set_scalar s loop.index (turn_value p x)) h d) l)
        go (Contains-append_cases (joined_up_to p.count (λ x. listed (names_of kinds assigned false) (items_of (set_scalar s loop.index (turn_value p x)) body))) (listed (names_of kinds assigned false) rest) spot c)
    statement_below (AssignSection a subs t) line s h rest go c = go c
    statement_below (Transform x y how) line s h rest go c = go c
    statement_below (Where mask body others) line s h rest go c = go c
    statement_below (Forall controls mask body) line s h rest go c = go c
    statement_below (Print xs) line s h rest go c = go c
    statement_below Stop line s h rest go c = go c
    statement_below Exit line s h rest go c = go c
    statement_below Cycle line s h rest go c = go c
    statement_below Continue line s h rest go c = go c
    statement_below Redistribute line s h rest go c = go c

    arms_below : (arms : Arms) (other : Block) (s : State) → ArmsBelow n arms → (Lists (items_of s other) → spot.row < n)
        → Contains (listed_branches (names_of kinds assigned false) (branches_of s arms (items_of s other))) spot → spot.row < n
    arms_below NoArm other s h go c = go (subst (λ xs. Contains xs spot) (else_listed kinds assigned false (items_of s other)) c)
    arms_below (Arm line t body arms) other s h go c =
        let k = known_truth assigned s t in
        ⊎_elim (λ l. term_below s t h.0 l)
        (λ r. counted_below k (listed (names_of kinds assigned false) (items_of s body)) (listed_branches (names_of kinds assigned false) (branches_of s arms (items_of s other)))
        (block_below body s h.1) (arms_below arms other s h.2 go) r)
        (Contains-append_cases (spots_in kinds s t) (counted k (listed (names_of kinds assigned false) (items_of s body)) (listed_branches (names_of kinds assigned false) (branches_of s arms (items_of s other)))) spot c)
