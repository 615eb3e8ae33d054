-- What is listed for an iteration is what it touches.
use Rattle.std.proofs.Common.{◌≡◌, ℕ, zero, suc, ◌<◌, List, [], ◌∷◌, ◌++◌, map, Bool, true, false, ◌||◌, if◌then◌else◌, nat_eq, Option, Some, None, Result, Ok, Err, refl, ap, ap₂, sym, ◌∙◌, subst, arith, ◌⊎◌, inl, inr, ⊎_elim, Contains, true≢false}
use Rattle.std.proofs.lemmas.Bool.Decides.{nat_tests}
use Rattle.std.proofs.lemmas.List.{map-append}
use Rattle.std.proofs.lemmas.List.Elements.{Contains-append_left, Contains-append_right, Contains-append_cases}
use Rattle.nest_order.specs.Turns.{joined_up_to}
use Rattle.storage.specs.Storage.{Spot}
use Rattle.nest_order.specs.Items as items
use Rattle.nest_order.specs.Items.{Items, Branches, EndIf, Branch}
use Rattle.nest_order.specs.Listed as listing
use Rattle.nest_order.specs.Listed.{Names, names_in, known_in, listed, listed_branches}
use Rattle.nest_syntax.specs.NestKinds.{Kind, Shared, New, Assigned, Reduced, has_copies, is_read}
use Rattle.nest_order.specs.Copies.{scalar_at, InIteration, in_iteration, condition_in, items_in, branches_in}
use Rattle.array_meaning.specs.Terms.{Term, Number, Scalar, Index, Element, Section, Apply, Reduce, Terms, NoTerm, More}
use Rattle.array_meaning.specs.Statements.{Block, Done, Then, Statement, AssignScalar, AssignElement, AssignSection, Transform, If, Do, Where, Forall, Print, Stop, Exit, Cycle, Continue, Redistribute, Arms, NoArm, Arm}
use Rattle.array_meaning.specs.Faults.{Cause, ◌>>=◌}
use Rattle.array_meaning.specs.State.{State, set_scalar, place_in}
use Rattle.array_meaning.specs.Expressions.{values}
use Rattle.array_meaning.specs.Touches as nest
use Rattle.array_meaning.specs.Touches.{Touch, reads, all_reads, scalar_touch, element_touch, touches, touches_in, touches_in_arms, known_truth}
use Rattle.array_meaning.specs.Iterations.{is_in, in_turns, values_of, turn_value}
use Rattle.nest_items.specs.NestItems.{Action, Condition, items_of, branches_of, else_of}
use Rattle.nest_items.specs.NestItems as made
use Rattle.nest_parts.specs.NestSpots.{spots_in, all_spots, element_spot, names_of}
use Rattle.nest_items.specs.Settled.{without}
use Rattle.nest_items.specs.Standing.{BlockStands, StatementStands, ArmsStand}

pub nothing_in : {A : Type 0} (x : A) → Contains [] x → ⊥
nothing_in x h = let z : h.0 < 0 = h.1 in omega (arith, z)

pub only_in : {A : Type 0} (a x : A) → Contains (a ∷ []) x → a ≡ x
only_in a x (zero, lt, e) = e
only_in a x (suc k, lt, e) = absurd (omega arith)

pub only_there : {A : Type 0} (a : A) → Contains (a ∷ []) a
only_there a = (0, omega arith, refl)

-- ---- copies

module _ {A C : Type 0} (f : Spot → Spot) (i : ℕ) (N : Names A C Spot) (N' : Names (InIteration A) (InIteration C) Spot)
    (actions : (x : A) → N'.of_action (in_iteration i x) ≡ map f (N.of_action x))
    (conditions : (x : C) → N'.of_condition (in_iteration i x) ≡ map f (N.of_condition x))
    (known : (x : C) → N'.known (in_iteration i x) ≡ N.known x) where
  names_mapped : (x : Option C) → names_in N' (condition_in i x) ≡ map f (names_in N x)
  names_mapped None = refl
  names_mapped (Some x) = conditions x

  known_mapped : (x : Option C) → known_in N' (condition_in i x) ≡ known_in N x
  known_mapped None = refl
  known_mapped (Some x) = known x

  counted_mapped : (k : Option Bool) (xs ys : List Spot) → listing.counted k (map f xs) (map f ys) ≡ map f (listing.counted k xs ys)
  counted_mapped None xs ys = sym (map-append f xs ys)
  counted_mapped (Some true) xs ys = refl
  counted_mapped (Some false) xs ys = refl

  joined_mapped : (n : ℕ) (g : ℕ → List Spot) (h : ℕ → List Spot) → ((x : ℕ) → h x ≡ map f (g x)) → joined_up_to n h ≡ map f (joined_up_to n g)
  joined_mapped zero g h e = refl
  joined_mapped (suc n) g h e = ap₂ (λ xs ys. xs ++ ys) (joined_mapped n g h e) (e n) ∙ sym (map-append f (joined_up_to n g) (g n))

  mutual
    pub listed_mapped : (xs : Items A C) → listed N' (items_in i xs) ≡ map f (listed N xs)
    listed_mapped items.Done = refl
    listed_mapped (items.Then x rest) = ap₂ (λ xs ys. xs ++ ys) (actions x) (listed_mapped rest) ∙ sym (map-append f (N.of_action x) (listed N rest))
    listed_mapped (items.If branches rest) =
        ap₂ (λ xs ys. xs ++ ys) (branches_mapped branches) (listed_mapped rest) ∙ sym (map-append f (listed_branches N branches) (listed N rest))
    listed_mapped (items.Repeat n body rest) =
        ap₂ (λ xs ys. xs ++ ys) (joined_mapped n (λ x. listed N (body x)) (λ x. listed N' (items_in i (body x))) (λ x. listed_mapped (body x))) (listed_mapped rest)
        ∙ sym (map-append f (joined_up_to n (λ x. listed N (body x))) (listed N rest))

    branches_mapped : (bs : Branches A C) → listed_branches N' (branches_in i bs) ≡ map f (listed_branches N bs)
    branches_mapped EndIf = refl
    branches_mapped (Branch test body others) =
        ap₂ (λ xs ys. xs ++ ys) (names_mapped test)
        (ap (λ k. listing.counted k (listed N' (items_in i body)) (listed_branches N' (branches_in i others))) (known_mapped test)
        ∙ ap₂ (λ xs ys. listing.counted (known_in N test) xs ys) (listed_mapped body) (branches_mapped others)
        ∙ counted_mapped (known_in N test) (listed N body) (listed_branches N others))
        ∙ sym (map-append f (names_in N test) (listing.counted (known_in N test) (listed N body) (listed_branches N others)))

-- ---- touches

-- a touch of the spot; a write, where one is asked for
pub record Touched (w : Bool) (spot : Spot) (xs : List Touch) : Type 0 where
  pub touch : Touch
  pub there : Contains xs touch
  pub name : touch.name ≡ spot.row
  pub place : touch.place ≡ spot.at
  pub writes : w ≡ true → touch.writes ≡ true

module _ (kinds : ℕ → Kind) (assigned : List ℕ) where
  -- an array, or an assigned scalar that isn't hidden
  abbrev pub Visible : List ℕ → Spot → Type 0
  Visible hidden spot = (has_copies (kinds spot.row) ≡ false) ⊎ ((has_copies (kinds spot.row) ≡ true) × (is_in spot.row hidden ≡ false))

  touched_left : (w : Bool) (spot : Spot) (xs ys : List Touch) → Touched w spot xs → Touched w spot (xs ++ ys)
  touched_left w spot xs ys h = record { touch = h.touch; there = Contains-append_left xs ys h.touch h.there; name = h.name; place = h.place; writes = h.writes }

  touched_right : (w : Bool) (spot : Spot) (xs ys : List Touch) → Touched w spot ys → Touched w spot (xs ++ ys)
  touched_right w spot xs ys h = record { touch = h.touch; there = Contains-append_right xs ys h.touch h.there; name = h.name; place = h.place; writes = h.writes }

  element_touched : (w writes : Bool) (spot : Spot) (a : ℕ) (r : Result ℕ Cause) → (w ≡ true → writes ≡ true) → Contains (element_spot a r) spot → Touched w spot (element_touch writes a r)
  element_touched w writes spot a (Ok p) e c =
      let same : record { row = a; at = p } ≡ spot = only_in (record { row = a; at = p }) spot c in
      record { touch = record { name = a; place = p; writes = writes }; there = only_there (record { name = a; place = p; writes = writes }); name = ap (λ q. q.row) same; place = ap (λ q. q.at) same; writes = e }
  element_touched w writes spot a (Err x) e c = absurd (nothing_in spot c)

  scalar_touched : (w writes : Bool) (spot : Spot) (k : ℕ) (hidden : List ℕ) → (w ≡ true → writes ≡ true) → is_in k hidden ≡ false → scalar_at k ≡ spot
      → Touched w spot (scalar_touch hidden writes k)
  scalar_touched w writes spot k hidden e seen same =
      let x : Touch = record { name = k; place = 0; writes = writes } in
      record { touch = x; there = subst (λ b. Contains (if b then [] else x ∷ []) x) (sym seen) (only_there x); name = ap (λ q. q.row) same; place = ap (λ q. q.at) same; writes = e }

  read_copy : (k : Kind) → is_read k ≡ true → has_copies k ≡ true
  read_copy Shared e = absurd cc
  read_copy New e = refl
  read_copy Assigned e = refl
  read_copy (Reduced op) e = refl

  -- a visible scalar isn't hidden
  seen_scalar : (hidden : List ℕ) (k : ℕ) (spot : Spot) → Visible hidden spot → scalar_at k ≡ spot → has_copies (kinds k) ≡ true → is_in k hidden ≡ false
  seen_scalar hidden k spot v same t = ⊎_elim
      (λ f. absurd (true≢false (sym t ∙ ap (λ q. has_copies (kinds q.row)) same ∙ f)))
      (λ h. ap (λ q. is_in q.row hidden) same ∙ h.1)
      v

  scalar_read : (hidden : List ℕ) (k : ℕ) (spot : Spot) (b : Bool) → is_read (kinds k) ≡ b → Visible hidden spot → Contains (if b then scalar_at k ∷ [] else []) spot
      → Touched false spot (scalar_touch hidden false k)
  scalar_read hidden k spot true e v c =
      let same = only_in (scalar_at k) spot c in
      scalar_touched false false spot k hidden (λ z. z) (seen_scalar hidden k spot v same (read_copy (kinds k) e)) same
  scalar_read hidden k spot false e v c = absurd (nothing_in spot c)

  mutual
    read_touched : (hidden : List ℕ) (s : State) (t : Term) (spot : Spot) → Visible hidden spot → Contains (spots_in kinds s t) spot → Touched false spot (reads hidden s t)
    read_touched hidden s (Number v) spot seen c = absurd (nothing_in spot c)
    read_touched hidden s (Scalar k) spot seen c = scalar_read hidden k spot (is_read (kinds k)) refl seen c
    read_touched hidden s (Index k) spot seen c = absurd (nothing_in spot c)
    read_touched hidden s (Element a ts) spot seen c = element_touched false false spot a (values [] s ts >>= place_in s a) (λ z. z) c
    read_touched hidden s (Section a subs) spot seen c = absurd (nothing_in spot c)
    read_touched hidden s (Apply o ts) spot seen c = reads_touched hidden s ts spot seen c
    read_touched hidden s (Reduce o t) spot seen c = absurd (nothing_in spot c)

    reads_touched : (hidden : List ℕ) (s : State) (ts : Terms) (spot : Spot) → Visible hidden spot → Contains (all_spots kinds s ts) spot → Touched false spot (all_reads hidden s ts)
    reads_touched hidden s NoTerm spot seen c = absurd (nothing_in spot c)
    reads_touched hidden s (More t ts) spot seen c = ⊎_elim
        (λ l. touched_left false spot (reads hidden s t) (all_reads hidden s ts) (read_touched hidden s t spot seen l))
        (λ r. touched_right false spot (reads hidden s t) (all_reads hidden s ts) (reads_touched hidden s ts spot seen r))
        (Contains-append_cases (spots_in kinds s t) (all_spots kinds s ts) spot c)

  -- reads, where they count
  read_if : (w : Bool) (hidden : List ℕ) (s : State) (t : Term) (spot : Spot) → Visible hidden spot → Contains (if w then [] else spots_in kinds s t) spot → Touched w spot (reads hidden s t)
  read_if true hidden s t spot seen c = absurd (nothing_in spot c)
  read_if false hidden s t spot seen c = read_touched hidden s t spot seen c

  counted_touched : (w : Bool) (spot : Spot) (k : Option Bool) (xs ys : List Spot) (xs' ys' : List Touch)
      → (Contains xs spot → Touched w spot xs') → (Contains ys spot → Touched w spot ys')
      → Contains (listing.counted k xs ys) spot → Touched w spot (nest.counted k xs' ys')
  counted_touched w spot None xs ys xs' ys' f g c = ⊎_elim (λ l. touched_left w spot xs' ys' (f l)) (λ r. touched_right w spot xs' ys' (g r)) (Contains-append_cases xs ys spot c)
  counted_touched w spot (Some true) xs ys xs' ys' f g c = f c
  counted_touched w spot (Some false) xs ys xs' ys' f g c = g c

  turns_touched : (w : Bool) (spot : Spot) (n : ℕ) (g : ℕ → List Spot) (h : ℕ → List Touch) → ((x : ℕ) → x < n → Contains (g x) spot → Touched w spot (h x))
      → Contains (joined_up_to n g) spot → Touched w spot (in_turns n h)
  turns_touched w spot zero g h each c = absurd (nothing_in spot c)
  turns_touched w spot (suc n) g h each c = ⊎_elim
      (λ l. touched_left w spot (in_turns n h) (h n) (turns_touched w spot n g h (λ x lt. each x (omega (arith, lt))) l))
      (λ r. touched_right w spot (in_turns n h) (h n) (each n (omega arith) r))
      (Contains-append_cases (joined_up_to n g) (g n) spot c)

  hidden_more : (hidden : List ℕ) (x : ℕ) (spot : Spot) → has_copies (kinds x) ≡ false → Visible hidden spot → Visible (x ∷ hidden) spot
  hidden_more hidden x spot c v = ⊎_elim (λ f. inl f)
      (λ h. let apart : spot.row ≡ x → ⊥ = λ e. true≢false (sym h.0 ∙ ap (λ q. has_copies (kinds q)) e ∙ c) in
      let z : nat_eq spot.row x ≡ false = grind (arith, nat_tests) in
      inr (h.0, ap (λ b. b || is_in spot.row hidden) z ∙ h.1))
      v

  pub else_listed : (w : Bool) (body : Items Action Condition) → listed_branches (names_of kinds assigned w) (else_of body) ≡ listed (names_of kinds assigned w) body
  else_listed w items.Done = refl
  else_listed w (items.Then x rest) = refl
  else_listed w (items.If branches rest) = refl
  else_listed w (items.Repeat n body rest) = refl

  module _ (w : Bool) (spot : Spot) where
    abbrev Lists : Items Action Condition → Type 0
    Lists xs = Contains (listed (names_of kinds assigned w) xs) spot

    mutual
      pub block_touched : (b : Block) (free : ℕ → Bool) (hidden : List ℕ) (s : State) → BlockStands kinds free s b → Visible hidden spot
          → Lists (items_of s b) → Touched w spot (touches assigned hidden s b)
      block_touched Done free hidden s h seen c = absurd (nothing_in spot c)
      block_touched (Then line statement rest) free hidden s h seen c = ⊎_elim
          (λ l. touched_left w spot (touches_in assigned hidden s statement) (touches assigned hidden s rest) l)
          (λ r. touched_right w spot (touches_in assigned hidden s statement) (touches assigned hidden s rest) (block_touched rest free hidden s h.1 seen r))
          (statement_touched statement line free hidden s h.0 seen (items_of s rest) c)

      statement_touched : (statement : Statement) (line : ℕ) (free : ℕ → Bool) (hidden : List ℕ) (s : State) → StatementStands kinds free s statement → Visible hidden spot
          → (rest : Items Action Condition) → Lists (made.items_in line s statement rest) → Touched w spot (touches_in assigned hidden s statement) ⊎ Lists rest
      statement_touched (AssignScalar k t) line free hidden s h seen rest c = ⊎_elim
          (λ l. inl (⊎_elim
          (λ z. touched_left w spot (reads hidden s t) (scalar_touch hidden true k) (read_if w hidden s t spot seen z))
          (λ z. let same = only_in (scalar_at k) spot z in
          touched_right w spot (reads hidden s t) (scalar_touch hidden true k) (scalar_touched w true spot k hidden (λ e. refl) (seen_scalar hidden k spot seen same h.0) same))
          (Contains-append_cases (if w then [] else spots_in kinds s t) (scalar_at k ∷ []) spot l)))
          (λ r. inr r)
          (Contains-append_cases ((if w then [] else spots_in kinds s t) ++ scalar_at k ∷ []) (listed (names_of kinds assigned w) rest) spot c)
      statement_touched (AssignElement a ts t) line free hidden s h seen rest c =
          let p = values [] s ts >>= place_in s a in
          ⊎_elim
          (λ l. inl (⊎_elim
          (λ z. touched_left w spot (reads hidden s t) (element_touch true a p) (read_if w hidden s t spot seen z))
          (λ z. touched_right w spot (reads hidden s t) (element_touch true a p) (element_touched w true spot a p (λ e. refl) z))
          (Contains-append_cases (if w then [] else spots_in kinds s t) (element_spot a p) spot l)))
          (λ r. inr r)
          (Contains-append_cases ((if w then [] else spots_in kinds s t) ++ element_spot a p) (listed (names_of kinds assigned w) rest) spot c)
      statement_touched (AssignSection a subs t) line free hidden s h seen rest c = absurd h
      statement_touched (Transform x y how) line free hidden s h seen rest c = absurd h
      statement_touched (If arms other) line free hidden s h seen rest c = ⊎_elim
          (λ l. inl (arms_touched arms other free hidden s h.0 h.1 seen (block_touched other free hidden s h.1 seen) l))
          (λ r. inr r)
          (Contains-append_cases (listed_branches (names_of kinds assigned w) (branches_of s arms (items_of s other))) (listed (names_of kinds assigned w) rest) spot c)
      statement_touched (Do mark loop body) line free hidden s h seen rest c =
          let p = values_of s loop in
          ⊎_elim
          (λ l. inl (turns_touched w spot p.count (λ x. listed (names_of kinds assigned w) (items_of (set_scalar s loop.index (turn_value p x)) body))
          (λ x. touches assigned (loop.index ∷ hidden) (set_scalar s loop.index (turn_value p x)) body)
          (λ x lt. block_touched body (without free loop.index) (loop.index ∷ hidden) (set_scalar s loop.index (turn_value p x)) (h.1 x lt) (hidden_more hidden loop.index spot h.0.index seen))
          l))
          (λ r. inr r)
          (Contains-append_cases (joined_up_to p.count (λ x. listed (names_of kinds assigned w) (items_of (set_scalar s loop.index (turn_value p x)) body))) (listed (names_of kinds assigned w) rest) spot c)
      statement_touched (Where mask body others) line free hidden s h seen rest c = absurd h
      statement_touched (Forall controls mask body) line free hidden s h seen rest c = absurd h
      statement_touched (Print xs) line free hidden s h seen rest c = absurd h
      statement_touched Stop line free hidden s h seen rest c = absurd h
      statement_touched Exit line free hidden s h seen rest c = absurd h
      statement_touched Cycle line free hidden s h seen rest c = absurd h
      statement_touched Continue line free hidden s h seen rest c = inr c
      statement_touched Redistribute line free hidden s h seen rest c = absurd h

      arms_touched : (arms : Arms) (other : Block) (free : ℕ → Bool) (hidden : List ℕ) (s : State) → ArmsStand kinds free s arms → BlockStands kinds free s other → Visible hidden spot
          → (Lists (items_of s other) → Touched w spot (touches assigned hidden s other))
          → Contains (listed_branches (names_of kinds assigned w) (branches_of s arms (items_of s other))) spot
          → Touched w spot (touches_in_arms assigned hidden s arms (touches assigned hidden s other))
      arms_touched NoArm other free hidden s h h' seen go c = go (subst (λ xs. Contains xs spot) (else_listed w (items_of s other)) c)
      arms_touched (Arm line t body arms) other free hidden s h h' seen go c =
          let mine = touches assigned hidden s body in
          let later = touches_in_arms assigned hidden s arms (touches assigned hidden s other) in
          let k = known_truth assigned s t in
          ⊎_elim
          (λ l. touched_left w spot (reads hidden s t) (nest.counted k mine later) (read_if w hidden s t spot seen l))
          (λ r. touched_right w spot (reads hidden s t) (nest.counted k mine later)
          (counted_touched w spot k (listed (names_of kinds assigned w) (items_of s body)) (listed_branches (names_of kinds assigned w) (branches_of s arms (items_of s other))) mine later
          (block_touched body free hidden s h.1 seen) (arms_touched arms other free hidden s h.2 h' seen go) r))
          (Contains-append_cases (if w then [] else spots_in kinds s t)
          (listing.counted k (listed (names_of kinds assigned w) (items_of s body)) (listed_branches (names_of kinds assigned w) (branches_of s arms (items_of s other)))) spot c)
