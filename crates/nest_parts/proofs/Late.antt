-- A nest whose paths assign NEW variables before they read them reads late.
use Rattle.std.proofs.Common.{◌≡◌, ℕ, zero, suc, List, [], ◌∷◌, Bool, true, false, ◌&&◌, ◌||◌, if◌then◌else◌, nat_eq, Option, Some, None, Result, Ok, Err, refl, ap, sym, ◌∙◌, subst, ⊎_elim, Contains, true≢false}
use Rattle.std.specs.List.{list_all}
use Rattle.std.proofs.lemmas.Bool.{and_parts, or_cases}
use Rattle.std.proofs.lemmas.List.Elements.{Contains-append_cases}
use Rattle.nest_order.specs.Turns.{after_turns}
use Rattle.storage.specs.Storage.{Spot}
use Rattle.nest_order.specs.Items as items
use Rattle.nest_order.specs.Items.{Items, Branches, EndIf, Branch}
use Rattle.nest_syntax.specs.NestKinds.{Kind, New, has_copies, is_read}
use Rattle.nest_order.specs.Copies.{scalar_at}
use Rattle.nest_order.specs.Scalars.{assigns_row, assigned_by, assigned_by_branches, AreAssigned, ReadsLate, ReadsLateBranches}
use Rattle.array_meaning.specs.Terms.{Term, Number, Scalar, Index, Element, Section, Apply, Reduce, Terms, NoTerm, More}
use Rattle.array_meaning.specs.Statements.{Block, Done, Then, Statement, AssignScalar, AssignElement, AssignSection, Transform, If, Do, Where, Forall, Print, Stop, Exit, Cycle, Continue, Redistribute, Arms, NoArm, Arm}
use Rattle.array_meaning.specs.Faults.{Cause, ◌>>=◌}
use Rattle.array_meaning.specs.State.{State, set_scalar, place_in}
use Rattle.array_meaning.specs.Expressions.{values}
use Rattle.array_meaning.specs.Iterations.{values_of, turn_value}
use Rattle.nest_items.specs.NestItems as made
use Rattle.nest_items.specs.NestItems.{Action, Condition, items_of, branches_of, else_of}
use Rattle.nest_parts.specs.NestSpots.{spots_in, all_spots, element_spot, reads, written_by}
use Rattle.nest_items.specs.Settled.{without}
use Rattle.nest_items.specs.Standing.{Stands, AllStand, BlockStands, StatementStands, ArmsStand}
use Rattle.nest_items.specs.Paths.{assigned_after, assigned_after_statement, assigned_after_arms, IsReadable, AreReadable, PathsAssign, PathAssigns, ArmsAssign}
use Rattle.nest_parts.proofs.Listings.{nothing_in, only_in}

-- what is assigned by the one is by the other
abbrev Below : (ℕ → Bool) → (ℕ → Bool) → Type 0
Below f g = (row : ℕ) → f row ≡ true → g row ≡ true

or_left : (a b : Bool) → a ≡ true → (a || b) ≡ true
or_left a b e = ap (λ c. c || b) e

or_right : (a b : Bool) → b ≡ true → (a || b) ≡ true
or_right true b e = refl
or_right false b e = e

both : (a b : Bool) → a ≡ true → b ≡ true → (a && b) ≡ true
both true b e f = f
both false b e f = absurd (true≢false (sym e))

module _ (kinds : ℕ → Kind) (assigned_names : List ℕ) where
  abbrev rows : Items Action Condition → (ℕ → Bool) → ℕ → Bool
  rows xs before = assigned_by kinds (reads kinds assigned_names) (written_by kinds) xs before

  abbrev branch_rows : Branches Action Condition → (ℕ → Bool) → ℕ → Bool
  branch_rows bs before = assigned_by_branches kinds (reads kinds assigned_names) (written_by kinds) bs before

  abbrev late : Items Action Condition → (ℕ → Bool) → Type 0
  late xs before = ReadsLate kinds (reads kinds assigned_names) (written_by kinds) xs before

  abbrev branches_late : Branches Action Condition → (ℕ → Bool) → Type 0
  branches_late bs before = ReadsLateBranches kinds (reads kinds assigned_names) (written_by kinds) bs before

  -- nothing that was assigned is lost
  turns_grow : (n : ℕ) (f : ℕ → (ℕ → Bool) → ℕ → Bool) (before : ℕ → Bool) → ((x : ℕ) (g : ℕ → Bool) → Below g (f x g)) → Below before (after_turns n f before)
  turns_grow zero f before grows row e = e
  turns_grow (suc n) f before grows row e = grows n (after_turns n f before) row (turns_grow n f before grows row e)

  mutual
    grow : (xs : Items Action Condition) (before : ℕ → Bool) → Below before (rows xs before)
    grow items.Done before row e = e
    grow (items.Then x rest) before row e = grow rest (λ r. before r || assigns_row kinds (reads kinds assigned_names) (written_by kinds) x r) row
        (or_left (before row) (assigns_row kinds (reads kinds assigned_names) (written_by kinds) x row) e)
    grow (items.If bs rest) before row e = grow rest (branch_rows bs before) row (branches_grow bs before row e)
    grow (items.Repeat n body rest) before row e = grow rest (after_turns n (λ x. rows (body x)) before) row (turns_grow n (λ x. rows (body x)) before (λ x g. grow (body x) g) row e)

    branches_grow : (bs : Branches Action Condition) (before : ℕ → Bool) → Below before (branch_rows bs before)
    branches_grow EndIf before row e = e
    branches_grow (Branch None body others) before row e = grow body before row e
    branches_grow (Branch (Some c) body others) before row e = both (rows body before row) (branch_rows others before row) (grow body before row e) (branches_grow others before row e)

  else_rows : (xs : Items Action Condition) (before : ℕ → Bool) → branch_rows (else_of xs) before ≡ rows xs before
  else_rows items.Done before = refl
  else_rows (items.Then x rest) before = refl
  else_rows (items.If bs rest) before = refl
  else_rows (items.Repeat n body rest) before = refl

  element_row : (a : ℕ) (r : Result ℕ Cause) (f g : ℕ → Bool) → Below f g → Below f (λ row. g row || list_all (λ spot. nat_eq spot.row row) (element_spot a r))
  element_row a r f g below row e = or_left (g row) (list_all (λ spot. nat_eq spot.row row) (element_spot a r)) (below row e)

  scalar_row : (k : ℕ) (f g : ℕ → Bool) → Below f g → Below (λ j. f j || nat_eq k j) (λ row. g row || (nat_eq k row && true))
  scalar_row k f g below row e = ⊎_elim
      (λ l. or_left (g row) (nat_eq k row && true) (below row l))
      (λ r. or_right (g row) (nat_eq k row && true) (both (nat_eq k row) true r refl))
      (or_cases (f row) (nat_eq k row) e)

  -- what every path assigns, the statements assign
  mutual
    rows_after : (b : Block) (free : ℕ → Bool) (s : State) (f g : ℕ → Bool) → BlockStands kinds free s b → Below f g → Below (assigned_after f b) (rows (items_of s b) g)
    rows_after Done free s f g h below = below
    rows_after (Then line statement rest) free s f g h below =
        rows_after_statement statement line free s f g h.0 below (items_of s rest) (assigned_after (assigned_after_statement f statement) rest) (λ g' below'. rows_after rest free s (assigned_after_statement f statement) g' h.1 below')

    rows_after_statement : (statement : Statement) (line : ℕ) (free : ℕ → Bool) (s : State) (f g : ℕ → Bool) → StatementStands kinds free s statement → Below f g
        → (rest : Items Action Condition) (goal : ℕ → Bool) → ((g' : ℕ → Bool) → Below (assigned_after_statement f statement) g' → Below goal (rows rest g'))
        → Below goal (rows (made.items_in line s statement rest) g)
    rows_after_statement (AssignScalar k t) line free s f g h below rest goal go = go (λ row. g row || (nat_eq k row && true)) (scalar_row k f g below)
    rows_after_statement (AssignElement a ts t) line free s f g h below rest goal go =
        go (λ row. g row || list_all (λ spot. nat_eq spot.row row) (element_spot a (values [] s ts >>= place_in s a))) (element_row a (values [] s ts >>= place_in s a) f g below)
    rows_after_statement (AssignSection a subs t) line free s f g h below rest goal go = absurd h
    rows_after_statement (Transform x y how) line free s f g h below rest goal go = absurd h
    rows_after_statement (If arms other) line free s f g h below rest goal go = go (branch_rows (branches_of s arms (items_of s other)) g) (rows_by_arms arms other free s f g h.0 h.1 below (rows_after other free s f g h.1 below))
    rows_after_statement (Do mark loop body) line free s f g h below rest goal go =
        let p = values_of s loop in
        let turns : ℕ → (ℕ → Bool) → ℕ → Bool = λ x. rows (items_of (set_scalar s loop.index (turn_value p x)) body) in
        go (after_turns p.count turns g) (λ row e. turns_grow p.count turns g (λ x g'. grow (items_of (set_scalar s loop.index (turn_value p x)) body) g') row (below row e))
    rows_after_statement (Where mask body others) line free s f g h below rest goal go = absurd h
    rows_after_statement (Forall controls mask body) line free s f g h below rest goal go = absurd h
    rows_after_statement (Print xs) line free s f g h below rest goal go = absurd h
    rows_after_statement Stop line free s f g h below rest goal go = absurd h
    rows_after_statement Exit line free s f g h below rest goal go = absurd h
    rows_after_statement Cycle line free s f g h below rest goal go = absurd h
    rows_after_statement Continue line free s f g h below rest goal go = go g below
    rows_after_statement Redistribute line free s f g h below rest goal go = absurd h

    rows_by_arms : (arms : Arms) (other : Block) (free : ℕ → Bool) (s : State) (f g : ℕ → Bool) → ArmsStand kinds free s arms → BlockStands kinds free s other → Below f g
        → Below (assigned_after f other) (rows (items_of s other) g)
        → Below (assigned_after_arms f arms (assigned_after f other)) (branch_rows (branches_of s arms (items_of s other)) g)
    rows_by_arms NoArm other free s f g h h' below go row e = ap (λ z. z row) (else_rows (items_of s other) g) ∙ go row e
    rows_by_arms (Arm line t body arms) other free s f g h h' below go row e =
        let parts = and_parts (assigned_after f body row) (assigned_after_arms f arms (assigned_after f other) row) e in
        both (rows (items_of s body) g row) (branch_rows (branches_of s arms (items_of s other)) g row)
        (rows_after body free s f g h.1 below row parts.0) (rows_by_arms arms other free s f g h.2 h' below go row parts.1)

  -- ---- reads

  element_assigned : (a : ℕ) (r : Result ℕ Cause) (g : ℕ → Bool) → has_copies (kinds a) ≡ false → AreAssigned kinds (reads kinds assigned_names) (written_by kinds) (element_spot a r) g
  element_assigned a (Ok p) g c spot there new =
      let same = only_in (record { row = a; at = p }) spot there in absurd (true≢false (sym (ap has_copies new) ∙ ap (λ q. has_copies (kinds q.row)) (sym same) ∙ c))
  element_assigned a (Err x) g c spot there new = absurd (nothing_in spot there)

  scalar_assigned : (k : ℕ) (b : Bool) (f g : ℕ → Bool) → Below f g → (kinds k ≡ New → f k ≡ true) → (spot : Spot) → Contains (if b then scalar_at k ∷ [] else []) spot → kinds spot.row ≡ New
      → g spot.row ≡ true
  scalar_assigned k true f g below h spot there new =
      let same = only_in (scalar_at k) spot there in subst (λ q. g q ≡ true) (ap (λ q. q.row) same) (below k (h (ap (λ q. kinds q.row) same ∙ new)))
  scalar_assigned k false f g below h spot there new = absurd (nothing_in spot there)

  mutual
    term_assigned : (free : ℕ → Bool) (own : Option ℕ) (s : State) (f g : ℕ → Bool) → Below f g → (t : Term) → Stands kinds free own t → IsReadable kinds f t
        → AreAssigned kinds (reads kinds assigned_names) (written_by kinds) (spots_in kinds s t) g
    term_assigned free own s f g below (Number v) h r spot c new = absurd (nothing_in spot c)
    term_assigned free own s f g below (Scalar k) h r spot c new = scalar_assigned k (is_read (kinds k)) f g below r spot c new
    term_assigned free own s f g below (Index k) h r spot c new = absurd (nothing_in spot c)
    term_assigned free own s f g below (Element a ts) h r spot c new = element_assigned a (values [] s ts >>= place_in s a) g h.0 spot c new
    term_assigned free own s f g below (Section a subs) h r spot c new = absurd (nothing_in spot c)
    term_assigned free own s f g below (Apply o ts) h r spot c new = terms_assigned free own s f g below ts h r spot c new
    term_assigned free own s f g below (Reduce o t) h r spot c new = absurd (nothing_in spot c)

    terms_assigned : (free : ℕ → Bool) (own : Option ℕ) (s : State) (f g : ℕ → Bool) → Below f g → (ts : Terms) → AllStand kinds free own ts → AreReadable kinds f ts
        → AreAssigned kinds (reads kinds assigned_names) (written_by kinds) (all_spots kinds s ts) g
    terms_assigned free own s f g below NoTerm h r spot c new = absurd (nothing_in spot c)
    terms_assigned free own s f g below (More t ts) h r spot c new = ⊎_elim
        (λ l. term_assigned free own s f g below t h.0 r.0 spot l new) (λ z. terms_assigned free own s f g below ts h.1 r.1 spot z new)
        (Contains-append_cases (spots_in kinds s t) (all_spots kinds s ts) spot c)

  else_late : (xs : Items Action Condition) (g : ℕ → Bool) → late xs g → branches_late (else_of xs) g
  else_late items.Done g h = tt
  else_late (items.Then x rest) g h = ((λ spot c new. absurd (nothing_in spot c)), h, tt)
  else_late (items.If bs rest) g h = ((λ spot c new. absurd (nothing_in spot c)), h, tt)
  else_late (items.Repeat n body rest) g h = ((λ spot c new. absurd (nothing_in spot c)), h, tt)

  mutual
    pub block_late : (b : Block) (free : ℕ → Bool) (s : State) (f g : ℕ → Bool) → BlockStands kinds free s b → PathsAssign kinds f b → Below f g → late (items_of s b) g
    block_late Done free s f g h p below = tt
    block_late (Then line statement rest) free s f g h p below =
        statement_late statement line free s f g h.0 p.0 below (items_of s rest) (λ g' below'. block_late rest free s (assigned_after_statement f statement) g' h.1 p.1 below')

    statement_late : (statement : Statement) (line : ℕ) (free : ℕ → Bool) (s : State) (f g : ℕ → Bool) → StatementStands kinds free s statement → PathAssigns kinds f statement → Below f g
        → (rest : Items Action Condition) → ((g' : ℕ → Bool) → Below (assigned_after_statement f statement) g' → late rest g') → late (made.items_in line s statement rest) g
    statement_late (AssignScalar k t) line free s f g h p below rest go =
        (term_assigned free (Some k) s f g below t h.1 p, go (λ row. g row || (nat_eq k row && true)) (scalar_row k f g below))
    statement_late (AssignElement a ts t) line free s f g h p below rest go = (
      term_assigned free None s f g below t h.2 p,
      go (λ row. g row || list_all (λ spot. nat_eq spot.row row) (element_spot a (values [] s ts >>= place_in s a))) (element_row a (values [] s ts >>= place_in s a) f g below),
    )
    statement_late (AssignSection a subs t) line free s f g h p below rest go = absurd h
    statement_late (Transform x y how) line free s f g h p below rest go = absurd h
    statement_late (If arms other) line free s f g h p below rest go = (
      arms_late arms other free s f g h.0 h.1 p.0 below (block_late other free s f g h.1 p.1 below),
      go (branch_rows (branches_of s arms (items_of s other)) g) (rows_by_arms arms other free s f g h.0 h.1 below (rows_after other free s f g h.1 below)),
    )
    statement_late (Do mark loop body) line free s f g h p below rest go =
        let q = values_of s loop in
        let turns : ℕ → (ℕ → Bool) → ℕ → Bool = λ x. rows (items_of (set_scalar s loop.index (turn_value q x)) body) in
        let more : (n : ℕ) → Below f (after_turns n turns g) = λ n row e. turns_grow n turns g (λ x g'. grow (items_of (set_scalar s loop.index (turn_value q x)) body) g') row (below row e) in (
          (λ x lt. block_late body (without free loop.index) (set_scalar s loop.index (turn_value q x)) f (after_turns x turns g) (h.1 x lt) p (more x)),
          go (after_turns q.count turns g) (more q.count),
        )
    statement_late (Where mask body others) line free s f g h p below rest go = absurd h
    statement_late (Forall controls mask body) line free s f g h p below rest go = absurd h
    statement_late (Print xs) line free s f g h p below rest go = absurd h
    statement_late Stop line free s f g h p below rest go = absurd h
    statement_late Exit line free s f g h p below rest go = absurd h
    statement_late Cycle line free s f g h p below rest go = absurd h
    statement_late Continue line free s f g h p below rest go = go g below
    statement_late Redistribute line free s f g h p below rest go = absurd h

    arms_late : (arms : Arms) (other : Block) (free : ℕ → Bool) (s : State) (f g : ℕ → Bool) → ArmsStand kinds free s arms → BlockStands kinds free s other → ArmsAssign kinds f arms → Below f g
        → late (items_of s other) g → branches_late (branches_of s arms (items_of s other)) g
    arms_late NoArm other free s f g h h' p below go = else_late (items_of s other) g go
    arms_late (Arm line t body arms) other free s f g h h' p below go =
        (term_assigned free None s f g below t h.0 p.0, block_late body free s f g h.1 p.1 below, arms_late arms other free s f g h.2 h' p.2 below go)
