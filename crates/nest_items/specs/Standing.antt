-- Of a promise.
-- What may stand in a nest, in a state at its entry (HPF 2.0, 5.1).
use Rattle.std.specs.Prelude.{◌≡◌, ℕ, ◌<◌, List, [], ◌∷◌, ◌⊎◌, Option, Some, None, Bool, true, false, ◌&&◌, ◌||◌, not, Ok, FitsSigned}
use Rattle.std.specs.Int.{w64}
use Rattle.op_tables.specs.declared.join.Join.{Join}
use Rattle.op_tables.specs.declared.op.Op.{Op}
use Rattle.op_tables.specs.Joins.{IsOverNumbers}
use Rattle.op_tables.specs.Operators.{wrapped}
use Rattle.op_tables.specs.Reductions.{joined_by}
use Rattle.nest_syntax.specs.NestKinds.{Kind, Shared, New, Assigned, Reduced, has_copies, is_read, is_difference, reduction_term}
use Rattle.array_meaning.specs.Terms.{Term, Number, Scalar, Index, Element, Section, Apply, Reduce, Terms, NoTerm, More}
use Rattle.array_meaning.specs.Statements.{Loop, Nest, Block, Done, Then, Statement, AssignScalar, AssignElement, If, Do, Continue, Mark, Unmarked, Arms, NoArm, Arm}
use Rattle.array_meaning.specs.State.{State, set_scalar}
use Rattle.array_meaning.specs.Expressions.{index_values}
use Rattle.array_meaning.specs.Iterations.{is_in, values_of, turn_value, iteration_count, at_iteration}
use Rattle.array_meaning.specs.Touches.{assigned_in, hidden_scalars}
use Rattle.nest_items.specs.Naming.{IsNaming, AreNaming}
use Rattle.nest_items.specs.Settled.{without}

-- an inner loop stands under no IF
abbrev mutual
  pub has_no_loop : Block → Bool
  has_no_loop Done = true
  has_no_loop (Then line statement rest) = is_no_loop statement && has_no_loop rest

  pub is_no_loop : Statement → Bool
  is_no_loop (Do mark loop body) = false
  is_no_loop (If arms other) = have_no_loop arms && has_no_loop other
  is_no_loop statement = true

  pub have_no_loop : Arms → Bool
  have_no_loop NoArm = true
  have_no_loop (Arm line t body arms) = has_no_loop body && have_no_loop arms

-- `kinds` says what each name is to the nest. `free` are the indices of loops that aren't round a text: no text names one
module _ (kinds : ℕ → Kind) where
  -- ---- expressions

  -- a scalar that isn't free and that isn't assigned
  abbrev pub IsFixed : (ℕ → Bool) → ℕ → Type 0
  IsFixed free k = (free k ≡ false) × (has_copies (kinds k) ≡ false)

  -- subscripts and bounds are fixed in an iteration: they name such scalars alone, and no array
  abbrev pub IsFixedTerm : (ℕ → Bool) → Term → Type 0
  IsFixedTerm free t = IsNaming (IsFixed free) (λ a. ⊥) t

  abbrev pub AreFixedTerms : (ℕ → Bool) → Terms → Type 0
  AreFixedTerms free ts = AreNaming (IsFixed free) (λ a. ⊥) ts

  -- a scalar in an expression isn't free, and is no REDUCTION variable but an own one
  abbrev pub MayStand : (ℕ → Bool) → Option ℕ → ℕ → Type 0
  MayStand free own k = (free k ≡ false) × ((is_read (kinds k) ≡ has_copies (kinds k)) ⊎ (own ≡ Some k))

  abbrev mutual
    pub Stands : (ℕ → Bool) → Option ℕ → Term → Type 0
    Stands free own (Number v) = FitsSigned w64 v
    Stands free own (Scalar k) = MayStand free own k
    Stands free own (Index k) = Unit {0}
    Stands free own (Element a ts) = (has_copies (kinds a) ≡ false) × AreFixedTerms free ts
    Stands free own (Section a subs) = Unit {0}
    Stands free own (Apply o ts) = AllStand free own ts
    Stands free own (Reduce o t) = ⊥

    pub AllStand : (ℕ → Bool) → Option ℕ → Terms → Type 0
    AllStand free own NoTerm = Unit {0}
    AllStand free own (More t ts) = Stands free own t × AllStand free own ts

  -- ---- statements

  -- a reduction statement: the variable, and an expression that doesn't name it, on either side; of a difference the variable is on the left
  pub record IsReductionStatement (free : ℕ → Bool) (op : Join) (k : ℕ) (t : Term) : Type 0 where
    pub by : Op
    pub other : Term
    pub is_first : Bool
    pub shape : t ≡ reduction_term is_first k by other
    pub operator : joined_by by ≡ Some op
    pub order : (is_first || not (is_difference by)) ≡ true
    pub stands : Stands free None other

  -- the right side of an assignment to a scalar, by what the scalar is
  abbrev pub RightKind : (ℕ → Bool) → ℕ → Term → Kind → Type 0
  RightKind free k t Shared = ⊥
  RightKind free k t New = Unit {0}
  RightKind free k t Assigned = Unit {0}
  RightKind free k t (Reduced op) = IsReductionStatement free op k t

  -- a loop: its index is free round it, and its control has no fault and the same values in each iteration
  pub record IsInner (free : ℕ → Bool) (s : State) (mark : Mark) (loop : Loop) : Type 0 where
    pub unmarked : mark ≡ Unmarked
    pub index : has_copies (kinds loop.index) ≡ false
    pub unseen : free loop.index ≡ true
    pub first : IsFixedTerm free loop.control.first
    pub last : IsFixedTerm free loop.control.last
    pub step : IsFixedTerm free loop.control.step
    pub known : index_values s loop.control ≡ Ok (values_of s loop)
    pub fits : wrapped (values_of s loop).first ≡ (values_of s loop).first

  abbrev mutual
    pub BlockStands : (ℕ → Bool) → State → Block → Type 0
    BlockStands free s Done = Unit {0}
    BlockStands free s (Then line statement rest) = StatementStands free s statement × BlockStands free s rest

    pub StatementStands : (ℕ → Bool) → State → Statement → Type 0
    StatementStands free s (AssignScalar k t) = (has_copies (kinds k) ≡ true) × Stands free (Some k) t × RightKind free k t (kinds k)
    StatementStands free s (AssignElement a ts t) = (has_copies (kinds a) ≡ false) × AreFixedTerms free ts × Stands free None t
    StatementStands free s (If arms other) = ArmsStand free s arms × BlockStands free s other × ((have_no_loop arms && has_no_loop other) ≡ true)
    StatementStands free s (Do mark loop body) = IsInner free s mark loop
        × ((x : ℕ) → x < (values_of s loop).count → BlockStands (without free loop.index) (set_scalar s loop.index (turn_value (values_of s loop) x)) body)
    StatementStands free s Continue = Unit {0}
    StatementStands free s statement = ⊥

    pub ArmsStand : (ℕ → Bool) → State → Arms → Type 0
    ArmsStand free s NoArm = Unit {0}
    ArmsStand free s (Arm line t body arms) = Stands free None t × BlockStands free s body × ArmsStand free s arms

  -- ---- nests

  -- the controls of loops name no index and nothing that is assigned
  abbrev pub EachFixed : (ℕ → Bool) → List Loop → Type 0
  EachFixed free [] = Unit {0}
  EachFixed free (l ∷ ls) = (IsFixedTerm free l.control.first × IsFixedTerm free l.control.last × IsFixedTerm free l.control.step) × EachFixed free ls

  -- the loops inside the outermost one, each with the next as its whole block, and the innermost block. No control names an index
  abbrev pub TightStands : (all free : ℕ → Bool) → State → List Loop → Block → Block → Type 0
  TightStands all free s [] block body = (block ≡ body) × BlockStands free s body
  TightStands all free s (l ∷ ls) block body = (line : ℕ) × (inner : Block) × (block ≡ Then line (Do Unmarked l inner) Done)
      × IsInner all s Unmarked l × (free l.index ≡ true)
      × ((x : ℕ) → x < (values_of s l).count → TightStands all (without free l.index) (set_scalar s l.index (turn_value (values_of s l) x)) ls inner body)

  -- a nest at its entry: `all` are its indices and those of the loops in it
  pub record NestStands (all : ℕ → Bool) (s : State) (nest : Nest) (loop : Loop) (block body : Block) : Type 0 where
    pub inner : List Loop
    pub loops : nest.loops ≡ loop ∷ inner
    pub index : has_copies (kinds loop.index) ≡ false
    pub unseen : all loop.index ≡ true
    pub quiet : (k : ℕ) → has_copies (kinds k) ≡ true → all k ≡ false
    pub known : index_values s loop.control ≡ Ok (values_of s loop)
    pub fits : wrapped (values_of s loop).first ≡ (values_of s loop).first
    pub tight : (x : ℕ) → x < (values_of s loop).count
        → TightStands all (without all loop.index) (set_scalar s loop.index (turn_value (values_of s loop) x)) inner block body
    -- also where the outermost loop has no turn
    pub same : EachFixed all inner
    -- the innermost block in each iteration, where these indices are free
    pub inside : ℕ → Bool
    pub each : (i : ℕ) → i < iteration_count nest s → BlockStands inside (at_iteration nest s i) body

  -- the kinds are those of a nest: what has copies is assigned in it, and an assigned scalar that isn't listed is no index. REDUCTION
  -- variables are joined over all numbers of 64 bits
  pub record AreKinds (nest : Nest) (body : Block) : Type 0 where
    pub unassigned : (k : ℕ) → is_in k (assigned_in body) ≡ false → has_copies (kinds k) ≡ false
    pub unlisted : (k : ℕ) → kinds k ≡ Assigned → is_in k (hidden_scalars nest) ≡ false
    pub numbers : (k : ℕ) (op : Join) → kinds k ≡ Reduced op → IsOverNumbers op
