-- The entry of a nest depends on the scalars and on the dimensions of arrays alone: in two states that are alike in these it has one fault, or
-- none in both.
use Rattle.std.proofs.Common.{◌≡◌, ℕ, ◌<◌, ◌≤◌, ◌*◌, nat_le, List, [], ◌∷◌, ◌++◌, length, ℤ, pos, ◌-ℤ◌, Bool, true, false, ◌&&◌, ◌||◌, ◌==◌, if◌then◌else◌, Option, Some, None, Result, Ok, Err, refl, sym, ap, ap₂, ◌∙◌, subst, arith, true≢false, ◌⊎◌, inl, inr, length-set, get_or-set_same, get_or-set_other, ⊎_elim}
use Rattle.std.specs.List.{AllByRecursion, list_all}
use Rattle.std.specs.Result.{result_unwrap_or}
use Rattle.std.proofs.lemmas.Bool.{cases_eq, and_parts}
use Rattle.hpf_base.specs.ElementOrder.{product}
use Rattle.array_meaning.specs.declared.limits.TheConstants.{MAX_TUPLES}
use Rattle.op_tables.specs.Operators.{wrapped}
use Rattle.array_meaning.specs.Terms.{Term, Number, Scalar, Index, Element, Section, Apply, Reduce, Terms, NoTerm, More, list_of}
use Rattle.array_meaning.specs.Statements.{Loop, Nest, Block, Done, Then, Statement, AssignScalar, AssignElement, AssignSection, Transform, If, Do, Where, Forall, Print, Stop, Exit, Cycle, Continue, Redistribute, Arms, NoArm, Arm}
use Rattle.array_meaning.specs.declared.faults.FaultKind.TheVariants.{SpaceLimit, Interfere}
use Rattle.array_meaning.specs.Faults.{Cause, Between, ◌>>=◌, fails}
use Rattle.array_meaning.specs.State.{State, scalar, array, set_scalar, place_in, if_in_bounds, element_place}
use Rattle.array_meaning.specs.declared.sections.Sequence.{Sequence}
use Rattle.array_meaning.specs.Sections.{is_subscript_in_limits}
use Rattle.array_meaning.specs.Expressions.{value, values}
use Rattle.array_meaning.specs.Forall.{index_extents, indices_at, is_index_in_limits, subscripts_in, subscripts_in_all}
use Rattle.array_meaning.specs.Iterations.{values_of, nest_axes, nest_indices, with_indices, turn_value, in_turns}
use Rattle.array_meaning.specs.Touches.{Touch, element_touch, reads, all_reads, assigned_in, is_known, are_known, truth_of, known_truth, counted, touches, touches_in, touches_in_arms, hidden_scalars, iteration_touches, scalar_touch}
use Rattle.array_meaning.specs.Clashes.{Clash, first_clash}
use Rattle.array_meaning.specs.NestLimits.{with_all, is_linear_in_limits, are_linear_in_limits, is_block_in_limits, is_in_limits, are_arms_in_limits}
use Rattle.array_meaning.specs.NestEntry.{object_subscripts, unless_clash, check_nest}
use Rattle.nest_items.specs.Naming.{IsNaming, AreNaming}
use Rattle.nest_items.proofs.Values.{value_near, values_near, control_near, then_same}

-- the fault of an evaluation, if it has one
abbrev pub fault_of : {A : Type 0} → Result A Cause → Option Cause
fault_of (Ok a) = None
fault_of (Err c) = Some c

-- a test of each element of a list
same_all : {A : Type 0} (f g : A → Bool) (xs : List A) → AllByRecursion (λ x. f x ≡ g x) xs → list_all f xs ≡ list_all g xs
same_all f g [] h = refl
same_all f g (x ∷ xs) h = ap₂ (λ a b. a && b) h.0 (same_all f g xs h.1)

all_to : {A : Type 0} (P Q : A → Type 0) (xs : List A) → ((x : A) → P x → Q x) → AllByRecursion P xs → AllByRecursion Q xs
all_to P Q [] f h = tt
all_to P Q (x ∷ xs) f h = (f x h.0, all_to P Q xs f h.1)

all_join : {A : Type 0} (P : A → Type 0) (xs ys : List A) → AllByRecursion P xs → AllByRecursion P ys → AllByRecursion P (xs ++ ys)
all_join P [] ys h k = k
all_join P (x ∷ xs) ys h k = (h.0, all_join P xs ys h.1 k)

-- so many names are scalars or arrays
module _ (n : ℕ) where
  -- two states have the same scalars, as many at least as names, and arrays of the same dimensions
  pub record Alike (r s : State) : Type 0 where
    pub scalars : (k : ℕ) → k < n → scalar r k ≡ scalar s k
    pub long : n ≤ length r.scalars
    pub as_long : n ≤ length s.scalars
    pub dims : (a : ℕ) → (array r a).dims ≡ (array s a).dims

  -- ---- what a nest names

  -- a subscript, and a bound of an inner loop: scalars, and no array
  abbrev pub IsOfScalars : Term → Type 0
  IsOfScalars t = IsNaming (λ k. k < n) (λ a. ⊥) t

  abbrev pub AreOfScalars : Terms → Type 0
  AreOfScalars ts = AreNaming (λ k. k < n) (λ a. ⊥) ts

  -- an expression
  abbrev mutual
    pub IsNestTerm : Term → Type 0
    IsNestTerm (Number v) = Unit {0}
    IsNestTerm (Scalar k) = k < n
    IsNestTerm (Index k) = Unit {0}
    IsNestTerm (Element a ts) = AreOfScalars ts
    IsNestTerm (Section a subs) = Unit {0}
    IsNestTerm (Apply o ts) = AreNestTerms ts
    IsNestTerm (Reduce o t) = Unit {0}

    pub AreNestTerms : Terms → Type 0
    AreNestTerms NoTerm = Unit {0}
    AreNestTerms (More t ts) = IsNestTerm t × AreNestTerms ts

  abbrev pub IsNestLoop : Loop → Type 0
  IsNestLoop l = (l.index < n) × IsOfScalars l.control.first × IsOfScalars l.control.last × IsOfScalars l.control.step

  abbrev mutual
    pub IsNestBlock : Block → Type 0
    IsNestBlock Done = Unit {0}
    IsNestBlock (Then line statement rest) = IsNestStatement statement × IsNestBlock rest

    pub IsNestStatement : Statement → Type 0
    IsNestStatement (AssignScalar k t) = IsNestTerm t
    IsNestStatement (AssignElement a ts t) = AreOfScalars ts × IsNestTerm t
    IsNestStatement (If arms other) = AreNestArms arms × IsNestBlock other
    IsNestStatement (Do mark loop body) = IsNestLoop loop × IsNestBlock body
    IsNestStatement statement = Unit {0}

    pub AreNestArms : Arms → Type 0
    AreNestArms NoArm = Unit {0}
    AreNestArms (Arm line t body arms) = IsNestTerm t × IsNestBlock body × AreNestArms arms

  -- ---- states

  pub alike_set : (r s : State) → Alike r s → (x : ℕ) (v : ℤ) → x < n → Alike (set_scalar r x v) (set_scalar s x v)
  alike_set r s h x v lt = record {
    scalars = λ k lk. ⊎_elim
        (λ (e : k ≡ x). subst (λ k. scalar (set_scalar r x v) k ≡ scalar (set_scalar s x v) k) (sym e)
        (get_or-set_same r.scalars x v (pos 0) (omega (arith, lt, h.long)) ∙ sym (get_or-set_same s.scalars x v (pos 0) (omega (arith, lt, h.as_long)))))
        (λ (ne : k ≡ x → ⊥). get_or-set_other r.scalars x k v (pos 0) ne ∙ h.scalars k lk ∙ sym (get_or-set_other s.scalars x k v (pos 0) ne))
        (cases_eq k x);
    long = subst (λ m. n ≤ m) (sym (length-set r.scalars x v)) h.long;
    as_long = subst (λ m. n ≤ m) (sym (length-set s.scalars x v)) h.as_long;
    dims = h.dims;
  }

  alike_indices : (xs : List ℕ) (vs : List ℤ) (r s : State) → AllByRecursion (λ x. x < n) xs → Alike r s → Alike (with_indices xs vs r) (with_indices xs vs s)
  alike_indices [] vs r s below h = h
  alike_indices (x ∷ xs) [] r s below h = h
  alike_indices (x ∷ xs) (v ∷ vs) r s below h = alike_set (with_indices xs vs r) (with_indices xs vs s) (alike_indices xs vs r s below.1 h) x v below.0

  alike_all : (xs : List ℕ) (v : ℤ) (r s : State) → AllByRecursion (λ x. x < n) xs → Alike r s → Alike (with_all xs v r) (with_all xs v s)
  alike_all [] v r s below h = h
  alike_all (x ∷ xs) v r s below h = alike_all xs v (set_scalar r x v) (set_scalar s x v) below.1 (alike_set r s h x v below.0)

  -- ---- values

  same_value : (r s : State) → Alike r s → (t : Term) → IsOfScalars t → value [] r t ≡ value [] s t
  same_value r s h t named = value_near (λ k. k < n) (λ a. ⊥) r s h.scalars (λ a no. absurd no) t named

  same_place : (r s : State) → Alike r s → (a : ℕ) (ts : Terms) → AreOfScalars ts → values [] r ts >>= place_in r a ≡ values [] s ts >>= place_in s a
  same_place r s h a ts named =
      ap (λ vs. vs >>= place_in r a) (values_near (λ k. k < n) (λ a. ⊥) r s h.scalars (λ a no. absurd no) ts named)
      ∙ then_same (values [] s ts) (place_in r a) (place_in s a) (λ is. ap (λ ds. if_in_bounds (element_place ds is)) (h.dims a))

  pub same_axis : (r s : State) → Alike r s → (l : Loop) → IsNestLoop l → values_of r l ≡ values_of s l
  same_axis r s h l named =
      ap (λ p. result_unwrap_or p record { first = pos 0; step = pos 1; count = 0 })
      (control_near (λ k. k < n) (λ a. ⊥) r s h.scalars (λ a no. absurd no) l.control named.1 named.2 named.3)

  -- ---- touches

  mutual
    same_reads : (hidden : List ℕ) (r s : State) → Alike r s → (t : Term) → IsNestTerm t → reads hidden r t ≡ reads hidden s t
    same_reads hidden r s h (Number v) named = refl
    same_reads hidden r s h (Scalar k) named = refl
    same_reads hidden r s h (Index k) named = refl
    same_reads hidden r s h (Element a ts) named = ap (λ p. element_touch false a p) (same_place r s h a ts named)
    same_reads hidden r s h (Section a subs) named = refl
    same_reads hidden r s h (Apply o ts) named = same_all_reads hidden r s h ts named
    same_reads hidden r s h (Reduce o t) named = refl

    same_all_reads : (hidden : List ℕ) (r s : State) → Alike r s → (ts : Terms) → AreNestTerms ts → all_reads hidden r ts ≡ all_reads hidden s ts
    same_all_reads hidden r s h NoTerm named = refl
    same_all_reads hidden r s h (More t ts) named = ap₂ (λ xs ys. xs ++ ys) (same_reads hidden r s h t named.0) (same_all_reads hidden r s h ts named.1)

  -- what is known at the entry names no array
  mutual
    known_named : (assigned : List ℕ) (t : Term) → is_known assigned t ≡ true → IsNestTerm t → IsOfScalars t
    known_named assigned (Number v) e named = tt
    known_named assigned (Scalar k) e named = named
    known_named assigned (Index k) e named = tt
    known_named assigned (Element a ts) e named = absurd (true≢false (sym e))
    known_named assigned (Section a subs) e named = tt
    known_named assigned (Apply o ts) e named = all_known_named assigned ts e named
    known_named assigned (Reduce o t) e named = absurd (true≢false (sym e))

    all_known_named : (assigned : List ℕ) (ts : Terms) → are_known assigned ts ≡ true → AreNestTerms ts → AreOfScalars ts
    all_known_named assigned NoTerm e named = tt
    all_known_named assigned (More t ts) e named =
        let both = and_parts (is_known assigned t) (are_known assigned ts) e in
        (known_named assigned t both.0 named.0, all_known_named assigned ts both.1 named.1)

  same_known : (assigned : List ℕ) (r s : State) → Alike r s → (t : Term) → IsNestTerm t → known_truth assigned r t ≡ known_truth assigned s t
  same_known assigned r s h t named = by (is_known assigned t) refl
    where
      by : (b : Bool) → is_known assigned t ≡ b → (if b then truth_of (value [] r t) else None) ≡ (if b then truth_of (value [] s t) else None)
      by true e = ap truth_of (same_value r s h t (known_named assigned t e named))
      by false e = refl

  mutual
    same_touches : (assigned hidden : List ℕ) (r s : State) → Alike r s → (b : Block) → IsNestBlock b → touches assigned hidden r b ≡ touches assigned hidden s b
    same_touches assigned hidden r s h Done named = refl
    same_touches assigned hidden r s h (Then line statement rest) named =
        ap₂ (λ xs ys. xs ++ ys) (same_touches_in assigned hidden r s h statement named.0) (same_touches assigned hidden r s h rest named.1)

    same_touches_in : (assigned hidden : List ℕ) (r s : State) → Alike r s → (st : Statement) → IsNestStatement st → touches_in assigned hidden r st ≡ touches_in assigned hidden s st
    same_touches_in assigned hidden r s h (AssignScalar k t) named = ap (λ xs. xs ++ scalar_touch hidden true k) (same_reads hidden r s h t named)
    same_touches_in assigned hidden r s h (AssignElement a ts t) named =
        ap₂ (λ xs p. xs ++ element_touch true a p) (same_reads hidden r s h t named.1) (same_place r s h a ts named.0)
    same_touches_in assigned hidden r s h (AssignSection a subs t) named = refl
    same_touches_in assigned hidden r s h (Transform x y how) named = refl
    same_touches_in assigned hidden r s h (If arms other) named =
        same_touches_in_arms assigned hidden r s h arms named.0 (touches assigned hidden r other) (touches assigned hidden s other) (same_touches assigned hidden r s h other named.1)
    same_touches_in assigned hidden r s h (Do mark loop body) named =
        ap (λ (p : Sequence). in_turns p.count (λ x. touches assigned (loop.index ∷ hidden) (set_scalar r loop.index (turn_value p x)) body)) (same_axis r s h loop named.0)
        ∙ (λ j. in_turns (values_of s loop).count (λ x.
        same_touches assigned (loop.index ∷ hidden) (set_scalar r loop.index (turn_value (values_of s loop) x)) (set_scalar s loop.index (turn_value (values_of s loop) x))
        (alike_set r s h loop.index (turn_value (values_of s loop) x) named.0.0) body named.1 j))
    same_touches_in assigned hidden r s h (Where mask body others) named = refl
    same_touches_in assigned hidden r s h (Forall controls mask body) named = refl
    same_touches_in assigned hidden r s h (Print items) named = refl
    same_touches_in assigned hidden r s h Stop named = refl
    same_touches_in assigned hidden r s h Exit named = refl
    same_touches_in assigned hidden r s h Cycle named = refl
    same_touches_in assigned hidden r s h Continue named = refl
    same_touches_in assigned hidden r s h Redistribute named = refl

    same_touches_in_arms : (assigned hidden : List ℕ) (r s : State) → Alike r s → (arms : Arms) → AreNestArms arms → (other other' : List Touch) → other ≡ other'
        → touches_in_arms assigned hidden r arms other ≡ touches_in_arms assigned hidden s arms other'
    same_touches_in_arms assigned hidden r s h NoArm named other other' e = e
    same_touches_in_arms assigned hidden r s h (Arm line t body arms) named other other' e =
        ap₂ (λ xs ys. xs ++ ys) (same_reads hidden r s h t named.0)
        (ap (λ k. counted k (touches assigned hidden r body) (touches_in_arms assigned hidden r arms other)) (same_known assigned r s h t named.0)
        ∙ ap₂ (λ xs ys. counted (known_truth assigned s t) xs ys) (same_touches assigned hidden r s h body named.1)
        (same_touches_in_arms assigned hidden r s h arms named.2 other other' e))

  -- ---- limits

  module _ (indices : List ℕ) where
    same_linear : (r s : State) → Alike r s → AllByRecursion (λ x. x < n) indices → (t : Term) → IsOfScalars t → is_linear_in_limits indices r t ≡ is_linear_in_limits indices s t
    same_linear r s h below t named =
        ap₂ (λ a c. is_subscript_in_limits (wrapped (a -ℤ c)) c)
        (ap (λ v. result_unwrap_or v (pos 0)) (same_value (with_all indices (pos 1) r) (with_all indices (pos 1) s) (alike_all indices (pos 1) r s below h) t named))
        (ap (λ v. result_unwrap_or v (pos 0)) (same_value (with_all indices (pos 0) r) (with_all indices (pos 0) s) (alike_all indices (pos 0) r s below h) t named))

    same_linears : (r s : State) → Alike r s → AllByRecursion (λ x. x < n) indices → (ts : List Term) → AllByRecursion IsOfScalars ts
        → are_linear_in_limits indices r ts ≡ are_linear_in_limits indices s ts
    same_linears r s h below ts named =
        same_all (is_linear_in_limits indices r) (is_linear_in_limits indices s) ts
        (all_to IsOfScalars (λ t. is_linear_in_limits indices r t ≡ is_linear_in_limits indices s t) ts (λ t. same_linear r s h below t) named)

  all_listed : (ts : Terms) → AreOfScalars ts → AllByRecursion IsOfScalars (list_of ts)
  all_listed NoTerm named = tt
  all_listed (More t ts) named = (named.0, all_listed ts named.1)

  mutual
    subscripts_named : (t : Term) → IsNestTerm t → AllByRecursion IsOfScalars (subscripts_in t)
    subscripts_named (Number v) named = tt
    subscripts_named (Scalar k) named = tt
    subscripts_named (Index k) named = tt
    subscripts_named (Element a ts) named = all_listed ts named
    subscripts_named (Section a subs) named = tt
    subscripts_named (Apply o ts) named = all_subscripts_named ts named
    subscripts_named (Reduce o t) named = tt

    all_subscripts_named : (ts : Terms) → AreNestTerms ts → AllByRecursion IsOfScalars (subscripts_in_all ts)
    all_subscripts_named NoTerm named = tt
    all_subscripts_named (More t ts) named = all_join IsOfScalars (subscripts_in t) (subscripts_in_all ts) (subscripts_named t named.0) (all_subscripts_named ts named.1)

  mutual
    same_block_limits : (indices : List ℕ) → AllByRecursion (λ x. x < n) indices → (r s : State) → Alike r s → (m : ℕ) (b : Block) → IsNestBlock b
        → is_block_in_limits indices r m b ≡ is_block_in_limits indices s m b
    same_block_limits indices below r s h m Done named = refl
    same_block_limits indices below r s h m (Then line statement rest) named =
        ap₂ (λ a b. nat_le m MAX_TUPLES && a && b) (same_limits indices below r s h m statement named.0) (same_block_limits indices below r s h m rest named.1)

    same_limits : (indices : List ℕ) → AllByRecursion (λ x. x < n) indices → (r s : State) → Alike r s → (m : ℕ) (st : Statement) → IsNestStatement st
        → is_in_limits indices r m st ≡ is_in_limits indices s m st
    same_limits indices below r s h m (AssignScalar k t) named = same_linears indices r s h below (subscripts_in t) (subscripts_named t named)
    same_limits indices below r s h m (AssignElement a ts t) named =
        same_linears indices r s h below (list_of ts ++ subscripts_in t) (all_join IsOfScalars (list_of ts) (subscripts_in t) (all_listed ts named.0) (subscripts_named t named.1))
    same_limits indices below r s h m (AssignSection a subs t) named = refl
    same_limits indices below r s h m (Transform x y how) named = refl
    same_limits indices below r s h m (If arms other) named =
        ap₂ (λ a b. a && b) (same_arms_limits indices below r s h m arms named.0) (same_block_limits indices below r s h m other named.1)
    same_limits indices below r s h m (Do mark loop body) named =
        ap₂ (λ (p : Sequence) b. (p.count == 0 || is_index_in_limits p) && b) (same_axis r s h loop named.0)
        (ap (λ (p : Sequence). is_block_in_limits (loop.index ∷ indices) r (m * p.count) body) (same_axis r s h loop named.0)
        ∙ same_block_limits (loop.index ∷ indices) (named.0.0, below) r s h (m * (values_of s loop).count) body named.1)
    same_limits indices below r s h m (Where mask body others) named = refl
    same_limits indices below r s h m (Forall controls mask body) named = refl
    same_limits indices below r s h m (Print items) named = refl
    same_limits indices below r s h m Stop named = refl
    same_limits indices below r s h m Exit named = refl
    same_limits indices below r s h m Cycle named = refl
    same_limits indices below r s h m Continue named = refl
    same_limits indices below r s h m Redistribute named = refl

    same_arms_limits : (indices : List ℕ) → AllByRecursion (λ x. x < n) indices → (r s : State) → Alike r s → (m : ℕ) (arms : Arms) → AreNestArms arms
        → are_arms_in_limits indices r m arms ≡ are_arms_in_limits indices s m arms
    same_arms_limits indices below r s h m NoArm named = refl
    same_arms_limits indices below r s h m (Arm line t body arms) named =
        ap₂ (λ a b. a && b)
        (ap₂ (λ a b. a && b) (same_linears indices r s h below (subscripts_in t) (subscripts_named t named.0)) (same_block_limits indices below r s h m body named.1))
        (same_arms_limits indices below r s h m arms named.2)

  -- ---- the entry

  -- by the values of the nest's indices, the indices, and the scalars of which each iteration has its own
  abbrev checked : List Sequence → (indices hidden : List ℕ) → Block → State → Result State Cause
  checked axes indices hidden body s =
      let m : ℕ = product (index_extents axes) in
      if m == 0 then Ok s else
      if list_all is_index_in_limits axes && is_block_in_limits indices s m body then
      unless_clash s axes (first_clash (λ i. touches (assigned_in body) hidden (with_indices indices (indices_at axes i) s) body) m)
      else fails SpaceLimit

  same_clash : (r s : State) → Alike r s → (axes : List Sequence) (c : Option Clash) → fault_of (unless_clash r axes c) ≡ fault_of (unless_clash s axes c)
  same_clash r s h axes None = refl
  same_clash r s h axes (Some c) =
      ap (λ ds. Some (record {
        kind = Interfere;
        at = Between (indices_at axes c.earlier) (indices_at axes c.later) (record { name = c.name; subscripts = object_subscripts ds c.place });
      })) (h.dims c.name)

  same_checked : (axes : List Sequence) (indices hidden : List ℕ) (body : Block) (r s : State) → AllByRecursion (λ x. x < n) indices → IsNestBlock body → Alike r s
      → fault_of (checked axes indices hidden body r) ≡ fault_of (checked axes indices hidden body s)
  same_checked axes indices hidden body r s below named h = by_count (m == 0)
    where
      m : ℕ
      m = product (index_extents axes)

      touched : State → ℕ → List Touch
      touched z i = touches (assigned_in body) hidden (with_indices indices (indices_at axes i) z) body

      limits : State → Bool
      limits z = list_all is_index_in_limits axes && is_block_in_limits indices z m body

      clash : State → Result State Cause
      clash z = unless_clash z axes (first_clash (touched z) m)

      clashes : fault_of (clash r) ≡ fault_of (clash s)
      clashes =
          (λ j. fault_of (unless_clash r axes (first_clash (λ i. same_touches (assigned_in body) hidden (with_indices indices (indices_at axes i) r)
          (with_indices indices (indices_at axes i) s) (alike_indices indices (indices_at axes i) r s below h) body named j) m)))
          ∙ same_clash r s h axes (first_clash (touched s) m)

      by_limits : (b : Bool) → fault_of (if b then clash r else fails SpaceLimit) ≡ fault_of (if b then clash s else fails SpaceLimit)
      by_limits true = clashes
      by_limits false = refl

      by_count : (b : Bool) → fault_of (if b then Ok r else if limits r then clash r else fails SpaceLimit) ≡ fault_of (if b then Ok s else if limits s then clash s else fails SpaceLimit)
      by_count true = refl
      by_count false =
          ap (λ b. fault_of (if b then clash r else fails SpaceLimit)) (ap (λ b. list_all is_index_in_limits axes && b) (same_block_limits indices below r s h m body named))
          ∙ by_limits (limits s)

  -- one nest in each of two states, with the same values of its indices
  pub same_entry : (mine yours : Nest) (body : Block) (r s : State) → nest_axes r mine ≡ nest_axes s yours → nest_indices mine ≡ nest_indices yours → mine.new ≡ yours.new
      → mine.reduction ≡ yours.reduction → AllByRecursion (λ x. x < n) (nest_indices yours) → IsNestBlock body → Alike r s
      → fault_of (check_nest mine body r) ≡ fault_of (check_nest yours body s)
  same_entry mine yours body r s axes indices new reduction below named h =
      (λ j. fault_of (checked (axes j) (indices j) (new j ++ reduction j ++ indices j) body r))
      ∙ same_checked (nest_axes s yours) (nest_indices yours) (hidden_scalars yours) body r s below named h

-- a nest that is entered leaves the state as it was; any other has a fault
pub entered_or_not : (nest : Nest) (body : Block) (s : State) → (check_nest nest body s ≡ Ok s) ⊎ ((c : Cause) × (check_nest nest body s ≡ Err c))
entered_or_not nest body s = by_count (product (index_extents (nest_axes s nest)) == 0) (unless (list_all is_index_in_limits (nest_axes s nest)
    && is_block_in_limits (nest_indices nest) s (product (index_extents (nest_axes s nest))) body) first) (by_limits (list_all is_index_in_limits (nest_axes s nest)
    && is_block_in_limits (nest_indices nest) s (product (index_extents (nest_axes s nest))) body) first)
  where
    Either : Result State Cause → Type 0
    Either q = (q ≡ Ok s) ⊎ ((c : Cause) × (q ≡ Err c))

    first : Option Clash
    first = first_clash (iteration_touches nest body s) (product (index_extents (nest_axes s nest)))

    unless : Bool → Option Clash → Result State Cause
    unless b c = if b then unless_clash s (nest_axes s nest) c else fails SpaceLimit

    by_clash : (c : Option Clash) → Either (unless_clash s (nest_axes s nest) c)
    by_clash None = inl refl
    by_clash (Some c) = inr (_, refl)

    by_limits : (b : Bool) (c : Option Clash) → Either (unless b c)
    by_limits true c = by_clash c
    by_limits false c = inr (_, refl)

    by_count : (b : Bool) (q : Result State Cause) → Either q → Either (if b then Ok s else q)
    by_count true q h = inl refl
    by_count false q h = h
