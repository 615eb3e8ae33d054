-- Runs of the machine over code, piece by piece.
use Rattle.node_code.specs.Instructions.{NewMapping, Instruction}
use Rattle.code_meaning.specs.Instructions.{meaning_of, ArrayTable}
use Rattle.std.proofs.Common.{◌≡◌, ℕ, zero, suc, ◌+◌, ◌<◌, ◌≤◌, List, [], ◌∷◌, ◌++◌, length, ℤ, pos, Some, None, Result, Ok, Err, refl, sym, ap, ◌∙◌, subst, arith, drop, slice_get, slice_set, length-set, get_or-set_same, get_or-set_other, append_assoc, append-nil}
use Rattle.array_meaning.specs.Faults.{Cause, Fault, ◌>>=◌}
use Rattle.statement_trail.specs.Trail.{Trail, after_value}
use Rattle.lowered_expressions.specs.Passed.{Passed, note, note_at, passed, passed_now, IsTrail}
use Rattle.machine_steps.specs.Instr.{Running, Faulted}
use Rattle.machine_steps.specs.Layout.{Layout}
use Rattle.machine_steps.specs.Machine.{Machine, step, step_by, steps, instr_of}
use Rattle.storage.specs.Storage.{Storage}
use Rattle.code_meaning.specs.Flat.{slot}
use Rattle.code_meaning.specs.Parallel.{fault_at}

-- the instructions stand in the code at this place
abbrev pub HasAt : List Instruction → ℕ → List Instruction → Type 0
HasAt code pc [] = Unit {0}
HasAt code pc (i ∷ is) = (slice_get code pc ≡ Some i) × HasAt code (pc + 1) is

pub has-front : (code : List Instruction) (pc : ℕ) (a b : List Instruction) → HasAt code pc (a ++ b) → HasAt code pc a
has-front code pc [] b h = tt
has-front code pc (i ∷ a) b h = (h.0, has-front code (pc + 1) a b h.1)

pub has-back : (code : List Instruction) (pc : ℕ) (a b : List Instruction) → HasAt code pc (a ++ b) → HasAt code (pc + length a) b
has-back code pc [] b h = let e : pc ≡ pc + 0 = omega arith in subst (λ n. HasAt code n b) e h
has-back code pc (i ∷ a) b h =
    let e : pc + 1 + length a ≡ pc + length (i ∷ a) = omega arith in
    subst (λ n. HasAt code n b) e (has-back code (pc + 1) a b h.1)

-- after the first instructions
pub has-drop : (code : List Instruction) (j pc : ℕ) (is : List Instruction) → HasAt code pc is → HasAt code (pc + j) (drop j is)
has-drop code zero pc is h = let e : pc ≡ pc + 0 = omega arith in subst (λ n. HasAt code n is) e h
has-drop code (suc j) pc [] h = tt
has-drop code (suc j) pc (i ∷ is) h = let e : pc + 1 + j ≡ pc + suc j = omega arith in subst (λ n. HasAt code n (drop j is)) e (has-drop code j (pc + 1) is h.1)

-- the same length, and the same slots below b
abbrev pub SameBelow : ℕ → List ℤ → List ℤ → Type 0
SameBelow b xs ys = (length xs ≡ length ys) × ((k : ℕ) → k < b → slot xs k ≡ slot ys k)

pub same-refl : (b : ℕ) (xs : List ℤ) → SameBelow b xs xs
same-refl b xs = (refl, λ k lt. refl)

pub same-on : (b b1 b2 : ℕ) (xs ys zs : List ℤ) → b ≤ b1 → b ≤ b2 → SameBelow b1 xs ys → SameBelow b2 ys zs → SameBelow b xs zs
same-on b b1 b2 xs ys zs le le2 h g = (h.0 ∙ g.0, λ k lt. h.1 k (omega (arith, lt, le)) ∙ g.1 k (omega (arith, lt, le2)))

pub same-set : (b x : ℕ) (xs : List ℤ) (v : ℤ) → b ≤ x → SameBelow b xs (slice_set xs x v)
same-set b x xs v le = (sym (length-set xs x v), λ k lt. sym (get_or-set_other xs x k v (pos 0) (λ e. absurd (omega (arith, e, lt, le)))))

pub slot-set : (x : ℕ) (xs : List ℤ) (v : ℤ) → x < length xs → slot (slice_set xs x v) x ≡ v
slot-set x xs v lt = get_or-set_same xs x v (pos 0) lt

-- what a machine with so many rows has besides between two instructions, which no instruction of a program asks for: where the rows lie,
-- each of which has a layout, how many parallel statements there were since the last Verdict, and what the last reduction gave
pub record Idle (row_count : ℕ) : Type 0 where
  pub layouts : List Layout
  pub parts : ℕ
  pub joined : ℤ
  pub laid : length layouts ≡ row_count

-- a machine but for that
abbrev pub Place : ℕ → Type 0
Place row_count = Idle row_count → Machine Instruction Fault

module _ (table : ArrayTable) (row_count : ℕ) (moves : ℕ → List NewMapping) (code : List Instruction) where
  -- the machine comes from the one to the other, and passes these entries
  abbrev pub Reaches : Trail → Place row_count → Place row_count → Type 0
  Reaches T m m' = (i : Idle row_count) → (k : ℕ) × (j : Idle row_count) × (steps (meaning_of table) k (m i) ≡ m' j) × IsTrail moves (passed table k (m i)) T

  pub entries-append : (ps qs : List Passed) (T U : Trail) → IsTrail moves ps T → IsTrail moves qs U → IsTrail moves (ps ++ qs) (T ++ U)
  entries-append [] qs [] U h g = g
  entries-append [] qs (e ∷ T) U h g = absurd h
  entries-append (p ∷ ps) qs [] U h g = absurd h
  entries-append (p ∷ ps) qs (e ∷ T) U h g = (h.0, entries-append ps qs T U h.1 g)

  pub steps-more : (j k : ℕ) (m : Machine Instruction Fault) → steps (meaning_of table) (k + j) m ≡ steps (meaning_of table) k (steps (meaning_of table) j m)
  steps-more zero k m = let e : k + 0 ≡ k = omega arith in ap (λ x. steps (meaning_of table) x m) e
  steps-more (suc j) k m = let e : k + suc j ≡ suc (k + j) = omega arith in ap (λ x. steps (meaning_of table) x m) e ∙ steps-more j k (step (meaning_of table) m)

  pub passed-more : (j k : ℕ) (m : Machine Instruction Fault) → passed table (k + j) m ≡ passed table j m ++ passed table k (steps (meaning_of table) j m)
  passed-more zero k m = let e : k + 0 ≡ k = omega arith in ap (λ x. passed table x m) e
  passed-more (suc j) k m =
      let e : k + suc j ≡ suc (k + j) = omega arith in
      ap (λ x. passed table x m) e ∙ ap (λ l. passed_now m ++ l) (passed-more j k (step (meaning_of table) m))
      ∙ sym (append_assoc (passed_now m) (passed table j (step (meaning_of table) m)) (passed table k (steps (meaning_of table) j (step (meaning_of table) m))))

  pub entries-more : (j k : ℕ) (m m' : Machine Instruction Fault) (T U : Trail) → steps (meaning_of table) j m ≡ m' → IsTrail moves (passed table j m) T
      → IsTrail moves (passed table k m') U → IsTrail moves (passed table (k + j) m) (T ++ U)
  entries-more j k m m' T U e h g =
      subst (λ l. IsTrail moves l (T ++ U)) (sym (passed-more j k m))
      (entries-append (passed table j m) (passed table k (steps (meaning_of table) j m)) T U h (subst (λ x. IsTrail moves (passed table k x) U) (sym e) g))

  pub reaches-on : {T U : Trail} (m m' m'' : Place row_count) → Reaches T m m' → Reaches U m' m'' → Reaches (T ++ U) m m''
  reaches-on {T} {U} m m' m'' r q i =
      let a = r i in
      let b = q a.1 in (
        b.0 + a.0,
        b.1,
        steps-more a.0 b.0 (m i) ∙ ap (steps (meaning_of table) b.0) a.2 ∙ b.2,
        entries-more a.0 b.0 (m i) (m' a.1) T U a.2 a.3 b.3,
      )

  -- what follows passes nothing
  pub reaches-last : (T : Trail) (m m' m'' : Place row_count) → Reaches T m m' → Reaches [] m' m'' → Reaches T m m''
  reaches-last T m m' m'' r q = subst (λ V. Reaches V m m'') (append-nil T) (reaches-on m m' m'' r q)

  -- the machine at a place of the code between two instructions of a statement that keeps no fault
  abbrev pub stands : ℕ → List ℤ → Storage → List ℕ → Place row_count
  stands pc slots rows out i = record {
    code = code;
    control = record { at = pc; slots = slots; status = Running };
    substep = 0;
    rows = rows;
    layouts = i.layouts;
    kept = None;
    parts = i.parts;
    joined = i.joined;
    line = [];
    printed = out;
  }

  pub one : (pc : ℕ) (slots : List ℤ) (rows : Storage) (out : List ℕ) (x : Instruction) → slice_get code pc ≡ Some x → (i : Idle row_count)
      → steps (meaning_of table) 1 (stands pc slots rows out i) ≡ step_by (meaning_of table x) (stands pc slots rows out i)
  one pc slots rows out x h i = ap (λ o. step_by (instr_of (meaning_of table) o) (stands pc slots rows out i)) h

  -- an instruction that isn't noted
  pub still : (pc : ℕ) (slots : List ℤ) (rows : Storage) (out : List ℕ) (x : Instruction) → slice_get code pc ≡ Some x → note x slots ≡ [] → (i : Idle row_count)
      → IsTrail moves (passed table 1 (stands pc slots rows out i)) []
  still pc slots rows out x h e i = subst (λ l. IsTrail moves (l ++ []) []) (sym (ap (λ o. note_at 0 o slots) h ∙ e)) tt

  -- the run ends with a fault, with this printed, and keeps none
  abbrev pub Stops : Trail → Place row_count → Fault → List ℕ → Type 0
  Stops T m f out = (i : Idle row_count) → (m' : Machine Instruction Fault)
      × ((k : ℕ) × (steps (meaning_of table) k (m i) ≡ m') × IsTrail moves (passed table k (m i)) T) × (m'.control.status ≡ Faulted f) × (m'.printed ≡ out) × (m'.kept ≡ None)

  pub stops-on : {T U : Trail} (m m' : Place row_count) (f : Fault) (out : List ℕ) → Reaches T m m' → Stops U m' f out → Stops (T ++ U) m f out
  stops-on {T} {U} m m' f out r s i =
      let a = r i in
      let b = s a.1 in (
        b.0,
        (
          b.1.0 + a.0,
          steps-more a.0 b.1.0 (m i) ∙ ap (steps (meaning_of table) b.1.0) a.2 ∙ b.1.1,
          entries-more a.0 b.1.0 (m i) (m' a.1) T U a.2 a.3 b.1.2,
        ),
        b.2,
        b.3,
        b.4,
      )

  module _ (line : ℕ) (rows : Storage) (out : List ℕ) where
    -- the code between two places evaluates a result: with its value the run comes to the second place, with the slots below b
    -- as they were; with its fault it ends
    abbrev pub Comes : {A : Type 0} → Trail → ℕ → ℕ → ℕ → List ℤ → (List ℤ → A → Type 0) → Result A Cause → Type 0
    Comes T pc pc' b slots P (Ok a) = (slots' : List ℤ) × Reaches T (stands pc slots rows out) (stands pc' slots' rows out) × SameBelow b slots slots' × P slots' a
    Comes T pc pc' b slots P (Err c) = Stops T (stands pc slots rows out) (fault_at line c) out

    pub comes-as : {A : Type 0} (T U : Trail) (pc pc' b : ℕ) (slots : List ℤ) (P : List ℤ → A → Type 0) (r : Result A Cause) → T ≡ U → Comes T pc pc' b slots P r
        → Comes U pc pc' b slots P r
    comes-as T U pc pc' b slots P r e h = subst (λ V. Comes V pc pc' b slots P r) e h

    pub comes-on : {A : Type 0} (T U : Trail) (pc pc1 pc2 b b1 : ℕ) (slots slots1 : List ℤ) (P : List ℤ → A → Type 0) (r : Result A Cause) → b ≤ b1
        → Reaches T (stands pc slots rows out) (stands pc1 slots1 rows out) → SameBelow b slots slots1 → Comes U pc1 pc2 b1 slots1 P r → Comes (T ++ U) pc pc2 b slots P r
    comes-on T U pc pc1 pc2 b b1 slots slots1 P (Ok a) le reach same h = (
      h.0,
      reaches-on (stands pc slots rows out) (stands pc1 slots1 rows out) (stands pc2 h.0 rows out) reach h.1,
      same-on b b b1 slots slots1 h.0
          (omega arith) le same h.2,
      h.3,
    )
    comes-on T U pc pc1 pc2 b b1 slots slots1 P (Err c) le reach same h = stops-on (stands pc slots rows out) (stands pc1 slots1 rows out) (fault_at line c) out reach h

    pub comes-then : {A B : Type 0} (T : Trail) (U : A → Trail) (pc pc1 pc2 b b1 : ℕ) (slots : List ℤ) (P : List ℤ → A → Type 0) (Q : List ℤ → B → Type 0) (r : Result A Cause)
        (f : A → Result B Cause) → b ≤ b1
        → Comes T pc pc1 b slots P r → ((slots1 : List ℤ) (a : A) → r ≡ Ok a → SameBelow b slots slots1 → P slots1 a → Comes (U a) pc1 pc2 b1 slots1 Q (f a))
        → Comes (T ++ after_value r U) pc pc2 b slots Q (r >>= f)
    comes-then T U pc pc1 pc2 b b1 slots P Q (Ok a) f le h next = comes-on T (U a) pc pc1 pc2 b b1 slots h.0 Q (f a) le h.1 h.2 (next h.0 a refl h.2 h.3)
    comes-then T U pc pc1 pc2 b b1 slots P Q (Err c) f le h next =
        subst (λ V. Stops V (stands pc slots rows out) (fault_at line c) out) (sym (append-nil T)) h

    -- what follows passes nothing
    pub comes-last : {A B : Type 0} (T : Trail) (pc pc1 pc2 b b1 : ℕ) (slots : List ℤ) (P : List ℤ → A → Type 0) (Q : List ℤ → B → Type 0) (r : Result A Cause)
        (f : A → Result B Cause) → b ≤ b1
        → Comes T pc pc1 b slots P r → ((slots1 : List ℤ) (a : A) → r ≡ Ok a → SameBelow b slots slots1 → P slots1 a → Comes [] pc1 pc2 b1 slots1 Q (f a))
        → Comes T pc pc2 b slots Q (r >>= f)
    comes-last T pc pc1 pc2 b b1 slots P Q (Ok a) f le h next =
        comes-as (T ++ []) T pc pc2 b slots Q (f a) (append-nil T) (comes-on T [] pc pc1 pc2 b b1 slots h.0 Q (f a) le h.1 h.2 (next h.0 a refl h.2 h.3))
    comes-last T pc pc1 pc2 b b1 slots P Q (Err c) f le h next = h

    pub comes-at : {A : Type 0} (T : Trail) (pc pc1 pc2 b : ℕ) (slots : List ℤ) (P : List ℤ → A → Type 0) (r : Result A Cause) → pc1 ≡ pc2 → Comes T pc pc1 b slots P r
        → Comes T pc pc2 b slots P r
    comes-at T pc pc1 pc2 b slots P r e h = subst (λ n. Comes T pc n b slots P r) e h

    -- a value that wants no code
    pub comes-here : {A : Type 0} (pc b : ℕ) (slots : List ℤ) (P : List ℤ → A → Type 0) (a : A) → P slots a → Comes [] pc pc b slots P (Ok a)
    comes-here pc b slots P a p = (slots, (λ i. (0, i, refl, tt)), same-refl b slots, p)

    pub comes-but : {A : Type 0} (T : Trail) (pc pc1 b : ℕ) (slots : List ℤ) (P Q : List ℤ → A → Type 0) (r : Result A Cause) → ((slots' : List ℤ) (a : A) → P slots' a → Q slots' a)
        → Comes T pc pc1 b slots P r → Comes T pc pc1 b slots Q r
    comes-but T pc pc1 b slots P Q (Ok a) f h = (h.0, h.1, h.2, f h.0 a h.3)
    comes-but T pc pc1 b slots P Q (Err c) f h = h
