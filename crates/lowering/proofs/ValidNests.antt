-- The code of a nest that keeps its form is one that nodes can run, and it names what there is.
use Rattle.std.proofs.Common.{◌≡◌, ℕ, zero, suc, ◌+◌, ◌*◌, ◌<◌, ◌≤◌, nat_eq, List, [], ◌∷◌, ◌++◌, length, length-append, map, Bool, true, false, true≢false, if◌then◌else◌, Option, Some, None, option_map, refl, sym, ap, ◌∙◌, subst, arith}
use Rattle.std.proofs.lemmas.List.{length-map, length-reverse}
use Rattle.std.specs.List.{AllByRecursion}
use Rattle.std.specs.Option.{option_or}
use Rattle.hpf_base.specs.declared.limits.TheConstants.{MAX_RANK}
use Rattle.name_table.specs.declared.limits.TheConstants.{MAX_INDICES}
use Rattle.op_tables.specs.declared.join.Join.{Join}
use Rattle.array_meaning.specs.Terms.{Term, Number, Scalar, Index, Element, Section, Apply, Reduce, Terms, NoTerm, More, list_of}
use Rattle.array_meaning.specs.Statements.{Loop, Nest, Block, Done, Then, Statement, AssignScalar, AssignElement, AssignSection, Transform, If, Do, Where, Forall, Print, Stop, Exit, Cycle, Continue, Redistribute, Arms, NoArm, Arm}
use Rattle.array_meaning.specs.Iterations.{is_in, nest_indices}
use Rattle.array_meaning.specs.Touches.{assigned_in}
use Rattle.node_code.specs.Forms.{Sub, SubAlong}
use Rattle.code_meaning.specs.Parallel.{shape_of}
use Rattle.node_code.specs.Instructions.{Instruction}
use Rattle.code_meaning.specs.ValidCode.{CodeTable, IsAnchor, IsAnchorSub, IsCopy, IsFlat, AreFlats, IsSub, IsSection, IsSpace, IsNestForm, AreNestForms, IsValid}
use Rattle.nest_syntax.specs.NestKinds.{Kind, Shared, New, Assigned, Reduced, has_copies, kind_of}
use Rattle.nest_items.proofs.NameKinds.{copies_of_kind}
use Rattle.nest_items.specs.Settled.{without}
use Rattle.nest_items.specs.Standing.{IsFixedTerm, AreFixedTerms, Stands, AllStand}
use Rattle.nest_items.specs.NestForm.{IsExact, AreExact, IsPlain, ArePlain, TextsKeep, TextKeeps, ArmsTextsKeep, BlockKeeps, StatementKeeps, ArmsKeep, LoopsKeep}
use Rattle.nest_items.specs.BlockForms.{HasForm}
use Rattle.program_code.specs.NestInstructions as forms
use Rattle.program_code.specs.NestInstructions.{count_nest, slots_of_nest, nest_instructions}
use Rattle.nest_syntax.specs.NestTerms.{indexed, all_indexed, scalar_or_index}
use Rattle.statement_trail.specs.Anchors.{AnchorText, AtTerm, element_anchor, block_anchor, statement_anchor, arms_anchor}
use Rattle.statement_trail.specs.NestParts.{index_in, each_once, of_these, among_from, scalars_in}
use Rattle.program_code.specs.Places.{marks_by, final_by, finals_from, marks_from, place_by}
use Rattle.program_code.specs.NestCode.{PlainBody, PlainArms, plain, plain_in, plain_arms, plain_else, bounds_in, kinds_in, scalars, conditions, nest_rows, stored, place_in, finals, copied_in, axis_in, text_in, test_in, along, bounds_code, trips_code, indices_code, nest_slots, inner_bounds, nest_beside, nest_code}
use Rattle.lowered_expressions.proofs.Anchors.{linear-safe}
use Rattle.lowered_nests.proofs.Listed.{in-some, in-none, not-in, among-is, is-among, not-read}
use Rattle.program_code.specs.ExpressionCode.{index_flat, index_flats, index_subs, index_form, index_forms, anchor_sub_code, anchor_code}
use Rattle.lowered_expressions.specs.WellFormed.{IsScalar, AreScalar, IsWellFormed, IsWellFormedBlock, AreWellFormedArms}
use Rattle.lowering.specs.Ranks.{AreFewDims, IsRanked, AreRanked, KeepsRanks, ArmsKeepRanks, BlockKeepsRanks}
use Rattle.lowering.proofs.NestValidity.{both, IsOfNests, IsFinalFrom, each-statement, IsMarkRow, AreGoodBounds, IsGoodFinal, AreGood, ArmsAreGood, value-good, statements-good}

-- ---- lists of numbers

-- the place of a number in a list
index-below : (xs : List ℕ) (i k j : ℕ) → index_in xs i k ≡ Some j → j < i + length xs
index-below [] i k j e = absurd cc
index-below (x ∷ xs) i k j e = by_test (nat_eq x k) e (λ h. index-below xs (suc i) k j h)
  where
    by_test : (t : Bool) → (if t then Some i else index_in xs (suc i) k) ≡ Some j → (index_in xs (suc i) k ≡ Some j → j < suc i + length xs) → j < i + suc (length xs)
    by_test true e later = let same : i ≡ j = cc in omega (arith, same)
    by_test false e later = let h = later e in omega (arith, h)

-- in the first of two lists, where it isn't in the second
index-front : (xs ys : List ℕ) (i k j : ℕ) → is_in k ys ≡ false → index_in (xs ++ ys) i k ≡ Some j → j < i + length xs
index-front [] ys i k j off e = let none = in-none ys i k off in absurd cc
index-front (x ∷ xs) ys i k j off e = by_test (nat_eq x k) e (λ h. index-front xs ys (suc i) k j off h)
  where
    by_test : (t : Bool) → (if t then Some i else index_in (xs ++ ys) (suc i) k) ≡ Some j → (index_in (xs ++ ys) (suc i) k ≡ Some j → j < suc i + length xs) → j < i + suc (length xs)
    by_test true e later = let same : i ≡ j = cc in omega (arith, same)
    by_test false e later = let h = later e in omega (arith, h)

module _ (P : ℕ → Type 0) where
  either-all : (t : Bool) (x : ℕ) (xs : List ℕ) → (t ≡ true → P x) → AllByRecursion P xs → AllByRecursion P (if t then x ∷ xs else xs)
  either-all true x xs h g = (h refl, g)
  either-all false x xs h g = g

  all-once : (xs : List ℕ) → AllByRecursion P xs → AllByRecursion P (each_once xs)
  all-once [] h = tt
  all-once (x ∷ xs) h = by_test (is_in x xs) (all-once xs h.1)
    where
      by_test : (t : Bool) → AllByRecursion P (each_once xs) → AllByRecursion P (if t then each_once xs else x ∷ each_once xs)
      by_test true g = g
      by_test false g = (h.0, g)

  all-these : (ss : List ℕ) → ((k : ℕ) → is_in k ss ≡ true → P k) → (xs : List ℕ) → AllByRecursion P (of_these ss xs)
  all-these ss each [] = tt
  all-these ss each (x ∷ xs) = either-all (is_in x ss) x (of_these ss xs) (each x) (all-these ss each xs)

  all-mapped : {A : Type 0} (f : A → ℕ) (xs : List A) → AllByRecursion (λ x. P (f x)) xs → AllByRecursion P (map f xs)
  all-mapped f [] h = tt
  all-mapped f (x ∷ xs) h = (h.0, all-mapped f xs h.1)

-- numbers between
all-among : (ks : List ℕ) (first count n : ℕ) → first + count ≤ n → AllByRecursion (λ k. k < n) (among_from ks first count)
all-among ks first zero n le = tt
all-among ks first (suc count) n le =
    either-all (λ k. k < n) (is_in first ks) first (among_from ks (suc first) count) (λ e. omega (arith, le)) (all-among ks (suc first) count n (omega (arith, le)))

-- ---- lengths of code

along-length : (v : ℕ) (ls : List Loop) → length (along v ls) ≡ length ls
along-length v [] = refl
along-length v (l ∷ ls) = let h = along-length (v + 4) ls in omega (arith, h, length-append (along (v + 4) ls) (SubAlong v ∷ []))

trips-length : (line v target : ℕ) (ls : List Loop) → length (trips_code line v target ls) ≡ length ls
trips-length line v target [] = refl
trips-length line v target (l ∷ ls) = ap suc (trips-length line (v + 4) target ls)

indices-length : (line v target : ℕ) (ls : List Loop) → length (indices_code line v target ls) ≡ 3 * length ls
indices-length line v target [] = refl
indices-length line v target (l ∷ ls) = let h = indices-length line (v + 4) target ls in omega (arith, h)

-- ---- expressions

indexed-length : (f : ℕ → Option ℕ) (ts : Terms) → length (index_subs (all_indexed f ts)) ≡ length (list_of ts)
indexed-length f NoTerm = refl
indexed-length f (More t ts) = ap suc (indexed-length f ts)

listed-length : (f : ℕ → Option ℕ) (ts : Terms) → length (list_of (all_indexed f ts)) ≡ length (list_of ts)
listed-length f NoTerm = refl
listed-length f (More t ts) = ap suc (listed-length f ts)

module _ (table : CodeTable) (n : ℕ) (declared : length table.shapes ≡ n) (few : AreFewDims table.shapes) (roomy : n ≤ table.slots) where
  -- a bound of a loop
  mutual
    exact-good : (t : Term) → IsExact t → IsScalar n t → IsFlat table 0 (index_flat t)
    exact-good (Number v) exact ok = tt
    exact-good (Scalar k) exact ok = omega (arith, ok, roomy)
    exact-good (Index k) exact ok = absurd exact
    exact-good (Element a ts) exact ok = absurd exact
    exact-good (Section a subs) exact ok = absurd exact
    exact-good (Apply o ts) exact ok = (linear-safe o exact.0, all-exact-good ts exact.1 ok)
    exact-good (Reduce o t) exact ok = absurd exact

    all-exact-good : (ts : Terms) → AreExact ts → AreScalar n ts → AreFlats table 0 (index_flats ts)
    all-exact-good NoTerm exact ok = tt
    all-exact-good (More t ts) exact ok = (exact-good t exact.0 ok.0, all-exact-good ts exact.1 ok.1)

  -- names as indices of a form: `axes` of them in subscripts, and more outside of these
  module _ (kinds : ℕ → Kind) (free : ℕ → Bool) (f : ℕ → Option ℕ) (axes values : ℕ) (outside : (k j : ℕ) → f k ≡ Some j → j < values)
      (fixed : (k j : ℕ) → has_copies (kinds k) ≡ false → f k ≡ Some j → j < axes) where
    scalar-good : (most k : ℕ) → k < n → ((j : ℕ) → f k ≡ Some j → j < most) → IsFlat table most (index_flat (scalar_or_index (f k) k))
    scalar-good most k lt below = by (f k) below
      where
        by : (o : Option ℕ) → ((j : ℕ) → o ≡ Some j → j < most) → IsFlat table most (index_flat (scalar_or_index o k))
        by None h = omega (arith, lt, roomy)
        by (Some j) h = h j refl

    mutual
      subscript-good : (t : Term) → IsExact t → IsFixedTerm kinds free t → IsScalar n t → IsFlat table axes (index_flat (indexed f t))
      subscript-good (Number v) exact same ok = tt
      subscript-good (Scalar k) exact same ok = scalar-good axes k ok (λ j e. fixed k j same.1 e)
      subscript-good (Index k) exact same ok = absurd exact
      subscript-good (Element a ts) exact same ok = absurd exact
      subscript-good (Section a subs) exact same ok = absurd exact
      subscript-good (Apply o ts) exact same ok = (linear-safe o exact.0, all-subscript-flats ts exact.1 same ok)
      subscript-good (Reduce o t) exact same ok = absurd exact

      all-subscript-flats : (ts : Terms) → AreExact ts → AreFixedTerms kinds free ts → AreScalar n ts → AreFlats table axes (index_flats (all_indexed f ts))
      all-subscript-flats NoTerm exact same ok = tt
      all-subscript-flats (More t ts) exact same ok = (subscript-good t exact.0 same.0 ok.0, all-subscript-flats ts exact.1 same.1 ok.1)

    subscripts-good : (ts : Terms) → AreExact ts → AreFixedTerms kinds free ts → AreScalar n ts → AllByRecursion (IsSub table axes) (index_subs (all_indexed f ts))
    subscripts-good NoTerm exact same ok = tt
    subscripts-good (More t ts) exact same ok = (subscript-good t exact.0 same.0 ok.0, subscripts-good ts exact.1 same.1 ok.1)

    element-good : (a : ℕ) (ts : Terms) → AreExact ts → AreFixedTerms kinds free ts → a < n → AreScalar n ts → length (list_of ts) ≡ length (shape_of table.shapes a)
        → IsSection table axes a (index_subs (all_indexed f ts))
    element-good a ts exact same below ok rank =
        let most : length (shape_of table.shapes a) ≤ MAX_RANK = few a in
        let long = indexed-length f ts in
        ((omega (arith, below, declared), long ∙ rank, omega (arith, long, rank, most)), subscripts-good ts exact same ok)

    -- an element beside which copies lie
    listed-good : (ts : Terms) → AreExact ts → AreFixedTerms kinds free ts → AreScalar n ts
        → AllByRecursion (IsAnchorSub table axes) (map anchor_sub_code (map AtTerm (list_of (all_indexed f ts))))
    listed-good NoTerm exact same ok = tt
    listed-good (More t ts) exact same ok = (subscript-good t exact.0 same.0 ok.0, listed-good ts exact.1 same.1 ok.1)

    anchor-good : (a : ℕ) (ts : Terms) → AreExact ts → AreFixedTerms kinds free ts → a < n → AreScalar n ts → length (list_of ts) ≡ length (shape_of table.shapes a)
        → IsAnchor table axes (Some (anchor_code (element_anchor a (all_indexed f ts))))
    anchor-good a ts exact same below ok rank =
        let most : length (shape_of table.shapes a) ≤ MAX_RANK = few a in
        let long : length (map anchor_sub_code (map AtTerm (list_of (all_indexed f ts)))) ≡ length (list_of ts) =
        length-map (map AtTerm (list_of (all_indexed f ts))) anchor_sub_code ∙ length-map (list_of (all_indexed f ts)) AtTerm ∙ listed-length f ts in
        ((omega (arith, below, declared), long ∙ rank, omega (arith, long, rank, most)), listed-good ts exact same ok)

    mutual
      form-good : (own : Option ℕ) (t : Term) → IsPlain t → Stands kinds free own t → IsScalar n t → IsRanked table.shapes 0 t → IsNestForm table axes values (index_form (indexed f t))
      form-good own (Number v) text stands ok ranked = tt
      form-good own (Scalar k) text stands ok ranked = by (f k) (outside k)
        where
          by : (o : Option ℕ) → ((j : ℕ) → o ≡ Some j → j < values) → IsNestForm table axes values (index_form (scalar_or_index o k))
          by None h = omega (arith, ok, roomy)
          by (Some j) h = h j refl
      form-good own (Index k) text stands ok ranked = absurd text
      form-good own (Element a ts) text stands ok ranked = element-good a ts text stands.1 ok.0 ok.1 ranked.0
      form-good own (Section a subs) text stands ok ranked = tt
      form-good own (Apply o ts) text stands ok ranked = forms-good own ts text stands ok ranked
      form-good own (Reduce o t) text stands ok ranked = absurd text

      forms-good : (own : Option ℕ) (ts : Terms) → ArePlain ts → AllStand kinds free own ts → AreScalar n ts → AreRanked table.shapes 0 ts
          → AreNestForms table axes values (index_forms (all_indexed f ts))
      forms-good own NoTerm text stands ok ranked = tt
      forms-good own (More t ts) text stands ok ranked = (form-good own t text.0 stands.0 ok.0 ranked.0, forms-good own ts text.1 stands.1 ok.1 ranked.1)

  -- ---- the texts of a nest

  module _ (nest : Nest) (body : Block) (operators : ℕ → Join) (room : nest_rows n nest body ≤ table.copies) (line v : ℕ) (slots : v + nest_slots nest body ≤ table.slots)
      (loops : length nest.loops ≤ MAX_INDICES) where
    abbrev ks : List ℕ
    ks = scalars n nest body

    abbrev conds : ℕ
    conds = conditions n nest body

    abbrev kinds : ℕ → Kind
    kinds = kind_of operators nest body

    abbrev over : List Sub
    over = along v nest.loops

    many : length over ≡ length nest.loops
    many = along-length v nest.loops

    subs-good : (w : ℕ) (ls : List Loop) → w + 4 * length ls ≤ table.slots → AllByRecursion (IsSub table 0) (along w ls)
    subs-good w [] le = tt
    subs-good w (l ∷ ls) le = both (IsSub table 0) (along (w + 4) ls) _ (subs-good (w + 4) ls (omega (arith, le))) (omega (arith, le), tt)

    space : IsSpace table over
    space = let m = many in (omega (arith, m, loops), subs-good v nest.loops (omega (arith, slots)))

    -- rows after the declared names
    row-good : (j : ℕ) → j < nest_rows n nest body → IsCopy table (n + j)
    row-good j lt = (omega (arith, declared), omega (arith, declared, lt, room))

    row-is : (j r : ℕ) → n + j ≡ r → j < nest_rows n nest body → IsCopy table r
    row-is j r e lt = subst (IsCopy table) e (row-good j lt)

    listed : (k : ℕ) → has_copies (kinds k) ≡ true → k < n → is_in k ks ≡ true
    listed k has lt = is-among (assigned_in body) 0 n k (record { listed = sym (copies_of_kind operators nest body k) ∙ has; from = omega arith; below = omega (arith, lt) })

    unlisted : (k : ℕ) → has_copies (kinds k) ≡ false → is_in k ks ≡ false
    unlisted k none = by (is_in k ks) refl
      where
        by : (t : Bool) → is_in k ks ≡ t → t ≡ false
        by true e = absurd (true≢false (sym (among-is (assigned_in body) 0 n k e).listed ∙ sym (copies_of_kind operators nest body k) ∙ none))
        by false e = refl

    place-good : (k : ℕ) → is_in k ks ≡ true → IsCopy table (place_in n nest body k)
    place-good k e =
        let z = in-some ks 0 k e in
        let lt = index-below ks 0 k z.0 z.1 in
        row-is z.0 (place_in n nest body k) (sym (ap (λ o. place_by n ks conds o k) z.1)) (omega (arith, lt))

    copies-good : (t : Term) → AllByRecursion (IsCopy table) (map (place_in n nest body) (copied_in n nest body t))
    copies-good t = all-mapped (IsCopy table) (place_in n nest body) (copied_in n nest body t)
        (all-once (λ k. IsCopy table (place_in n nest body k)) (of_these ks (scalars_in t)) (all-these (λ k. IsCopy table (place_in n nest body k)) ks place-good (scalars_in t)))

    mark-good : (kind : Kind) (o : Option ℕ) → ((j : ℕ) → o ≡ Some j → j < length ks) → IsMarkRow table line over space (marks_by n ks conds kind o)
    mark-good Shared o h = tt
    mark-good New None h = tt
    mark-good New (Some j) h = let lt = h j refl in row-is (length ks + conds + j) (marks_from n ks conds + j) (omega arith) (omega (arith, lt))
    mark-good Assigned None h = tt
    mark-good Assigned (Some j) h = let lt = h j refl in row-is (length ks + conds + j) (marks_from n ks conds + j) (omega arith) (omega (arith, lt))
    mark-good (Reduced op) o h = tt

    abbrev axis : Term → ℕ → Option ℕ
    axis t = axis_in n nest body (copied_in n nest body t)

    abbrev values : Term → ℕ
    values t = length over + length (map (place_in n nest body) (copied_in n nest body t))

    indices-many : length (nest_indices nest) ≡ length over
    indices-many = length-reverse (map (λ (l : Loop). l.index) nest.loops) ∙ length-map nest.loops (λ (l : Loop). l.index) ∙ sym many

    outside-good : (t : Term) (k j : ℕ) → axis t k ≡ Some j → j < values t
    outside-good t k j e =
        let lt = index-below (nest_indices nest ++ copied_in n nest body t) 0 k j e in
        let m = indices-many in
        omega (arith, lt, m, length-append (nest_indices nest) (copied_in n nest body t), length-map (copied_in n nest body t) (place_in n nest body))

    fixed-good : (t : Term) (k j : ℕ) → has_copies (kinds k) ≡ false → axis t k ≡ Some j → j < length over
    fixed-good t k j none e =
        let off = not-in (copied_in n nest body t) 0 k (not-read ks (scalars_in t) k (unlisted k none)) in
        let lt = index-front (nest_indices nest) (copied_in n nest body t) 0 k j off e in
        let m = indices-many in
        omega (arith, lt, m)

    right-good : (free : ℕ → Bool) (own : Option ℕ) (t : Term) → IsPlain t → Stands kinds free own t → IsScalar n t → IsRanked table.shapes 0 t
        → IsNestForm table (length over) (values t) (index_form (indexed (axis t) t))
    right-good free own t text stands ok ranked = form-good kinds free (axis t) (length over) (values t) (outside-good t) (fixed-good t) own t text stands ok ranked

    bounds-good : (loop : Loop) → loop.index < n → IsExact loop.control.first → IsExact loop.control.last → IsScalar n loop.control.first → IsScalar n loop.control.last
        → AreGoodBounds table line over space (bounds_in loop)
    bounds-good loop lt first last ok ok' =
        record { index = omega (arith, lt, roomy); first = exact-good loop.control.first first ok; last = exact-good loop.control.last last ok'; step = tt }

    abbrev Good : PlainBody → Type 0
    Good = AreGood table line over space (text_in n nest body) (test_in n nest body)

    abbrev ArmsGood : PlainArms → Type 0
    ArmsGood = ArmsAreGood table line over space (text_in n nest body) (test_in n nest body)

    else-good : (b : PlainBody) → Good b → ArmsGood (plain_else b)
    else-good forms.NoText h = tt
    else-good (forms.AndText a rest) h = (tt, h, tt)
    else-good (forms.AndIf arms rest) h = (tt, h, tt)
    else-good (forms.AndLoop bounds inner rest) h = (tt, h, tt)

    module _ (all : ℕ → Bool) where
      mutual
        block-good : (free : ℕ → Bool) (b : Block) → BlockKeeps kinds free b → TextsKeep all b → IsWellFormedBlock n b → BlockKeepsRanks table.shapes b → Good (plain b)
        block-good free Done keeps texts ok ranked = tt
        block-good free (Then l st rest) keeps texts ok ranked =
            statement-good free l st (plain rest) keeps.0 texts.0 ok.0 ranked.0 (block-good free rest keeps.1 texts.1 ok.1 ranked.1)

        statement-good : (free : ℕ → Bool) (l : ℕ) (st : Statement) (rest : PlainBody) → StatementKeeps kinds free st → TextKeeps all st → IsWellFormed n st → KeepsRanks table.shapes st
            → Good rest → Good (plain_in l st rest)
        statement-good free l (AssignScalar k t) rest keeps text ok ranked h = (
          record {
            copies = copies-good t;
            left = place-good k (listed k keeps.0 ok.0);
            right = right-good free (Some k) t text keeps.1 ok.1 ranked;
            mark = mark-good (kinds_in n nest body k) (index_in ks 0 k) (λ j e. let h = index-below ks 0 k j e in omega (arith, h));
          },
          h,
        )
        statement-good free l (AssignElement a ts t) rest keeps text ok ranked h = (
          record {
            copies = copies-good t;
            left = element-good kinds free (axis t) (length over) (values t) (outside-good t) (fixed-good t) a ts text.0 keeps.1 ok.0 ok.1 ranked.0.0;
            right = right-good free None t text.1 keeps.2 ok.2 ranked.1;
            mark = tt;
          },
          h,
        )
        statement-good free l (If arms other) rest keeps text ok ranked h =
            (arms-good free arms (plain_else (plain other)) keeps.0 text.0 ok.0 ranked.0 (else-good (plain other) (block-good free other keeps.1 text.1 ok.1 ranked.1)), h)
        statement-good free l (Do mark loop inner) rest keeps text ok ranked h = (
          bounds-good loop ok.0 keeps.0.first_exact keeps.0.last_exact ok.1.0 ok.1.1,
          block-good (without free loop.index) inner keeps.1 text.1 ok.2 ranked.1,
          h,
        )
        statement-good free l Continue rest keeps text ok ranked h = h
        statement-good free l (AssignSection a subs t) rest keeps text ok ranked h = absurd keeps
        statement-good free l (Transform x y how) rest keeps text ok ranked h = absurd keeps
        statement-good free l (Where mask b others) rest keeps text ok ranked h = absurd keeps
        statement-good free l (Forall controls mask b) rest keeps text ok ranked h = absurd keeps
        statement-good free l (Print items) rest keeps text ok ranked h = absurd keeps
        statement-good free l Stop rest keeps text ok ranked h = absurd keeps
        statement-good free l Exit rest keeps text ok ranked h = absurd keeps
        statement-good free l Cycle rest keeps text ok ranked h = absurd keeps
        statement-good free l Redistribute rest keeps text ok ranked h = absurd keeps

        arms-good : (free : ℕ → Bool) (arms : Arms) (other : PlainArms) → ArmsKeep kinds free arms → ArmsTextsKeep all arms → AreWellFormedArms n arms → ArmsKeepRanks table.shapes arms
            → ArmsGood other → ArmsGood (plain_arms arms other)
        arms-good free NoArm other keeps text ok ranked h = h
        arms-good free (Arm l t b arms) other keeps text ok ranked h = (
          record { copies = copies-good t; form = right-good free None t text.0 keeps.0 ok.0 ranked.0 },
          block-good free b keeps.1 text.1 ok.1 ranked.1,
          arms-good free arms other keeps.2 text.2 ok.2 ranked.2 h,
        )

      -- ---- what the copies lie beside

      abbrev place : ℕ → Option ℕ
      place = index_in (nest_indices nest) 0

      abbrev IsBesideGood : Option AnchorText → Type 0
      IsBesideGood a = IsAnchor table (length over) (option_map anchor_code a)

      either-beside : (a b : Option AnchorText) → IsBesideGood a → IsBesideGood b → IsBesideGood (option_or a b)
      either-beside None b h g = g
      either-beside (Some a) b h g = h

      place-below : (k j : ℕ) → place k ≡ Some j → j < length over
      place-below k j e = let lt = index-below (nest_indices nest) 0 k j e in let m = indices-many in omega (arith, lt, m)

      mutual
        block-beside : (free : ℕ → Bool) (b : Block) → BlockKeeps kinds free b → TextsKeep all b → IsWellFormedBlock n b → BlockKeepsRanks table.shapes b → IsBesideGood (block_anchor place b)
        block-beside free Done keeps texts ok ranked = tt
        block-beside free (Then l st rest) keeps texts ok ranked =
            either-beside (statement_anchor place st) (block_anchor place rest) (statement-beside free st keeps.0 texts.0 ok.0 ranked.0) (block-beside free rest keeps.1 texts.1 ok.1 ranked.1)

        statement-beside : (free : ℕ → Bool) (st : Statement) → StatementKeeps kinds free st → TextKeeps all st → IsWellFormed n st → KeepsRanks table.shapes st
            → IsBesideGood (statement_anchor place st)
        statement-beside free (AssignElement a ts t) keeps text ok ranked =
            anchor-good kinds free place (length over) (length over) place-below (λ k j none e. place-below k j e) a ts text.0 keeps.1 ok.0 ok.1 ranked.0.0
        statement-beside free (If arms other) keeps text ok ranked =
            either-beside (arms_anchor place arms) (block_anchor place other) (arms-beside free arms keeps.0 text.0 ok.0 ranked.0) (block-beside free other keeps.1 text.1 ok.1 ranked.1)
        statement-beside free st keeps text ok ranked = tt

        arms-beside : (free : ℕ → Bool) (arms : Arms) → ArmsKeep kinds free arms → ArmsTextsKeep all arms → AreWellFormedArms n arms → ArmsKeepRanks table.shapes arms
            → IsBesideGood (arms_anchor place arms)
        arms-beside free NoArm keeps text ok ranked = tt
        arms-beside free (Arm l t b arms) keeps text ok ranked =
            either-beside (block_anchor place b) (arms_anchor place arms) (block-beside free b keeps.1 text.1 ok.1 ranked.1) (arms-beside free arms keeps.2 text.2 ok.2 ranked.2)

    -- ---- the whole

    final-good : (kind : Kind) (j k : ℕ) → j < length ks → k < n → IsGoodFinal table line over space (final_by n ks conds kind j k)
    final-good Shared j k lt below = (row-good j (omega (arith, lt)), row-is (length ks + conds + j) (marks_from n ks conds + j) (omega arith) (omega (arith, lt)), omega (arith, below, roomy))
    final-good New j k lt below = (row-good j (omega (arith, lt)), row-is (length ks + conds + j) (marks_from n ks conds + j) (omega arith) (omega (arith, lt)), omega (arith, below, roomy))
    final-good Assigned j k lt below = (row-good j (omega (arith, lt)), row-is (length ks + conds + j) (marks_from n ks conds + j) (omega arith) (omega (arith, lt)), omega (arith, below, roomy))
    final-good (Reduced op) j k lt below = (row-good j (omega (arith, lt)), omega (arith, below, roomy))

    finals-good : (j : ℕ) (xs : List ℕ) → j + length xs ≤ length ks → AllByRecursion (λ k. k < n) xs → AllByRecursion (IsGoodFinal table line over space) (finals_from n ks conds (kinds_in n nest body) j xs)
    finals-good j [] le below = tt
    finals-good j (k ∷ xs) le below = (final-good (kinds_in n nest body k) j k (omega (arith, le)) below.0, finals-good (suc j) xs (omega (arith, le)) below.1)

    -- loops inside the outermost one
    record IsBoundLoop (l : Loop) : Type 0 where
      pub index : l.index < n
      pub first : IsFlat table 0 (index_flat l.control.first)
      pub last : IsFlat table 0 (index_flat l.control.last)

    bounds-valid : (w : ℕ) (ls : List Loop) → w + 4 * length ls ≤ table.slots → AllByRecursion IsBoundLoop ls → AllByRecursion (IsValid table) (bounds_code line w ls)
    bounds-valid w [] le h = tt
    bounds-valid w (l ∷ ls) le h = (
      (omega (arith, le), value-good table line over space (index_flat l.control.first) h.0.first),
      (
        (omega (arith, le), value-good table line over space (index_flat l.control.last) h.0.last),
        ((omega (arith, le), tt), bounds-valid (w + 4) ls (omega (arith, le)) h.1),
      ),
    )

    trips-valid : (w target : ℕ) (ls : List Loop) → w + 4 * length ls ≤ table.slots → target < table.places → AllByRecursion (IsValid table) (trips_code line w target ls)
    trips-valid w target [] le lt = tt
    trips-valid w target (l ∷ ls) le lt = ((omega (arith, le), omega (arith, le), omega (arith, le), omega (arith, le), lt), trips-valid (w + 4) target ls (omega (arith, le)) lt)

    indices-valid : (w target : ℕ) (ls : List Loop) → w + 4 * length ls ≤ table.slots → target < table.places → AllByRecursion (λ (l : Loop). l.index < n) ls
        → AllByRecursion (IsValid table) (indices_code line w target ls)
    indices-valid w target [] le lt h = tt
    indices-valid w target (l ∷ ls) le lt h =
        let own = h.0 in (
          (omega (arith, own, roomy), omega (arith, le)),
          (
            (omega (arith, le), omega (arith, le), omega (arith, le), omega (arith, le), lt),
            (
              (omega (arith, own, roomy), (omega (arith, le), ((refl, ((refl, (omega (arith, le), (tt, tt))), (omega (arith, le), tt))), tt))),
              indices-valid (w + 4) target ls (omega (arith, le)) lt h.1,
            ),
          ),
        )

    indices-of : (ls : List Loop) → AllByRecursion IsBoundLoop ls → AllByRecursion (λ (l : Loop). l.index < n) ls
    indices-of [] h = tt
    indices-of (l ∷ ls) h = (h.0.index, indices-of ls h.1)

    code-good : (pc : ℕ) (loop : Loop) (inner : List Loop) → nest.loops ≡ loop ∷ inner → loop.index < n → AllByRecursion IsBoundLoop inner → Good (plain body)
        → IsAnchor table (length over) (nest_beside nest body) → pc + length (nest_code n line nest body v pc) < table.places → AllByRecursion (IsValid table) (nest_code n line nest body v pc)
    code-good pc loop inner is lt bound good anchored within =
        both (IsValid table) bounds (trips ++ (statements ++ indices)) inner-valid
        (both (IsValid table) trips (statements ++ indices) (trips-valid v after nest.loops (omega (arith, slots)) (omega (arith, ends)))
        (both (IsValid table) statements indices
        (statements-good table line over space (text_in n nest body) (test_in n nest body) (stored n nest body) conds
        (λ k less. row-is (length ks + k) (stored n nest body + k) (omega arith) (omega (arith, less))) (nest_beside nest body) anchored (finals n nest body) (plain body) (v + 4 * length nest.loops) from
        (finals-good 0 ks (omega arith) (all-among (assigned_in body) 0 n n (omega arith))) good (omega arith) (omega (arith, slots)) (omega (arith, ends)))
        (indices-valid v (after + 3 * length nest.loops) nest.loops (omega (arith, slots)) (omega (arith, ends))
        (subst (AllByRecursion (λ (l : Loop). l.index < n)) (sym is) (lt, indices-of inner bound)))))
      where
        bounds : List Instruction
        bounds = inner_bounds line v nest.loops

        from : ℕ
        from = pc + length bounds + length nest.loops

        statements : List Instruction
        statements = nest_instructions line over (nest_beside nest body) (text_in n nest body) (test_in n nest body) (stored n nest body) (finals n nest body) (plain body) (v + 4 * length nest.loops) from

        after : ℕ
        after = from + length statements

        trips : List Instruction
        trips = trips_code line v after nest.loops

        indices : List Instruction
        indices = indices_code line v (after + 3 * length nest.loops) nest.loops

        ends : after + 3 * length nest.loops < table.places
        ends =
            let one = trips-length line v after nest.loops in
            let two = indices-length line v (after + 3 * length nest.loops) nest.loops in
            omega (arith, within, one, two, length-append bounds (trips ++ (statements ++ indices)), length-append trips (statements ++ indices), length-append statements indices)

        inner-valid : AllByRecursion (IsValid table) bounds
        inner-valid = subst (λ ls. AllByRecursion (IsValid table) (inner_bounds line v ls)) (sym is)
            (bounds-valid (v + 4) inner (let e : length nest.loops ≡ suc (length inner) = ap length is in omega (arith, slots, e)) bound)

  -- the innermost block and the inner loops of a nest
  record IsInside (nest : Nest) (body : Block) (kinds : ℕ → Kind) (inner : List Loop) : Type 0 where
    pub free : ℕ → Bool
    pub loops : AllByRecursion (λ (l : Loop). (l.index < n) × IsFlat table 0 (index_flat l.control.first) × IsFlat table 0 (index_flat l.control.last)) inner
    pub keeps : BlockKeeps kinds free body
    pub named : IsWellFormedBlock n body
    pub ranked : BlockKeepsRanks table.shapes body

  inside : (nest : Nest) (body : Block) (kinds : ℕ → Kind) (all free : ℕ → Bool) (ls : List Loop) (block : Block) → LoopsKeep kinds all free ls block body → IsWellFormedBlock n block
      → BlockKeepsRanks table.shapes block → IsInside nest body kinds ls
  inside nest body kinds all free [] block keeps ok ranked = record {
    free = free;
    loops = tt;
    keeps = keeps.1;
    named = subst (IsWellFormedBlock n) keeps.0 ok;
    ranked = subst (BlockKeepsRanks table.shapes) keeps.0 ranked;
  }
  inside nest body kinds all free (l ∷ ls) block keeps ok ranked =
      let mine = subst (IsWellFormedBlock n) keeps.2 ok in
      let its = subst (BlockKeepsRanks table.shapes) keeps.2 ranked in
      let more = inside nest body kinds all (without free l.index) ls keeps.1 keeps.5 mine.0.2 its.0.1 in
      record {
        free = more.free;
        loops = ((mine.0.0, exact-good l.control.first keeps.3.first_exact mine.0.1.0, exact-good l.control.last keeps.3.last_exact mine.0.1.1), more.loops);
        keeps = more.keeps;
        named = more.named;
        ranked = more.ranked;
      }

  -- the code of a nest names what there is
  pub nest-names : (line v pc : ℕ) (nest : Nest) (loop : Loop) (block body : Block) → HasForm nest loop block body → IsWellFormedBlock n block → loop.index < n
      → BlockKeepsRanks table.shapes block → nest_rows n nest body ≤ table.copies → v + nest_slots nest body ≤ table.slots
      → pc + length (nest_code n line nest body v pc) < table.places → AllByRecursion (IsValid table) (nest_code n line nest body v pc)
  nest-names line v pc nest loop block body form ok lt ranked room slots within =
      let kinds = kind_of form.operators nest body in
      let its = inside nest body kinds form.all (without form.all loop.index) form.form.inner block form.form.tight ok ranked in
      code-good nest body form.operators room line v slots form.few pc loop form.form.inner form.form.loops lt
      (bound nest body form.operators room line v slots form.few form.form.inner its.loops)
      (block-good nest body form.operators room line v slots form.few form.all its.free body its.keeps form.texts its.named its.ranked)
      (block-beside nest body form.operators room line v slots form.few form.all its.free body its.keeps form.texts its.named its.ranked) within
    where
      bound : (nest : Nest) (body : Block) (operators : ℕ → Join) (room : nest_rows n nest body ≤ table.copies) (line v : ℕ) (slots : v + nest_slots nest body ≤ table.slots)
          (loops : length nest.loops ≤ MAX_INDICES) (ls : List Loop)
          → AllByRecursion (λ (l : Loop). (l.index < n) × IsFlat table 0 (index_flat l.control.first) × IsFlat table 0 (index_flat l.control.last)) ls
          → AllByRecursion (IsBoundLoop nest body operators room line v slots loops) ls
      bound nest body operators room line v slots loops [] h = tt
      bound nest body operators room line v slots loops (l ∷ ls) h =
          (record { index = h.0.0; first = h.0.1; last = h.0.2 }, bound nest body operators room line v slots loops ls h.1)

-- ---- what stands in the code

module _ (P : Instruction → Type 0) (line n : ℕ) (each : IsOfNests P line n) (nest : Nest) (body : Block) where
  finals-from : (kinds : ℕ → Kind) (j : ℕ) (xs : List ℕ) → AllByRecursion (IsFinalFrom n) (finals_from n (scalars n nest body) (conditions n nest body) kinds j xs)
  finals-from kinds j [] = tt
  finals-from kinds j (k ∷ xs) = (by (kinds k), finals-from kinds (suc j) xs)
    where
      by : (kind : Kind) → IsFinalFrom n (final_by n (scalars n nest body) (conditions n nest body) kind j k)
      by Shared = (omega arith, omega arith)
      by New = (omega arith, omega arith)
      by Assigned = (omega arith, omega arith)
      by (Reduced op) = omega arith

  each-bound : (w : ℕ) (ls : List Loop) → AllByRecursion P (bounds_code line w ls)
  each-bound w [] = tt
  each-bound w (l ∷ ls) = (each.set _ _, (each.set _ _, (each.set _ _, each-bound (w + 4) ls)))

  each-inner : (v : ℕ) (ls : List Loop) → AllByRecursion P (inner_bounds line v ls)
  each-inner v [] = tt
  each-inner v (l ∷ ls) = each-bound (v + 4) ls

  each-trips : (w target : ℕ) (ls : List Loop) → AllByRecursion P (trips_code line w target ls)
  each-trips w target [] = tt
  each-trips w target (l ∷ ls) = (each.trips _ _ _ _ _, each-trips (w + 4) target ls)

  each-index : (w target : ℕ) (ls : List Loop) → AllByRecursion P (indices_code line w target ls)
  each-index w target [] = tt
  each-index w target (l ∷ ls) = (each.set _ _, (each.trips _ _ _ _ _, (each.set _ _, each-index (w + 4) target ls)))

  -- a property of all instructions of nests is one of all that stand in a nest's code
  pub each-of-nest : (v pc : ℕ) → AllByRecursion P (nest_code n line nest body v pc)
  each-of-nest v pc =
      let bounds = inner_bounds line v nest.loops in
      let from : ℕ = pc + length bounds + length nest.loops in
      let statements = nest_instructions line (along v nest.loops) (nest_beside nest body) (text_in n nest body) (test_in n nest body) (stored n nest body) (finals n nest body) (plain body)
      (v + 4 * length nest.loops) from in
      let after : ℕ = from + length statements in
      let trips = trips_code line v after nest.loops in
      let indices = indices_code line v (after + 3 * length nest.loops) nest.loops in
      both P bounds (trips ++ (statements ++ indices)) (each-inner v nest.loops)
      (both P trips (statements ++ indices) (each-trips v after nest.loops)
      (both P statements indices
      (each-statement P line n each (along v nest.loops) (nest_beside nest body) (text_in n nest body) (test_in n nest body) (stored n nest body) (omega arith) (finals n nest body)
      (finals-from (kinds_in n nest body) 0 (scalars n nest body)) (plain body) (v + 4 * length nest.loops) from)
      (each-index v (after + 3 * length nest.loops) nest.loops)))
