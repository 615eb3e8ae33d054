-- The expressions of a program that breaks no rule of types and ranks give what their places ask.
use Rattle.std.proofs.Common.{◌≡◌, ◌≤◌, ◌<◌, ℕ, suc, ◌+◌, Bool, true, false, true≢false, cond, bytes_eq, List, [], ◌∷◌, length, map, position, Option, Some, None, refl, sym, ap, subst, ◌∙◌, arith}
use Rattle.std.specs.Prelude.{ℤ, pos, drop, ◌&&◌, nat_eq, slice_index_or, if◌then◌else◌}
use Rattle.std.specs.List.{AllByRecursion, position_from}
use Rattle.std.proofs.lemmas.Bool.{eqb-true}
use Rattle.std.proofs.lemmas.Iterator.Adapters.{position_from-zero}
use Rattle.op_tables.specs.declared.op.Op.{Op}
use Rattle.op_tables.specs.Arguments.{is_inquiry, is_reduction}
use Rattle.syntax_tree.specs.Expression as e
use Rattle.syntax_tree.specs.Expression.{Expression, Part, Parts, Maybe}
use Rattle.expression_rules.specs.declared.dims.Dim.{Dim}
use Rattle.expression_rules.specs.declared.symbols.Symbol.{Symbol}
use Rattle.expression_rules.specs.declared.types.Context.TheVariants.{Statement}
use Rattle.expression_rules.specs.declared.types.TypeAndRank.{TypeAndRank}
use Rattle.expression_rules.specs.Symbols.{Name, SymbolTable, find, rank_of}
use Rattle.expression_rules.specs.Types.{are_subscripts, count_of, if_typed, is_integer_scalar, is_subscript, is_triplet_part, triplets, type_and_rank, types_and_ranks}
use Rattle.name_table.specs.Entries.{declared_as, entry}
use Rattle.name_table.specs.declared.names.What.{What}
use Rattle.name_table.specs.declared.names.What.TheVariants as what
use Rattle.array_meaning.specs.Terms.{Element, Section, Apply, Reduce, Terms, NoTerm, More, SectionSubscripts}
use Rattle.array_meaning.specs.Resolution.{alone, dims_of, first_named, first_term, inquiry, is_element, no_dim, place_of, section_subscript, section_subscripts, term_of, term_or, terms_of, whole}
use Rattle.name_table.proofs.Tests.{HasValue, both, none_some, some_same}
use Rattle.well_formed.proofs.Dimensions.{IsFull}
use Rattle.well_formed.proofs.Expressions.{either}
use Rattle.found_names.specs.Scalars.{AllGive, Asked, Gives, HaveDimensions, MayHave, OneValue, SubscriptsGive, Values}
use Rattle.found_names.proofs.Declared.{has_dimension, rank_is}
use Rattle.found_names.proofs.Types.{ArgumentsFit, Fits, called_fits, elemental_fits, integer_fits, no_triplet, subscripted_rank}

below_from : {A : Type 0} (test : A → Bool) (i k : ℕ) (xs : List A) → position_from test i xs ≡ Some k → k < i + length xs
below_from test i k [] is = absurd (none_some k is)
below_from test i k (x ∷ xs) is = by (test x) is (below_from test (i + 1) k xs)
  where
    by : (b : Bool) → cond b (Some i) (position_from test (i + 1) xs) ≡ Some k → (position_from test (i + 1) xs ≡ Some k → k < (i + 1) + length xs) → k < i + suc (length xs)
    by true is more = let same = some_same i k is in omega (arith, same)
    by false is more = let less = more is in omega (arith, less)

below : {A : Type 0} (test : A → Bool) (k : ℕ) (xs : List A) → position test xs ≡ Some k → k < length xs
below test k xs is = let less = below_from test 0 k xs (sym (position_from-zero test xs) ∙ is) in omega (arith, less)

-- one value where the rank is 0
no_dimensions : (n : ℕ) → 1 ≤ n → nat_eq n 0 ≡ true → ⊥
no_dimensions n some h = let same : n ≡ 0 = eqb-true n 0 h in omega (arith, some, same)

-- `full` and `have`: the arrays that a name may stand for have their dimensions, one at least
module _ (t : SymbolTable) (full : (x : Name) (s : Symbol) → find x t ≡ Some s → IsFull s) (have : HaveDimensions (map entry t)) (indices : List Name) where
  whole_gives : (ds : List Dim) → SubscriptsGive (length indices) (whole ds)
  whole_gives [] = tt
  whole_gives (d ∷ ds) = ((tt, tt, tt), whole_gives ds)

  section_alone : (asked : Asked) (x : Name) (ds : List Dim) (v : ℤ) → declared_as (map entry t) x ≡ Some (what.Array ds v) → Fits asked (type_and_rank Statement t (e.Name x)) →
      MayHave asked (SubscriptsGive (length indices) (whole ds))
  section_alone Values x ds v is h = whole_gives ds
  section_alone OneValue x ds v is h =
      absurd (no_dimensions (length ds) (has_dimension (map entry t) x (what.Array ds v) have is) (sym (ap (λ n. nat_eq n 0) (rank_is x t (full x) ds v is)) ∙ h))

  alone_gives : (asked : Asked) (x : Name) (o : Option ℕ) (w : Option What) → position (bytes_eq x) indices ≡ o → declared_as (map entry t) x ≡ w →
      Fits asked (type_and_rank Statement t (e.Name x)) → Gives asked (length indices) (alone o (place_of (map entry t) x) w)
  alone_gives asked x (Some k) w at is h = below (bytes_eq x) k indices at
  alone_gives asked x None (Some (what.Array ds v)) at is h = section_alone asked x ds v is h
  alone_gives asked x None w at is h = tt

  subscripted_fits : (asked : Asked) (x : Name) (ps : Parts) → Fits asked (type_and_rank Statement t (e.Element x ps)) → are_subscripts Statement t ps ≡ true
  subscripted_fits OneValue x ps h = (subscripted_rank (λ k. nat_eq k 0) (rank_of (find x t)) (count_of ps) (are_subscripts Statement t ps) (triplets ps) h).0
  subscripted_fits Values x ps h =
      (subscripted_rank (λ k. true) (rank_of (find x t)) (count_of ps) (are_subscripts Statement t ps) (triplets ps) (typed (type_and_rank Statement t (e.Element x ps)) h)).0
    where
      typed : (o : Option TypeAndRank) → HasValue o → if_typed (λ s. true) o ≡ true
      typed None h = absurd (true≢false (sym h))
      typed (Some s) h = refl

  -- a reference that isn't an element is a section, and gives values
  section_fits : (asked : Asked) (x : Name) (ps : Parts) (P : Type 0) → Fits asked (type_and_rank Statement t (e.Element x ps)) → is_element ps ≡ false → P → MayHave asked P
  section_fits Values x ps P h other p = p
  section_fits OneValue x ps P h other p =
      absurd (true≢false (sym (no_triplet ps (subscripted_rank (λ k. nat_eq k 0) (rank_of (find x t)) (count_of ps) (are_subscripts Statement t ps) (triplets ps) h).1) ∙ other))

  first_gives : (ts : Terms) → AllGive Values (length indices) ts → Gives Values (length indices) (first_term ts)
  first_gives NoTerm h = tt
  first_gives (More a ts) h = h.0

  called_gives : (asked : Asked) (reduces : Bool) (x : Op) (ts : Terms) → (reduces ≡ true → AllGive Values (length indices) ts) → (reduces ≡ false → AllGive asked (length indices) ts) →
      Gives asked (length indices) (if reduces then Reduce x (first_term ts) else Apply x ts)
  called_gives asked true x ts f g = first_gives ts (f refl)
  called_gives asked false x ts f g = g refl

  mutual
    pub gives : (asked : Asked) (x : Expression) → Fits asked (type_and_rank Statement t x) → Gives asked (length indices) (term_of (map entry t) indices x)
    gives asked (e.Number v) h = tt
    gives asked (e.Truth b) h = tt
    gives asked (e.Name x) h = alone_gives asked x (position (bytes_eq x) indices) (declared_as (map entry t) x) refl refl h
    gives asked (e.Element x ps) h =
        let good = subscripted_fits asked x ps h in
        let ds : List Dim = dims_of (declared_as (map entry t) x) in
        either (Gives asked (length indices)) (is_element ps) (Element (place_of (map entry t) x) (terms_of (map entry t) indices ps))
        (Section (place_of (map entry t) x) (section_subscripts (map entry t) indices ds ps)) (λ i. elements_give ps good)
        (λ i. section_fits asked x ps (SubscriptsGive (length indices) (section_subscripts (map entry t) indices ds ps)) h i (subscripts_give ds ps good))
    gives asked (e.Call o ps) h =
        either (Gives asked (length indices)) (is_inquiry o) (inquiry o (dims_of (first_named (map entry t) ps)) (terms_of (map entry t) indices ps))
        (if is_reduction o then Reduce o (first_term (terms_of (map entry t) indices ps)) else Apply o (terms_of (map entry t) indices ps)) (λ i. tt)
        (λ i. let own = called_fits asked t o ps (types_and_ranks Statement t ps) i h in
        called_gives asked (is_reduction o) o (terms_of (map entry t) indices ps) (λ r. arguments_give Values ps (of_reduction r own)) (λ r. arguments_give asked ps (of_other r own)))
      where
        of_reduction : (r : is_reduction o ≡ true) → ArgumentsFit asked (is_reduction o) (types_and_ranks Statement t ps) →
            AllByRecursion (Fits Values) (types_and_ranks Statement t ps)
        of_reduction r own = subst (λ b. ArgumentsFit asked b (types_and_ranks Statement t ps)) r own

        of_other : (r : is_reduction o ≡ false) → ArgumentsFit asked (is_reduction o) (types_and_ranks Statement t ps) →
            AllByRecursion (Fits asked) (types_and_ranks Statement t ps)
        of_other r own = subst (λ b. ArgumentsFit asked b (types_and_ranks Statement t ps)) r own
    gives asked (e.Unary o a) h = (gives asked a (elemental_fits asked o (type_and_rank Statement t a ∷ []) h).0, tt)
    gives asked (e.Binary o a b) h =
        let own = elemental_fits asked o (type_and_rank Statement t a ∷ type_and_rank Statement t b ∷ []) h in (gives asked a own.0, (gives asked b own.1.0, tt))
    gives asked (e.Closed a) h = gives asked a h

    arguments_give : (asked : Asked) (ps : Parts) → AllByRecursion (Fits asked) (types_and_ranks Statement t ps) → AllGive asked (length indices) (terms_of (map entry t) indices ps)
    arguments_give asked e.End h = tt
    arguments_give asked (e.More (e.One a) ps) h = (gives asked a h.0, arguments_give asked ps h.1)
    arguments_give asked (e.More (e.Range a b c) ps) h = arguments_give asked ps h.1
    arguments_give asked (e.More (e.Glued a c) ps) h = arguments_give asked ps h.1

    elements_give : (ps : Parts) → are_subscripts Statement t ps ≡ true → AllGive OneValue (length indices) (terms_of (map entry t) indices ps)
    elements_give e.End h = tt
    elements_give (e.More (e.One a) ps) h =
        let own = both (if_typed is_integer_scalar (type_and_rank Statement t a)) (are_subscripts Statement t ps) h in
        (gives OneValue a (integer_fits (type_and_rank Statement t a) own.0), elements_give ps own.1)
    elements_give (e.More (e.Range a b c) ps) h = elements_give ps (both (is_subscript Statement t (e.Range a b c)) (are_subscripts Statement t ps) h).1
    elements_give (e.More (e.Glued a c) ps) h = elements_give ps (both (is_subscript Statement t (e.Glued a c)) (are_subscripts Statement t ps) h).1

    subscripts_give : (ds : List Dim) (ps : Parts) → are_subscripts Statement t ps ≡ true → SubscriptsGive (length indices) (section_subscripts (map entry t) indices ds ps)
    subscripts_give ds e.End h = tt
    subscripts_give ds (e.More p ps) h =
        let own = both (is_subscript Statement t p) (are_subscripts Statement t ps) h in
        subscript_gives (slice_index_or ds 0 no_dim) p (section_subscripts (map entry t) indices (drop 1 ds) ps) own.0 (subscripts_give (drop 1 ds) ps own.1)

    subscript_gives : (d : Dim) (p : Part) (rest : SectionSubscripts) → is_subscript Statement t p ≡ true → SubscriptsGive (length indices) rest →
        SubscriptsGive (length indices) (section_subscript (map entry t) indices d p rest)
    subscript_gives d (e.One a) rest h more = (gives OneValue a (integer_fits (type_and_rank Statement t a) h), more)
    subscript_gives d (e.Range a b c) rest h more =
        let s = both (is_triplet_part Statement t a && is_triplet_part Statement t b) (is_triplet_part Statement t c) h in
        let r = both (is_triplet_part Statement t a) (is_triplet_part Statement t b) s.0 in
        ((maybe_gives d.lower a r.0, maybe_gives d.upper b r.1, maybe_gives (pos 1) c s.1), more)
    subscript_gives d (e.Glued a c) rest h more =
        let s = both (is_triplet_part Statement t a) (if_typed is_integer_scalar (type_and_rank Statement t c)) h in
        ((maybe_gives d.lower a s.0, tt, gives OneValue c (integer_fits (type_and_rank Statement t c) s.1)), more)

    maybe_gives : (v : ℤ) (m : Maybe) → is_triplet_part Statement t m ≡ true → Gives OneValue (length indices) (term_or (map entry t) indices v m)
    maybe_gives v e.Absent h = tt
    maybe_gives v (e.Present a) h = gives OneValue a (integer_fits (type_and_rank Statement t a) h)
