-- The statements of a program that breaks no rule: where one value must stand, one stands.
use Rattle.std.proofs.Common.{◌≡◌, ℕ, Bool, true, false, true≢false, bytes_eq, List, [], ◌∷◌, ◌++◌, length, map, position, Option, Some, None, refl, sym, ap, subst, ◌∙◌, arith}
use Rattle.std.specs.Bool.{⊤}
use Rattle.std.specs.Prelude.{◌&&◌, ◌||◌, is_some, nat_eq, option_map, if◌then◌else◌}
use Rattle.std.specs.List.{AllByRecursion, flat_map}
use Rattle.std.proofs.lemmas.Bool.{eqb-true}
use Rattle.std.proofs.lemmas.Bool.Decides.{nat_tests}
use Rattle.std.proofs.lemmas.Iterator.Adapters.{position_from-zero}
use Rattle.std.proofs.lemmas.List.{length-map}
use Rattle.syntax_tree.specs.Expression as e
use Rattle.syntax_tree.specs.Expression.{Expression, Parts}
use Rattle.syntax_tree.specs.Statement as syntax
use Rattle.syntax_tree.specs.Statement.{designator}
use Rattle.expression_rules.specs.declared.symbols.Symbol.{Symbol}
use Rattle.expression_rules.specs.declared.symbols.Symbol.TheVariants as symbol
use Rattle.expression_rules.specs.declared.types.Context.TheVariants.{Statement}
use Rattle.expression_rules.specs.declared.types.TypeAndRank.{TypeAndRank}
use Rattle.expression_rules.specs.Inner.{axis_expressions, item_expressions, present}
use Rattle.expression_rules.specs.Symbols.{Name, SymbolTable, find, rank_of}
use Rattle.expression_rules.specs.Types.{are_subscripts, count_of, if_typed, is_integer_scalar, triplets, type_and_rank}
use Rattle.statement_walk.specs.Head as head
use Rattle.statement_walk.specs.Heads.{PlacedHead, arm_heads, else_heads, heads, independent_heads, indexed, indices_of, masked, placed, statement_heads}
use Rattle.name_table.specs.Entries.{declared_as, entry, what_is}
use Rattle.name_table.specs.Places.{ArrayElement, AssignedTo, IntegerScalar, LogicalArray, LogicalScalar, MaskedArray, PrintItem, RightOf, Variable, all_meet, context_of, integer_scalars, is_designator, is_element, is_integer, is_mask, is_masked_by, is_right_of, is_right_side, is_transformed, meets, place, places, whole_rank}
use Rattle.name_table.specs.declared.names.Entry.{Entry}
use Rattle.name_table.specs.declared.names.What.{What}
use Rattle.name_table.specs.declared.names.What.TheVariants as what
use Rattle.array_meaning.specs.Terms.{Term, Number, Scalar, Index, Element, Section, Apply, Reduce}
use Rattle.array_meaning.specs.Statements.{Block, CircularShift, Do, Done, ElementAssignment, Loop, SectionAssignment, Then, Transformation, Transposition, PrefixSum}
use Rattle.array_meaning.specs.Resolution.{alone, assignment, control_of, dims_of, do_loop, element_assignments, item, item_of, left_of, loop_of, place_of, resolved, resolved_arms, resolved_block, resolved_otherwise, section_assignments, section_subscripts, step_of, term_of, terms_of, to_element, to_section, transform_or, with_inner_unmarked}
use Rattle.array_meaning.specs.Resolution as resolution
use Rattle.name_table.proofs.Tests.{HasValue, all_split, both}
use Rattle.name_table.proofs.TypedOperands.{typed_value}
use Rattle.well_formed.proofs.Dimensions.{IsFull, declared_found}
use Rattle.well_formed.proofs.Expressions.{either}
use Rattle.well_formed.proofs.Transformed.{IsShift, ByScalar, is_moved, transformed, untransformed}
use Rattle.found_names.specs.Scalars.{ArmsAlone, Asked, BlockAlone, ControlGives, Gives, HaveDimensions, IndexedGives, ItemGives, MaskGives, MaskedGives, OneValue, ScalarsAlone, TransformationGives, Values}
use Rattle.found_names.proofs.Gives.{gives}
use Rattle.found_names.proofs.Heads.{IsKept}
use Rattle.found_names.proofs.Types.{Fits, integer_fits, logical_fits, of_element, subscripted_rank}

not_true : false ≡ true → ⊥
not_true h = true≢false (sym h)

-- ---- by terms

-- what stands on the right of a left side
abbrev right_asked : Term → Asked
right_asked (Section a subs) = Values
right_asked l = OneValue

assigned : (l r : Term) → Gives Values 0 l → Gives (right_asked l) 0 r → ScalarsAlone (assignment l r)
assigned (Scalar k) r h g = g
assigned (Element a ts) r h g = (h, g)
assigned (Section a subs) r h g = (h, g)
assigned (Number v) r h g = tt
assigned (Index k) r h g = tt
assigned (Apply o ts) r h g = tt
assigned (Reduce o x) r h g = tt

masked_more : (line : ℕ) (l r : Term) (rest : List SectionAssignment) → Gives Values 0 l → Gives Values 0 r → AllByRecursion MaskedGives rest →
    AllByRecursion MaskedGives (to_section line l r ++ rest)
masked_more line (Section a subs) r rest h g more = ((h, g), more)
masked_more line l r rest h g more = more

indexed_more : (n line : ℕ) (l r : Term) (rest : List ElementAssignment) → Gives Values n l → Gives OneValue n r → AllByRecursion (IndexedGives n) rest →
    AllByRecursion (IndexedGives n) (to_element line l r ++ rest)
indexed_more n line (Element a ts) r rest h g more = ((h, g), more)
indexed_more n line l r rest h g more = more

printed : (x : Term) → Gives OneValue 0 x → ItemGives (item x)
printed (Section a subs) h = absurd h
printed x h = h

unmarked : (b : Block) → BlockAlone b → BlockAlone (with_inner_unmarked b)
unmarked (Then line (Do mark loop body) Done) h = h
unmarked b h = h

looped : (names : List Entry) (m : Option syntax.Independent) (loop : Loop) (body : Block) → ControlGives loop.control → BlockAlone body → ScalarsAlone (do_loop names m loop body)
looped names None loop body g more = (g, more)
looped names (Some m) loop body g more = (g, unmarked body more)

-- ---- ranks of both sides

-- a left side that isn't a section has the rank 0
abbrev HasLeftRank : Term → ℕ → Type 0
HasLeftRank (Section a subs) r = ⊤
HasLeftRank l r = r ≡ 0

zero_rank : (l : Term) → HasLeftRank l 0
zero_rank (Number v) = refl
zero_rank (Scalar k) = refl
zero_rank (Index k) = refl
zero_rank (Element a ts) = refl
zero_rank (Section a subs) = tt
zero_rank (Apply o ts) = refl
zero_rank (Reduce o x) = refl

right_fits : (l : Term) (left right : Option TypeAndRank) → if_typed (λ a. if_typed (is_right_of a) right) left ≡ true →
    ((s : TypeAndRank) → left ≡ Some s → HasLeftRank l s.rank) → Fits (right_asked l) right
right_fits l None right h rank = absurd (not_true h)
right_fits l (Some a) None h rank = absurd (not_true h)
right_fits l (Some a) (Some s) h rank =
    by l (rank a refl) (nat_eq s.rank 0) refl (both (is_integer s) (nat_eq s.rank 0 || nat_eq s.rank a.rank) h).1
  where
    one : a.rank ≡ 0 → (b : Bool) → nat_eq s.rank 0 ≡ b → (b || nat_eq s.rank a.rank) ≡ true → nat_eq s.rank 0 ≡ true
    one zero true is h = is
    one zero false is h = sym (ap (nat_eq s.rank) zero) ∙ h

    by : (l : Term) → HasLeftRank l a.rank → (b : Bool) → nat_eq s.rank 0 ≡ b → (b || nat_eq s.rank a.rank) ≡ true → Fits (right_asked l) (Some s)
    by (Section k subs) zero b is h = refl
    by (Number v) zero b is h = one zero b is h
    by (Scalar k) zero b is h = one zero b is h
    by (Index k) zero b is h = one zero b is h
    by (Element k ts) zero b is h = one zero b is h
    by (Apply o ts) zero b is h = one zero b is h
    by (Reduce o x) zero b is h = one zero b is h

right_value : (test : TypeAndRank → TypeAndRank → Bool) (left right : Option TypeAndRank) → if_typed (λ a. if_typed (test a) right) left ≡ true → HasValue right
right_value test None right h = absurd (not_true h)
right_value test (Some a) right h = typed_value (test a) right h

no_index : (x : Name) → position (bytes_eq x) [] ≡ None
no_index x = position_from-zero (bytes_eq x) []

same_rank : (a b : TypeAndRank) → Some a ≡ Some b → a.rank ≡ b.rank
same_rank a b h = ap rank h
  where
    rank : Option TypeAndRank → ℕ
    rank None = 0
    rank (Some s) = s.rank

module _ (t : SymbolTable) (full : (x : Name) (s : Symbol) → find x t ≡ Some s → IsFull s) (have : HaveDimensions (map entry t)) where
  left_rank : (left : syntax.Variable) (s : TypeAndRank) → type_and_rank Statement t (designator left) ≡ Some s → HasLeftRank (left_of (map entry t) [] left) s.rank
  left_rank left s is = by left.subscripts is
    where
      named : (a : Symbol) → find left.name t ≡ Some a → HasLeftRank (alone None (place_of (map entry t) left.name) (Some (what_is a))) (rank_of (Some a))
      named (symbol.Array r ds n) found = tt
      named symbol.Uninitialized found = zero_rank (alone None (place_of (map entry t) left.name) (Some (what_is symbol.Uninitialized)))
      named (symbol.Initialized n) found = zero_rank (alone None (place_of (map entry t) left.name) (Some (what_is (symbol.Initialized n))))
      named (symbol.Constant n) found = zero_rank (alone None (place_of (map entry t) left.name) (Some (what_is (symbol.Constant n))))
      named (symbol.Template r) found = zero_rank (alone None (place_of (map entry t) left.name) (Some (what_is (symbol.Template r))))
      named (symbol.Arrangement r) found = zero_rank (alone None (place_of (map entry t) left.name) (Some (what_is (symbol.Arrangement r))))

      by_name : (o : Option Symbol) → find left.name t ≡ o → HasLeftRank (term_of (map entry t) [] (e.Name left.name)) (rank_of o)
      by_name None found = zero_rank (term_of (map entry t) [] (e.Name left.name))
      by_name (Some a) found =
          subst (λ w. HasLeftRank (alone (position (bytes_eq left.name) []) (place_of (map entry t) left.name) w) (rank_of (Some a))) (sym (declared_found left.name t a found))
          (subst (λ o. HasLeftRank (alone o (place_of (map entry t) left.name) (Some (what_is a))) (rank_of (Some a))) (sym (no_index left.name)) (named a found))

      of_parts : (ps : Parts) → type_and_rank Statement t (e.Element left.name ps) ≡ Some s → resolution.is_element ps ≡ true → s.rank ≡ 0
      of_parts ps is whole =
          let own = subscripted_rank (λ k. nat_eq s.rank k) (rank_of (find left.name t)) (count_of ps) (are_subscripts Statement t ps) (triplets ps)
          (ap (if_typed (λ a. nat_eq s.rank a.rank)) is ∙ itself s.rank) in
          eqb-true s.rank (triplets ps) own.1 ∙ of_element ps whole
        where
          itself : (n : ℕ) → nat_eq n n ≡ true
          itself n = grind (arith, nat_tests)

      by : (ps : Option Parts) → type_and_rank Statement t (designator record { name = left.name; subscripts = ps }) ≡ Some s →
          HasLeftRank (term_of (map entry t) [] (designator record { name = left.name; subscripts = ps })) s.rank
      by None is = subst (HasLeftRank (term_of (map entry t) [] (e.Name left.name))) (same_rank _ s is) (by_name (find left.name t) refl)
      by (Some ps) is =
          either (λ l. HasLeftRank l s.rank) (resolution.is_element ps) (Element (place_of (map entry t) left.name) (terms_of (map entry t) [] ps))
          (Section (place_of (map entry t) left.name) (section_subscripts (map entry t) [] (dims_of (declared_as (map entry t) left.name)) ps)) (λ i. of_parts ps is i) (λ i. tt)

  -- ---- by heads

  abbrev IsMet : PlacedHead → Type 0
  IsMet h = all_meet (context_of h.what) t (places h.what) ≡ true

  one : (x : Expression) → meets Statement t IntegerScalar x ≡ true → Gives OneValue 0 (term_of (map entry t) [] x)
  one x h = gives t full have [] OneValue x (integer_fits (type_and_rank Statement t x) h)

  abbrev AreOne : List Expression → Type 0
  AreOne es = AllByRecursion (λ x. meets Statement t IntegerScalar x ≡ true) es

  each_one : (es : List Expression) → all_meet Statement t (integer_scalars es) ≡ true → AreOne es
  each_one [] h = tt
  each_one (x ∷ es) h = let two = both (meets Statement t IntegerScalar x) (all_meet Statement t (integer_scalars es)) h in (two.0, each_one es two.1)

  step_gives : (s : Option Expression) → AreOne (present s) → Gives OneValue 0 (step_of (map entry t) [] s)
  step_gives None h = tt
  step_gives (Some x) h = one x h.0

  control_gives : (x : syntax.Axis) → AreOne (axis_expressions x) → ControlGives (control_of (map entry t) [] x)
  control_gives x h = (one x.first h.0, one x.last h.1.0, step_gives x.step h.1.1)

  controls_give : (axes : List syntax.Axis) → AreOne (flat_map axis_expressions axes) → AllByRecursion ControlGives (map (control_of (map entry t) []) axes)
  controls_give [] h = tt
  controls_give (x ∷ axes) h =
      let s = all_split (λ y. meets Statement t IntegerScalar y ≡ true) (axis_expressions x) (flat_map axis_expressions axes) h in (control_gives x s.0, controls_give axes s.1)

  -- an item of a PRINT
  named_item : (asked : Asked) (o : Option ℕ) (k : ℕ) (w : Option What) → Gives Values 0 (alone o k w) → ItemGives (item (alone o k w))
  named_item asked (Some i) k w h = h
  named_item asked None k (Some (what.Array ds v)) h = h
  named_item asked None k w h = tt

  item_gives : (x : Expression) → meets Statement t PrintItem x ≡ true → ItemGives (item (term_of (map entry t) [] x))
  item_gives x h = by (type_and_rank Statement t x) refl h
    where
      of_name : (y : Name) → HasValue (type_and_rank Statement t (e.Name y)) → ItemGives (item (term_of (map entry t) [] (e.Name y)))
      of_name y h = named_item Values (position (bytes_eq y) []) (place_of (map entry t) y) (declared_as (map entry t) y) (gives t full have [] Values (e.Name y) h)

      designated : (x : Expression) → is_designator x ≡ true → HasValue (type_and_rank Statement t x) → ItemGives (item (term_of (map entry t) [] x))
      designated (e.Name y) is h = of_name y h
      designated (e.Element y ps) is h =
          both_ways (resolution.is_element ps) (gives t full have [] Values (e.Element y ps) h)
        where
          both_ways : (b : Bool) → Gives Values 0 (if b then (Element (place_of (map entry t) y) (terms_of (map entry t) [] ps)) else
              (Section (place_of (map entry t) y) (section_subscripts (map entry t) [] (dims_of (declared_as (map entry t) y)) ps))) →
              ItemGives (item (if b then (Element (place_of (map entry t) y) (terms_of (map entry t) [] ps)) else
              (Section (place_of (map entry t) y) (section_subscripts (map entry t) [] (dims_of (declared_as (map entry t) y)) ps))))
          both_ways true h = h
          both_ways false h = h
      designated (e.Number n) is h = absurd (not_true is)
      designated (e.Truth n) is h = absurd (not_true is)
      designated (e.Call o ps) is h = absurd (not_true is)
      designated (e.Unary o a) is h = absurd (not_true is)
      designated (e.Binary o a b) is h = absurd (not_true is)
      designated (e.Closed a) is h = absurd (not_true is)

      by : (o : Option TypeAndRank) → type_and_rank Statement t x ≡ o → if_typed (λ s. is_integer s && (nat_eq s.rank 0 || is_designator x)) o ≡ true →
          ItemGives (item (term_of (map entry t) [] x))
      by None is h = absurd (not_true h)
      by (Some s) is h = pick (nat_eq s.rank 0) refl (both (is_integer s) (nat_eq s.rank 0 || is_designator x) h).1
        where
          pick : (b : Bool) → nat_eq s.rank 0 ≡ b → (b || is_designator x) ≡ true → ItemGives (item (term_of (map entry t) [] x))
          pick true zero h = printed (term_of (map entry t) [] x) (gives t full have [] OneValue x (ap (if_typed (λ a. nat_eq a.rank 0)) is ∙ zero))
          pick false zero h = designated x h (ap is_some is)

  items_give : (is : List syntax.Item) → all_meet Statement t (map (place PrintItem) (flat_map item_expressions is)) ≡ true →
      AllByRecursion ItemGives (map (item_of (map entry t)) is)
  items_give [] h = tt
  items_give (syntax.Text bytes ∷ is) h = (tt, items_give is h)
  items_give (syntax.Value a ∷ is) h = let two = both (meets Statement t PrintItem a) _ h in (item_gives a two.0, items_give is two.1)

  masked_give : (xs : List Name) (mask : Expression) (as' : List syntax.Assignment) → AllByRecursion IsMet (masked xs mask as') →
      AllByRecursion MaskedGives (section_assignments (map entry t) as')
  masked_give xs mask [] h = tt
  masked_give xs mask (a ∷ as') h =
      let two = both (meets Statement t (MaskedArray mask) (designator a.left)) _ h.0 in
      let right = both (meets Statement t (RightOf (designator a.left)) a.right) true two.1 in
      masked_more a.line (left_of (map entry t) [] a.left) (term_of (map entry t) [] a.right) (section_assignments (map entry t) as')
      (gives t full have [] Values (designator a.left) (right_value is_masked_by (type_and_rank Statement t mask) (type_and_rank Statement t (designator a.left)) two.0))
      (gives t full have [] Values a.right (right_value is_right_of (type_and_rank Statement t (designator a.left)) (type_and_rank Statement t a.right) right.0))
      (masked_give xs mask as' h.1)

  mask_gives : (indices : List Name) (m : Option Expression) → all_meet Statement t (map (place LogicalScalar) (present m)) ≡ true →
      MaskGives (length indices) (option_map (term_of (map entry t) indices) m)
  mask_gives indices None h = tt
  mask_gives indices (Some x) h =
      gives t full have indices OneValue x (logical_fits (type_and_rank Statement t x) (both (meets Statement t LogicalScalar x) true h).0)

  indexed_give : (xs : List Name) (axes : List syntax.Axis) (as' : List syntax.Assignment) → AllByRecursion IsMet (indexed xs axes as') →
      AllByRecursion (IndexedGives (length (indices_of axes))) (element_assignments (map entry t) (indices_of axes) as')
  indexed_give xs axes [] h = tt
  indexed_give xs axes (a ∷ as') h =
      let two = both (meets Statement t ArrayElement (designator a.left)) _ h.0 in
      let left = both (is_element (designator a.left)) (if_typed is_integer_scalar (type_and_rank Statement t (designator a.left))) two.0 in
      let right = both (meets Statement t IntegerScalar a.right) true two.1 in
      indexed_more (length (indices_of axes)) a.line (left_of (map entry t) (indices_of axes) a.left) (term_of (map entry t) (indices_of axes) a.right)
      (element_assignments (map entry t) (indices_of axes) as')
      (gives t full have (indices_of axes) Values (designator a.left) (typed_value is_integer_scalar (type_and_rank Statement t (designator a.left)) left.1))
      (gives t full have (indices_of axes) OneValue a.right (integer_fits (type_and_rank Statement t a.right) right.0)) (indexed_give xs axes as' h.1)

  header_split : (es : List Expression) (m : List Expression) → all_meet Statement t (integer_scalars es ++ map (place LogicalScalar) m) ≡ true →
      (AreOne es) × (all_meet Statement t (map (place LogicalScalar) m) ≡ true)
  header_split [] m h = (tt, h)
  header_split (x ∷ es) m h =
      let two = both (meets Statement t IntegerScalar x) _ h in let more = header_split es m two.1 in ((two.0, more.0), more.1)

  forall_gives : (xs : List Name) (line : ℕ) (axes : List syntax.Axis) (m : Option Expression) (body : List syntax.Assignment) →
      IsMet (placed xs line (head.Forall axes m)) → AllByRecursion IsMet (indexed xs axes body) → ScalarsAlone (resolved (map entry t) (syntax.Forall axes m body))
  forall_gives xs line axes m body h more =
      let s = header_split (flat_map axis_expressions axes) (present m) h in
      let same : length (indices_of axes) ≡ length (map (control_of (map entry t) []) axes) =
      length-map axes (λ x. x.index) ∙ sym (length-map axes (control_of (map entry t) [])) in (
        controls_give axes s.0,
        subst (λ k. MaskGives k (option_map (term_of (map entry t) (indices_of axes)) m)) same (mask_gives (indices_of axes) m s.1),
        subst (λ k. AllByRecursion (IndexedGives k) (element_assignments (map entry t) (indices_of axes) body)) same (indexed_give xs axes body more),
      )

  shift_gives : (how : Transformation) → IsShift t how → TransformationGives how
  shift_gives (CircularShift by) (ByScalar x h) = one x h
  shift_gives Transposition shift = tt
  shift_gives PrefixSum shift = tt

  assigned_or : (left : syntax.Variable) (right : Expression) → HasValue (type_and_rank Statement t (designator left)) → (b : Bool) →
      is_right_side Statement t (designator left) right ≡ b → (b || is_transformed Statement t (whole_rank t (designator left)) right) ≡ true → ScalarsAlone (resolved (map entry t) (syntax.Assign left right))
  assigned_or left right typed true is h =
      let own = right_value is_right_of (type_and_rank Statement t (designator left)) (type_and_rank Statement t right) is in
      subst (λ o. ScalarsAlone (transform_or (map entry t) (designator left) o (assignment (left_of (map entry t) [] left) (term_of (map entry t) [] right))))
      (sym (untransformed t right own))
      (assigned (left_of (map entry t) [] left) (term_of (map entry t) [] right) (gives t full have [] Values (designator left) typed)
      (gives t full have [] (right_asked (left_of (map entry t) [] left)) right
      (right_fits (left_of (map entry t) [] left) (type_and_rank Statement t (designator left)) (type_and_rank Statement t right) is (left_rank left))))
  assigned_or left right typed false is h =
      transformed t full ScalarsAlone (designator left) (assignment (left_of (map entry t) [] left) (term_of (map entry t) [] right))
      (λ x y how ranks shift. shift_gives how shift) right
      (is_moved Statement t (designator left) right h)

  mutual
    pub block_alone : (xs : List Name) (b : syntax.Block) → AllByRecursion IsMet (heads xs b) → BlockAlone (resolved_block (map entry t) b)
    block_alone xs syntax.Done h = tt
    block_alone xs (syntax.Then line s b) h =
        let parts = all_split IsMet (statement_heads xs line s) (heads xs b) h in (statement_alone xs line s parts.0, block_alone xs b parts.1)

    statement_alone : (xs : List Name) (line : ℕ) (s : syntax.Statement) → AllByRecursion IsMet (statement_heads xs line s) → ScalarsAlone (resolved (map entry t) s)
    statement_alone xs line (syntax.Assign left right) h =
        let two = both (meets Statement t Variable (designator left)) _ h.0 in
        let own = both (meets Statement t (AssignedTo (designator left)) right) true two.1 in
        assigned_or left right two.0 (is_right_side Statement t (designator left) right) refl own.0
    statement_alone xs line (syntax.If arms rest) h =
        let parts = all_split IsMet (arm_heads xs arms) (else_heads xs rest) h in (arms_alone xs arms parts.0, else_alone xs rest parts.1)
    statement_alone xs line (syntax.Do mark axis b) h =
        let parts = all_split IsMet (independent_heads xs mark) (placed xs line (head.Do mark axis) ∷ heads (xs ++ axis.index ∷ []) b) h in
        looped (map entry t) mark (loop_of (map entry t) axis) (resolved_block (map entry t) b) (control_gives axis (each_one (axis_expressions axis) parts.1.0))
        (block_alone (xs ++ axis.index ∷ []) b parts.1.1)
    statement_alone xs line (syntax.Where mask body others) h =
        let parts = all_split IsMet (masked xs mask body) (masked xs mask others) h.1 in (
          gives t full have [] Values mask (typed_value is_mask (type_and_rank Statement t mask) (both (meets Statement t LogicalArray mask) true h.0).0),
          masked_give xs mask body parts.0,
          masked_give xs mask others parts.1,
        )
    statement_alone xs line (syntax.Forall axes m body) h = forall_gives xs line axes m body h.0 h.1
    statement_alone xs line (syntax.Print is) h = items_give is h.0
    statement_alone xs line (syntax.Redistribute d) h = tt
    statement_alone xs line syntax.Continue h = tt
    statement_alone xs line syntax.Stop h = tt
    statement_alone xs line syntax.Exit h = tt
    statement_alone xs line syntax.Cycle h = tt

    arms_alone : (xs : List Name) (arms : syntax.Arms) → AllByRecursion IsMet (arm_heads xs arms) → ArmsAlone (resolved_arms (map entry t) arms)
    arms_alone xs syntax.NoArm h = tt
    arms_alone xs (syntax.Arm line cond b arms) h =
        let parts = all_split IsMet (heads xs b) (arm_heads xs arms) h.1 in (
          gives t full have [] OneValue cond (logical_fits (type_and_rank Statement t cond) (both (meets Statement t LogicalScalar cond) true h.0).0),
          block_alone xs b parts.0,
          arms_alone xs arms parts.1,
        )

    else_alone : (xs : List Name) (rest : syntax.Otherwise) → AllByRecursion IsMet (else_heads xs rest) → BlockAlone (resolved_otherwise (map entry t) rest)
    else_alone xs syntax.Without h = tt
    else_alone xs (syntax.With b) h = block_alone xs b h

  pub kept_met : (hs : List PlacedHead) → AllByRecursion (IsKept t) hs → AllByRecursion IsMet hs
  kept_met [] h = tt
  kept_met (x ∷ hs) h = (h.0.met, kept_met hs h.1)
