-- The names of a statement that breaks no rule are found, and its left side is a variable.
use Rattle.std.proofs.Common.{◌≡◌, Bool, true, false, true≢false, bytes_eq, List, [], ◌∷◌, ◌++◌, map, position, Option, Some, None, refl, sym, ap, subst, ◌∙◌}
use Rattle.std.specs.Prelude.{◌||◌, not, is_some, nat_eq, nat_le}
use Rattle.std.specs.List.{AllByRecursion, list_all}
use Rattle.std.proofs.lemmas.Iterator.Adapters.{position_from-zero}
use Rattle.syntax_tree.specs.Expression as e
use Rattle.syntax_tree.specs.Expression.{Expression, Parts}
use Rattle.syntax_tree.specs.Statement as syntax
use Rattle.syntax_tree.specs.Statement.{designator}
use Rattle.expression_rules.specs.declared.symbols.Symbol.{Symbol}
use Rattle.expression_rules.specs.declared.symbols.Symbol.TheVariants as symbol
use Rattle.expression_rules.specs.declared.types.Context.TheVariants.{Statement}
use Rattle.expression_rules.specs.declared.types.TypeAndRank.{TypeAndRank}
use Rattle.expression_rules.specs.Operands.{are_operands, names_in}
use Rattle.expression_rules.specs.Symbols.{Name, SymbolTable, find, is_among, is_operand, is_scalar, is_variable, rank_of, satisfies}
use Rattle.expression_rules.specs.Types.{are_subscripts, count_of, if_typed, is_integer_scalar, triplets, type_and_rank}
use Rattle.statement_walk.specs.Head.{Head}
use Rattle.statement_walk.specs.Head as head
use Rattle.statement_walk.specs.Heads.{PlacedHead, indices_of}
use Rattle.name_table.specs.Entries.{declared_as, entry, what_is}
use Rattle.name_table.specs.NameRules.{expressions_of, own_uses}
use Rattle.name_table.specs.Places.{ArrayElement, MaskedArray, all_meet, context_of, is_element, is_masked_by, meets, places}
use Rattle.name_table.specs.Uses.{ForallIndex, Listed, allows}
use Rattle.array_meaning.specs.Terms.{Term, Element, Section}
use Rattle.array_meaning.specs.Resolution.{alone, dims_of, left_of, place_of, section_subscripts, term_of, terms_of}
use Rattle.array_meaning.specs.Resolution as resolution
use Rattle.name_table.proofs.Tests.{all_split, both}
use Rattle.well_formed.proofs.Dimensions.{declared_found}
use Rattle.well_formed.proofs.Expressions.{either}
use Rattle.found_names.specs.FoundNames.{AreFound, HasOwnNames, HasPlace, IsElement, IsFound, IsFoundStatement, IsScalarName, IsSection, IsVariable}
use Rattle.found_names.proofs.Declared.{has_place, is_operand_of, is_scalar_of, satisfied}
use Rattle.found_names.proofs.Heads.{IsKept}
use Rattle.found_names.proofs.Types.{no_triplet, some_triplet, subscripted_rank}

is_there : (test : Symbol → Bool) (o : Option Symbol) → satisfies test o ≡ true → is_some o ≡ true
is_there test o h = ap is_some (satisfied test o h).1.0

no_index : (x : Name) → position (bytes_eq x) [] ≡ None
no_index x = position_from-zero (bytes_eq x) []

not_true : false ≡ true → ⊥
not_true h = true≢false (sym h)

module _ (t : SymbolTable) where
  -- ---- names

  found : (xs : List Name) → list_all (λ x. satisfies is_operand (find x t)) xs ≡ true → AllByRecursion (IsFound (map entry t)) xs
  found [] h = tt
  found (x ∷ xs) h =
      let two = both (satisfies is_operand (find x t)) (list_all (λ x. satisfies is_operand (find x t)) xs) h in
      ((has_place x t (is_there is_operand (find x t) two.0), is_operand_of x t two.0), found xs two.1)

  all_found : (es : List Expression) → list_all (are_operands t) es ≡ true → AllByRecursion (AreFound (map entry t)) es
  all_found [] h = tt
  all_found (x ∷ es) h = let two = both (are_operands t x) (list_all (are_operands t) es) h in (found (names_in x) two.0, all_found es two.1)

  listed : (xs : List Name) (indices : List Name) → list_all (allows t indices) (map Listed xs) ≡ true → AllByRecursion (HasPlace (map entry t)) xs
  listed [] indices h = tt
  listed (x ∷ xs) indices h =
      let two = both (is_some (find x t)) (list_all (allows t indices) (map Listed xs)) h in (has_place x t two.0, listed xs indices two.1)

  indexed : (xs : List Name) (indices : List Name) → list_all (allows t indices) (map ForallIndex xs) ≡ true →
      AllByRecursion (λ x. IsScalarName (declared_as (map entry t) x)) xs
  indexed [] indices h = tt
  indexed (x ∷ xs) indices h =
      let two = both (satisfies is_scalar (find x t)) (list_all (allows t indices) (map ForallIndex xs)) h in (is_scalar_of x t two.0, indexed xs indices two.1)

  -- ---- left sides

  -- a name by itself where there is no index
  named : (x : Name) (s : Symbol) (P : Term → Type 0) → find x t ≡ Some s → P (alone None (place_of (map entry t) x) (Some (what_is s))) → P (term_of (map entry t) [] (e.Name x))
  named x s P is h =
      subst (λ w. P (alone (position (bytes_eq x) []) (place_of (map entry t) x) w)) (sym (declared_found x t s is))
      (subst (λ o. P (alone o (place_of (map entry t) x) (Some (what_is s)))) (sym (no_index x)) h)

  variable_named : (x : Name) → satisfies is_variable (find x t) ≡ true → IsVariable (term_of (map entry t) [] (e.Name x))
  variable_named x h = let own = satisfied is_variable (find x t) h in named x own.0 IsVariable own.1.0 (by own.0 own.1.1)
    where
      by : (s : Symbol) → is_variable s ≡ true → IsVariable (alone None (place_of (map entry t) x) (Some (what_is s)))
      by symbol.Uninitialized h = tt
      by (symbol.Initialized n) h = tt
      by (symbol.Array r ds n) h = tt
      by (symbol.Constant n) h = absurd (not_true h)
      by (symbol.Template r) h = absurd (not_true h)
      by (symbol.Arrangement r) h = absurd (not_true h)

  section_named : (x : Name) → nat_le 1 (rank_of (find x t)) ≡ true → IsSection (term_of (map entry t) [] (e.Name x))
  section_named x h = by (find x t) refl h
    where
      by : (o : Option Symbol) → find x t ≡ o → nat_le 1 (rank_of o) ≡ true → IsSection (term_of (map entry t) [] (e.Name x))
      by (Some (symbol.Array r ds n)) is h = named x (symbol.Array r ds n) IsSection is tt
      by o is h = absurd (not_true h)

  variable_left : (left : syntax.Variable) → satisfies is_variable (find left.name t) ≡ true → IsVariable (left_of (map entry t) [] left)
  variable_left left h = by left.subscripts
    where
      by : (ps : Option Parts) → IsVariable (term_of (map entry t) [] (designator record { name = left.name; subscripts = ps }))
      by None = variable_named left.name h
      by (Some ps) =
          either IsVariable (resolution.is_element ps) (Element (place_of (map entry t) left.name) (terms_of (map entry t) [] ps))
          (Section (place_of (map entry t) left.name) (section_subscripts (map entry t) [] (dims_of (declared_as (map entry t) left.name)) ps)) (λ i. tt) (λ i. tt)

  has_rank : (mask : Expression) (o : Option TypeAndRank) → if_typed (λ m. if_typed (is_masked_by m) o) (type_and_rank Statement t mask) ≡ true →
      if_typed (λ s. nat_le 1 s.rank) o ≡ true
  has_rank mask o h = by (type_and_rank Statement t mask) o h
    where
      by : (m o : Option TypeAndRank) → if_typed (λ m. if_typed (is_masked_by m) o) m ≡ true → if_typed (λ s. nat_le 1 s.rank) o ≡ true
      by None o h = absurd (not_true h)
      by (Some m) None h = absurd (not_true h)
      by (Some m) (Some s) h = (both (nat_le 1 s.rank) (nat_eq s.rank m.rank) h).0

  section_left : (mask : Expression) (left : syntax.Variable) → meets Statement t (MaskedArray mask) (designator left) ≡ true → IsSection (left_of (map entry t) [] left)
  section_left mask left h = by left.subscripts (has_rank mask (type_and_rank Statement t (designator left)) h)
    where
      by : (ps : Option Parts) → if_typed (λ s. nat_le 1 s.rank) (type_and_rank Statement t (designator record { name = left.name; subscripts = ps })) ≡ true →
          IsSection (term_of (map entry t) [] (designator record { name = left.name; subscripts = ps }))
      by None h = section_named left.name h
      by (Some ps) h =
          let some = some_triplet ps (subscripted_rank (nat_le 1) (rank_of (find left.name t)) (count_of ps) (are_subscripts Statement t ps) (triplets ps) h).1 in
          either IsSection (resolution.is_element ps) (Element (place_of (map entry t) left.name) (terms_of (map entry t) [] ps))
          (Section (place_of (map entry t) left.name) (section_subscripts (map entry t) [] (dims_of (declared_as (map entry t) left.name)) ps))
          (λ i. absurd (true≢false (sym i ∙ some))) (λ i. tt)

  scalar_rank : (o : Option TypeAndRank) → if_typed is_integer_scalar o ≡ true → if_typed (λ s. nat_eq s.rank 0) o ≡ true
  scalar_rank None h = absurd (not_true h)
  scalar_rank (Some s) h = (both _ (nat_eq s.rank 0) h).1

  element_left : (indices : List Name) (left : syntax.Variable) → meets Statement t ArrayElement (designator left) ≡ true → IsElement (left_of (map entry t) indices left)
  element_left indices left h =
      let two = both (is_element (designator left)) (if_typed is_integer_scalar (type_and_rank Statement t (designator left))) h in
      by left.subscripts two.0 (scalar_rank (type_and_rank Statement t (designator left)) two.1)
    where
      by : (ps : Option Parts) → is_element (designator record { name = left.name; subscripts = ps }) ≡ true →
          if_typed (λ s. nat_eq s.rank 0) (type_and_rank Statement t (designator record { name = left.name; subscripts = ps })) ≡ true →
          IsElement (term_of (map entry t) indices (designator record { name = left.name; subscripts = ps }))
      by None is h = absurd (not_true is)
      by (Some ps) is h =
          let none = no_triplet ps (subscripted_rank (λ k. nat_eq k 0) (rank_of (find left.name t)) (count_of ps) (are_subscripts Statement t ps) (triplets ps) h).1 in
          either IsElement (resolution.is_element ps) (Element (place_of (map entry t) left.name) (terms_of (map entry t) indices ps))
          (Section (place_of (map entry t) left.name) (section_subscripts (map entry t) indices (dims_of (declared_as (map entry t) left.name)) ps))
          (λ i. tt) (λ i. absurd (true≢false (sym none ∙ i)))

  -- ---- statements

  own_names : (h : PlacedHead) → IsKept t h → HasOwnNames (map entry t) h.what
  own_names h k = by h.what h.do_variables k.uses k.met
    where
      by : (w : Head) (indices : List Name) → list_all (allows t indices) (own_uses w) ≡ true → all_meet (context_of w) t (places w) ≡ true → HasOwnNames (map entry t) w
      by (head.Assignment left right) indices uses met =
          variable_left left (both (satisfies is_variable (find left.name t)) (not (is_among left.name indices) || false) (both _ true uses).0).0
      by (head.MaskedAssignment mask left right) indices uses met = section_left mask left (both (meets Statement t (MaskedArray mask) (designator left)) _ met).0
      by (head.ForallAssignment axes left right) indices uses met = element_left (indices_of axes) left (both (meets Statement t ArrayElement (designator left)) _ met).0
      by (head.Independent m) indices uses met = all_split (HasPlace (map entry t)) m.new m.reduction (listed (m.new ++ m.reduction) indices uses)
      by (head.Do mark axis) indices uses met =
          let own = both (satisfies is_scalar (find axis.index t)) (not (is_among axis.index indices)) (both _ true uses).0 in
          (has_place axis.index t (is_there is_scalar (find axis.index t) own.0), is_scalar_of axis.index t own.0)
      by (head.Forall axes mask) indices uses met = indexed (indices_of axes) indices uses
      by (head.Condition c) indices uses met = tt
      by (head.Where mask) indices uses met = tt
      by (head.Print items) indices uses met = tt
      by (head.Redistribute d) indices uses met = tt
      by head.Transfer indices uses met = tt

  pub statements_found : (hs : List PlacedHead) → AllByRecursion (IsKept t) hs → AllByRecursion (λ h. IsFoundStatement (map entry t) h.what) hs
  statements_found [] k = tt
  statements_found (h ∷ hs) k =
      (record { expressions = all_found (expressions_of h.what) k.0.operands; own = own_names h k.0 }, statements_found hs k.1)
