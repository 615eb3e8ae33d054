-- Arrays, templates and processor arrangements of a program that breaks no rule: their dimensions are known and within the limits.
use Rattle.std.proofs.Common.{◌≡◌, ℕ, suc, Bool, true, false, true≢false, bytes_eq, cond, find, List, [], ◌∷◌, length, map, nat_lt, Option, Some, None, refl, sym, ap, subst, ◌∙◌}
use Rattle.std.specs.Bool.{⊤}
use Rattle.std.specs.Prelude.{ℤ, ◌||◌, if◌then◌else◌}
use Rattle.std.specs.List.{AllByRecursion, flat_map, list_any}
use Rattle.std.proofs.lemmas.List.{length-map}
use Rattle.hpf_base.specs.declared.limits.TheConstants.{MAX_RANK}
use Rattle.hpf_base.specs.declared.refusal.Reason.TheVariants as reason
use Rattle.syntax_tree.specs.Directive.{Bound, Entity, Processors, Template as TemplateDirective}
use Rattle.syntax_tree.specs.Expression.{Expression}
use Rattle.syntax_tree.specs.MainProgram.{Declared, ImplicitNone, Integer, Parameter, Directed, Declaration, MainProgram}
use Rattle.expression_rules.specs.declared.dims.Dim.{Dim}
use Rattle.expression_rules.specs.declared.evaluated.Evaluated.{Evaluated}
use Rattle.expression_rules.specs.declared.evaluated.Evaluated.TheVariants.{Invalid, Unknown, Known}
use Rattle.expression_rules.specs.declared.symbols.Symbol.{Symbol}
use Rattle.expression_rules.specs.declared.symbols.Symbol.TheVariants as symbol
use Rattle.expression_rules.specs.declared.types.Context.TheVariants.{Directive}
use Rattle.expression_rules.specs.Inner.{bound_expressions, present}
use Rattle.expression_rules.specs.Symbols.{Name, SymbolTable, all_elements, find as find_symbol, is_array, is_declared, with_dummies}
use Rattle.expression_rules.specs.Types.{type_and_rank}
use Rattle.declarations.specs.Declarations.{Item, DimensionAttribute, TypedEntity, Definition, TemplateEntity, ArrangementEntity, PlacedItem, after, bounds_of, dims, if_known, is_bound_too_far, is_past_limits, is_too_far, is_too_large, items, items_of, known_dims, lower_of, number, rank_in_text, symbol_table, with_dim}
use Rattle.declarations.specs.DeclarationRules.{declared_again, is_invalid, item_breaches, item_reasons, own_reasons}
use Rattle.declarations.specs.Reasons.{at}
use Rattle.name_table.specs.Directives.{directive_dummies, directive_expressions, directive_names, entity_expressions}
use Rattle.name_table.specs.Entries.{entry}
use Rattle.name_table.specs.KnownSymbols.{is_known}
use Rattle.distribution_rules.specs.declared.objects.Object.{Object}
use Rattle.distribution_rules.specs.declared.objects.ObjectKind.{ObjectKind}
use Rattle.distribution_rules.specs.declared.objects.ObjectKind.TheVariants as kind
use Rattle.distribution_rules.specs.Dimensions.{dim_if, dim_of, is_too_wide, lower_value, upper_value}
use Rattle.distribution_rules.specs.Setting.{Setting, arrays, setting, space, spaces_of}
use Rattle.distribution_rules.specs.SpaceRules.{arrangement_reasons, bound_reasons, is_misfit, template_reasons}
use Rattle.directive_check.specs.MappingRules.{declared_reasons}
use Rattle.name_table.proofs.Tests.{HasValue, all_append, all_empty, all_split, empties, fails, neither, no_reason, no_value, none_some, of_map, some_same}
use Rattle.name_table.proofs.TableItems.{AllHold, all_hold}
use Rattle.known_mappings.proofs.DirectiveValues.{has_value}

-- ---- dimensions

-- the bounds are known and within the limits
abbrev pub IsNear : Option Dim → Type 0
IsNear None = ⊥
IsNear (Some d) = (is_too_far (Some d.lower) ≡ false) × (is_too_far (Some d.upper) ≡ false)

abbrev pub AreNear : List (Option Dim) → Type 0
AreNear ds = AllByRecursion IsNear ds

-- a template isn't too wide, and an arrangement has as many processors as the grid
abbrev pub IsOfKind : List ℕ → ObjectKind → List (Option Dim) → Type 0
IsOfKind grid kind.Array ds = ⊤
IsOfKind grid kind.Template ds = list_any is_too_wide ds ≡ false
IsOfKind grid kind.Arrangement ds = is_misfit grid ds ≡ false

pub record IsRight (grid : List ℕ) (o : Object) : Type 0 where
  pub near : AreNear o.dims
  pub few : nat_lt MAX_RANK (length o.dims) ≡ false
  pub of_kind : IsOfKind grid o.kind o.dims

-- ---- arrays

-- where its dimensions are known, they are as an array's must be
abbrev IsSized : Symbol → Type 0
IsSized (symbol.Array r (Some ds) n) = AreNear (map Some ds) × (nat_lt MAX_RANK (length ds) ≡ false)
IsSized s = ⊤

dim_near : (l u : Option ℤ) (o : Option (List Dim)) (n : ℕ) (ds : List Dim) → (is_too_far l || is_too_far u) ≡ false →
    ((es : List Dim) → o ≡ Some es → AreNear (map Some es) × (n ≡ length es)) → with_dim l u o ≡ Some ds → AreNear (map Some ds) × (suc n ≡ length ds)
dim_near None u o n ds near rest is = absurd cc
dim_near (Some l) None o n ds near rest is = absurd cc
dim_near (Some l) (Some u) None n ds near rest is = absurd cc
dim_near (Some l) (Some u) (Some es) n ds near rest is =
    let more = rest es refl in
    subst (λ xs. AreNear (map Some xs) × (suc n ≡ length xs)) (some_same _ _ is) ((neither (is_too_far (Some l)) (is_too_far (Some u)) near, more.0), ap suc more.1)

dims_near : (t : SymbolTable) (bs : List Bound) (ds : List Dim) → list_any (is_bound_too_far t) bs ≡ false → dims t bs ≡ Some ds →
    AreNear (map Some ds) × (length bs ≡ length ds)
dims_near t [] ds near is = subst (λ xs. AreNear (map Some xs) × (0 ≡ length xs)) (some_same _ _ is) (tt, refl)
dims_near t (b ∷ bs) ds near is =
    let two = neither (is_bound_too_far t b) (list_any (is_bound_too_far t) bs) near in
    dim_near (lower_of t b) (number t b.upper) (dims t bs) (length bs) ds two.0 (λ es e. dims_near t bs es two.1 e) is

array_sized : (t : SymbolTable) (bs : List Bound) (n : Option ℤ) → IsSized (symbol.Array (length bs) (known_dims t bs) n)
array_sized t bs n = by (is_past_limits t bs) refl (dims t bs) refl
  where
    by : (past : Bool) → is_past_limits t bs ≡ past → (o : Option (List Dim)) → dims t bs ≡ o → IsSized (symbol.Array (length bs) (if past then None else o) n)
    by true past o is = tt
    by false past None is = tt
    by false past (Some ds) is =
        let two = neither (nat_lt MAX_RANK (length bs)) (list_any (is_bound_too_far t) bs)
        (neither (nat_lt MAX_RANK (length bs) || list_any (is_bound_too_far t) bs) (is_too_large (all_elements t) (dims t bs)) past).0 in
        let near = dims_near t bs ds two.1 is in
        (near.0, sym (ap (nat_lt MAX_RANK) near.1) ∙ two.0)

other_sized : (s : Symbol) → is_array s ≡ false → IsSized s
other_sized (symbol.Array r ds n) h = absurd (true≢false h)
other_sized s h = tt

-- an array whose dimensions aren't known counts as one without any
array_right : (grid : List ℕ) (t : SymbolTable) → AllHold IsSized t → AllByRecursion (IsRight grid) (arrays (map entry t))
array_right grid [] all = tt
array_right grid (e ∷ es) all = by e.1 all.0 (array_right grid es all.1)
  where
    by : (s : Symbol) → IsSized s → AllByRecursion (IsRight grid) (arrays (map entry es)) → AllByRecursion (IsRight grid) (arrays (entry (e.0, s) ∷ map entry es))
    by (symbol.Array r None n) own rest = (record { near = tt; few = refl; of_kind = tt }, rest)
    by (symbol.Array r (Some ds) n) own rest = (record { near = own.0; few = ap (nat_lt MAX_RANK) (length-map ds Some) ∙ own.1; of_kind = tt }, rest)
    by symbol.Uninitialized own rest = rest
    by (symbol.Initialized n) own rest = rest
    by (symbol.Constant n) own rest = rest
    by (symbol.Template r) own rest = rest
    by (symbol.Arrangement r) own rest = rest

-- ---- declarations that break no rule

abbrev pub IsTyped : SymbolTable → Expression → Type 0
IsTyped u e = HasValue (type_and_rank Directive u e)

-- the expressions of a directive have types, where its dummies stand for scalars
abbrev pub AreTyped : SymbolTable → Declared → Type 0
AreTyped t (Directed d) = AllByRecursion (IsTyped (with_dummies t (directive_dummies d))) (directive_expressions d)
AreTyped t d = ⊤

-- the names in its lists are declared
abbrev pub AreDeclared : SymbolTable → Declared → Type 0
AreDeclared t (Directed d) = AllByRecursion (λ x. is_declared x t ≡ true) (directive_names d)
AreDeclared t d = ⊤

-- a template or an arrangement has no more dimensions than an array may have
abbrev pub HasFew : Item → Type 0
HasFew (TemplateEntity e) = nat_lt MAX_RANK (rank_in_text e) ≡ false
HasFew (ArrangementEntity e) = nat_lt MAX_RANK (rank_in_text e) ≡ false
HasFew i = ⊤

pub record IsGood (s : Setting) (d : Declaration) : Type 0 where
  pub reasons : declared_reasons s d.what ≡ []
  pub types : AreTyped s.names d.what
  pub names : AreDeclared s.names d.what
  pub ranks : AllByRecursion HasFew (items_of d.what)

has_few : (t : SymbolTable) (i : Item) → item_reasons t i ≡ [] → HasFew i
has_few t (TemplateEntity e) h = fails _ reason.Limit (empties (declared_again t e.name) _ (empties (own_reasons t (TemplateEntity e)) _ (empties _ _ h).0).0).1
has_few t (ArrangementEntity e) h = fails _ reason.Limit (empties (declared_again t e.name) _ (empties (own_reasons t (ArrangementEntity e)) _ (empties _ _ h).0).0).1
has_few t (DimensionAttribute bs) h = tt
has_few t (TypedEntity constant bs e) h = tt
has_few t (Definition c) h = tt

all_few : (t : SymbolTable) (is : List PlacedItem) → item_breaches t is ≡ [] → AllByRecursion (λ i. HasFew i.what) is
all_few t [] h = tt
all_few t (i ∷ is) h =
    let two = empties (at i.line (item_reasons t i.what)) (item_breaches (after t i.what) is) h in
    (has_few t i.what (no_reason i.line (item_reasons t i.what) two.0), all_few (after t i.what) is two.1)

each_few : (ds : List Declaration) → AllByRecursion (λ i. HasFew i.what) (items ds) → AllByRecursion (λ d. AllByRecursion HasFew (items_of d.what)) ds
each_few [] h = tt
each_few (d ∷ ds) h =
    let two = all_split (λ i. HasFew i.what) (map (λ i. record { line = d.line; what = i }) (items_of d.what)) (items ds) h in
    (of_map (λ i. HasFew i.what) (λ i. record { line = d.line; what = i }) (items_of d.what) two.0, each_few ds two.1)

pub ranks_few : (ds : List Declaration) → item_breaches [] (items ds) ≡ [] → AllByRecursion (λ d. AllByRecursion HasFew (items_of d.what)) ds
ranks_few ds h = each_few ds (all_few [] (items ds) h)

-- ---- templates and arrangements

module _ (s : Setting) (known : (x : Name) (a : Symbol) → find_symbol x s.names ≡ Some a → is_known a ≡ true) (u : SymbolTable) where
  lower_known : (b : Bound) → AllByRecursion (IsTyped u) (present b.lower) → is_invalid (lower_value s.grid s.names b) ≡ false → HasValue (if_known (lower_value s.grid s.names b))
  lower_known b h valid = by b.lower h valid
    where
      by : (e : Option Expression) → AllByRecursion (IsTyped u) (present e) → is_invalid (lower_value s.grid s.names record { lower = e; upper = b.upper }) ≡ false →
          HasValue (if_known (lower_value s.grid s.names record { lower = e; upper = b.upper }))
      by None h valid = refl
      by (Some e) h valid = has_value s.grid s.names u known e valid h.0

  near_if : (l v : Evaluated ℤ) → HasValue (if_known l) → HasValue (if_known v) → is_too_far (if_known l) ≡ false → is_too_far (if_known v) ≡ false → IsNear (dim_if l v)
  near_if (Known l) (Known v) f g a b = (a, b)
  near_if (Known l) Invalid f g a b = absurd (no_value g)
  near_if (Known l) Unknown f g a b = absurd (no_value g)
  near_if Invalid v f g a b = absurd (no_value f)
  near_if Unknown v f g a b = absurd (no_value f)

  bound_near : (b : Bound) → AllByRecursion (IsTyped u) (bound_expressions b) → bound_reasons s.grid s.names b ≡ [] → IsNear (dim_of s.grid s.names b)
  bound_near b h none =
      let typed = all_split (IsTyped u) (present b.lower) (b.upper ∷ []) h in
      let two = empties _ _ none in
      let valid = neither (is_invalid (lower_value s.grid s.names b)) (is_invalid (upper_value s.grid s.names b)) (fails _ reason.BadConstant two.0) in
      let near = neither (is_too_far (if_known (lower_value s.grid s.names b))) (is_too_far (if_known (upper_value s.grid s.names b))) (fails _ reason.Limit two.1) in
      near_if (lower_value s.grid s.names b) (upper_value s.grid s.names b) (lower_known b typed.0 valid.0)
      (has_value s.grid s.names u known b.upper valid.1 typed.1.0) near.0 near.1

  bounds_near : (bs : List Bound) → AllByRecursion (IsTyped u) (flat_map bound_expressions bs) → AllByRecursion (λ b. bound_reasons s.grid s.names b ≡ []) bs →
      AreNear (map (dim_of s.grid s.names) bs)
  bounds_near [] h none = tt
  bounds_near (b ∷ bs) h none =
      let two = all_split (IsTyped u) (bound_expressions b) (flat_map bound_expressions bs) h in (bound_near b two.0 none.0, bounds_near bs two.1 none.1)

  template_right : (e : Entity) → AllByRecursion (IsTyped u) (entity_expressions e) → template_reasons s.grid s.names (bounds_of e.bounds) ≡ [] →
      nat_lt MAX_RANK (rank_in_text e) ≡ false → IsRight s.grid (space s.grid s.names kind.Template e)
  template_right e h none few =
      let two = empties (flat_map (bound_reasons s.grid s.names) (bounds_of e.bounds)) _ none in
      record {
        near = bounds_near (bounds_of e.bounds) h (all_empty (bound_reasons s.grid s.names) (bounds_of e.bounds) two.0);
        few = ap (nat_lt MAX_RANK) (length-map (bounds_of e.bounds) (dim_of s.grid s.names)) ∙ few;
        of_kind = fails _ reason.Limit two.1;
      }

  arrangement_right : (e : Entity) → AllByRecursion (IsTyped u) (entity_expressions e) → arrangement_reasons s.grid s.names (bounds_of e.bounds) ≡ [] →
      nat_lt MAX_RANK (rank_in_text e) ≡ false → IsRight s.grid (space s.grid s.names kind.Arrangement e)
  arrangement_right e h none few =
      let two = empties (flat_map (bound_reasons s.grid s.names) (bounds_of e.bounds)) _ none in
      record {
        near = bounds_near (bounds_of e.bounds) h (all_empty (bound_reasons s.grid s.names) (bounds_of e.bounds) two.0);
        few = ap (nat_lt MAX_RANK) (length-map (bounds_of e.bounds) (dim_of s.grid s.names)) ∙ few;
        of_kind = fails _ reason.BadArrangement two.1;
      }

  templates_right : (es : List Entity) → AllByRecursion (IsTyped u) (flat_map entity_expressions es) →
      flat_map (λ e. template_reasons s.grid s.names (bounds_of e.bounds)) es ≡ [] → AllByRecursion HasFew (map TemplateEntity es) →
      AllByRecursion (IsRight s.grid) (map (space s.grid s.names kind.Template) es)
  templates_right [] h none few = tt
  templates_right (e ∷ es) h none few =
      let typed = all_split (IsTyped u) (entity_expressions e) (flat_map entity_expressions es) h in
      let two = empties (template_reasons s.grid s.names (bounds_of e.bounds)) _ none in
      (template_right e typed.0 two.0 few.0, templates_right es typed.1 two.1 few.1)

  arrangements_right : (es : List Entity) → AllByRecursion (IsTyped u) (flat_map entity_expressions es) →
      flat_map (λ e. arrangement_reasons s.grid s.names (bounds_of e.bounds)) es ≡ [] → AllByRecursion HasFew (map ArrangementEntity es) →
      AllByRecursion (IsRight s.grid) (map (space s.grid s.names kind.Arrangement) es)
  arrangements_right [] h none few = tt
  arrangements_right (e ∷ es) h none few =
      let typed = all_split (IsTyped u) (entity_expressions e) (flat_map entity_expressions es) h in
      let two = empties (arrangement_reasons s.grid s.names (bounds_of e.bounds)) _ none in
      (arrangement_right e typed.0 two.0 few.0, arrangements_right es typed.1 two.1 few.1)

module _ (s : Setting) (known : (x : Name) (a : Symbol) → find_symbol x s.names ≡ Some a → is_known a ≡ true) where
  spaces_right : (d : Declared) → declared_reasons s d ≡ [] → AreTyped s.names d → AllByRecursion HasFew (items_of d) → AllByRecursion (IsRight s.grid) (spaces_of s.grid s.names d)
  spaces_right (Directed (TemplateDirective es)) none typed few = templates_right s known (with_dummies s.names []) es typed none few
  spaces_right (Directed (Processors es)) none typed few = arrangements_right s known (with_dummies s.names []) es typed none few
  spaces_right (Directed d) none typed few = tt
  spaces_right ImplicitNone none typed few = tt
  spaces_right (Integer d) none typed few = tt
  spaces_right (Parameter cs) none typed few = tt

  all_spaces : (ds : List Declaration) → AllByRecursion (IsGood s) ds → AllByRecursion (IsRight s.grid) (flat_map (λ d. spaces_of s.grid s.names d.what) ds)
  all_spaces [] h = tt
  all_spaces (d ∷ ds) h =
      all_append (IsRight s.grid) (spaces_of s.grid s.names d.what) _ (spaces_right d.what h.0.reasons h.0.types h.0.ranks) (all_spaces ds h.1)

-- every object of the program
pub objects_right : (grid : List ℕ) (p : MainProgram) → ((x : Name) (a : Symbol) → find_symbol x (symbol_table p.declarations) ≡ Some a → is_known a ≡ true) →
    AllByRecursion (IsGood (setting grid p)) p.declarations → AllByRecursion (IsRight grid) (setting grid p).objects
objects_right grid p known good =
    all_append (IsRight grid) (arrays (map entry (symbol_table p.declarations))) _ (array_right grid (symbol_table p.declarations) (all_hold IsSized array_sized other_sized [] (items p.declarations) tt))
    (all_spaces (setting grid p) known p.declarations good)

-- what a name stands for
pub found_right : (grid : List ℕ) (os : List Object) (x : Name) (o : Object) → AllByRecursion (IsRight grid) os → find (λ o. bytes_eq x o.name) os ≡ Some o → IsRight grid o
found_right grid [] x o all is = absurd (none_some o is)
found_right grid (q ∷ os) x o all is = by (bytes_eq x q.name) is (found_right grid os x o all.1)
  where
    by : (b : Bool) → cond b (Some q) (find (λ o. bytes_eq x o.name) os) ≡ Some o → (find (λ o. bytes_eq x o.name) os ≡ Some o → IsRight grid o) → IsRight grid o
    by true is more = subst (IsRight grid) (some_same q o is) all.0
    by false is more = more is
