-- What the names of a program's arrays, templates and arrangements stand for, and the bounds of these.
use Rattle.std.proofs.Common.{◌≡◌, ℕ, Bool, true, false, bytes_eq, cond, find, List, [], ◌∷◌, ◌++◌, map, All, Option, Some, None, refl, ap, subst, ◌∙◌, ℤ, arith}
use Rattle.std.specs.List.{flat_map, list_any}
use Rattle.std.specs.Prelude.{⊤, IfSome, ◌||◌}
use Rattle.std.proofs.lemmas.List.Elements.{All-cons, All-map, All-nil}
use Rattle.std.proofs.lemmas.Option.{same_Some}
use Rattle.std.proofs.lemmas.Slice.Eq.{bytes_eq-Decides}
use Rattle.hpf_base.specs.declared.refusal.Reason.{Reason}
use Rattle.hpf_base.specs.declared.refusal.Reason.TheVariants as reason
use Rattle.syntax_tree.specs.Directive as directive
use Rattle.syntax_tree.specs.Directive.{Bound, Entity}
use Rattle.syntax_tree.specs.MainProgram.{Declared, ImplicitNone, Integer, Parameter, Directed, Declaration, MainProgram}
use Rattle.expression_rules.specs.Dims.{AreDims, IsDim}
use Rattle.expression_rules.specs.Symbols.{Name, SymbolTable}
use Rattle.expression_rules.specs.declared.dims.Dim.{Dim}
use Rattle.expression_rules.specs.declared.evaluated.Evaluated.{Evaluated}
use Rattle.expression_rules.specs.declared.evaluated.Evaluated.TheVariants.{Invalid, Unknown, Known}
use Rattle.expression_rules.specs.declared.symbols.Symbol.{Symbol}
use Rattle.expression_rules.specs.declared.symbols.Symbol.TheVariants as symbol
use Rattle.declarations.specs.Declarations.{bounds_of, if_known, is_too_far, symbol_table}
use Rattle.declarations.specs.DeclarationRules.{is_invalid}
use Rattle.declarations.specs.Reasons.{at, when}
use Rattle.name_table.specs.Entries.{entries, entry, or_none as no_dims, what_is}
use Rattle.distribution_rules.specs.declared.objects.Object.{Object}
use Rattle.distribution_rules.specs.declared.objects.ObjectKind.{ObjectKind}
use Rattle.distribution_rules.specs.declared.objects.ObjectKind.TheVariants as kind
use Rattle.distribution_rules.specs.Dimensions.{dim_if, dim_of, lower_value, upper_value}
use Rattle.distribution_rules.specs.Setting.{Setting, array_of, arrays, object, object_dims, setting, space, spaces_of}
use Rattle.distribution_rules.specs.SpaceRules.{bound_reasons}
use Rattle.directive_check.specs.MappingRules.{declared_breaches, declared_reasons}
use Rattle.directive_check.proofs.SizedArrays.{IsAbsent, IsKept, SizedDims, near, or_none, table_kept}
use Rattle.directive_check.proofs.ValidMapped.{none_at, none_of}
use Rattle.directive_check.proofs.ValidStarts.{AllOwn, OwnEntry, Sized}

-- ---- the bounds of objects

abbrev Bounded : Object → Type 0
Bounded o = All (λ d. IfSome d IsDim) o.dims

abbrev AllBounded : List Object → Type 0
AllBounded [] = ⊤
AllBounded (o ∷ os) = Bounded o × AllBounded os

bounded_append : (xs ys : List Object) → AllBounded xs → AllBounded ys → AllBounded (xs ++ ys)
bounded_append [] ys left right = right
bounded_append (x ∷ xs) ys left right = (left.0, bounded_append xs ys left.1 right)

bounded_found : (test : Object → Bool) (os : List Object) (o : Object) → AllBounded os → find test os ≡ Some o → Bounded o
bounded_found test [] o all is = absurd cc
bounded_found test (p ∷ ps) o all is = by (test p) (bounded_found test ps o all.1) is
  where
    by : (b : Bool) → (find test ps ≡ Some o → Bounded o) → cond b (Some p) (find test ps) ≡ Some o → Bounded o
    by true others found = subst Bounded (same_Some p o found) all.0
    by false others found = others found

none_sized : AreDims []
none_sized = record { each = All-nil IsDim; size = omega arith }

sized_dims : (ds : Option (List Dim)) → SizedDims ds → AreDims (no_dims ds)
sized_dims None sized = none_sized
sized_dims (Some ds) sized = sized.0

array_bounded : (x : Name) (s : Symbol) (es : SymbolTable) → IsKept ((x, s) ∷ es) → AllBounded (array_of x (what_is s))
array_bounded x (symbol.Array r ds n) es kept = (All-map (λ d. IfSome d IsDim) Some (no_dims ds) (sized_dims ds kept.0).each, tt)
array_bounded x symbol.Uninitialized es kept = tt
array_bounded x (symbol.Initialized n) es kept = tt
array_bounded x (symbol.Constant n) es kept = tt
array_bounded x (symbol.Template r) es kept = tt
array_bounded x (symbol.Arrangement r) es kept = tt

arrays_bounded : (t : SymbolTable) → IsKept t → AllBounded (arrays (map entry t))
arrays_bounded [] kept = tt
arrays_bounded (e ∷ es) kept = bounded_append (array_of e.0 (what_is e.1)) (arrays (map entry es)) (array_bounded e.0 e.1 es kept) (arrays_bounded es kept.2)

two_none : (a b : Bool) (why other : Reason) → when a why ++ when b other ≡ [] → b ≡ false
two_none true b why other none = absurd cc
two_none false true why other none = absurd cc
two_none false false why other none = refl

dim_near : (l u : Evaluated ℤ) → (is_too_far (if_known l) || is_too_far (if_known u)) ≡ false → IfSome (dim_if l u) IsDim
dim_near Invalid u far = tt
dim_near Unknown u far = tt
dim_near (Known l) Invalid far = tt
dim_near (Known l) Unknown far = tt
dim_near (Known l) (Known u) far = let both = or_none (is_too_far (Some l)) (is_too_far (Some u)) far in record { lower = near l both.0; upper = near u both.1 }

bounds_near : (grid : List ℕ) (t : SymbolTable) (bs : List Bound) → flat_map (bound_reasons grid t) bs ≡ [] → All (λ d. IfSome d IsDim) (map (dim_of grid t) bs)
bounds_near grid t [] none = All-nil (λ d. IfSome d IsDim)
bounds_near grid t (b ∷ bs) none =
    let both = none_of (bound_reasons grid t b) (flat_map (bound_reasons grid t) bs) none in
    All-cons (λ d. IfSome d IsDim) (dim_of grid t b) (map (dim_of grid t) bs)
    (dim_near (lower_value grid t b) (upper_value grid t b)
    (two_none (is_invalid (lower_value grid t b) || is_invalid (upper_value grid t b)) _ reason.BadConstant reason.Limit both.0))
    (bounds_near grid t bs both.1)

spaces_bounded : (grid : List ℕ) (t : SymbolTable) (k : ObjectKind) (es : List Entity) (more : Entity → List Reason) →
    flat_map (λ e. flat_map (bound_reasons grid t) (bounds_of e.bounds) ++ more e) es ≡ [] → AllBounded (map (space grid t k) es)
spaces_bounded grid t k [] more none = tt
spaces_bounded grid t k (e ∷ es) more none =
    let both = none_of (flat_map (bound_reasons grid t) (bounds_of e.bounds) ++ more e) _ none in
    let own = none_of (flat_map (bound_reasons grid t) (bounds_of e.bounds)) (more e) both.0 in
    (bounds_near grid t (bounds_of e.bounds) own.0, spaces_bounded grid t k es more both.1)

declared_bounded : (s : Setting) (w : Declared) → declared_reasons s w ≡ [] → AllBounded (spaces_of s.grid s.names w)
declared_bounded s ImplicitNone none = tt
declared_bounded s (Integer d) none = tt
declared_bounded s (Parameter cs) none = tt
declared_bounded s (Directed (directive.Processors es)) none = spaces_bounded s.grid s.names kind.Arrangement es _ none
declared_bounded s (Directed (directive.Template es)) none = spaces_bounded s.grid s.names kind.Template es _ none
declared_bounded s (Directed (directive.Dynamic xs)) none = tt
declared_bounded s (Directed (directive.Distribute d)) none = tt
declared_bounded s (Directed (directive.Align a)) none = tt
declared_bounded s (Directed directive.Passed) none = tt

all_bounded : (s : Setting) (ds : List Declaration) → declared_breaches s ds ≡ [] → AllBounded (flat_map (λ d. spaces_of s.grid s.names d.what) ds)
all_bounded s [] none = tt
all_bounded s (d ∷ ds) none =
    let both = none_of (at d.line (declared_reasons s d.what)) _ none in
    bounded_append (spaces_of s.grid s.names d.what) _ (declared_bounded s d.what (none_at d.line _ both.0)) (all_bounded s ds both.1)

-- the bounds of what a name stands for are within the limits
pub all_sized : (grid : List ℕ) (p : MainProgram) → declared_breaches (setting grid p) p.declarations ≡ [] → Sized (setting grid p)
all_sized grid p none y o found =
    bounded_found (λ q. bytes_eq y q.name) (setting grid p).objects o
    (bounded_append (arrays (entries p)) _ (arrays_bounded (symbol_table p.declarations) (table_kept p.declarations)) (all_bounded (setting grid p) p.declarations none)) found

-- ---- the arrays themselves

-- what a name that stands among these stands for, is found from these on
abbrev FoundFrom : Setting → SymbolTable → List Object → Type 0
FoundFrom s t rest = (y : Name) → list_any (λ e. bytes_eq y e.0) t ≡ true → object s y ≡ find (λ o. bytes_eq y o.name) (arrays (map entry t) ++ rest)

itself : (x : Name) → bytes_eq x x ≡ true
itself x = (bytes_eq-Decides x x).1 refl

found_first : (x : Name) (ds : List Dim) (os : List Object) (b : Bool) → b ≡ true →
    object_dims (cond b (Some (record { name = x; kind = kind.Array; dims = map Some ds })) (find (λ o. bytes_eq x o.name) os)) ≡ map Some ds
found_first x ds os true is = refl
found_first x ds os false is = absurd cc

own_entry : (s : Setting) (x : Name) (y : Symbol) (es : SymbolTable) (rest : List Object) → IsKept ((x, y) ∷ es) → FoundFrom s ((x, y) ∷ es) rest → OwnEntry s x (what_is y)
own_entry s x (symbol.Array r ds n) es rest kept found =
    let here : list_any (λ e. bytes_eq x e.0) ((x, symbol.Array r ds n) ∷ es) ≡ true = ap (λ b. b || list_any (λ e. bytes_eq x e.0) es) (itself x) in
    (sized_dims ds kept.0, ap object_dims (found x here) ∙ found_first x (no_dims ds) (arrays (map entry es) ++ rest) (bytes_eq x x) (itself x))
own_entry s x symbol.Uninitialized es rest kept found = tt
own_entry s x (symbol.Initialized n) es rest kept found = tt
own_entry s x (symbol.Constant n) es rest kept found = tt
own_entry s x (symbol.Template r) es rest kept found = tt
own_entry s x (symbol.Arrangement r) es rest kept found = tt

-- an array of another name is passed over
passed : (x y : Name) (z : Symbol) (os rest : List Object) → bytes_eq y x ≡ false →
    find (λ o. bytes_eq y o.name) ((array_of x (what_is z) ++ os) ++ rest) ≡ find (λ o. bytes_eq y o.name) (os ++ rest)
passed x y (symbol.Array r ds n) os rest other =
    ap (λ b. cond b (Some (record { name = x; kind = kind.Array; dims = map Some (no_dims ds) })) (find (λ o. bytes_eq y o.name) (os ++ rest))) other
passed x y symbol.Uninitialized os rest other = refl
passed x y (symbol.Initialized n) os rest other = refl
passed x y (symbol.Constant n) os rest other = refl
passed x y (symbol.Template r) os rest other = refl
passed x y (symbol.Arrangement r) os rest other = refl

differ : (x y : Name) (es : SymbolTable) → IsAbsent x es → list_any (λ e. bytes_eq y e.0) es ≡ true → bytes_eq y x ≡ false
differ x y es absent among = by (bytes_eq y x) refl
  where
    by : (b : Bool) → bytes_eq y x ≡ b → b ≡ false
    by false same = refl
    by true same =
        let twice : list_any (λ e. bytes_eq x e.0) es ≡ true = subst (λ z. list_any (λ e. bytes_eq z e.0) es ≡ true) ((bytes_eq-Decides y x).0 same) among in
        absurd cc

or_true : (a b : Bool) → b ≡ true → (a || b) ≡ true
or_true true b h = refl
or_true false b h = h

own_all : (s : Setting) (t : SymbolTable) (rest : List Object) → IsKept t → FoundFrom s t rest → AllOwn s (map entry t)
own_all s [] rest kept found = tt
own_all s (e ∷ es) rest kept found = (
  own_entry s e.0 e.1 es rest kept found,
  own_all s es rest kept.2
      (λ y among. found y (or_true (bytes_eq y e.0) _ among) ∙ passed e.0 y e.1 (arrays (map entry es)) rest (differ e.0 y es kept.1 among)),
)

-- every array has the dimensions of its entry
pub arrays_own : (grid : List ℕ) (p : MainProgram) → AllOwn (setting grid p) (entries p)
arrays_own grid p =
    own_all (setting grid p) (symbol_table p.declarations) (flat_map (λ d. spaces_of grid (symbol_table p.declarations) d.what) p.declarations)
    (table_kept p.declarations) (λ y among. refl)
