-- What the symbol table of declarations that break no rule says: all of it is known.
use Rattle.std.proofs.Common.{◌≡◌, ℕ, suc, Bool, true, false, true≢false, cond, bytes_eq, List, [], ◌∷◌, ◌++◌, length, map, Option, Some, None, refl, sym, ap, subst, ◌∙◌, inl}
use Rattle.std.specs.Prelude.{ℤ, pos, ◌&&◌, ◌||◌, not, is_some, if◌then◌else◌}
use Rattle.std.specs.List.{AllByRecursion, flat_map, list_all, list_any}
use Rattle.hpf_base.specs.FirstBreach.{Among}
use Rattle.hpf_base.specs.Refusal.{NoBreach}
use Rattle.hpf_base.specs.declared.refusal.Reason.{Reason}
use Rattle.hpf_base.specs.declared.refusal.Refusal.{Refusal}
use Rattle.syntax_tree.specs.Expression.{Expression}
use Rattle.syntax_tree.specs.Directive.{Bound, Entity, Template as TemplateDirective, Processors}
use Rattle.syntax_tree.specs.MainProgram.{NamedConstant, Declared, ImplicitNone, Integer, Parameter, Directed, Declaration, MainProgram}
use Rattle.expression_rules.specs.declared.dims.Dim.{Dim}
use Rattle.expression_rules.specs.declared.symbols.Symbol.{Symbol}
use Rattle.expression_rules.specs.declared.symbols.Symbol.TheVariants.{Uninitialized, Initialized, Constant, Array, Template, Arrangement}
use Rattle.expression_rules.specs.declared.types.Context.TheVariants.{Statement}
use Rattle.expression_rules.specs.declared.types.TypeAndRank.{TypeAndRank}
use Rattle.expression_rules.specs.Constants.{value}
use Rattle.expression_rules.specs.Symbols.{Name, SymbolTable, find, added, changed, is_uninitialized, satisfies}
use Rattle.expression_rules.specs.Types.{if_typed, is_integer_scalar, type_and_rank}
use Rattle.declarations.specs.Declarations.{Item, DimensionAttribute, TypedEntity, Definition, TemplateEntity, ArrangementEntity, PlacedItem, after, after_all, bounds_of, dims, is_past_limits, items, items_of, number, number_or, own_or, start_of, symbol_of, symbol_table, with_dim}
use Rattle.name_table.specs.KnownSymbols.{AllAreKnown, is_known}
use Rattle.name_table.specs.NameRules.{name_breaches}
use Rattle.declarations.specs.DeclarationRules.{constants_of, is_invalid, item_breaches, item_reasons, past_limits}
use Rattle.declarations.specs.Reasons.{at, when}
use Rattle.name_table.specs.Places.{IntegerScalar, meets, place}
use Rattle.expression_rules.specs.Inner.{bound_expressions, present}
use Rattle.name_table.specs.RankRules.{declaration_breaches_at, declaration_meets, rank_breaches, type_expressions, typed_expressions}
use Rattle.name_table.proofs.KnownValues.{IsRight, Kept, has_number}

-- ---- lists without an item, and tests

nothing_some : {A : Type 0} (a : A) → None ≡ Some a → ⊥
nothing_some a h = true≢false (sym (ap is_some h))

some_same : {A : Type 0} (a b : A) → Some a ≡ Some b → a ≡ b
some_same a b h = cc

not_empty : {A : Type 0} (a : A) (as' : List A) → a ∷ as' ≡ [] → ⊥
not_empty a as' h = cc

empties : {A : Type 0} (xs ys : List A) → xs ++ ys ≡ [] → (xs ≡ []) × (ys ≡ [])
empties [] ys h = (refl, h)
empties (x ∷ xs) ys h = absurd (not_empty x (xs ++ ys) h)

all_empty : {A B : Type 0} (f : A → List B) (xs : List A) → flat_map f xs ≡ [] → AllByRecursion (λ x. f x ≡ []) xs
all_empty f [] h = tt
all_empty f (x ∷ xs) h = let e = empties (f x) (flat_map f xs) h in (e.0, all_empty f xs e.1)

all_append : {A : Type 0} (P : A → Type 0) (xs ys : List A) → AllByRecursion P xs → AllByRecursion P ys → AllByRecursion P (xs ++ ys)
all_append P [] ys f g = g
all_append P (x ∷ xs) ys f g = (f.0, all_append P xs ys f.1 g)

all_split : {A : Type 0} (P : A → Type 0) (xs ys : List A) → AllByRecursion P (xs ++ ys) → AllByRecursion P xs × AllByRecursion P ys
all_split P [] ys f = (tt, f)
all_split P (x ∷ xs) ys f = let more = all_split P xs ys f.1 in ((f.0, more.0), more.1)

all_map : {A B : Type 0} (P : B → Type 0) (f : A → B) (xs : List A) → AllByRecursion (λ x. P (f x)) xs → AllByRecursion P (map f xs)
all_map P f [] h = tt
all_map P f (x ∷ xs) h = (h.0, all_map P f xs h.1)

no_breach : (rs : List Refusal) → NoBreach (Among rs) → rs ≡ []
no_breach [] h = refl
no_breach (r ∷ rs) h = absurd (h r.line r.reason (inl refl))

no_reason : (line : ℕ) (whys : List Reason) → at line whys ≡ [] → whys ≡ []
no_reason line [] h = refl
no_reason line (w ∷ ws) h = absurd (not_empty _ _ h)

fails : (b : Bool) (why : Reason) → when b why ≡ [] → b ≡ false
fails true why h = absurd (not_empty why [] h)
fails false why h = refl

holds : (b : Bool) (why : Reason) → when (not b) why ≡ [] → b ≡ true
holds true why h = refl
holds false why h = absurd (not_empty why [] h)

both : (a b : Bool) → (a && b) ≡ true → (a ≡ true) × (b ≡ true)
both true b h = (refl, h)
both false b h = absurd (true≢false (sym h))

neither : (a b : Bool) → (a || b) ≡ false → (a ≡ false) × (b ≡ false)
neither true b h = absurd (true≢false h)
neither false b h = (refl, h)

-- ---- symbol tables

abbrev pub AllRight : SymbolTable → Type 0
AllRight t = AllByRecursion (λ e. IsRight e.1) t

found_right : (t : SymbolTable) → AllRight t → (x : Name) (s : Symbol) → find x t ≡ Some s → IsRight s
found_right [] r x s h = absurd (nothing_some s h)
found_right (e ∷ es) r x s h = by (bytes_eq x e.0) h (found_right es r.1 x s)
  where
    by : (b : Bool) → cond b (Some e.1) (find x es) ≡ Some s → (find x es ≡ Some s → IsRight s) → IsRight s
    by true h more = subst IsRight (some_same e.1 s h) r.0
    by false h more = more h

changed_right : (t : SymbolTable) (x : Name) (s : Symbol) → IsRight s → AllRight t → AllRight (changed x s t)
changed_right [] x s own r = (own, tt)
changed_right (e ∷ es) x s own r = by (bytes_eq x e.0) (changed_right es x s own r.1)
  where
    by : (b : Bool) → AllRight (changed x s es) → AllRight (if b then (e.0, s) ∷ es else e ∷ changed x s es)
    by true more = (own, r.1)
    by false more = (r.0, more)

if_right : (b : Bool) (t u : SymbolTable) → AllRight t → AllRight u → AllRight (if b then t else u)
if_right true t u r s = r
if_right false t u r s = s

-- a name that is changed had no value before
found_stays : (e : Name × Symbol) (x y : Name) (s a : Symbol) (es : SymbolTable) → is_uninitialized e.1 ≡ true → find x (e ∷ es) ≡ Some a → is_uninitialized a ≡ false →
    find x ((e.0, s) ∷ es) ≡ Some a
found_stays e x y s a es own h n = by (bytes_eq x e.0) h
  where
    by : (b : Bool) → cond b (Some e.1) (find x es) ≡ Some a → cond b (Some s) (find x es) ≡ Some a
    by true h = absurd (true≢false (sym own ∙ ap is_uninitialized (some_same e.1 a h) ∙ n))
    by false h = h

after_stays : (e : Name × Symbol) (x : Name) (a : Symbol) (es fs : SymbolTable) → (find x es ≡ Some a → find x fs ≡ Some a) → find x (e ∷ es) ≡ Some a → find x (e ∷ fs) ≡ Some a
after_stays e x a es fs more h = by (bytes_eq x e.0) h
  where
    by : (b : Bool) → cond b (Some e.1) (find x es) ≡ Some a → cond b (Some e.1) (find x fs) ≡ Some a
    by true h = h
    by false h = more h

changed_kept : (t : SymbolTable) (y : Name) (s : Symbol) → ((a : Symbol) → find y t ≡ Some a → is_uninitialized a ≡ true) → Kept t (changed y s t)
changed_kept [] y s own x a h n = absurd (nothing_some a h)
changed_kept (e ∷ es) y s own x a h n = by (bytes_eq y e.0) own (λ own h. changed_kept es y s own x a h n)
  where
    by : (b : Bool) → ((a : Symbol) → cond b (Some e.1) (find y es) ≡ Some a → is_uninitialized a ≡ true)
        → (((a : Symbol) → find y es ≡ Some a → is_uninitialized a ≡ true) → find x es ≡ Some a → find x (changed y s es) ≡ Some a)
        → find x (if b then (e.0, s) ∷ es else e ∷ changed y s es) ≡ Some a
    by true own more = found_stays e x y s a es (own e.1 refl) h n
    by false own more = after_stays e x a es (changed y s es) (more own) h

same_kept : (t : SymbolTable) → Kept t t
same_kept t x a h n = h

kept_on : (t u v : SymbolTable) → Kept t u → Kept u v → Kept t v
kept_on t u v f g x a h n = g x a (f x a h n) n

added_kept : (t : SymbolTable) (x : Name) (s : Symbol) → Kept t (added t x s)
added_kept t x s = by (find x t) refl
  where
    by : (o : Option Symbol) → find x t ≡ o → Kept t (if is_some o then t else changed x s t)
    by None h = changed_kept t x s (λ a e. absurd (nothing_some a (sym h ∙ e)))
    by (Some a) h = same_kept t

defined_kept : (t : SymbolTable) (x : Name) (s : Symbol) → Kept t (if satisfies is_uninitialized (find x t) then changed x s t else t)
defined_kept t x s = by (find x t) refl
  where
    pick : (a : Symbol) (b : Bool) → find x t ≡ Some a → is_uninitialized a ≡ b → Kept t (if b then changed x s t else t)
    pick a true h e = changed_kept t x s (λ c g. ap is_uninitialized (some_same c a (sym g ∙ h)) ∙ e)
    pick a false h e = same_kept t

    by : (o : Option Symbol) → find x t ≡ o → Kept t (if satisfies is_uninitialized o then changed x s t else t)
    by None h = same_kept t
    by (Some a) h = pick a (is_uninitialized a) h refl

after_kept : (t : SymbolTable) (i : Item) → Kept t (after t i)
after_kept t (DimensionAttribute bs) = same_kept t
after_kept t (TypedEntity constant bs e) = added_kept t e.name (symbol_of t constant bs e.start)
after_kept t (Definition c) = defined_kept t c.name (Constant (number t c.value))
after_kept t (TemplateEntity e) = added_kept t e.name _
after_kept t (ArrangementEntity e) = added_kept t e.name _

all_kept : (t : SymbolTable) (is : List PlacedItem) → Kept t (after_all t is)
all_kept t [] = same_kept t
all_kept t (i ∷ is) = kept_on t (after t i.what) (after_all (after t i.what) is) (after_kept t i.what) (all_kept (after t i.what) is)

-- ---- symbols

abbrev pub HaveNumbers : SymbolTable → List Expression → Type 0
HaveNumbers t es = AllByRecursion (λ e. is_some (number t e) ≡ true) es

abbrev pub AreTyped : SymbolTable → List Expression → Type 0
AreTyped u es = AllByRecursion (λ e. is_some (type_and_rank Statement u e) ≡ true) es

have_numbers : (t u : SymbolTable) → Kept t u → AllRight t → (es : List Expression) → list_any (λ e. is_invalid (value None t e)) es ≡ false → AreTyped u es → HaveNumbers t es
have_numbers t u k r [] h typed = tt
have_numbers t u k r (e ∷ es) h typed =
    let s = neither (is_invalid (value None t e)) (list_any (λ e. is_invalid (value None t e)) es) h in
    (has_number t u k (found_right t r) e s.0 typed.0, have_numbers t u k r es s.1 typed.1)

constant_right : (n : Option ℤ) → is_some n ≡ true → IsRight (Constant n)
constant_right None h = absurd (true≢false (sym h))
constant_right (Some n) h = tt

initialized_right : (n : Option ℤ) → is_some n ≡ true → IsRight (Initialized n)
initialized_right None h = absurd (true≢false (sym h))
initialized_right (Some n) h = tt

array_right : (r : ℕ) (o : Option (List Dim)) (n : Option ℤ) (ds : List Dim) → o ≡ Some ds → r ≡ length ds → is_some n ≡ true → IsRight (Array r o n)
array_right r None n ds h is k = absurd (nothing_some ds h)
array_right r (Some l) None ds h is k = absurd (true≢false (sym k))
array_right r (Some l) (Some n) ds h is k = is ∙ ap length (sym (some_same l ds h))

start_known : (t : SymbolTable) (e : Option Expression) → HaveNumbers t (present e) → is_some (start_of t e) ≡ true
start_known t None h = refl
start_known t (Some e) h = h.0

lower_known : (t : SymbolTable) (e : Option Expression) → HaveNumbers t (present e) → is_some (number_or (pos 1) t e) ≡ true
lower_known t None h = refl
lower_known t (Some e) h = h.0

abbrev pub AreOf : ℕ → Option (List Dim) → Type 0
AreOf n o = (ds : List Dim) × ((o ≡ Some ds) × (n ≡ length ds))

one_dim : (n : ℕ) (l u : Option ℤ) (o : Option (List Dim)) → is_some l ≡ true → is_some u ≡ true → AreOf n o → AreOf (suc n) (with_dim l u o)
one_dim n None u o a b more = absurd (true≢false (sym a))
one_dim n (Some l) None o a b more = absurd (true≢false (sym b))
one_dim n (Some l) (Some u) o a b more = (record { lower = l; upper = u } ∷ more.0, (ap (with_dim (Some l) (Some u)) more.1.0, ap suc more.1.1))

dims_known : (t : SymbolTable) (bs : List Bound) → HaveNumbers t (flat_map bound_expressions bs) → AreOf (length bs) (dims t bs)
dims_known t [] h = ([], (refl, refl))
dims_known t (b ∷ bs) h =
    let s = all_split (λ e. is_some (number t e) ≡ true) (bound_expressions b) (flat_map bound_expressions bs) h in
    let own = all_split (λ e. is_some (number t e) ≡ true) (present b.lower) (b.upper ∷ []) s.0 in
    one_dim (length bs) (number_or (pos 1) t b.lower) (number t b.upper) (dims t bs) (lower_known t b.lower own.0) own.1.0 (dims_known t bs s.1)

symbol_right : (t : SymbolTable) (constant : Bool) (bs : Option (List Bound)) (e : Option Expression) → past_limits t constant bs ≡ false →
    HaveNumbers t (flat_map bound_expressions (bounds_of bs) ++ present e) → IsRight (symbol_of t constant bs e)
symbol_right t true bs e h numbers =
    constant_right (start_of t e) (start_known t e (all_split (λ e. is_some (number t e) ≡ true) (flat_map bound_expressions (bounds_of bs)) (present e) numbers).1)
symbol_right t false None None h numbers = tt
symbol_right t false None (Some e) h numbers = initialized_right (number t e) numbers.0
symbol_right t false (Some bs) e h numbers =
    let s = all_split (λ e. is_some (number t e) ≡ true) (flat_map bound_expressions bs) (present e) numbers in
    let known = dims_known t bs s.0 in
    array_right (length bs) (if is_past_limits t bs then None else dims t bs) (start_of t e) known.0 (ap (λ b. if b then None else dims t bs) h ∙ known.1.0) known.1.1
    (start_known t e s.1)

-- ---- items

-- the expressions on which the symbol of an item rests
abbrev pub needed : Item → List Expression
needed (DimensionAttribute bs) = []
needed i = constants_of i

valid : (t : SymbolTable) (i : Item) → item_reasons t i ≡ [] → list_any (λ e. is_invalid (value None t e)) (constants_of i) ≡ false
valid t i h = fails _ _ (empties _ _ h).1

added_right : (t : SymbolTable) (x : Name) (s : Symbol) → IsRight s → AllRight t → AllRight (added t x s)
added_right t x s own r = if_right (is_some (find x t)) t (changed x s t) r (changed_right t x s own r)

item_right : (t u : SymbolTable) → Kept t u → AllRight t → (i : Item) → item_reasons t i ≡ [] → AreTyped u (needed i) → AllRight (after t i)
item_right t u k r (DimensionAttribute bs) h typed = r
item_right t u k r (TypedEntity constant bs e) h typed =
    added_right t e.name (symbol_of t constant bs e.start)
    (symbol_right t constant bs e.start (fails _ _ (empties _ _ (empties _ _ (empties _ _ h).0).0).1)
    (have_numbers t u k r (constants_of (TypedEntity constant bs e)) (valid t (TypedEntity constant bs e) h) typed)) r
item_right t u k r (Definition c) h typed =
    if_right (satisfies is_uninitialized (find c.name t)) (changed c.name (Constant (number t c.value)) t) t
    (changed_right t c.name (Constant (number t c.value)) (constant_right (number t c.value) (have_numbers t u k r (c.value ∷ []) (valid t (Definition c) h) typed).0) r) r
item_right t u k r (TemplateEntity e) h typed = added_right t e.name _ tt r
item_right t u k r (ArrangementEntity e) h typed = added_right t e.name _ tt r

all_right : (u t : SymbolTable) (is : List PlacedItem) → after_all t is ≡ u → AllRight t → item_breaches t is ≡ [] → AllByRecursion (λ i. AreTyped u (needed i.what)) is →
    AllRight u
all_right u t [] e r h typed = subst AllRight e r
all_right u t (i ∷ is) e r h typed =
    let s = empties (at i.line (item_reasons t i.what)) (item_breaches (after t i.what) is) h in
    all_right u (after t i.what) is e (item_right t u (subst (Kept t) e (all_kept t (i ∷ is))) r i.what (no_reason i.line (item_reasons t i.what) s.0) typed.0) s.1 typed.1

-- ---- the expressions of declarations have types

is_typed : (o : Option TypeAndRank) → if_typed is_integer_scalar o ≡ true → is_some o ≡ true
is_typed None h = absurd (true≢false (sym h))
is_typed (Some s) h = refl

scalars_typed : (u : SymbolTable) (es : List Expression) → list_all (λ p. meets Statement u p.requirement p.expression) (map (place IntegerScalar) es) ≡ true → AreTyped u es
scalars_typed u [] h = tt
scalars_typed u (e ∷ es) h = let s = both (if_typed is_integer_scalar (type_and_rank Statement u e)) _ h in (is_typed _ s.0, scalars_typed u es s.1)

entity_typed : (u : SymbolTable) (bs own : Option (List Bound)) (start : Option Expression) → AreTyped u (flat_map bound_expressions (bounds_of bs)) →
    AreTyped u (flat_map bound_expressions (bounds_of own) ++ present start) → AreTyped u (flat_map bound_expressions (bounds_of (own_or own bs)) ++ present start)
entity_typed u bs None start f h = all_append (λ e. is_some (type_and_rank Statement u e) ≡ true) (flat_map bound_expressions (bounds_of bs)) (present start) f h
entity_typed u bs (Some own) start f h = h

entities_typed : (u : SymbolTable) (constant : Bool) (bs : Option (List Bound)) (es : List Entity) → AreTyped u (flat_map bound_expressions (bounds_of bs)) →
    AreTyped u (flat_map typed_expressions es) → AllByRecursion (λ i. AreTyped u (needed i)) (map (λ e. TypedEntity constant (own_or e.bounds bs) e) es)
entities_typed u constant bs [] f h = tt
entities_typed u constant bs (e ∷ es) f h =
    let s = all_split (λ e. is_some (type_and_rank Statement u e) ≡ true) (typed_expressions e) (flat_map typed_expressions es) h in
    (entity_typed u bs e.bounds e.start f s.0, entities_typed u constant bs es f s.1)

attribute_typed : (u : SymbolTable) (bs : Option (List Bound)) → AllByRecursion (λ i. AreTyped u (needed i)) (map DimensionAttribute (present bs))
attribute_typed u None = tt
attribute_typed u (Some bs) = (tt, tt)

constants_typed : (u : SymbolTable) (cs : List NamedConstant) → AreTyped u (map (λ c. c.value) cs) → AllByRecursion (λ i. AreTyped u (needed i)) (map Definition cs)
constants_typed u [] h = tt
constants_typed u (c ∷ cs) h = ((h.0, tt), constants_typed u cs h.1)

templates_typed : (u : SymbolTable) (es : List Entity) → AllByRecursion (λ i. AreTyped u (needed i)) (map TemplateEntity es)
templates_typed u [] = tt
templates_typed u (e ∷ es) = (tt, templates_typed u es)

arrangements_typed : (u : SymbolTable) (es : List Entity) → AllByRecursion (λ i. AreTyped u (needed i)) (map ArrangementEntity es)
arrangements_typed u [] = tt
arrangements_typed u (e ∷ es) = (tt, arrangements_typed u es)

declared_typed : (u : SymbolTable) (d : Declared) → declaration_meets u d ≡ true → AllByRecursion (λ i. AreTyped u (needed i)) (items_of d)
declared_typed u ImplicitNone h = tt
declared_typed u (Integer d) h =
    let s = all_split (λ e. is_some (type_and_rank Statement u e) ≡ true) (flat_map bound_expressions (bounds_of d.bounds)) (flat_map typed_expressions d.entities)
    (scalars_typed u (type_expressions d) h) in
    all_append (λ i. AreTyped u (needed i)) (map DimensionAttribute (present d.bounds)) (map (λ e. TypedEntity d.constant (own_or e.bounds d.bounds) e) d.entities)
    (attribute_typed u d.bounds) (entities_typed u d.constant d.bounds d.entities s.0 s.1)
declared_typed u (Parameter cs) h = constants_typed u cs (scalars_typed u (map (λ c. c.value) cs) h)
declared_typed u (Directed (TemplateDirective es)) h = templates_typed u es
declared_typed u (Directed (Processors es)) h = arrangements_typed u es
declared_typed u (Directed d) h = tt

items_typed : (u : SymbolTable) (ds : List Declaration) → AllByRecursion (λ d. declaration_breaches_at u d ≡ []) ds → AllByRecursion (λ i. AreTyped u (needed i.what)) (items ds)
items_typed u [] h = tt
items_typed u (d ∷ ds) h =
    all_append (λ i. AreTyped u (needed i.what)) (map (λ i. record { line = d.line; what = i }) (items_of d.what)) (items ds)
    (all_map (λ i. AreTyped u (needed i.what)) (λ i. record { line = d.line; what = i }) (items_of d.what) (declared_typed u d.what (holds _ _ (no_reason d.line _ h.0))))
    (items_typed u ds h.1)

-- ---- programs

symbol_known : (s : Symbol) → IsRight s → is_known s ≡ true
symbol_known Uninitialized h = refl
symbol_known (Initialized None) h = absurd h
symbol_known (Initialized (Some n)) h = refl
symbol_known (Constant None) h = absurd h
symbol_known (Constant (Some n)) h = refl
symbol_known (Array r None n) h = absurd h
symbol_known (Array r (Some ds) None) h = absurd h
symbol_known (Array r (Some ds) (Some n)) h = refl
symbol_known (Template r) h = refl
symbol_known (Arrangement r) h = refl

table_known : (t : SymbolTable) → AllRight t → list_all (λ e. is_known e.1) t ≡ true
table_known [] r = refl
table_known (e ∷ es) r = (λ i. symbol_known e.1 r.0 i && table_known es r.1 i)

pub all_known : (p : MainProgram) → AllAreKnown p
all_known p names ranks =
    let u = symbol_table p.declarations in
    let ns = empties _ _ (empties _ _ (empties _ _ (empties _ _ (no_breach (name_breaches p) names)).0).0).0 in
    let rs = empties (flat_map (declaration_breaches_at u) p.declarations) _ (no_breach (rank_breaches p) ranks) in
    table_known u (all_right u [] (items p.declarations) refl tt ns.0 (items_typed u p.declarations (all_empty (declaration_breaches_at u) p.declarations rs.0)))
