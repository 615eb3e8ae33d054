-- What holds of the declarations of a program that breaks no rule, and of the objects that they map.
use Rattle.std.proofs.Common.{◌≡◌, ℕ, Bool, true, false, bytes_eq, cond, find, List, [], ◌∷◌, map, Option, Some, refl, sym, ap, subst, ◌∙◌}
use Rattle.std.specs.Prelude.{option_map, if◌then◌else◌}
use Rattle.std.specs.List.{AllByRecursion, flat_map, list_all}
use Rattle.std.proofs.lemmas.Slice.Eq.{bytes_eq-Decides}
use Rattle.hpf_base.specs.declared.refusal.Reason.TheVariants as reason
use Rattle.syntax_tree.specs.Directive as directive
use Rattle.syntax_tree.specs.Expression.{Expression}
use Rattle.syntax_tree.specs.MainProgram.{Declared, ImplicitNone, Integer, Parameter, Directed, Declaration}
use Rattle.expression_rules.specs.Inner.{format_expressions}
use Rattle.expression_rules.specs.Symbols.{Name, SymbolTable, find as find_symbol, is_declared, with_dummies}
use Rattle.expression_rules.specs.Types.{if_typed, is_integer_scalar, type_and_rank}
use Rattle.expression_rules.specs.declared.symbols.Symbol.{Symbol}
use Rattle.expression_rules.specs.declared.types.Context.TheVariants.{Directive}
use Rattle.declarations.specs.Declarations.{items_of}
use Rattle.declarations.specs.Reasons.{at}
use Rattle.name_table.specs.Directives.{directive_dummies, directive_expressions, directive_names, dummies, target_expressions, targets_of}
use Rattle.name_table.specs.KnownSymbols.{is_known}
use Rattle.name_table.specs.NameRules.{directive_breaches_at, directive_reasons}
use Rattle.name_table.specs.Places.{all_meet, integer_scalars}
use Rattle.name_table.specs.RankRules.{declaration_breaches_at, declaration_meets}
use Rattle.name_table.specs.Uses.{Listed, allows}
use Rattle.distribution_rules.specs.DistributionRules.{distribution_reasons, distribution_values, distributee_reasons}
use Rattle.distribution_rules.specs.Setting.{Setting, object}
use Rattle.alignment_rules.specs.AlignmentRules.{align_reasons, alignee_reasons, alignment_reasons}
use Rattle.directive_check.specs.MappedObjects.{How, Aligned, Distributed, MappedObject, how_mapped, mapped_by, mapped_object, mapped_objects}
use Rattle.directive_check.specs.MappingRules.{chain_reasons, declared_breaches, declared_reasons}
use Rattle.name_table.proofs.Tests.{all_append, all_split, both, empties, fails, holds, no_reason, none_some, some_same}
use Rattle.name_table.proofs.TypedOperands.{typed_value}
use Rattle.known_mappings.proofs.Objects.{AreDeclared, AreTyped, HasFew, IsGood, IsTyped}

-- ---- declarations

pub scalars_typed : (u : SymbolTable) (es : List Expression) → all_meet Directive u (integer_scalars es) ≡ true → AllByRecursion (IsTyped u) es
scalars_typed u [] h = tt
scalars_typed u (e ∷ es) h =
    let two = both (if_typed is_integer_scalar (type_and_rank Directive u e)) (all_meet Directive u (integer_scalars es)) h in
    (typed_value is_integer_scalar (type_and_rank Directive u e) two.0, scalars_typed u es two.1)

declared_typed : (t : SymbolTable) (d : Declared) → declaration_meets t d ≡ true → AreTyped t d
declared_typed t (Directed d) h = scalars_typed (with_dummies t (directive_dummies d)) (directive_expressions d) h
declared_typed t ImplicitNone h = tt
declared_typed t (Integer d) h = tt
declared_typed t (Parameter cs) h = tt

listed_declared : (t : SymbolTable) (xs : List Name) → list_all (allows t []) (map Listed xs) ≡ true → AllByRecursion (λ x. is_declared x t ≡ true) xs
listed_declared t [] h = tt
listed_declared t (x ∷ xs) h = let two = both (is_declared x t) (list_all (allows t []) (map Listed xs)) h in (two.0, listed_declared t xs two.1)

declared_named : (t : SymbolTable) (d : Declared) → directive_reasons t d ≡ [] → AreDeclared t d
declared_named t (Directed d) h = listed_declared t (directive_names d) (both _ _ (holds _ (fails _ reason.BadName h))).0
declared_named t ImplicitNone h = tt
declared_named t (Integer d) h = tt
declared_named t (Parameter cs) h = tt

pub all_good : (s : Setting) (ds : List Declaration) → declared_breaches s ds ≡ [] → flat_map (declaration_breaches_at s.names) ds ≡ [] →
    flat_map (directive_breaches_at s.names) ds ≡ [] → AllByRecursion (λ d. AllByRecursion HasFew (items_of d.what)) ds → AllByRecursion (IsGood s) ds
all_good s [] reasons ranks names few = tt
all_good s (d ∷ ds) reasons ranks names few =
    let one = empties (at d.line (declared_reasons s d.what)) _ reasons in
    let two = empties (declaration_breaches_at s.names d) _ ranks in
    let three = empties (directive_breaches_at s.names d) _ names in (
      record {
        reasons = no_reason d.line (declared_reasons s d.what) one.0;
        types = declared_typed s.names d.what (holds (declaration_meets s.names d.what) (fails _ reason.BadRank (no_reason d.line _ two.0)));
        names = declared_named s.names d.what (no_reason d.line _ three.0);
        ranks = few.0;
      },
      all_good s ds one.1 two.1 three.1 few.1,
    )

-- what is known of all names is known of one
pub found_known : (t : SymbolTable) → list_all (λ e. is_known e.1) t ≡ true → (x : Name) (a : Symbol) → find_symbol x t ≡ Some a → is_known a ≡ true
found_known [] h x a is = absurd (none_some a is)
found_known (e ∷ t) h x a is =
    let two = both (is_known e.1) (list_all (λ f. is_known f.1) t) h in by (bytes_eq x e.0) is two.0 (found_known t two.1 x a)
  where
    by : (b : Bool) → cond b (Some e.1) (find_symbol x t) ≡ Some a → is_known e.1 ≡ true → (find_symbol x t ≡ Some a → is_known a ≡ true) → is_known a ≡ true
    by true is own more = sym (ap is_known (some_same e.1 a is)) ∙ own
    by false is own more = more is

-- ---- mapped objects

-- how an object is mapped breaks no rule
pub record IsGoodDistribution (s : Setting) (x : Name) (d : directive.Distribution) : Type 0 where
  pub reasons : distribution_reasons (distribution_values s d) ≡ []
  pub own : distributee_reasons (distribution_values s d) (object s x) ≡ []
  pub types : AllByRecursion (IsTyped s.names) (flat_map format_expressions d.formats)

pub record IsGoodAlignment (s : Setting) (x : Name) (a : directive.Alignment) : Type 0 where
  pub reasons : align_reasons s a ≡ []
  pub own : alignee_reasons s a x ≡ []
  pub types : AllByRecursion (IsTyped (with_dummies s.names (dummies a))) (flat_map target_expressions (targets_of a.subscripts))
  pub named : is_declared x s.names ≡ true

abbrev pub IsGoodHow : Setting → Name → How → Type 0
IsGoodHow s x (Distributed d) = IsGoodDistribution s x d
IsGoodHow s x (Aligned a) = IsGoodAlignment s x a

abbrev pub AreGood : Setting → List MappedObject → Type 0
AreGood s ms = AllByRecursion (λ m. IsGoodHow s m.name m.how) ms

distributed_good : (s : Setting) (line : ℕ) (d : directive.Distribution) (xs : List Name) → distribution_reasons (distribution_values s d) ≡ [] →
    AllByRecursion (IsTyped s.names) (flat_map format_expressions d.formats) → flat_map (λ x. distributee_reasons (distribution_values s d) (object s x)) xs ≡ [] →
    AreGood s (map (mapped_object line (Distributed d)) xs)
distributed_good s line d [] reasons types own = tt
distributed_good s line d (x ∷ xs) reasons types own =
    let two = empties (distributee_reasons (distribution_values s d) (object s x)) _ own in
    (record { reasons = reasons; own = two.0; types = types }, distributed_good s line d xs reasons types two.1)

aligned_good : (s : Setting) (line : ℕ) (a : directive.Alignment) (xs : List Name) → align_reasons s a ≡ [] →
    AllByRecursion (IsTyped (with_dummies s.names (dummies a))) (flat_map target_expressions (targets_of a.subscripts)) → flat_map (alignee_reasons s a) xs ≡ [] →
    AllByRecursion (λ x. is_declared x s.names ≡ true) xs → AreGood s (map (mapped_object line (Aligned a)) xs)
aligned_good s line a [] reasons types own named = tt
aligned_good s line a (x ∷ xs) reasons types own named =
    let two = empties (alignee_reasons s a x) _ own in
    (record { reasons = reasons; own = two.0; types = types; named = named.0 }, aligned_good s line a xs reasons types two.1 named.1)

mapped_good : (s : Setting) (line : ℕ) (d : Declared) → declared_reasons s d ≡ [] → AreTyped s.names d → AreDeclared s.names d → AreGood s (mapped_by line d)
mapped_good s line (Directed (directive.Distribute d)) reasons types named =
    let two = empties (distribution_reasons (distribution_values s d)) _ reasons in distributed_good s line d d.names two.0 types two.1
mapped_good s line (Directed (directive.Align a)) reasons types named =
    let two = empties (alignment_reasons s a) (flat_map (alignee_reasons s a) a.names) reasons in
    aligned_good s line a a.names reasons types two.1 (all_split (λ x. is_declared x s.names ≡ true) a.names (a.target ∷ []) named).0
mapped_good s line (Directed d) reasons types named = tt
mapped_good s line ImplicitNone reasons types named = tt
mapped_good s line (Integer d) reasons types named = tt
mapped_good s line (Parameter cs) reasons types named = tt

pub objects_good : (s : Setting) (ds : List Declaration) → AllByRecursion (IsGood s) ds → AreGood s (mapped_objects ds)
objects_good s [] h = tt
objects_good s (d ∷ ds) h =
    all_append (λ m. IsGoodHow s m.name m.how) (mapped_by d.line d.what) (mapped_objects ds) (mapped_good s d.line d.what h.0.reasons h.0.types h.0.names) (objects_good s ds h.1)

-- ---- the first mapping of a name

found_in : (P : Name → How → Type 0) (x : Name) (m : MappedObject) (rest : Option How) (h : How) (b : Bool) → bytes_eq x m.name ≡ b → P m.name m.how → (rest ≡ Some h → P x h) →
    (if b then Some m.how else rest) ≡ Some h → P x h
found_in P x m rest h true same good others is =
    let name : x ≡ m.name = (bytes_eq-Decides x m.name).0 same in
    subst (P x) (some_same m.how h is) (subst (λ y. P y m.how) (sym name) good)
found_in P x m rest h false same good others is = others is

how_more : (x : Name) (m : MappedObject) (ms : List MappedObject) → how_mapped (m ∷ ms) x ≡ (if bytes_eq x m.name then Some m.how else how_mapped ms x)
how_more x m ms = by (bytes_eq x m.name)
  where
    by : (b : Bool) → option_map (λ n. n.how) (cond b (Some m) (find (λ n. bytes_eq x n.name) ms)) ≡ (if b then Some m.how else how_mapped ms x)
    by true = refl
    by false = refl

pub good_found : (s : Setting) (ms : List MappedObject) (x : Name) (h : How) → AreGood s ms → how_mapped ms x ≡ Some h → IsGoodHow s x h
good_found s [] x h good is = absurd (none_some h is)
good_found s (m ∷ ms) x h good is =
    found_in (IsGoodHow s) x m (how_mapped ms x) h (bytes_eq x m.name) refl good.0 (good_found s ms x h good.1) (sym (how_more x m ms) ∙ is)

-- an object that is mapped breaks no rule among the others
pub chain_found : (s : Setting) (all ms : List MappedObject) (x : Name) (h : How) → flat_map (λ m. at m.line (chain_reasons s all m.name)) ms ≡ [] →
    how_mapped ms x ≡ Some h → chain_reasons s all x ≡ []
chain_found s all [] x h none is = absurd (none_some h is)
chain_found s all (m ∷ ms) x h none is =
    let two = empties (at m.line (chain_reasons s all m.name)) _ none in
    found_in (λ y k. chain_reasons s all y ≡ []) x m (how_mapped ms x) h (bytes_eq x m.name) refl (no_reason m.line _ two.0)
    (chain_found s all ms x h two.1) (sym (how_more x m ms) ∙ is)
