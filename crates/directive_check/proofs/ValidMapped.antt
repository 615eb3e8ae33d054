-- What holds of the objects that directives map, where no rule is broken.
use Rattle.std.proofs.Common.{◌≡◌, ℕ, Bool, true, false, inl, cond, bytes_eq, find, List, [], ◌∷◌, ◌++◌, map, Option, Some, option_map, refl, sym, subst, ◌∙◌}
use Rattle.std.specs.List.{flat_map}
use Rattle.std.specs.Prelude.{⊤, if◌then◌else◌}
use Rattle.std.proofs.lemmas.Option.{same_Some}
use Rattle.std.proofs.lemmas.Slice.Eq.{bytes_eq-Decides}
use Rattle.hpf_base.specs.FirstBreach.{Among}
use Rattle.hpf_base.specs.Refusal.{NoBreach}
use Rattle.hpf_base.specs.declared.refusal.Reason.{Reason}
use Rattle.hpf_base.specs.declared.refusal.Refusal.{Refusal}
use Rattle.syntax_tree.specs.Directive as directive
use Rattle.syntax_tree.specs.MainProgram.{Declared, ImplicitNone, Integer, Parameter, Directed, Declaration}
use Rattle.expression_rules.specs.Symbols.{Name}
use Rattle.declarations.specs.Reasons.{at}
use Rattle.distribution_rules.specs.DistributionRules.{distribution_reasons, distribution_values, distributee_reasons}
use Rattle.distribution_rules.specs.Setting.{Setting, object}
use Rattle.alignment_rules.specs.AlignmentRules.{alignee_reasons, alignment_reasons}
use Rattle.alignment_rules.proofs.AlignedLaws.{are_aligned}
use Rattle.directive_check.specs.MappedObjects.{How, Aligned, Distributed, MappedObject, how_mapped, mapped_by, mapped_object, mapped_objects}
use Rattle.directive_check.specs.MappingRules.{chain_reasons, declared_breaches, declared_reasons}
use Rattle.directive_check.proofs.ValidChains.{AreSound}

-- ---- lists without breaches

pub no_breach : (rs : List Refusal) → NoBreach (Among rs) → rs ≡ []
no_breach [] none = refl
no_breach (r ∷ rs) none = absurd (none r.line r.reason (inl refl))

pub none_of : {X : Type 0} (xs ys : List X) → xs ++ ys ≡ [] → (xs ≡ []) × (ys ≡ [])
none_of [] ys none = (refl, none)
none_of (x ∷ xs) ys none = absurd cc

pub none_at : (line : ℕ) (whys : List Reason) → at line whys ≡ [] → whys ≡ []
none_at line [] none = refl
none_at line (why ∷ whys) none = absurd cc

-- ---- mapped objects

-- how an object is mapped breaks no rule
abbrev pub GoodHow : Setting → Name → How → Type 0
GoodHow s x (Distributed d) = (distribution_reasons (distribution_values s d) ≡ []) × (distributee_reasons (distribution_values s d) (object s x) ≡ [])
GoodHow s x (Aligned a) = (alignment_reasons s a ≡ []) × (alignee_reasons s a x ≡ [])

abbrev pub AllGood : Setting → List MappedObject → Type 0
AllGood s [] = ⊤
AllGood s (m ∷ ms) = GoodHow s m.name m.how × AllGood s ms

good_append : (s : Setting) (xs ys : List MappedObject) → AllGood s xs → AllGood s ys → AllGood s (xs ++ ys)
good_append s [] ys left right = right
good_append s (x ∷ xs) ys left right = (left.0, good_append s xs ys left.1 right)

distributed_good : (s : Setting) (line : ℕ) (d : directive.Distribution) (xs : List Name) → distribution_reasons (distribution_values s d) ≡ [] →
    flat_map (λ x. distributee_reasons (distribution_values s d) (object s x)) xs ≡ [] → AllGood s (map (mapped_object line (Distributed d)) xs)
distributed_good s line d [] own none = tt
distributed_good s line d (x ∷ xs) own none =
    let each = none_of (distributee_reasons (distribution_values s d) (object s x)) _ none in
    ((own, each.0), distributed_good s line d xs own each.1)

aligned_good : (s : Setting) (line : ℕ) (a : directive.Alignment) (xs : List Name) → alignment_reasons s a ≡ [] → flat_map (alignee_reasons s a) xs ≡ [] →
    AllGood s (map (mapped_object line (Aligned a)) xs)
aligned_good s line a [] own none = tt
aligned_good s line a (x ∷ xs) own none = let each = none_of (alignee_reasons s a x) _ none in ((own, each.0), aligned_good s line a xs own each.1)

declared_good : (s : Setting) (line : ℕ) (w : Declared) → declared_reasons s w ≡ [] → AllGood s (mapped_by line w)
declared_good s line ImplicitNone none = tt
declared_good s line (Integer d) none = tt
declared_good s line (Parameter cs) none = tt
declared_good s line (Directed (directive.Processors es)) none = tt
declared_good s line (Directed (directive.Template es)) none = tt
declared_good s line (Directed (directive.Dynamic xs)) none = tt
declared_good s line (Directed (directive.Distribute d)) none =
    let both = none_of (distribution_reasons (distribution_values s d)) _ none in distributed_good s line d d.names both.0 both.1
declared_good s line (Directed (directive.Align a)) none = let both = none_of (alignment_reasons s a) _ none in aligned_good s line a a.names both.0 both.1
declared_good s line (Directed directive.Passed) none = tt

pub all_good : (s : Setting) (ds : List Declaration) → declared_breaches s ds ≡ [] → AllGood s (mapped_objects ds)
all_good s [] none = tt
all_good s (d ∷ ds) none =
    let both = none_of (at d.line (declared_reasons s d.what)) _ none in
    good_append s (mapped_by d.line d.what) (mapped_objects ds) (declared_good s d.line d.what (none_at d.line _ both.0)) (all_good s ds both.1)

-- what is said of each object is said of how a name is mapped
found_in : (P : Name → How → Type 0) (x : Name) (m : MappedObject) (rest : Option How) (h : How) (b : Bool) → bytes_eq x m.name ≡ b → P m.name m.how → (rest ≡ Some h → P x h) →
    (if b then Some m.how else rest) ≡ Some h → P x h
found_in P x m rest h true same good others is =
    let name : x ≡ m.name = (bytes_eq-Decides x m.name).0 same in
    subst (P x) (same_Some m.how h is) (subst (λ y. P y m.how) (sym name) good)
found_in P x m rest h false same good others is = others is

how_more : (x : Name) (m : MappedObject) (ms : List MappedObject) → how_mapped (m ∷ ms) x ≡ (if bytes_eq x m.name then Some m.how else how_mapped ms x)
how_more x m ms = by (bytes_eq x m.name)
  where
    by : (b : Bool) → option_map (λ n. n.how) (cond b (Some m) (find (λ n. bytes_eq x n.name) ms)) ≡ (if b then Some m.how else how_mapped ms x)
    by true = refl
    by false = refl

pub good_found : (s : Setting) (ms : List MappedObject) (x : Name) (h : How) → AllGood s ms → how_mapped ms x ≡ Some h → GoodHow s x h
good_found s [] x h good is = absurd cc
good_found s (m ∷ ms) x h good is =
    found_in (GoodHow s) x m (how_mapped ms x) h (bytes_eq x m.name) refl good.0 (good_found s ms x h good.1) (sym (how_more x m ms) ∙ is)

-- the alignments that are known are valid
pub all_sound : (s : Setting) (ms : List MappedObject) → AllGood s ms → AreSound s ms
all_sound s ms good y a how es known =
    let kept = good_found s ms y (Aligned a) good how in
    let are = are_aligned s a y es kept.0 kept.1 known in
    record { count = are.one_each; dims = are.dims; apart = are.apart }

-- an object that is mapped breaks no rule among the others
pub chain_found : (s : Setting) (all ms : List MappedObject) (x : Name) (h : How) → flat_map (λ m. at m.line (chain_reasons s all m.name)) ms ≡ [] →
    how_mapped ms x ≡ Some h → chain_reasons s all x ≡ []
chain_found s all [] x h none is = absurd cc
chain_found s all (m ∷ ms) x h none is =
    let both = none_of (at m.line (chain_reasons s all m.name)) _ none in
    found_in (λ y k. chain_reasons s all y ≡ []) x m (how_mapped ms x) h (bytes_eq x m.name) refl (none_at m.line _ both.0)
    (chain_found s all ms x h both.1) (sym (how_more x m ms) ∙ is)
