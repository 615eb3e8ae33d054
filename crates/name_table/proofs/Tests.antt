-- Lists without breaches, tests, and options that have a value.
use Rattle.std.proofs.Common.{◌≡◌, ℕ, Bool, true, false, true≢false, List, [], ◌∷◌, ◌++◌, map, Option, Some, None, inl, refl, sym}
use Rattle.std.specs.Prelude.{◌&&◌, ◌||◌, not, is_some}
use Rattle.std.specs.List.{AllByRecursion, flat_map, list_any}
use Rattle.hpf_base.specs.FirstBreach.{Among}
use Rattle.hpf_base.specs.Refusal.{NoBreach}
use Rattle.hpf_base.specs.declared.refusal.Reason.{Reason}
use Rattle.hpf_base.specs.declared.refusal.Refusal.{Refusal}
use Rattle.declarations.specs.Reasons.{at, when}

not_empty : {A : Type 0} (a : A) (as' : List A) → a ∷ as' ≡ [] → ⊥
not_empty a as' h = cc

pub some_same : {A : Type 0} (a b : A) → Some a ≡ Some b → a ≡ b
some_same a b h = cc

pub none_some : {A : Type 0} (a : A) → None ≡ Some a → ⊥
none_some a h = true≢false (sym (λ i. is_some (h i)))

-- ---- breaches

pub empties : {A : Type 0} (xs ys : List A) → xs ++ ys ≡ [] → (xs ≡ []) × (ys ≡ [])
empties [] ys h = (refl, h)
empties (x ∷ xs) ys h = absurd (not_empty x (xs ++ ys) h)

pub all_empty : {A B : Type 0} (f : A → List B) (xs : List A) → flat_map f xs ≡ [] → AllByRecursion (λ x. f x ≡ []) xs
all_empty f [] h = tt
all_empty f (x ∷ xs) h = let e = empties (f x) (flat_map f xs) h in (e.0, all_empty f xs e.1)

pub no_breach : (rs : List Refusal) → NoBreach (Among rs) → rs ≡ []
no_breach [] h = refl
no_breach (r ∷ rs) h = absurd (h r.line r.reason (inl refl))

pub no_reason : (line : ℕ) (whys : List Reason) → at line whys ≡ [] → whys ≡ []
no_reason line [] h = refl
no_reason line (why ∷ whys) h = absurd (not_empty _ _ h)

pub fails : (b : Bool) (why : Reason) → when b why ≡ [] → b ≡ false
fails true why h = absurd (not_empty why [] h)
fails false why h = refl

-- ---- lists of which each item has a property

pub all_split : {A : Type 0} (P : A → Type 0) (xs ys : List A) → AllByRecursion P (xs ++ ys) → AllByRecursion P xs × AllByRecursion P ys
all_split P [] ys h = (tt, h)
all_split P (x ∷ xs) ys h = let more = all_split P xs ys h.1 in ((h.0, more.0), more.1)

pub all_append : {A : Type 0} (P : A → Type 0) (xs ys : List A) → AllByRecursion P xs → AllByRecursion P ys → AllByRecursion P (xs ++ ys)
all_append P [] ys f g = g
all_append P (x ∷ xs) ys f g = (f.0, all_append P xs ys f.1 g)

pub of_map : {A B : Type 0} (P : B → Type 0) (f : A → B) (xs : List A) → AllByRecursion P (map f xs) → AllByRecursion (λ x. P (f x)) xs
of_map P f [] h = tt
of_map P f (x ∷ xs) h = (h.0, of_map P f xs h.1)

-- ---- tests

pub holds : (b : Bool) → not b ≡ false → b ≡ true
holds true h = refl
holds false h = absurd (true≢false h)

pub both : (a b : Bool) → (a && b) ≡ true → (a ≡ true) × (b ≡ true)
both true b h = (refl, h)
both false b h = absurd (true≢false (sym h))

pub neither : (a b : Bool) → (a || b) ≡ false → (a ≡ false) × (b ≡ false)
neither true b h = absurd (true≢false h)
neither false b h = (refl, h)

pub none_pass : {A : Type 0} (test : A → Bool) (xs : List A) → list_any test xs ≡ false → AllByRecursion (λ x. test x ≡ false) xs
none_pass test [] h = tt
none_pass test (x ∷ xs) h = let s = neither (test x) (list_any test xs) h in (s.0, none_pass test xs s.1)

-- ---- options

abbrev pub HasValue : {A : Type 0} → Option A → Type 0
HasValue o = is_some o ≡ true

pub no_value : false ≡ true → ⊥
no_value h = true≢false (sym h)

-- what it is
pub value_of : {A : Type 0} (o : Option A) → HasValue o → (a : A) × (o ≡ Some a)
value_of None h = absurd (no_value h)
value_of (Some a) h = (a, refl)
