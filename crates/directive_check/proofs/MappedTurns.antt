-- Mapped objects and names that stand before, taken one after the other.
use Rattle.std.proofs.Common.{◌≡◌, ℕ, ◌+◌, ◌<◌, Bool, true, false, cond, List, [], ◌∷◌, ◌++◌, append_assoc, drop, length, get_or, Option, Some, None, bytes_eq, refl, sym, ap, ◌∙◌}
use Rattle.std.specs.Prelude.{◌||◌, not, find, option_map}
use Rattle.std.specs.Option.{option_or}
use Rattle.std.proofs.lemmas.List.Folds.{find-append}
use Rattle.std.proofs.lemmas.List.{map-append}
use Rattle.std.proofs.lemmas.Slice.Eq.{bytes_eq-Decides}
use Rattle.hpf_base.specs.declared.refusal.Reason.TheVariants.{BadDirective}
use Rattle.hpf_base.specs.declared.refusal.Refusal.{Refusal}
use Rattle.hpf_base.specs.FirstBreach.{earlier, least}
use Rattle.hpf_base.proofs.FirstBreaches.{earlier_assoc, least_append}
use Rattle.expression_rules.proofs.Lists.{drop_item}
use Rattle.expression_rules.specs.Symbols.{Name, is_among}
use Rattle.declarations.specs.Reasons.{at, when}
use Rattle.distribution_rules.specs.Setting.{Setting, has_kind, is_mapped_kind, object}
use Rattle.directive_check.specs.declared.dynamic_names.DynamicName.{DynamicName as HeldName}
use Rattle.directive_check.specs.declared.mapped_object.MappedObject.{MappedObject as HeldObject}
use Rattle.directive_check.specs.MappedSteps.{dynamic, dynamic_at, how_of, mapped, mapped_of}
use Rattle.directive_check.specs.MappedObjects.{DynamicName, How, MappedObject, dynamic_breaches, how_mapped, mapped_twice}

or_map : {A B : Type 0} (f : A → B) (a b : Option A) → option_map f (option_or a b) ≡ option_or (option_map f a) (option_map f b)
or_map f None b = refl
or_map f (Some a) b = refl

-- the first object with a name
pub find_in_mapped : (ms : List HeldObject) (x : Name) → find (λ m. bytes_eq x m.name) (mapped ms) ≡ option_map mapped_of (find (λ m. bytes_eq x m.name.now) ms)
find_in_mapped [] x = refl
find_in_mapped (m ∷ ms) x = by (find_in_mapped ms x) (bytes_eq x m.name.now)
  where
    by : find (λ o. bytes_eq x o.name) (mapped ms) ≡ option_map mapped_of (find (λ o. bytes_eq x o.name.now) ms) → (t : Bool) →
        cond t (Some (mapped_of m)) (find (λ o. bytes_eq x o.name) (mapped ms)) ≡ option_map mapped_of (cond t (Some m) (find (λ o. bytes_eq x o.name.now) ms))
    by rest true = refl
    by rest false = rest

pub how_found : (ms : List HeldObject) (x : Name) (o : Option HeldObject) → o ≡ find (λ m. bytes_eq x m.name.now) ms →
    how_mapped (mapped ms) x ≡ option_map (λ m. m.how) (option_map mapped_of o)
how_found ms x o is = ap (option_map (λ m. m.how)) (find_in_mapped ms x ∙ ap (option_map mapped_of) (sym is))

how_append : (a b : List HeldObject) (x : Name) → how_mapped (mapped (a ++ b)) x ≡ option_or (how_mapped (mapped a) x) (how_mapped (mapped b) x)
how_append a b x =
    ap (λ l. how_mapped l x) (map-append mapped_of a b)
    ∙ ap (option_map (λ m. m.how)) (find-append (λ m. bytes_eq x m.name) (mapped a) (mapped b))
    ∙ or_map (λ m. m.how) (find (λ m. bytes_eq x m.name) (mapped a)) (find (λ m. bytes_eq x m.name) (mapped b))

-- a turn of the loop that keeps each object as it is mapped first
pub firsts_next : (ms : List HeldObject) (n : ℕ) (m : HeldObject) (before after : List HeldObject) → n < length ms → m ≡ get_or ms n m →
    ((x : Name) → how_mapped (mapped after) x ≡ how_mapped (mapped (before ++ m ∷ [])) x) →
    ((x : Name) → how_mapped (mapped (before ++ drop n ms)) x ≡ how_mapped (mapped ms) x) →
    (x : Name) → how_mapped (mapped (after ++ drop (n + 1) ms)) x ≡ how_mapped (mapped ms) x
firsts_next ms n m before after within is added so_far x =
    let rest = drop (n + 1) ms in
    how_append after rest x
    ∙ ap (λ h. option_or h (how_mapped (mapped rest) x)) (added x)
    ∙ sym (how_append (before ++ m ∷ []) rest x)
    ∙ ap (λ l. how_mapped (mapped l) x) (append_assoc before (m ∷ []) rest ∙ ap (λ l. before ++ l) (sym (drop_item ms n m within is)))
    ∙ so_far x

-- an object that is mapped before is found as it was
pub found_before : (ms : List HeldObject) (m o : HeldObject) → Some o ≡ find (λ y. bytes_eq m.name.now y.name.now) ms → (x : Name) →
    how_mapped (mapped ms) x ≡ how_mapped (mapped (ms ++ m ∷ [])) x
found_before ms m o found x = by (bytes_eq x m.name.now) refl ∙ sym (how_append ms (m ∷ []) x)
  where
    only : Bool → Option How
    only t = option_map (λ y. y.how) (cond t (Some (mapped_of m)) None)

    none : (h : Option How) → h ≡ option_or h None
    none None = refl
    none (Some h) = refl

    by : (t : Bool) → bytes_eq x m.name.now ≡ t → how_mapped (mapped ms) x ≡ option_or (how_mapped (mapped ms) x) (only (bytes_eq x m.name.now))
    by false e = none (how_mapped (mapped ms) x) ∙ ap (λ t. option_or (how_mapped (mapped ms) x) (only t)) (sym e)
    by true e =
        let here : how_mapped (mapped ms) x ≡ Some (how_of o.directive.now) =
        ap (λ y. how_mapped (mapped ms) y) ((bytes_eq-Decides x m.name.now).0 e) ∙ how_found ms m.name.now (Some o) found in
        here ∙ ap (λ h. option_or h (only (bytes_eq x m.name.now))) (sym here)

-- names of DYNAMIC, one list after the other
pub dynamic_append : (a b : List HeldName) → dynamic (a ++ b) ≡ dynamic a ++ dynamic b
dynamic_append a b = map-append (λ d. dynamic_at d.line d.name) a b

-- ---- names that stood before

-- what is wrong with items in turn, where these names stood before: it matters which they are, not in which order
abbrev pub Respects : (X : Type 0) → (List Name → List X → List Refusal) → Type 0
Respects X F = (a b : List Name) → ((y : Name) → is_among y a ≡ is_among y b) → (xs : List X) → F a xs ≡ F b xs

same_more : (a b : List Name) (x : Name) → ((y : Name) → is_among y a ≡ is_among y b) → (y : Name) → is_among y (x ∷ a) ≡ is_among y (x ∷ b)
same_more a b x same y = ap (λ t. bytes_eq y x || t) (same y)

pub twice_respects : Respects MappedObject mapped_twice
twice_respects a b same [] = refl
twice_respects a b same (m ∷ ms) =
    λ i. at m.line (when (same m.name i) BadDirective) ++ twice_respects (m.name ∷ a) (m.name ∷ b) (same_more a b m.name same) ms i

pub dynamic_respects : (s : Setting) → Respects DynamicName (dynamic_breaches s)
dynamic_respects s a b same [] = refl
dynamic_respects s a b same (d ∷ ds) =
    λ i. at d.line (when (not (has_kind is_mapped_kind (object s d.name)) || same d.name i) BadDirective)
    ++ dynamic_respects s (d.name ∷ a) (d.name ∷ b) (same_more a b d.name same) ds i

-- a turn of a loop over such items
pub again_next : {X : Type 0} (F : List Name → List X → List Refusal) (f : List Name → X → List Refusal) (name : X → Name) →
    ((seen : List Name) (x : X) (xs : List X) → F seen (x ∷ xs) ≡ f seen x ++ F (name x ∷ seen) xs) → Respects X F →
    (xs : List X) (n : ℕ) (x : X) (seen more : List Name) (first found after : Option Refusal) → n < length xs → x ≡ get_or xs n x →
    found ≡ least (f seen x) → after ≡ earlier first found → ((y : Name) → is_among y more ≡ (bytes_eq y (name x) || is_among y seen)) →
    earlier first (least (F seen (drop n xs))) ≡ least (F [] xs) → earlier after (least (F more (drop (n + 1) xs))) ≡ least (F [] xs)
again_next F f name step respects xs n x seen more first found after within is of_one both added so_far =
    let rest = drop (n + 1) xs in
    (λ i. earlier (both i) (least (respects more (name x ∷ seen) added rest i)))
    ∙ ap (λ o. earlier (earlier first o) (least (F (name x ∷ seen) rest))) of_one
    ∙ earlier_assoc first (least (f seen x)) (least (F (name x ∷ seen) rest))
    ∙ ap (earlier first) (sym (least_append (f seen x) (F (name x ∷ seen) rest)) ∙ ap least (sym (step seen x rest) ∙ ap (F seen) (sym (drop_item xs n x within is))))
    ∙ so_far

-- a turn of the loop that keeps each name once
pub distinct_next : {X : Type 0} (names : List X → List Name) (name : X → Name) → ((x : X) (xs : List X) → names (x ∷ xs) ≡ name x ∷ names xs) →
    (xs : List X) (n : ℕ) (x : X) (seen more : List Name) → n < length xs → x ≡ get_or xs n x →
    ((y : Name) → is_among y more ≡ (bytes_eq y (name x) || is_among y seen)) →
    ((y : Name) → (is_among y seen || is_among y (names (drop n xs))) ≡ is_among y (names xs)) →
    (y : Name) → (is_among y more || is_among y (names (drop (n + 1) xs))) ≡ is_among y (names xs)
distinct_next names name step xs n x seen more within is added so_far y =
    let rest = is_among y (names (drop (n + 1) xs)) in
    ap (λ t. t || rest) (added y)
    ∙ swap (bytes_eq y (name x)) (is_among y seen) rest
    ∙ ap (λ l. is_among y seen || is_among y l) (sym (step x (drop (n + 1) xs)) ∙ ap names (sym (drop_item xs n x within is)))
    ∙ so_far y
  where
    swap : (p q r : Bool) → (p || q || r) ≡ (q || (p || r))
    swap true true r = refl
    swap true false r = refl
    swap false q r = refl
