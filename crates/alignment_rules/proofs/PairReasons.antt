-- The least of reasons that are put together, and tests of lists of a few expressions.
use Rattle.std.proofs.Common.{◌≡◌, Bool, true, false, List, [], ◌∷◌, ◌++◌, append_assoc, refl, sym, ap, ◌∙◌}
use Rattle.std.specs.Prelude.{◌&&◌, ◌||◌, not}
use Rattle.std.specs.List.{flat_map, list_all, list_any}
use Rattle.std.proofs.lemmas.List.{append-nil}
use Rattle.hpf_base.specs.declared.refusal.Reason.{Reason}
use Rattle.declarations.specs.Declaring.{least_reason, lesser, reason_if}
use Rattle.declarations.specs.Reasons.{when}
use Rattle.declarations.proofs.LeastReasons.{least_reason_append, least_reason_when}

-- a list of reasons, and one more that a test gives
pub least_with_test : (whys : List Reason) (test : Bool) (why : Reason) → least_reason (whys ++ when test why) ≡ lesser (least_reason whys) (reason_if test why)
least_with_test whys test why = least_reason_append whys (when test why) ∙ ap (lesser (least_reason whys)) (least_reason_when test why)

pub least_of_two : (a : Bool) (x : Reason) (b : Bool) (y : Reason) → least_reason (when a x ++ when b y) ≡ lesser (reason_if a x) (reason_if b y)
least_of_two a x b y = least_with_test (when a x) b y ∙ ap (λ r. lesser r (reason_if b y)) (least_reason_when a x)

-- tests of one item
pub all_of_one : {X : Type 0} (p : X → Bool) (x : X) → list_all p (x ∷ []) ≡ p x
all_of_one p x = by (p x)
  where
    by : (b : Bool) → (b && true) ≡ b
    by true = refl
    by false = refl

pub any_of_one : {X : Type 0} (p : X → Bool) (x : X) → list_any p (x ∷ []) ≡ p x
any_of_one p x = by (p x)
  where
    by : (b : Bool) → (b || false) ≡ b
    by true = refl
    by false = refl

pub or_assoc : (a b c : Bool) → (a || b || c) ≡ (a || (b || c))
or_assoc true b c = refl
or_assoc false b c = refl

pub any_append : {X : Type 0} (p : X → Bool) (xs ys : List X) → list_any p (xs ++ ys) ≡ (list_any p xs || list_any p ys)
any_append p [] ys = refl
any_append p (x ∷ xs) ys = ap (λ b. p x || b) (any_append p xs ys) ∙ sym (or_assoc (p x) (list_any p xs) (list_any p ys))

pub any_append_three : {X : Type 0} (p : X → Bool) (xs ys zs : List X) → list_any p (xs ++ ys ++ zs) ≡ (list_any p xs || list_any p ys || list_any p zs)
any_append_three p xs ys zs = any_append p (xs ++ ys) zs ∙ ap (λ b. b || list_any p zs) (any_append p xs ys)

-- the tests of an ALIGN in another order
pub tests_regrouped : (repeated overlapping mapped : Bool) → (overlapping || not (not repeated && mapped)) ≡ (repeated || overlapping || not mapped)
tests_regrouped true true true = refl
tests_regrouped true true false = refl
tests_regrouped true false true = refl
tests_regrouped true false false = refl
tests_regrouped false true true = refl
tests_regrouped false true false = refl
tests_regrouped false false true = refl
tests_regrouped false false false = refl

-- lists that are joined one after the other
flat_append : {X Y : Type 0} (f : X → List Y) (xs ys : List X) → flat_map f (xs ++ ys) ≡ flat_map f xs ++ flat_map f ys
flat_append f [] ys = refl
flat_append f (x ∷ xs) ys = ap (λ l. f x ++ l) (flat_append f xs ys) ∙ sym (append_assoc (f x) (flat_map f xs) (flat_map f ys))

flat_after : {X Y : Type 0} (f : X → List Y) (before after : List Y) (xs ys : List X) → after ≡ before ++ flat_map f xs ++ flat_map f ys →
    after ≡ before ++ flat_map f (xs ++ ys)
flat_after f before after xs ys is =
    is ∙ append_assoc before (flat_map f xs) (flat_map f ys) ∙ ap (λ l. before ++ l) (sym (flat_append f xs ys))

pub flat_three : {X Y : Type 0} (f : X → List Y) (before one two after : List Y) (xs ys zs : List X) → one ≡ before ++ flat_map f xs → two ≡ one ++ flat_map f ys →
    after ≡ two ++ flat_map f zs → after ≡ before ++ flat_map f (xs ++ ys ++ zs)
flat_three f before one two after xs ys zs of_one of_two of_all =
    flat_after f before after (xs ++ ys) zs
    (of_all ∙ ap (λ l. l ++ flat_map f zs) (flat_after f before two xs ys (of_two ∙ ap (λ l. l ++ flat_map f ys) of_one)))

pub flat_one : {X Y : Type 0} (f : X → List Y) (x : X) → flat_map f (x ∷ []) ≡ f x
flat_one f x = append-nil (f x)
