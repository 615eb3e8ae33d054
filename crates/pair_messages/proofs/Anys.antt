-- What holds of one of a list.
use Rattle.std.proofs.Common.{◌≡◌, ℕ, zero, suc, ◌+◌, ◌<◌, ◌≤◌, ◌&&◌, ◌||◌, Bool, true, false, if◌then◌else◌, List, [], ◌∷◌, filter, get_or, length, map, take, Option, Some, None, refl, sym, ◌∙◌, ap, arith}
use Rattle.std.proofs.lemmas.List.Folds.{list_any-append, list_any_more}
use Rattle.std.specs.List.{list_any, range_with_len}
use Rattle.hpf_base.proofs.Ranges.{range_with_len-add}
use Rattle.storage.specs.Storage.{Spot}
use Rattle.machine_steps.specs.Message.{any_below, names_spot}
use Rattle.message_elements.specs.Elements.{is_named}
use Rattle.message_elements.proofs.AllSpots.{both-tests}
use Rattle.courses.specs.References.{Named, named_spot}
use Rattle.pair_messages.specs.Sent.{is_named_by, is_named_of}

pub and-false : (b : Bool) → (b && false) ≡ false
and-false true = refl
and-false false = refl

or-false : (b : Bool) → (b || false) ≡ b
or-false true = refl
or-false false = refl

turned : (a b : Bool) → (a || b) ≡ (b || a)
turned true true = refl
turned true false = refl
turned false b = sym (or-false b)

crossed : (a b c d : Bool) → ((a || b) || (c || d)) ≡ ((a || c) || (b || d))
crossed true b c d = refl
crossed false true true d = refl
crossed false true false d = refl
crossed false false c d = refl

module _ {A : Type 0} where
  pub any-and : (f : A → Bool) (b : Bool) (xs : List A) → list_any (λ x. f x && b) xs ≡ (list_any f xs && b)
  any-and f b [] = refl
  any-and f b (x ∷ xs) = ap (λ r. (f x && b) || r) (any-and f b xs) ∙ both-tests (f x) (list_any f xs) b

  pub any-or : (f g : A → Bool) (xs : List A) → list_any (λ x. f x || g x) xs ≡ (list_any f xs || list_any g xs)
  any-or f g [] = refl
  any-or f g (x ∷ xs) = ap (λ r. (f x || g x) || r) (any-or f g xs) ∙ crossed (f x) (g x) (list_any f xs) (list_any g xs)

  pub any-filter : (f p : A → Bool) (xs : List A) → list_any f (filter p xs) ≡ list_any (λ x. p x && f x) xs
  any-filter f p [] = refl
  any-filter f p (x ∷ xs) = by_case (p x) ∙ ap (λ r. (p x && f x) || r) (any-filter f p xs)
    where
      by_case : (b : Bool) → list_any f (if b then x ∷ filter p xs else filter p xs) ≡ ((b && f x) || list_any f (filter p xs))
      by_case true = refl
      by_case false = refl

pub any-next : {A B : Type 0} (f : B → Bool) (g : A → B) (xs : List A) (n : ℕ) (x : A) → n < length xs → x ≡ get_or xs n x
    → list_any f (map g (take (n + 1) xs)) ≡ (f (g x) || list_any f (map g (take n xs)))
any-next {A} f g xs n x within at =
    any-map (take (n + 1) xs) ∙ list_any_more (λ y. f (g y)) xs n x within ∙ turned (list_any (λ y. f (g y)) (take n xs)) (f (g (get_or xs n x)))
    ∙ ap (λ b. f (g (get_or xs n x)) || b) (sym (any-map (take n xs))) ∙ ap (λ y. f (g y) || list_any f (map g (take n xs))) (sym at)
  where
    any-map : (ys : List A) → list_any f (map g ys) ≡ list_any (λ y. f (g y)) ys
    any-map [] = refl
    any-map (y ∷ ys) = ap (λ b. f (g y) || b) (any-map ys)

pub any-none : (f : ℕ → Bool) (xs : List ℕ) → ((t : ℕ) → f t ≡ false) → list_any f xs ≡ false
any-none f [] none = refl
any-none f (x ∷ xs) none = ap (λ b. b || list_any f xs) (none x) ∙ any-none f xs none

pub any-range : (f g : ℕ → Bool) (lo len : ℕ) → ((t : ℕ) → lo ≤ t → t < lo + len → f t ≡ g t) → list_any f (range_with_len lo len) ≡ list_any g (range_with_len lo len)
any-range f g lo zero same = refl
any-range f g lo (suc len) same =
    ap (λ b. b || list_any f (range_with_len (lo + 1) len)) (same lo (omega arith) (omega arith))
    ∙ ap (λ r. g lo || r) (any-range f g (lo + 1) len (λ t from below. same t (omega (arith, from)) (omega (arith, below))))

-- of the numbers below one
pub any-below : (P : ℕ → Bool) (n : ℕ) → any_below P n ≡ list_any P (range_with_len 0 n)
any-below P zero = refl
any-below P (suc n) =
    let one : n + 1 ≡ suc n = omega arith in
    let at : 0 + n ≡ n = omega arith in
    ap (λ b. P n || b) (any-below P n) ∙ turned (P n) (list_any P (range_with_len 0 n))
    ∙ sym (ap (λ m. list_any P (range_with_len 0 m)) (sym one) ∙ ap (list_any P) (range_with_len-add 0 n 1)
    ∙ list_any-append P (range_with_len 0 n) (range_with_len (0 + n) 1)
    ∙ ap (λ k. list_any P (range_with_len 0 n) || (P k || false)) at
    ∙ ap (λ b. list_any P (range_with_len 0 n) || b) (or-false (P n)))

names-first : (o : Option Spot) (reads : List (Option Spot)) (s : Spot) → names_spot (o ∷ reads) s ≡ (is_named o s || names_spot reads s)
names-first None reads s = refl
names-first (Some x) reads s = refl

-- what the references name, as what is read
pub names-any : (ns : List ℕ) (rs : List Named) (t : ℕ) (s : Spot) → names_spot (map (named_spot ns t) rs) s ≡ is_named_of ns rs t s
names-any ns [] t s = refl
names-any ns (r ∷ rs) t s = names-first (named_spot ns t r) (map (named_spot ns t) rs) s ∙ ap (λ b. is_named_by ns r t s || b) (names-any ns rs t s)

shared : (c n m : Bool) → ((c && n) || (c && m)) ≡ (c && (n || m))
shared true n m = refl
shared false n m = refl

-- what one of the references names at one of the tuples
pub any-reads : (ns : List ℕ) (c : ℕ → Bool) (s : Spot) (ts : List ℕ) (rs : List Named)
    → list_any (λ r. list_any (λ t. c t && is_named_by ns r t s) ts) rs ≡ list_any (λ t. c t && is_named_of ns rs t s) ts
any-reads ns c s ts [] = sym (any-and c false ts ∙ and-false (list_any c ts))
any-reads ns c s ts (r ∷ rs) =
    ap (λ b. list_any (λ t. c t && is_named_by ns r t s) ts || b) (any-reads ns c s ts rs)
    ∙ sym (any-or (λ t. c t && is_named_by ns r t s) (λ t. c t && is_named_of ns rs t s) ts)
    ∙ (λ i. list_any (λ t. shared (c t) (is_named_by ns r t s) (is_named_of ns rs t s) i) ts)
