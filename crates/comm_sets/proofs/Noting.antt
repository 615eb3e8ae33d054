-- What is noted by one step after another.
use Rattle.std.proofs.Common.{◌≡◌, ℕ, suc, ◌+◌, ◌<◌, nat_eq, ◌&&◌, ◌||◌, Bool, true, false, List, [], ◌∷◌, ◌++◌, length, map, set, get_or, take, Option, Some, None, refl, sym, ◌∙◌, ap, subst, arith, eq-eqb, ◌⊎◌, inl, inr}
use Rattle.std.proofs.lemmas.Bool.{cases_eq, ne_eqb}
use Rattle.std.proofs.lemmas.List.{get_or-set_same, get_or-set_other, length-set, length-map, map-set, get_or-map, take_more}
use Rattle.storage.specs.Storage.{Spot}
use Rattle.storage.specs.Storage.{is_same_spot}
use Rattle.machine_steps.specs.Message.{names_spot, any_below}
use Rattle.message_elements.specs.Elements.{is_among, is_named, OneMore}
use Rattle.comm_sets.specs.Noted.{Lists, Noted}

-- nothing
pub noted-none : (lists : Lists) → Noted lists lists (λ node spot. false)
noted-none lists = record { nodes = refl; among = λ node lt spot. refl }

or_assoc : (a b c : Bool) → (a || (b || c)) ≡ ((a || b) || c)
or_assoc true b c = refl
or_assoc false b c = refl

-- one step, and another
pub noted-more : {a b c : Lists} {f g h : ℕ → Spot → Bool} → Noted a b f → Noted b c g
    → ((node : ℕ) → node < length a → (spot : Spot) → (g node spot || f node spot) ≡ h node spot) → Noted a c h
noted-more {a} {b} {c} {f} {g} {h} one other both = record {
  nodes = other.nodes ∙ one.nodes;
  among = λ node lt spot.
      other.among node (omega (arith, one.nodes)) spot
      ∙ ap (λ t. g node spot || t) (one.among node lt spot)
      ∙ or_assoc (g node spot) (f node spot) (is_among (get_or a node []) spot)
      ∙ ap (λ t. t || is_among (get_or a node []) spot) (both node lt spot);
}

-- by a test that agrees
pub noted-same : {a b : Lists} {f : ℕ → Spot → Bool} (g : ℕ → Spot → Bool) → ((node : ℕ) → node < length a → (spot : Spot) → f node spot ≡ g node spot) → Noted a b f → Noted a b g
noted-same {a} {b} {f} g same noted = record {
  nodes = noted.nodes;
  among = λ node lt spot. noted.among node lt spot ∙ ap (λ t. t || is_among (get_or a node []) spot) (same node lt spot);
}

noted-set : (lists : Lists) (node : ℕ) (list : List Spot) (spot : Spot) → node < length lists → OneMore spot (get_or lists node []) list
    → Noted lists (set lists node list) (λ other s. nat_eq node other && is_same_spot spot s)
noted-set lists node list spot lt more = record {
  nodes = length-set lists node list;
  among = λ other lt' s. by_case other s (cases_eq node other);
}
  where
    by_case : (other : ℕ) (s : Spot) → (node ≡ other) ⊎ (node ≡ other → ⊥)
        → is_among (get_or (set lists node list) other []) s ≡ ((nat_eq node other && is_same_spot spot s) || is_among (get_or lists other []) s)
    by_case other s (inl same) =
        ap (λ o. is_among (get_or (set lists node list) o []) s) (sym same)
        ∙ ap (λ xs. is_among xs s) (get_or-set_same lists node list [] lt)
        ∙ more s
        ∙ ap (λ o. is_same_spot spot s || is_among (get_or lists o []) s) same
        ∙ ap (λ b. (b && is_same_spot spot s) || is_among (get_or lists other []) s) (sym (eq-eqb node other same))
    by_case other s (inr apart) =
        ap (λ xs. is_among xs s) (get_or-set_other lists node other list [] (λ e. apart (sym e)))
        ∙ ap (λ b. (b && is_same_spot spot s) || is_among (get_or lists other []) s) (sym (ne_eqb node other apart))

-- one element more in a node's row
pub noted-row : {V : Type 0} (f : V → List Spot) (rows : List V) (node : ℕ) (old new : V) (spot : Spot) → node < length rows → OneMore spot (f old) (f new) → old ≡ get_or rows node old
    → Noted (map f rows) (map f (set rows node new)) (λ other s. nat_eq node other && is_same_spot spot s)
noted-row f rows node old new spot lt more was =
    subst (λ (after : Lists). Noted (map f rows) after (λ other s. nat_eq node other && is_same_spot spot s)) (sym (map-set f rows node new))
    (noted-set (map f rows) node (f new) spot (omega (arith, length-map rows f))
    (λ s. more s ∙ ap (λ xs. is_same_spot spot s || is_among xs s) (ap f was ∙ sym (get_or-map f rows node old [] lt))))

-- one read more
pub names-more : {R : Type 0} (f : R → Option Spot) (reads : List R) (i : ℕ) (d : R) (s : Spot) → i < length reads
    → names_spot (map f (take (i + 1) reads)) s ≡ (is_named (f (get_or reads i d)) s || names_spot (map f (take i reads)) s)
names-more {R} f reads i d s lt = ap (λ rs. names_spot (map f rs) s) (take_more reads i d lt) ∙ one_more (take i reads) (get_or reads i d)
  where
    turned : (a b c : Bool) → (a || (b || c)) ≡ (b || (a || c))
    turned true true c = refl
    turned true false c = refl
    turned false b c = refl

    names-cons : (read : Option Spot) (reads : List (Option Spot)) → names_spot (read ∷ reads) s ≡ (is_named read s || names_spot reads s)
    names-cons None reads = refl
    names-cons (Some x) reads = refl

    one_more : (rs : List R) (r : R) → names_spot (map f (rs ++ r ∷ [])) s ≡ (is_named (f r) s || names_spot (map f rs) s)
    one_more [] r = names-cons (f r) []
    one_more (x ∷ rs) r =
        names-cons (f x) (map f (rs ++ r ∷ [])) ∙ ap (λ b. is_named (f x) s || b) (one_more rs r)
        ∙ turned (is_named (f x) s) (is_named (f r) s) (names_spot (map f rs) s)
        ∙ ap (λ b. is_named (f r) s || b) (sym (names-cons (f x) (map f rs)))

-- one tuple more
pub below-more : (P : ℕ → Bool) (n : ℕ) → any_below P (n + 1) ≡ (P n || any_below P n)
below-more P n = let e : n + 1 ≡ suc n = omega arith in ap (any_below P) e

pub both-within : (within a b : Bool) → ((within && a) || (within && b)) ≡ (within && (a || b))
both-within true a b = refl
both-within false a b = refl
