-- The tuples that a node computes, and those at which it may take something.
use Rattle.std.proofs.Common.{◌≡◌, ℕ, zero, suc, ◌+◌, ◌<◌, ◌&&◌, not, Bool, true, false, if◌then◌else◌, List, [], map, filter, Option, Some, None, All, refl, sym, ◌∙◌, ap, subst, arith}
use Rattle.std.proofs.lemmas.List.Elements.{All-nil}
use Rattle.std.specs.List.{list_all, range_with_len}
use Rattle.hpf_base.specs.ElementOrder.{product}
use Rattle.machine_steps.specs.Layout.{Layout}
use Rattle.axis_products.specs.Products.{combined, each, number_at, passing, places_at}
use Rattle.axis_products.specs.Tests.{ArePlaces, Test, holds}
use Rattle.axis_products.proofs.Products.{held}
use Rattle.courses.specs.References.{Named}
use Rattle.visited_tuples.specs.Owned.{Lies, OwnsRow, owns_if_named}
use Rattle.visited_tuples.specs.Own.{IsOwn, listed_tuples}
use Rattle.visited_tuples.specs.Visited.{IsTaking}
use Rattle.visited_tuples.proofs.Members.{all-of, all-at, filter-agree, is-one, one-passing, passing-one}
use Rattle.visited_tuples.proofs.Reading.{own-all, own-rows}

-- what holds where the same is at all tuples
pub holds-each : (c : Test) (places : List ℕ) → c.always ≡ true → holds c places ≡ each c.at 0 places
holds-each c places e = ap (λ b. b && each c.at 0 places) e

filter-none : (a n : ℕ) → filter (λ t. false) (range_with_len a n) ≡ []
filter-none a zero = refl
filter-none a (suc n) = filter-none (a + 1) n

-- the tuples that pass a test, by lists of places
pub listed : (c : Test) (ns : List ℕ) (lists : Option (List (List ℕ))) → ArePlaces c ns lists
    → filter (λ t. holds c (places_at ns t)) (range_with_len 0 (product ns)) ≡ listed_tuples ns lists
listed c ns None is = filter-agree (λ t. holds c (places_at ns t)) (λ t. false) 0 (product ns) (λ t from below. is t) ∙ filter-none 0 (product ns)
listed c ns (Some lists) is =
    held c ns ∙ ap (λ b. map (number_at ns) (if b then combined (passing c.at 0 ns) else [])) is.0 ∙ ap (λ l. map (number_at ns) (combined l)) (sym is.1)

module _ (computes : (node tuple : ℕ) → Bool) (nodes : ℕ) (ns : List ℕ) (id : ℕ) (lists : Option (List (List ℕ))) (beside : List ℕ)
    (own : IsOwn computes nodes ns id lists beside) where
  pub computed : filter (computes id) (range_with_len 0 (product ns)) ≡ listed_tuples ns lists
  computed =
      filter-agree (computes id) (λ t. holds own.test (places_at ns t)) 0 (product ns) (λ t from below. own.own t (omega (arith, below)))
      ∙ listed own.test ns lists own.places

  -- all of them
  pub taking-all : (layouts : List Layout) (rs : List Named) → IsTaking computes layouts ns rs id (listed_tuples ns lists)
  taking-all layouts rs = subst (IsTaking computes layouts ns rs id) computed record {
    below = all-of (λ t. t < product ns) (filter (computes id) (range_with_len 0 (product ns)))
        (λ t any. let h = passing-one (computes id) 0 (product ns) t any in let b = h.0 in omega (arith, b));
    own = all-of (λ t. computes id t ≡ true) (filter (computes id) (range_with_len 0 (product ns))) (λ t any. (passing-one (computes id) 0 (product ns) t any).1);
    every = λ t spot below mine named theirs. one-passing (computes id) 0 (product ns) t (omega arith) (omega (arith, below)) mine;
  }

-- those that aren't within the places at which the node owns all that is read
pub taking-beyond : (computes : (node tuple : ℕ) → Bool) (nodes : ℕ) (ns : List ℕ) (id : ℕ) (lists : List (List ℕ)) (beside : List ℕ)
    (layouts : List Layout) (rs : List Named) (b : ℕ → ℕ → Bool) (ts : List ℕ)
    → IsOwn computes nodes ns id (Some lists) beside → All (Lies ns layouts) rs
    → ((places : List ℕ) → each b 0 places ≡ true → list_all (λ r. holds (owns_if_named layouts id r) places) rs ≡ true)
    → All (λ t. t < product ns) ts
    → ((a : ℕ → ℕ → Bool) → lists ≡ passing a 0 ns → (t : ℕ) → t < product ns → is-one ts t ≡ (each a 0 (places_at ns t) && not (each b 0 (places_at ns t))))
    → IsTaking computes layouts ns rs id ts
taking-beyond computes nodes ns id lists beside layouts rs b ts own lie within below is = record {
  below = below;
  own = all-of (λ t. computes id t ≡ true) ts (λ t any. let small = all-at (λ t. t < product ns) ts t below any in
      own.own t small ∙ holds-each own.test (places_at ns t) own.places.0 ∙ first (each own.test.at 0 (places_at ns t)) (not (each b 0 (places_at ns t))) (sym (is own.test.at own.places.1 t small) ∙ any));
  every = λ t spot small mine named theirs.
      is own.test.at own.places.1 t small
      ∙ ap (λ x. x && not (each b 0 (places_at ns t))) (sym (holds-each own.test (places_at ns t) own.places.0) ∙ sym (own.own t small) ∙ mine)
      ∙ outside (each b 0 (places_at ns t)) refl (λ e. own-all ns layouts rs id t spot lie (within (places_at ns t) e) named) theirs;
}
  where
    first : (a b : Bool) → (a && b) ≡ true → a ≡ true
    first true b e = refl
    first false b e = e

    outside : (e : Bool) {x : Bool} {o : Bool} → x ≡ e → (x ≡ true → o ≡ true) → o ≡ false → not e ≡ true
    outside true is owns theirs = sym theirs ∙ owns is
    outside false is owns theirs = refl

-- where it owns all elements of the rows that are read it takes nothing
pub taking-nothing : (computes : (node tuple : ℕ) → Bool) (ns : List ℕ) (id : ℕ) (layouts : List Layout) (rs : List Named)
    → All (OwnsRow ns layouts id) rs → IsTaking computes layouts ns rs id []
taking-nothing computes ns id layouts rs whole = record {
  below = All-nil (λ t. t < product ns);
  own = All-nil (λ t. computes id t ≡ true);
  every = λ t spot small mine named theirs. let e : true ≡ false = sym (own-rows ns layouts rs id t spot whole named) ∙ theirs in absurd cc;
}
