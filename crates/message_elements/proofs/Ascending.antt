-- Two lists in order with the same elements are one list.
use Rattle.std.proofs.Common.{◌≡◌, ℕ, ◌<◌, nat_eq, ◌&&◌, ◌||◌, Bool, true, false, List, [], ◌∷◌, ◌++◌, Ordering, Less, Equal, Greater, refl, sym, ◌∙◌, ap, subst, eq-eqb}
use Rattle.std.proofs.lemmas.Bool.{eqb-true, true≢false}
use Rattle.std.proofs.lemmas.Cmp.{nat_cmp_total, then_total, on_total, tied_itself}
use Rattle.std.proofs.lemmas.Map.Keys.{sorted_head, sorted_tail}
use Rattle.std.specs.Cmp.{IsTotalOrder, both_tied, nat_cmp_is, unsigned_tied}
use Rattle.std.specs.List.{AllByRecursion}
use Rattle.std.specs.List.Sorted.{IsStrictlySortedBy}
use Rattle.std.specs.Ordering.{nat_cmp, ordering_then, ordering_reverse, is_eq, eq_by_cmp}
use Rattle.storage.specs.Storage.{Spot}
use Rattle.storage.specs.Storage.{is_same_spot}
use Rattle.message_elements.specs.Ascending.{spot_cmp, Ascends}
use Rattle.message_elements.specs.Elements.{is_among}

pub spot-total : IsTotalOrder spot_cmp
spot-total = then_total (on_total (λ (s : Spot). s.row) nat_cmp_total) (on_total (λ (s : Spot). s.at) nat_cmp_total)

-- the test of spots is that of the order
pub same-tied : (one other : Spot) → is_same_spot one other ≡ eq_by_cmp spot_cmp one other
same-tied one other =
    both_tied (nat_eq one.row other.row) (nat_eq one.at other.at) (nat_cmp one.row other.row) (nat_cmp one.at other.at)
    (sym (unsigned_tied one.row other.row)) (sym (unsigned_tied one.at other.at))

pub same-true : (one other : Spot) → is_same_spot one other ≡ true → one ≡ other
same-true one other same = by_case (nat_eq one.row other.row) (nat_eq one.at other.at) refl refl same
  where
    by_case : (a b : Bool) → nat_eq one.row other.row ≡ a → nat_eq one.at other.at ≡ b → (a && b) ≡ true → one ≡ other
    by_case true true ea eb h = let e = eqb-true one.row other.row ea in let f = eqb-true one.at other.at eb in λ i. record { row = e i; at = f i }
    by_case true false ea eb h = cc
    by_case false b ea eb h = cc

pub same-refl : (spot : Spot) → is_same_spot spot spot ≡ true
same-refl spot = rw (eq-eqb spot.row spot.row refl, eq-eqb spot.at spot.at refl) refl

-- an element of a lower row, and one before in the same row
pub less-row : (row at row' at' : ℕ) → row < row' → spot_cmp (record { row = row; at = at }) (record { row = row'; at = at' }) ≡ Less
less-row row at row' at' lt = ap (λ o. ordering_then o (nat_cmp at at')) (sym (nat_cmp_is row row' Less lt))

pub less-at : (row at at' : ℕ) → at < at' → spot_cmp (record { row = row; at = at }) (record { row = row; at = at' }) ≡ Less
less-at row at at' lt = ap (λ o. ordering_then o (nat_cmp at at')) (tied_itself nat_cmp_total row) ∙ sym (nat_cmp_is at at' Less lt)

-- all are after the element
abbrev pub Above : Spot → List Spot → Type 0
Above spot spots = AllByRecursion (λ s. spot_cmp spot s ≡ Less) spots

pub ascends-cons : (spot : Spot) (spots : List Spot) → Above spot spots → Ascends spots → Ascends (spot ∷ spots)
unfolding IsStrictlySortedBy
ascends-cons spot spots above rest = (above, rest)

pub ascends-nil : Ascends []
unfolding IsStrictlySortedBy
ascends-nil = tt

pub above-append : (spot : Spot) (xs ys : List Spot) → Above spot xs → Above spot ys → Above spot (xs ++ ys)
above-append spot [] ys above all = all
above-append spot (x ∷ xs) ys above all = (above.0, above-append spot xs ys above.1 all)

above-lower : (one other : Spot) (spots : List Spot) → spot_cmp one other ≡ Less → Above other spots → Above one spots
above-lower one other [] less above = tt
above-lower one other (s ∷ spots) less above = (spot-total.trans one other s less above.0, above-lower one other spots less above.1)

above-none : (spot : Spot) (spots : List Spot) → Above spot spots → is_among spots spot ≡ false
above-none spot [] above = refl
above-none spot (s ∷ spots) above =
    let other : is_same_spot s spot ≡ false = same-tied s spot ∙ ap is_eq (spot-total.antisymm s spot ∙ ap (λ o. ordering_reverse o) above.0) in
    ap (λ b. b || is_among spots spot) other ∙ above-none spot spots above.1

-- a list after another
pub ascends-append : (xs ys : List Spot) → Ascends xs → Ascends ys → AllByRecursion (λ x. Above x ys) xs → Ascends (xs ++ ys)
ascends-append [] ys ascends others before = others
ascends-append (x ∷ xs) ys ascends others before =
    ascends-cons x (xs ++ ys) (above-append x xs ys (sorted_head spot_cmp x xs ascends) before.0)
    (ascends-append xs ys (sorted_tail spot_cmp x xs ascends) others before.1)

among-first : (spot : Spot) (spots : List Spot) → is_among (spot ∷ spots) spot ≡ true
among-first spot spots = ap (λ b. b || is_among spots spot) (same-refl spot)

-- what a list in order begins with is after no element of a list with the same elements
not-less : (x y : Spot) (xs ys : List Spot) → Ascends (y ∷ ys) → ((s : Spot) → is_among (x ∷ xs) s ≡ is_among (y ∷ ys) s) → spot_cmp x y ≡ Less → ⊥
not-less x y xs ys ascends same less =
    true≢false (sym (among-first x xs) ∙ same x ∙ above-none x (y ∷ ys) (less, above-lower x y ys less (sorted_head spot_cmp y ys ascends)))

same-rest : (x : Spot) (xs ys : List Spot) → Above x xs → Above x ys → ((s : Spot) → is_among (x ∷ xs) s ≡ is_among (x ∷ ys) s) → (s : Spot) → is_among xs s ≡ is_among ys s
same-rest x xs ys above above' same s = by_case (is_same_spot x s) refl (same s)
  where
    by_case : (b : Bool) → is_same_spot x s ≡ b → (b || is_among xs s) ≡ (b || is_among ys s) → is_among xs s ≡ is_among ys s
    by_case true e h =
        let first = same-true x s e in
        subst (λ (t : Spot). is_among xs t ≡ is_among ys t) first (above-none x xs above ∙ sym (above-none x ys above'))
    by_case false e h = h

pub one-list : (xs ys : List Spot) → Ascends xs → Ascends ys → ((s : Spot) → is_among xs s ≡ is_among ys s) → xs ≡ ys
one-list [] [] ascends others same = refl
one-list [] (y ∷ ys) ascends others same = absurd (true≢false (sym (among-first y ys) ∙ sym (same y)))
one-list (x ∷ xs) [] ascends others same = absurd (true≢false (sym (among-first x xs) ∙ same x))
one-list (x ∷ xs) (y ∷ ys) ascends others same = by_case (spot_cmp x y) refl (λ k. one-list xs ys (sorted_tail spot_cmp x xs ascends) (sorted_tail spot_cmp y ys others) k)
  where
    by_case : (o : Ordering) → spot_cmp x y ≡ o → (((s : Spot) → is_among xs s ≡ is_among ys s) → xs ≡ ys) → x ∷ xs ≡ y ∷ ys
    by_case Less e rest = absurd (not-less x y xs ys others same e)
    by_case Equal e rest =
        let first : x ≡ y = same-true x y (same-tied x y ∙ ap is_eq e) in
        let with-x : (s : Spot) → is_among (x ∷ xs) s ≡ is_among (x ∷ ys) s = λ s. same s ∙ ap (λ (t : Spot). is_among (t ∷ ys) s) (sym first) in
        let above : Above x ys = subst (λ (t : Spot). Above t ys) (sym first) (sorted_head spot_cmp y ys others) in
        let last = rest (same-rest x xs ys (sorted_head spot_cmp x xs ascends) above with-x) in
        λ i. first i ∷ last i
    by_case Greater e rest =
        absurd (not-less y x ys xs ascends (λ s. sym (same s)) (spot-total.antisymm y x ∙ ap (λ o. ordering_reverse o) e))
