-- Tuples with one axis more.
use Rattle.std.proofs.Common.{◌≡◌, ℕ, zero, suc, ◌+◌, ◌*◌, ◌/◌, ◌%◌, ◌<◌, ◌≤◌, ◌==◌, ◌&&◌, ◌||◌, nat_eq, not, Bool, true, false, List, [], ◌∷◌, ◌++◌, filter, All, map, refl, sym, ◌∙◌, ap, subst, arith, length, drop, get_or, eq-eqb, ◌⊎◌, inl, inr, mul-le-mul_left, ◌-◌, eqb-true, length-drop}
use Rattle.std.proofs.Math.Nat.{mod-add-div}
use Rattle.std.proofs.lemmas.Bool.{ne_eqb, cases_eq}
use Rattle.std.proofs.lemmas.List.{at_drop_more, drop-map, length-map, map-append, nil_from_length}
use Rattle.std.proofs.lemmas.List.Elements.{All-head, All-tail, All-append, All-cons, All-map, All-nil, All-weaker}
use Rattle.std.proofs.lemmas.Nat.{div_below, mod_below, mod-mul-add, div-mul-add}
use Rattle.std.specs.List.{flat_map, list_any, range_with_len}
use Rattle.hpf_base.specs.ElementOrder.{product}
use Rattle.axis_products.specs.Products.{combined, each, number_at, passing, places_at}
use Rattle.axis_products.proofs.Products.{some_factor}
use Rattle.axis_walks.specs.Lists.{AreBelow}
use Rattle.axis_walks.specs.Rows.{ArePicked, both, first_alone, rows}
use Rattle.axis_walks.proofs.Tests.{is_one, one-passing}

-- ---- numbers

numbers_row : (es : List ℕ) (e : ℕ) (rest ps : List ℕ) → map (number_at (e ∷ es)) (map (λ p. p ∷ rest) ps) ≡ map (λ p. number_at es rest * e + p) ps
numbers_row es e rest [] = refl
numbers_row es e rest (p ∷ ps) = ap (λ ns. (number_at es rest * e + p) ∷ ns) (numbers_row es e rest ps)

pub numbers-rows : (es : List ℕ) (e : ℕ) (ps : List ℕ) (rests : List (List ℕ))
    → map (number_at (e ∷ es)) (flat_map (λ rest. map (λ p. p ∷ rest) ps) rests) ≡ rows e (map (number_at es) rests) ps
numbers-rows es e ps [] = refl
numbers-rows es e ps (rest ∷ rests) =
    map-append (number_at (e ∷ es)) (map (λ p. p ∷ rest) ps) (flat_map (λ rest. map (λ p. p ∷ rest) ps) rests)
    ∙ ap (λ ns. ns ++ map (number_at (e ∷ es)) (flat_map (λ rest. map (λ p. p ∷ rest) ps) rests)) (numbers_row es e rest ps)
    ∙ ap (λ ns. map (λ p. number_at es rest * e + p) ps ++ ns) (numbers-rows es e ps rests)

-- ---- where a list is empty

abbrev pub is_empty : List ℕ → Bool
is_empty ps = length ps == 0

flat_none : (f : List ℕ → ℕ → List ℕ) (rests : List (List ℕ)) → flat_map (λ rest. map (f rest) []) rests ≡ []
flat_none f [] = refl
flat_none f (rest ∷ rests) = flat_none f rests

pub combined-none : (lists : List (List ℕ)) → list_any is_empty lists ≡ true → combined lists ≡ []
combined-none [] some = absurd (cc)
combined-none ([] ∷ lists) some = flat_none (λ rest p. p ∷ rest) (combined lists)
combined-none ((p ∷ ps) ∷ lists) some =
    ap (flat_map (λ rest. map (λ q. q ∷ rest) (p ∷ ps))) (combined-none lists (sym (ap (λ b. b || list_any is_empty lists) filled) ∙ some))
  where
    filled : is_empty (p ∷ ps) ≡ false
    filled = ne_eqb (length (p ∷ ps)) 0 (λ e. let long : length (p ∷ ps) ≡ suc (length ps) = refl in omega (arith, e, long))

-- ---- bounds

abbrev pub AreSome : List ℕ → Type 0
AreSome [] = Unit {0}
AreSome (e ∷ es) = (1 ≤ e) × AreSome es

pub some-extents : (es : List ℕ) (lists : List (List ℕ)) → length lists ≡ length es → AreBelow es lists → list_any is_empty lists ≡ false → AreSome es
some-extents [] lists same below filled = tt
some-extents (e ∷ es) [] same below filled = absurd (let long : length (e ∷ es) ≡ suc (length es) = refl in let short : length none ≡ 0 = refl in omega (arith, same, long, short))
  where
    none : List (List ℕ)
    none = []
some-extents (e ∷ es) ([] ∷ lists) same below filled = absurd (cc)
some-extents (e ∷ es) ((p ∷ ps) ∷ lists) same below filled = (
  (let first : p < e = All-head (λ q. q < e) p ps below.0 in omega (arith, first)),
  some-extents es lists (let a : suc (length lists) ≡ suc (length es) = same in omega (arith, a)) below.1 (sym (ap (λ b. b || list_any is_empty lists) here) ∙ filled),
)
  where
    here : is_empty (p ∷ ps) ≡ false
    here = ne_eqb (length (p ∷ ps)) 0 (λ e. let long : length (p ∷ ps) ≡ suc (length ps) = refl in omega (arith, e, long))

times-some : (e m : ℕ) → 1 ≤ e → m ≤ e * m
times-some (suc e) m some = omega arith
times-some zero m some = absurd (omega (arith, some))

pub drop-most : (es : List ℕ) (k : ℕ) → AreSome es → product (drop k es) ≤ product es
drop-most es zero some = omega arith
drop-most [] (suc k) some = omega arith
drop-most (e ∷ es) (suc k) some = let a = drop-most es k some.1 in let b = times-some e (product es) some.0 in omega (arith, a, b)

row_below : (e m n p : ℕ) → n < m → p < e → n * e + p < e * m
row_below e m n p n-below p-below =
    let most : e * (n + 1) ≤ e * m = mul-le-mul_left e (let a : n + 1 ≤ m = omega (arith, n-below) in a) in omega (arith, most, p-below)

pub rows-below : (e m : ℕ) (ns ps : List ℕ) → All (λ n. n < m) ns → All (λ p. p < e) ps → All (λ t. t < e * m) (rows e ns ps)
rows-below e m [] ps ns-below ps-below = All-nil (λ t. t < e * m)
rows-below e m (n ∷ ns) ps ns-below ps-below =
    All-append (λ t. t < e * m) (map (λ p. n * e + p) ps) (rows e ns ps)
    (All-map (λ t. t < e * m) (λ p. n * e + p) ps
    (All-weaker (λ p. p < e) (λ p. n * e + p < e * m) (λ p below. row_below e m n p (All-head (λ n. n < m) n ns ns-below) below) ps ps-below))
    (rows-below e m ns ps (All-tail (λ n. n < m) n ns ns-below) ps-below)

pub next-fits : (e m most : ℕ) (ns : List ℕ) → e * m ≤ most → All (λ n. n < m) ns → All (λ n. (n + 1) * e ≤ most) ns
next-fits e m most ns few = All-weaker (λ n. n < m) (λ n. (n + 1) * e ≤ most)
    (λ n below. let a : e * (n + 1) ≤ e * m = mul-le-mul_left e (let a : n + 1 ≤ m = omega (arith, below) in a) in omega (arith, a, few)) ns

-- ---- one of the tuples

or_assoc : (a b c : Bool) → (a || b || c) ≡ (a || (b || c))
or_assoc true b c = refl
or_assoc false b c = refl

pub any-append : (test : ℕ → Bool) (xs ys : List ℕ) → list_any test (xs ++ ys) ≡ (list_any test xs || list_any test ys)
any-append test [] ys = refl
any-append test (x ∷ xs) ys = ap (λ b. test x || b) (any-append test xs ys) ∙ sym (or_assoc (test x) (list_any test xs) (list_any test ys))

-- a tuple is one of a row where its row and its place are
one_place : (e n p t : ℕ) → p < e → nat_eq (n * e + p) t ≡ (nat_eq n (t / e) && nat_eq p (t % e))
one_place e n p t below = by_case (cases_eq n (t / e)) (cases_eq p (t % e))
  where
    split : t % e + e * (t / e) ≡ t
    split = mod-add-div t e

    by_case : (n ≡ t / e) ⊎ ((n ≡ t / e) → ⊥) → (p ≡ t % e) ⊎ ((p ≡ t % e) → ⊥) → nat_eq (n * e + p) t ≡ (nat_eq n (t / e) && nat_eq p (t % e))
    by_case (inl a) (inl b) =
        let whole : n * e + p ≡ t = ap (λ n. n * e + p) a ∙ ap (λ p. t / e * e + p) b ∙ (let c = split in omega (arith, c)) in
        eq-eqb (n * e + p) t whole ∙ ap₂' (sym (eq-eqb n (t / e) a)) (sym (eq-eqb p (t % e) b))
      where
        ap₂' : {x y : Bool} → true ≡ x → true ≡ y → true ≡ (x && y)
        ap₂' a b = λ i. a i && b i
    by_case (inl a) (inr differ) =
        ne_eqb (n * e + p) t (λ whole. differ (sym (mod-mul-add n e p below) ∙ ap (λ t. t % e) whole))
        ∙ (λ i. sym (eq-eqb n (t / e) a) i && sym (ne_eqb p (t % e) differ) i)
    by_case (inr differ) b =
        ne_eqb (n * e + p) t (λ whole. differ (sym (div-mul-add n e p below) ∙ ap (λ t. t / e) whole))
        ∙ ap (λ x. x && nat_eq p (t % e)) (sym (ne_eqb n (t / e) differ))

or_and : (a b c : Bool) → ((a && b) || (a && c)) ≡ (a && (b || c))
or_and true b c = refl
or_and false b c = refl

and_none : (a : Bool) → false ≡ (a && false)
and_none true = refl
and_none false = refl

one_row : (e n t : ℕ) (ps : List ℕ) → All (λ p. p < e) ps → is_one t (map (λ p. n * e + p) ps) ≡ (nat_eq n (t / e) && is_one (t % e) ps)
one_row e n t [] below = and_none (nat_eq n (t / e))
one_row e n t (p ∷ ps) below =
    (λ i. one_place e n p t (All-head (λ p. p < e) p ps below) i || one_row e n t ps (All-tail (λ p. p < e) p ps below) i)
    ∙ or_and (nat_eq n (t / e)) (nat_eq p (t % e)) (is_one (t % e) ps)

and_or : (a b c : Bool) → ((a && c) || (b && c)) ≡ ((a || b) && c)
and_or true true true = refl
and_or true true false = refl
and_or true false true = refl
and_or true false false = refl
and_or false b c = refl

pub one-rows : (e t : ℕ) (ns ps : List ℕ) → All (λ p. p < e) ps → is_one t (rows e ns ps) ≡ (is_one (t / e) ns && is_one (t % e) ps)
one-rows e t [] ps below = refl
one-rows e t (n ∷ ns) ps below =
    any-append (λ v. nat_eq v t) (map (λ p. n * e + p) ps) (rows e ns ps)
    ∙ (λ i. one_row e n t ps below i || one-rows e t ns ps below i)
    ∙ and_or (nat_eq n (t / e)) (is_one (t / e) ns) (is_one (t % e) ps)

-- ---- tuples that are picked

both_more : (a b x y : Bool) → ((x && y) && (a && b)) ≡ ((a && x) && (b && y))
both_more true true true true = refl
both_more true true true false = refl
both_more true true false y = refl
both_more true false true true = refl
both_more true false true false = refl
both_more true false false y = refl
both_more false b true true = refl
both_more false b true false = refl
both_more false b false y = refl

alone_more : (a b x y : Bool) → (((x && not y) && a) || ((x && y) && (a && not b))) ≡ ((a && x) && not (b && y))
alone_more true true true true = refl
alone_more true true true false = refl
alone_more true true false y = refl
alone_more true false true true = refl
alone_more true false true false = refl
alone_more true false false y = refl
alone_more false b true true = refl
alone_more false b true false = refl
alone_more false b false y = refl

-- lists that pass, taken apart
heads : (p q : List ℕ) (ps qs : List (List ℕ)) → p ∷ ps ≡ q ∷ qs → p ≡ q
heads p q ps qs e = ap head e
  where
    head : List (List ℕ) → List ℕ
    head [] = []
    head (x ∷ xs) = x

tails : (p q : List ℕ) (ps qs : List (List ℕ)) → p ∷ ps ≡ q ∷ qs → ps ≡ qs
tails p q ps qs e = ap tail e
  where
    tail : List (List ℕ) → List (List ℕ)
    tail [] = []
    tail (x ∷ xs) = xs

-- one list of places more
abbrev pub IsMerge : (keep : Bool → Bool) → (outer inner places : List ℕ) → Type 0
IsMerge keep outer inner places = (p q : ℕ → Bool) (n : ℕ) → outer ≡ filter p (range_with_len 0 n) → inner ≡ filter q (range_with_len 0 n)
    → places ≡ filter (λ x. p x && keep (q x)) (range_with_len 0 n)

pub both-rows : (es : List ℕ) (os is : List (List ℕ)) (ns : List ℕ) (e : ℕ) (outer inner common : List ℕ) → ArePicked both es os is ns
    → All (λ p. p < e) common → IsMerge (λ b. b) outer inner common
    → ArePicked both (e ∷ es) (outer ∷ os) (inner ∷ is) (rows e ns common)
both-rows es os is ns e outer inner common picked below merge = record {
  below = rows-below e (product es) ns common picked.below below;
  each = λ axis a b outer-is inner-is t t-below.
      let some : 0 < e = some_factor e (product es) t t-below in
      let row : t / e < product es = div_below t e (product es) some (let c : t < e * product es = t-below in omega (arith, c)) in
      one-rows e t ns common below
      ∙ (λ i. picked.each (axis + 1) a b (tails _ _ _ _ outer-is) (tails _ _ _ _ inner-is) (t / e) row i
      && (ap (is_one (t % e)) (merge (a axis) (b axis) e (heads _ _ _ _ outer-is) (heads _ _ _ _ inner-is))
      ∙ one-passing (λ x. a axis x && b axis x) e (t % e) (mod_below t e some)) i)
      ∙ both_more (a axis (t % e)) (b axis (t % e)) (each a (axis + 1) (places_at es (t / e))) (each b (axis + 1) (places_at es (t / e)));
}

pub alone-rows : (es : List ℕ) (os is : List (List ℕ)) (ns ms : List ℕ) (e : ℕ) (outer inner left : List ℕ) → ArePicked both es os is ns
    → ArePicked first_alone es os is ms → All (λ p. p < e) outer → All (λ p. p < e) left → IsMerge not outer inner left
    → ArePicked first_alone (e ∷ es) (outer ∷ os) (inner ∷ is) (rows e ms outer ++ rows e ns left)
alone-rows es os is ns ms e outer inner left picked alone outer-below left-below merge = record {
  below = All-append (λ t. t < e * product es) (rows e ms outer) (rows e ns left) (rows-below e (product es) ms outer alone.below outer-below)
      (rows-below e (product es) ns left picked.below left-below);
  each = λ axis a b outer-is inner-is t t-below.
      let some : 0 < e = some_factor e (product es) t t-below in
      let row : t / e < product es = div_below t e (product es) some (let c : t < e * product es = t-below in omega (arith, c)) in
      let place : t % e < e = mod_below t e some in
      any-append (λ v. nat_eq v t) (rows e ms outer) (rows e ns left)
      ∙ (λ i. one-rows e t ms outer outer-below i || one-rows e t ns left left-below i)
      ∙ (λ i. (alone.each (axis + 1) a b (tails _ _ _ _ outer-is) (tails _ _ _ _ inner-is) (t / e) row i
      && (ap (is_one (t % e)) (heads _ _ _ _ outer-is) ∙ one-passing (a axis) e (t % e) place) i)
      || (picked.each (axis + 1) a b (tails _ _ _ _ outer-is) (tails _ _ _ _ inner-is) (t / e) row i
      && (ap (is_one (t % e)) (merge (a axis) (b axis) e (heads _ _ _ _ outer-is) (heads _ _ _ _ inner-is))
      ∙ one-passing (λ x. a axis x && not (b axis x)) e (t % e) place) i))
      ∙ alone_more (a axis (t % e)) (b axis (t % e)) (each a (axis + 1) (places_at es (t / e))) (each b (axis + 1) (places_at es (t / e)));
}

-- ---- axis by axis

pub any-map : {V : Type 0} (f : V → List ℕ) (test : List ℕ → Bool) (vs : List V) → list_any test (map f vs) ≡ list_any (λ v. test (f v)) vs
any-map f test [] = refl
any-map f test (v ∷ vs) = ap (λ b. test (f v) || b) (any-map f test vs)

pub next-extent : (es : List ℕ) (axis : ℕ) → 1 ≤ axis → axis ≤ length es → drop (axis - 1) es ≡ get_or es (axis - 1) 0 ∷ drop axis es
next-extent es axis some within =
    let below : axis - 1 < length es = omega (arith, some, within) in
    let next : axis - 1 + 1 ≡ axis = omega (arith, some) in
    at_drop_more (λ xs. xs) es (axis - 1) 0 below ∙ ap (λ k. get_or es (axis - 1) 0 ∷ drop k es) next

pub next-list : {V : Type 0} (f : V → List ℕ) (vs : List V) (axis : ℕ) (v : V) (ps : List ℕ) → 1 ≤ axis → axis ≤ length vs → v ≡ get_or vs (axis - 1) v → ps ≡ f v
    → drop (axis - 1) (map f vs) ≡ ps ∷ drop axis (map f vs)
next-list f vs axis v ps some within v-is ps-is =
    let below : axis - 1 < length vs = omega (arith, some, within) in
    let next : axis - 1 + 1 ≡ axis = omega (arith, some) in
    drop-map f (axis - 1) vs ∙ at_drop_more (map f) vs (axis - 1) v below
    ∙ ap (λ qs. qs ∷ map f (drop (axis - 1 + 1) vs)) (sym (ps-is ∙ ap f v-is))
    ∙ ap (λ k. ps ∷ map f (drop k vs)) next ∙ ap (λ qss. ps ∷ qss) (sym (drop-map f axis vs))

below-drop : (k : ℕ) (es : List ℕ) (lists : List (List ℕ)) → AreBelow es lists → AreBelow (drop k es) (drop k lists)
below-drop zero es lists below = below
below-drop (suc k) [] [] below = tt
below-drop (suc k) [] (ps ∷ lists) below = tt
below-drop (suc k) (e ∷ es) [] below = none (drop k es)
  where
    none : (es : List ℕ) → AreBelow es []
    none [] = tt
    none (e ∷ es) = tt
below-drop (suc k) (e ∷ es) (ps ∷ lists) below = below-drop k es lists below.1

pub axis-below : {V : Type 0} (f : V → List ℕ) (es : List ℕ) (vs : List V) (axis : ℕ) (v : V) (ps : List ℕ) → AreBelow es (map f vs)
    → length vs ≡ length es → 1 ≤ axis → axis ≤ length es → v ≡ get_or vs (axis - 1) v → ps ≡ f v → All (λ p. p < get_or es (axis - 1) 0) ps
axis-below f es vs axis v ps below same some within v-is ps-is =
    let lists = next-list f vs axis v ps some (omega (arith, same, within)) v-is ps-is in
    (subst (AreBelow (get_or es (axis - 1) 0 ∷ drop axis es)) lists
    (subst (λ es'. AreBelow es' (drop (axis - 1) (map f vs))) (next-extent es axis some within) (below-drop (axis - 1) es (map f vs) below))).0

pub axis-fits : (es : List ℕ) (axis most : ℕ) (ns : List ℕ) → AreSome es → 1 ≤ axis → axis ≤ length es → product es ≤ most → All (λ n. n < product (drop axis es)) ns
    → All (λ n. (n + 1) * get_or es (axis - 1) 0 ≤ most) ns
axis-fits es axis most ns positive some within few below =
    let whole : product (drop (axis - 1) es) ≡ get_or es (axis - 1) 0 * product (drop axis es) = ap product (next-extent es axis some within) in
    let part = drop-most es (axis - 1) positive in
    next-fits (get_or es (axis - 1) 0) (product (drop axis es)) most ns (omega (arith, whole, part, few)) below

numbers-below : (es : List ℕ) (lists : List (List ℕ)) → length lists ≡ length es → AreBelow es lists → All (λ n. n < product es) (map (number_at es) (combined lists))
numbers-below [] [] same below = All-cons (λ n. n < 1) 0 [] (omega arith) (All-nil (λ n. n < 1))
numbers-below [] (ps ∷ lists) same below =
    absurd (let long : length (ps ∷ lists) ≡ suc (length lists) = refl in let short : length none ≡ 0 = refl in omega (arith, same, long, short))
  where
    none : List ℕ
    none = []
numbers-below (e ∷ es) [] same below = absurd (let long : length (e ∷ es) ≡ suc (length es) = refl in let short : length none ≡ 0 = refl in omega (arith, same, long, short))
  where
    none : List (List ℕ)
    none = []
numbers-below (e ∷ es) (ps ∷ lists) same below =
    subst (All (λ n. n < e * product es)) (sym (numbers-rows es e ps (combined lists)))
    (rows-below e (product es) (map (number_at es) (combined lists)) ps
    (numbers-below es lists (let a : suc (length lists) ≡ suc (length es) = same in omega (arith, a)) below.1) below.0)

pub drop-numbers-below : {V : Type 0} (f : V → List ℕ) (es : List ℕ) (vs : List V) (axis : ℕ) → length vs ≡ length es → AreBelow es (map f vs)
    → All (λ n. n < product (drop axis es)) (map (number_at (drop axis es)) (combined (drop axis (map f vs))))
drop-numbers-below f es vs axis same below =
    let long : length (drop axis (map f vs)) ≡ length (drop axis es) =
    length-drop axis (map f vs) ∙ ap (λ n. n - axis) (length-map vs f ∙ same) ∙ sym (length-drop axis es) in
    numbers-below (drop axis es) (drop axis (map f vs)) long (below-drop axis es (map f vs) below)

-- the step of `tuples_of`
pub next-numbers : {V : Type 0} (f : V → List ℕ) (es : List ℕ) (vs : List V) (axis : ℕ) (v : V) (ns ps : List ℕ) → length vs ≡ length es → 1 ≤ axis → axis ≤ length es
    → v ≡ get_or vs (axis - 1) v → ps ≡ f v → ns ≡ map (number_at (drop axis es)) (combined (drop axis (map f vs)))
    → rows (get_or es (axis - 1) 0) ns ps ≡ map (number_at (drop (axis - 1) es)) (combined (drop (axis - 1) (map f vs)))
next-numbers f es vs axis v ns ps same some within v-is ps-is ns-is =
    ap (λ ns. rows (get_or es (axis - 1) 0) ns ps) ns-is
    ∙ sym (numbers-rows (drop axis es) (get_or es (axis - 1) 0) ps (combined (drop axis (map f vs))))
    ∙ ap (λ es'. map (number_at es') (combined (ps ∷ drop axis (map f vs)))) (sym (next-extent es axis some within))
    ∙ ap (λ lists. map (number_at (drop (axis - 1) es)) (combined lists)) (sym (next-list f vs axis v ps some (omega (arith, same, within)) v-is ps-is))

-- the step of `tuples_beyond`
pub next-picked : {V : Type 0} (f : V → List ℕ) (pick : Bool → Bool → Bool) (es : List ℕ) (outer inner : List V) (axis : ℕ) (o i : V) (os is ts : List ℕ)
    → length outer ≡ length es → length inner ≡ length es → 1 ≤ axis → axis ≤ length es → o ≡ get_or outer (axis - 1) o → os ≡ f o → i ≡ get_or inner (axis - 1) i → is ≡ f i
    → ArePicked pick (get_or es (axis - 1) 0 ∷ drop axis es) (os ∷ drop axis (map f outer)) (is ∷ drop axis (map f inner)) ts
    → ArePicked pick (drop (axis - 1) es) (drop (axis - 1) (map f outer)) (drop (axis - 1) (map f inner)) ts
next-picked f pick es outer inner axis o i os is ts outer-long inner-long some within o-is os-is i-is is-is picked =
    subst (λ es'. ArePicked pick es' (drop (axis - 1) (map f outer)) (drop (axis - 1) (map f inner)) ts) (sym (next-extent es axis some within))
    (subst (λ lists. ArePicked pick (get_or es (axis - 1) 0 ∷ drop axis es) lists (drop (axis - 1) (map f inner)) ts)
    (sym (next-list f outer axis o os some (omega (arith, outer-long, within)) o-is os-is))
    (subst (λ lists. ArePicked pick (get_or es (axis - 1) 0 ∷ drop axis es) (os ∷ drop axis (map f outer)) lists ts)
    (sym (next-list f inner axis i is some (omega (arith, inner-long, within)) i-is is-is)) picked))

-- the last axis
pub last-picked : {V : Type 0} (f : V → List ℕ) (es : List ℕ) (outer inner : List V) (axis : ℕ) (ns ms : List ℕ) (o i : V) (os is ts : List ℕ)
    → length outer ≡ length es → length inner ≡ length es → axis ≡ 1
    → (1 ≤ axis) × (axis ≤ length es) × ArePicked both (drop axis es) (drop axis (map f outer)) (drop axis (map f inner)) ns
    × ArePicked first_alone (drop axis es) (drop axis (map f outer)) (drop axis (map f inner)) ms
    → o ≡ get_or outer 0 o → os ≡ f o → i ≡ get_or inner 0 i → is ≡ f i
    → ((es' : List ℕ) (os' is' : List (List ℕ)) → ArePicked both es' os' is' ns → ArePicked first_alone es' os' is' ms
    → ArePicked first_alone (get_or es 0 0 ∷ es') (os ∷ os') (is ∷ is') ts)
    → ArePicked first_alone es (map f outer) (map f inner) ts
last-picked f es outer inner axis ns ms o i os is ts outer-long inner-long last inv o-is os-is i-is is-is step =
    next-picked f first_alone es outer inner 1 o i os is ts outer-long inner-long (omega arith) (let a = inv.1 in omega (arith, a, last)) o-is os-is i-is is-is
    (step (drop 1 es) (drop 1 (map f outer)) (drop 1 (map f inner))
    (subst (λ axis. ArePicked both (drop axis es) (drop axis (map f outer)) (drop axis (map f inner)) ns) last inv.2)
    (subst (λ axis. ArePicked first_alone (drop axis es) (drop axis (map f outer)) (drop axis (map f inner)) ms) last inv.3))

-- on no axis, and where an outer list is empty
pub none-alone : (es : List ℕ) (lists : List (List ℕ)) (a b : ℕ → ℕ → Bool) (t : ℕ) → (length es ≡ 0) ⊎ (list_any is_empty lists ≡ true) → lists ≡ passing a 0 es → t < product es
    → false ≡ (each a 0 (places_at es t) && not (each b 0 (places_at es t)))
none-alone es lists a b t (inl none) lists-is below = ap (λ es. each a 0 (places_at es t) && not (each b 0 (places_at es t))) (sym (nil_from_length es none))
none-alone es lists a b t (inr some) lists-is below =
    ap (λ x. x && not (each b 0 (places_at es t))) (sym (not_each a 0 es t below (ap (list_any is_empty) (sym lists-is) ∙ some)))
  where
    no_place : (p : ℕ → Bool) (e k : ℕ) → k < e → is_empty (filter p (range_with_len 0 e)) ≡ true → p k ≡ false
    no_place p e k below none =
        sym (one-passing p e k below)
        ∙ ap (is_one k) (nil_from_length (filter p (range_with_len 0 e)) (eqb-true (length (filter p (range_with_len 0 e))) 0 none))

    either : (x y u v : Bool) → (x || y) ≡ true → (x ≡ true → u ≡ false) → (y ≡ true → v ≡ false) → (u && v) ≡ false
    either true y u v some first second = ap (λ u. u && v) (first refl)
    either false y true v some first second = second some
    either false y false v some first second = refl

    not_each : (a : ℕ → ℕ → Bool) (axis : ℕ) (es : List ℕ) (t : ℕ) → t < product es → list_any is_empty (passing a axis es) ≡ true → each a axis (places_at es t) ≡ false
    not_each a axis [] t below some = absurd (cc)
    not_each a axis (e ∷ es) t below some =
        let positive : 0 < e = some_factor e (product es) t below in
        either (is_empty (filter (a axis) (range_with_len 0 e))) (list_any is_empty (passing a (axis + 1) es)) (a axis (t % e)) (each a (axis + 1) (places_at es (t / e))) some
        (no_place (a axis) e (t % e) (mod_below t e positive))
        (not_each a (axis + 1) es (t / e) (div_below t e (product es) positive (let c : t < e * product es = below in omega (arith, c))))
