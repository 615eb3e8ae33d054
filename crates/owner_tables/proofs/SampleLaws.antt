-- Numbers of which each one below a limit is like one.
use Rattle.std.proofs.Common.{◌≡◌, ℕ, zero, suc, ◌+◌, ◌*◌, ◌/◌, ◌%◌, ◌<◌, ◌≤◌, ◌⊎◌, inl, inr, ℤ, pos, replicate, Bool, true, false, if◌then◌else◌, List, [], ◌∷◌, ◌++◌, refl, sym, ◌∙◌, ap, subst, arith, length, length-append, map, get_or, set, drop, All}
use Rattle.std.proofs.Math.Nat.{mul-le-mul_left}
use Rattle.std.proofs.lemmas.Bool.{cases_eq}
use Rattle.std.proofs.lemmas.List.{drop_more, get_or-append-add, get_or-map, get_or-set_other, get_or-replicate, get_or_append_left, length-map, length-replicate, length-set}
use Rattle.std.proofs.lemmas.List.Elements.{All-append, All-cons, All-head, All-tail}
use Rattle.std.proofs.lemmas.List.FromFn.{get_or-range_with_len, length-range_with_len}
use Rattle.std.proofs.lemmas.Nat.{div-mul-add, div_below, mod-mul-add, mod_below, mul-add-lt}
use mathlib.Core.Bool.{true≢false}
use Rattle.std.specs.List.{flat_map, range_with_len}
use Rattle.mappings.specs.declared.mapping.Mapping.{Mapping}
use Rattle.hpf_base.specs.ElementOrder.{extents_of, product}
use Rattle.hpf_base.proofs.ElementOrder.{product-some}
use Rattle.hpf_base.proofs.Ranges.{All-range}
use Rattle.axis_products.proofs.Products.{some_factor}
use Rattle.machine_steps.specs.Layout.{Layout, owned_by, size_of}
use Rattle.owner_tables.specs.declared.tables.Tables.TheInside.{Inside}
use Rattle.owner_tables.specs.Alike.{alike_nodes}
use Rattle.owner_tables.specs.Columns.{ColumnView, IsFilled, columns_of, extents_along, next_strides, part_in, parts_at}
use Rattle.owner_tables.specs.Samples.{AreSamples, owners_by}
use Rattle.owner_tables.specs.Tables.{AreTables, view_of}
use Rattle.owner_tables.specs.Views.{TableView}
use Rattle.owner_tables.proofs.PositionLaws.{numbers-few}
use Rattle.owner_tables.proofs.TableLaws.{AreLooked}

-- ---- all numbers, and none

pub all-samples : {A : Type 0} (f g : ℕ → A) (n : ℕ) → AreSamples n f g (range_with_len 0 n)
all-samples f g n = record {
  below = All-range (λ k. k < n) 0 n (λ k from upto. omega (arith, upto));
  every = λ k below.
      let at : get_or (range_with_len 0 n) k 0 ≡ k = get_or-range_with_len 0 n k 0 below ∙ omega arith in
      (k, omega (arith, below, length-range_with_len 0 n), ap f at, ap g at);
}

pub no-samples : {A : Type 0} (f g : ℕ → A) (n : ℕ) → n ≡ 0 → AreSamples n f g []
no-samples f g n none = record {
  below = λ k d within. absurd (omega (arith, within));
  every = λ k below. absurd (omega (arith, below, none));
}

-- ---- places of a dimension, one after the other

-- each pair that was met is that of a place
pub record AreMet (f g : ℕ → ℕ) (places : List ℕ) (met : List Bool) : Type 0 where
  pub long : length met ≡ 4096
  pub pairs : (a b : ℕ) → a < 64 → b < 64 → get_or met (a * 64 + b) false ≡ true → (i : ℕ) × (i < length places) × (f (get_or places i 0) ≡ a) × (g (get_or places i 0) ≡ b)

module _ (f g : ℕ → ℕ) where
  module _ (place : ℕ) (places : List ℕ) (met : List Bool) (one : f place < 64) (other : g place < 64) (so_far : AreSamples place f g places) (are : AreMet f g places met) where
    abbrev number : ℕ
    number = f place * 64 + g place

    abbrev more : Bool → List ℕ
    more found = places ++ (if found then [] else place ∷ [])

    kept : (found : Bool) (i : ℕ) → i < length places → (get_or (more found) i 0 ≡ get_or places i 0) × (i < length (more found))
    kept found i within =
        let rest : List ℕ = if found then [] else place ∷ [] in
        (get_or_append_left places rest 0 i within, omega (arith, within, length-append places rest))

    like : (found : Bool) → get_or met number false ≡ found
        → (i : ℕ) × (i < length (more found)) × (f (get_or (more found) i 0) ≡ f place) × (g (get_or (more found) i 0) ≡ g place)
    like true is =
        let x = are.pairs (f place) (g place) one other is in
        let here = kept true x.0 x.1 in
        (x.0, here.1, ap f here.0 ∙ x.2, ap g here.0 ∙ x.3)
    like false is =
        let here : get_or (places ++ place ∷ []) (length places + 0) 0 ≡ place = get_or-append-add places (place ∷ []) 0 0 in
        (length places + 0, omega (arith, length-append places (place ∷ [])), ap f here, ap g here)

    last-below : (found : Bool) → All (λ k. k < place + 1) (if found then [] else place ∷ [])
    last-below true = λ k d within. absurd (omega (arith, within))
    last-below false = All-cons (λ k. k < place + 1) place [] (omega arith) (λ k d within. absurd (omega (arith, within)))

    next : (found : Bool) → get_or met number false ≡ found → AreSamples (place + 1) f g (more found)
    next found is = record {
      below = All-append (λ k. k < place + 1) places (if found then [] else place ∷ []) (λ k d within. omega (arith, so_far.below k d within)) (last-below found);
      every = λ k below. by_case k below (cases_eq k place);
    }
      where
        by_case : (k : ℕ) → k < place + 1 → (k ≡ place) ⊎ (k ≡ place → ⊥)
            → (i : ℕ) × (i < length (more found)) × (f (get_or (more found) i 0) ≡ f k) × (g (get_or (more found) i 0) ≡ g k)
        by_case k below (inl same) =
            let x = like found is in (x.0, x.1, x.2 ∙ ap f (sym same), x.3 ∙ ap g (sym same))
        by_case k below (inr apart) =
            let x = so_far.every k (omega (arith, below, apart)) in
            let here = kept found x.0 x.1 in
            (x.0, here.1, ap f here.0 ∙ x.2, ap g here.0 ∙ x.3)

    next-met : (found : Bool) → get_or met number false ≡ found → AreMet f g (more found) (set met number true)
    next-met found is = record {
      long = length-set met number true ∙ are.long;
      pairs = λ a b la lb h. by_case a b la lb h (cases_eq (a * 64 + b) number);
    }
      where
        by_case : (a b : ℕ) → a < 64 → b < 64 → get_or (set met number true) (a * 64 + b) false ≡ true → (a * 64 + b ≡ number) ⊎ (a * 64 + b ≡ number → ⊥)
            → (i : ℕ) × (i < length (more found)) × (f (get_or (more found) i 0) ≡ a) × (g (get_or (more found) i 0) ≡ b)
        by_case a b la lb h (inl same) =
            let x = like found is in
            let first : f place ≡ a = omega (arith, same, one, other, la, lb) in
            let second : g place ≡ b = omega (arith, same, one, other, la, lb) in
            (x.0, x.1, x.2 ∙ first, x.3 ∙ second)
        by_case a b la lb h (inr apart) =
            let x = are.pairs a b la lb (sym (get_or-set_other met number (a * 64 + b) true false apart) ∙ h) in
            let here = kept found x.0 x.1 in
            (x.0, here.1, ap f here.0 ∙ x.2, ap g here.0 ∙ x.3)

    -- one place more
    pub place-more : AreSamples (place + 1) f g (more (get_or met number false)) × AreMet f g (more (get_or met number false)) (set met number true)
    place-more = (next (get_or met number false) refl, next-met (get_or met number false) refl)

-- nothing at first
pub none-met : (f g : ℕ → ℕ) (places : List ℕ) (met : List Bool) → places ≡ [] → met ≡ replicate 4096 false → AreSamples 0 f g places × AreMet f g places met
none-met f g places met is is' = (
  subst (AreSamples 0 f g) (sym is) (no-samples f g 0 refl),
  record {
    long = ap length is' ∙ length-replicate 4096 false;
    pairs = λ a b la lb h.
        absurd (true≢false (sym h ∙ ap (λ m. get_or m (a * 64 + b) false) is' ∙ get_or-replicate 4096 (a * 64 + b) false false (omega (arith, la, lb))));
  },
)

-- the same by what one step has done
pub met-more : (f g : ℕ → ℕ) (place a b : ℕ) (places after : List ℕ) (met now : List Bool) → f place < 64 → g place < 64 → AreSamples place f g places × AreMet f g places met
    → a ≡ f place → b ≡ g place → after ≡ places ++ (if get_or met (a * 64 + b) false then [] else place ∷ []) → now ≡ set met (a * 64 + b) true
    → AreSamples (place + 1) f g after × AreMet f g after now
met-more f g place a b places after met now one other both is is' made set-is =
    let number-is : a * 64 + b ≡ f place * 64 + g place = (λ i. is i * 64 + is' i) in
    let after-is : places ++ (if get_or met (f place * 64 + g place) false then [] else place ∷ []) ≡ after =
    sym (made ∙ ap (λ n. places ++ (if get_or met n false then [] else place ∷ [])) number-is) in
    let now-is : set met (f place * 64 + g place) true ≡ now = sym (set-is ∙ ap (λ n. set met n true) number-is) in
    let more = place-more f g place places met one other both.0 both.1 in
    (subst (AreSamples (place + 1) f g) after-is more.0, subst (AreMet f g after) now-is (subst (λ ps. AreMet f g ps (set met (f place * 64 + g place) true)) after-is more.1))

-- ---- elements by their places

module _ (e : ℕ) (own : List ℕ) where
  abbrev row : ℕ → List ℕ
  row n = map (λ p. n * e + p) own

  flat-at : (ns : List ℕ) (i j : ℕ) → i < length ns → j < length own
      → (k : ℕ) × (k < length (flat_map row ns)) × (get_or (flat_map row ns) k 0 ≡ get_or ns i 0 * e + get_or own j 0)
  flat-at [] i j within inside = absurd (omega (arith, within))
  flat-at (n ∷ ns) zero j within inside =
      let here : j < length (row n) = omega (arith, inside, length-map own (λ p. n * e + p)) in (
        j,
        omega (arith, here, length-append (row n) (flat_map row ns)),
        get_or_append_left (row n) (flat_map row ns) 0 j here ∙ get_or-map (λ p. n * e + p) own j 0 0 inside,
      )
  flat-at (n ∷ ns) (suc i) j within inside =
      let x = flat-at ns i j (omega (arith, within)) inside in (
        length (row n) + x.0,
        (let below = x.1 in omega (arith, below, length-append (row n) (flat_map row ns))),
        get_or-append-add (row n) (flat_map row ns) x.0 0 ∙ x.2,
      )

parts-digit : (c : ColumnView) (cs : List ColumnView) (e m p : ℕ) → c.extent ≡ e → p < e → parts_at (c ∷ cs) (m * e + p) ≡ part_in c p + parts_at cs m
parts-digit c cs e m p is below =
    ap (λ x. part_in c ((m * e + p) % x) + parts_at cs ((m * e + p) / x)) is
    ∙ (λ i. part_in c (mod-mul-add m e p below i) + parts_at cs (div-mul-add m e p below i))

parts-split : (c : ColumnView) (cs : List ColumnView) (e n : ℕ) → c.extent ≡ e → parts_at (c ∷ cs) n ≡ part_in c (n % e) + parts_at cs (n / e)
parts-split c cs e n is = ap (λ x. part_in c (n % x) + parts_at cs (n / x)) is

module _ (c d : ColumnView) (cs ds : List ColumnView) (same : d.extent ≡ c.extent) (ns own : List ℕ) where
  abbrev extents : List ℕ
  extents = extents_along (c ∷ cs)

  -- one dimension more
  tuples-more : AreSamples (product (extents_along cs)) (parts_at cs) (parts_at ds) ns → AreSamples c.extent (part_in c) (part_in d) own
      → AreSamples (product extents) (parts_at (c ∷ cs)) (parts_at (d ∷ ds)) (flat_map (λ n. map (λ p. n * c.extent + p) own) ns)
  tuples-more slower here = record {
    below = numbers-few extents 0 own ns (omega arith) slower.below here.below;
    every = λ n below.
        let e = c.extent in
        let some : 0 < e = some_factor e (product (extents_along cs)) n below in
        let x = slower.every (n / e) (div_below n e (product (extents_along cs)) some (omega (arith, below))) in
        let y = here.every (n % e) (mod_below n e some) in
        let k = flat-at e own ns x.0 y.0 x.1 y.1 in
        let p = get_or own y.0 0 in
        let m = get_or ns x.0 0 in
        let small : p < e = here.below y.0 0 y.1 in (
          k.0,
          k.1,
          ap (parts_at (c ∷ cs)) k.2 ∙ parts-digit c cs e m p refl small ∙ (λ i. y.2 i + x.2 i) ∙ sym (parts-split c cs e n refl),
          ap (parts_at (d ∷ ds)) k.2 ∙ parts-digit d ds e m p same small ∙ (λ i. y.3 i + x.3 i) ∙ sym (parts-split d ds e n same),
        );
  }

-- ---- columns

pub extent-at : (cs : List ColumnView) (k : ℕ) (d : ColumnView) → k < length cs → get_or (extents_along cs) k 0 ≡ (get_or cs k d).extent
extent-at [] k d within = absurd (omega (arith, within))
extent-at (c ∷ cs) zero d within = refl
extent-at (c ∷ cs) (suc k) d within = extent-at cs k d (omega (arith, within))

pub extents-many : (cs : List ColumnView) → length (extents_along cs) ≡ length cs
extents-many [] = refl
extents-many (c ∷ cs) = ap suc (extents-many cs)

pub extents-some : (nodes : ℕ) (cs : List ColumnView) → All (IsFilled nodes) cs → All (λ e. 1 ≤ e) (extents_along cs)
extents-some nodes [] filled = λ k d within. absurd (omega (arith, within))
extents-some nodes (c ∷ cs) filled =
    All-cons (λ e. 1 ≤ e) c.extent (extents_along cs) (All-head (IsFilled nodes) c cs filled).some (extents-some nodes cs (All-tail (IsFilled nodes) c cs filled))

-- the elements of the slower dimensions are no more than all
pub slower-few : (cs : List ColumnView) (k : ℕ) → All (λ e. 1 ≤ e) (extents_along cs) → product (extents_along (drop k cs)) ≤ product (extents_along cs)
slower-few cs zero some = omega arith
slower-few [] (suc k) some = omega arith
slower-few (c ∷ cs) (suc k) some =
    let first : 1 ≤ c.extent = All-head (λ e. 1 ≤ e) c.extent (extents_along cs) some in
    let rest = slower-few cs k (All-tail (λ e. 1 ≤ e) c.extent (extents_along cs) some) in
    let grows : product (extents_along cs) * 1 ≤ product (extents_along cs) * c.extent = mul-le-mul_left (product (extents_along cs)) first in
    omega (arith, rest, grows)

-- and so is one more of them
pub few-more : (cs : List ColumnView) (k : ℕ) (c : ColumnView) (most : ℕ) → k < length cs → c ≡ get_or cs k c → All (λ e. 1 ≤ e) (extents_along cs)
    → product (extents_along cs) ≤ most → product (extents_along (drop (k + 1) cs)) * c.extent ≤ most
few-more cs k c most within is some few =
    let here : product (extents_along (drop k cs)) ≡ c.extent * product (extents_along (drop (k + 1) cs)) =
    ap (λ xs. product (extents_along xs)) (drop_more cs k c within) ∙ ap (λ x. x.extent * product (extents_along (drop (k + 1) cs))) (sym is) in
    omega (arith, here, slower-few cs k some, few)

-- the samples of the dimensions from one on
pub samples-more : (one other : List ColumnView) (k : ℕ) (c d : ColumnView) (ns own : List ℕ) → k < length one → k < length other → c ≡ get_or one k c → d ≡ get_or other k d
    → d.extent ≡ c.extent
    → AreSamples (product (extents_along (drop (k + 1) one))) (parts_at (drop (k + 1) one)) (parts_at (drop (k + 1) other)) ns → AreSamples c.extent (part_in c) (part_in d) own
    → AreSamples (product (extents_along (drop k one))) (parts_at (drop k one)) (parts_at (drop k other)) (flat_map (λ n. map (λ p. n * c.extent + p) own) ns)
samples-more one other k c d ns own within within' is is' same slower here =
    let first : drop k one ≡ c ∷ drop (k + 1) one = drop_more one k c within ∙ ap (λ x. x ∷ drop (k + 1) one) (sym is) in
    let second : drop k other ≡ d ∷ drop (k + 1) other = drop_more other k d within' ∙ ap (λ x. x ∷ drop (k + 1) other) (sym is') in
    let all : List ColumnView → List ColumnView → Type 0 = λ xs ys. AreSamples (product (extents_along xs)) (parts_at xs) (parts_at ys) (flat_map (λ n. map (λ p. n * c.extent + p) own) ns) in
    subst (λ xs. all xs (drop k other)) (sym first) (subst (λ ys. all (c ∷ drop (k + 1) one) ys) (sym second) (tuples-more c d (drop (k + 1) one) (drop (k + 1) other) same ns own slower here))

-- the parts of places are no greater than those of elements. The elements are as many as other columns of the same extents have
pub part-few : (cs : List ColumnView) (k p : ℕ) (d : ColumnView) → All (λ e. 1 ≤ e) (extents_along cs)
    → ((at : ℕ) → at < product (extents_along cs) → parts_at cs at < 64) → k < length cs → p < (get_or cs k d).extent → part_in (get_or cs k d) p < 64
part-few [] k p d some few within below = absurd (omega (arith, within))
part-few (c ∷ cs) zero p d some few within below =
    let rest : 1 ≤ product (extents_along cs) = product-some (extents_along cs) (All-tail (λ e. 1 ≤ e) c.extent (extents_along cs) some) in
    let inside : 0 * c.extent + p < c.extent * product (extents_along cs) = mul-add-lt 0 c.extent p (product (extents_along cs)) rest below in
    omega (arith, few (0 * c.extent + p) inside, parts-digit c cs c.extent 0 p refl below)
part-few (c ∷ cs) (suc k) p d some few within below =
    let first : 0 < c.extent = All-head (λ e. 1 ≤ e) c.extent (extents_along cs) some in
    part-few cs k p d (All-tail (λ e. 1 ≤ e) c.extent (extents_along cs) some)
    (λ at upto. omega (arith, few (at * c.extent + 0) (mul-add-lt at c.extent 0 (product (extents_along cs)) upto first), parts-digit c cs c.extent at 0 refl first))
    (omega (arith, within)) below

extents-are : (mapping : Mapping) (lower : List ℤ) (k : ℕ) (es strides : List ℕ) → extents_along (columns_of mapping lower k es strides) ≡ es
extents-are mapping lower k [] strides = refl
extents-are mapping lower k (e ∷ es) strides =
    ap (λ l. e ∷ l) (extents-are mapping lower (k + 1) es (next_strides mapping (get_or lower k (pos 0)) k e strides))

-- places of two columns of the same number
pub extents-same : (one other : List ColumnView) (k : ℕ) (c d : ColumnView) → extents_along one ≡ extents_along other → k < length one → c ≡ get_or one k c → d ≡ get_or other k d
    → d.extent ≡ c.extent
extents-same one other k c d same within is is' =
    ap (λ x. x.extent) is' ∙ sym (extent-at other k d (omega (arith, within, extents-many one, extents-many other, ap length same)))
    ∙ ap (λ es. get_or es k 0) (sym same) ∙ extent-at one k c within ∙ ap (λ x. x.extent) (sym is)

-- ---- tables

-- the extents of the columns are those of the shape
pub columns-along : (t : Inside) (v : TableView) → view_of t ≡ v → AreTables t → 1 ≤ size_of v.layout → extents_along t.numbers.columns.items ≡ extents_of v.layout.shape
columns-along t v view is = subst (λ w. 1 ≤ size_of w.layout → extents_along t.numbers.columns.items ≡ extents_of w.layout.shape) view
    (λ some. ap extents_along (is.columns some) ∙ extents-are t.mapping t.shape.lower 0 (extents_of t.shape) (replicate t.nodes 1))

pub columns-size : (t : Inside) (v : TableView) → view_of t ≡ v → AreTables t → 1 ≤ size_of v.layout → product (extents_along t.numbers.columns.items) ≡ size_of v.layout
unfolding size_of
columns-size t v view is some = ap product (columns-along t v view is some)

-- elements with the same sum of parts have the same owners
owners-like : (t : Inside) (cs : List ColumnView) (layout : Layout) (nodes : ℕ) → AreLooked t cs layout nodes → (m n : ℕ) → m < size_of layout → n < size_of layout
    → parts_at cs m ≡ parts_at cs n → owners_by nodes (owned_by layout) m ≡ owners_by nodes (owned_by layout) n
owners-like t cs layout nodes l m n below below' same =
    sym (l.owners m below) ∙ ap (alike_nodes layout.mapping nodes) (sym (l.least m below) ∙ ap (λ p. t.numbers.base + p) same ∙ l.least n below') ∙ l.owners n below'

pub samples-owners : (t u : Inside) (cs ds : List ColumnView) (one other : Layout) (nodes nodes' : ℕ) → AreLooked t cs one nodes → AreLooked u ds other nodes'
    → size_of one ≡ size_of other → (ns : List ℕ) → product (extents_along cs) ≡ size_of one → AreSamples (product (extents_along cs)) (parts_at cs) (parts_at ds) ns
    → AreSamples (size_of one) (owners_by nodes (owned_by one)) (owners_by nodes' (owned_by other)) ns
samples-owners t u cs ds one other nodes nodes' l l' same ns size are = record {
  below = subst (λ n. All (λ k. k < n) ns) size are.below;
  every = λ n below.
      let x = are.every n (omega (arith, below, size)) in
      let m = get_or ns x.0 0 in
      let inside : m < size_of one = omega (arith, are.below x.0 0 x.1, size) in
      (x.0, x.1, owners-like t cs one nodes l m n inside below x.2, owners-like u ds other nodes' l' m n (omega (arith, inside, same)) (omega (arith, below, same)) x.3);
}
