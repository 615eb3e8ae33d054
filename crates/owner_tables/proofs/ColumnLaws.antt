-- What the columns of an array say of its elements.
use Rattle.std.proofs.Common.{◌≡◌, ℕ, suc, ◌+◌, ◌*◌, ◌/◌, ◌%◌, ◌<◌, ◌≤◌, ℤ, pos, ◌+ℤ◌, Bool, true, false, ◌&&◌, ◌==◌, if◌then◌else◌, List, [], ◌∷◌, refl, sym, ◌∙◌, ap, subst, arith, length, length-append, map, filter, get_or, replicate, All, Some, unsigned_abs}
use Rattle.std.proofs.Math.Nat.{mod-add-div, mul-le-mul_right}
use Rattle.std.proofs.lemmas.Bool.{and_parts, eqb-true}
use Rattle.std.proofs.lemmas.List.{get_or-replicate, length-map, length-replicate}
use Rattle.std.proofs.lemmas.List.Elements.{All-cons, All-head, All-tail}
use Rattle.std.proofs.lemmas.List.FromFn.{get_or-map-range_with_len, length-map-range_with_len}
use Rattle.std.proofs.lemmas.Nat.{div_below, mod_below, mul-le}
use Rattle.std.specs.List.{flat_map, list_all, range_with_len}
use Rattle.mappings.specs.declared.mapping.Mapping.{Mapping}
use Rattle.mappings.specs.Alignment.{aligned, owns}
use Rattle.mappings.specs.Mapping.{IsMapping, MapsInside}
use Rattle.hpf_base.specs.ElementOrder.{extents_of, index_at, product}
use Rattle.hpf_base.specs.Grid.{node_coordinates}
use Rattle.hpf_base.proofs.Elements.{elements-get, length-elements}
use Rattle.hpf_base.proofs.Places.{length-place_at, place_at}
use Rattle.axis_products.specs.Counts.{counts, ranks}
use Rattle.axis_products.specs.Products.{combined, each, number_at, passing, places_at}
use Rattle.axis_products.proofs.Products.{some_factor, tuples}
use Rattle.axis_products.proofs.Ranks.{before}
use Rattle.local_address.specs.Runs.{along, axis_along, coordinate_on, fixed_agrees, fixed_subscript, own_on}
use Rattle.local_address.proofs.Along.{owns-each}
use Rattle.local_address.proofs.ElementLaws.{factors_some}
use Rattle.local_address.proofs.Tuples.{each as each_subscript}
use Rattle.machine_steps.specs.Layout.{Layout, count_passing, element_index, first, owned_by, size_of}
use Rattle.machine_steps.proofs.Owners.{owned-inside}
use Rattle.periodic_runs.specs.Runs.{no_place}
use Rattle.periodic_runs.specs.declared.runs.Place.{Place}
use Rattle.owner_tables.specs.Columns.{ColumnView, IsFilled, address_at, asked_number, column_of, columns_of, count_on, next_strides, parts_at, place_on, totals_of, weight_on}
use Rattle.owner_tables.specs.Layouts.{IsLaid}
use Rattle.owner_tables.specs.Numbers.{least_at}
use Rattle.owner_tables.proofs.AlikeLaws.{element_index-rank}
use Rattle.owner_tables.proofs.Counting.{count-few}
use Rattle.owner_tables.proofs.LeastLaws.{asked-first, asked-owns, asked-within, entries-sum, part, sum_of}
use Rattle.owner_tables.proofs.Strides.{length-next}
use Rattle.owner_tables.proofs.Ranges.{count-agree, count-length, count-none, first-agree}

-- ---- how many tuples pass

rows-length : (ps : List ℕ) (ts : List (List ℕ)) → length (flat_map (λ rest. map (λ p. p ∷ rest) ps) ts) ≡ length ts * length ps
rows-length ps [] = omega arith
rows-length ps (t ∷ ts) =
    length-append (map (λ p. p ∷ t) ps) (flat_map (λ rest. map (λ p. p ∷ rest) ps) ts)
    ∙ ap (λ n. n + length (flat_map (λ rest. map (λ p. p ∷ rest) ps) ts)) (length-map ps (λ p. p ∷ t)) ∙ more (rows-length ps ts)
  where
    more : length (flat_map (λ rest. map (λ p. p ∷ rest) ps) ts) ≡ length ts * length ps
        → length ps + length (flat_map (λ rest. map (λ p. p ∷ rest) ps) ts) ≡ suc (length ts) * length ps
    more is = omega (arith, is)

combined-length : (test : ℕ → ℕ → Bool) (k : ℕ) (extents : List ℕ) → length (combined (passing test k extents)) ≡ product (counts test k extents)
combined-length test k [] = refl
combined-length test k (e ∷ es) =
    rows-length (filter (test k) (range_with_len 0 e)) (combined (passing test (k + 1) es))
    ∙ ap (λ n. n * length (filter (test k) (range_with_len 0 e))) (combined-length test (k + 1) es)
    ∙ turned (product (counts test (k + 1) es)) (length (filter (test k) (range_with_len 0 e)))
  where
    turned : (m n : ℕ) → m * n ≡ n * m
    turned m n = omega arith

passing-count : (test : ℕ → ℕ → Bool) (extents : List ℕ)
    → length (filter (λ t. each test 0 (places_at extents t)) (range_with_len 0 (product extents))) ≡ product (counts test 0 extents)
passing-count test extents =
    ap length (tuples test extents) ∙ length-map (combined (passing test 0 extents)) (number_at extents) ∙ combined-length test 0 extents

-- ---- columns, one dimension after another

shifted : (k j : ℕ) → k + 1 + j ≡ k + suc j
shifted k j = omega arith

module _ (mapping : Mapping) (lower : List ℤ) where
  -- whether a node owns a place of a dimension
  abbrev pub own_at : ℕ → ℕ → ℕ → Bool
  own_at node dim place = along mapping node dim (get_or lower dim (pos 0) +ℤ pos place)

  abbrev low : ℕ → ℤ
  low k = get_or lower k (pos 0)

  abbrev part_along : ℕ → ℤ → ℕ
  part_along k i = part mapping.grid i (axis_along k mapping.dims)

  abbrev next : ℕ → ℕ → List ℕ → List ℕ
  next k e strides = next_strides mapping (low k) k e strides

  abbrev spot : ℕ → ℕ → ℕ → Place
  spot k e p = get_or (map (place_on (axis_along k mapping.dims) (weight_on mapping.grid (axis_along k mapping.dims)) (low k)) (range_with_len 0 e)) p no_place

  -- lower bounds from a dimension on
  abbrev AreLowerFrom : ℕ → List ℤ → Type 0
  AreLowerFrom k ls = (j : ℕ) → get_or lower (k + j) (pos 0) ≡ get_or ls j (pos 0)

  first-lower : (k : ℕ) (l : ℤ) (ls : List ℤ) → AreLowerFrom k (l ∷ ls) → low k ≡ l
  first-lower k l ls at = let here : k ≡ k + 0 = omega arith in ap (λ n. get_or lower n (pos 0)) here ∙ at 0

  later-lower : (k : ℕ) (l : ℤ) (ls : List ℤ) → AreLowerFrom k (l ∷ ls) → AreLowerFrom (k + 1) ls
  later-lower k l ls at j = ap (λ n. get_or lower n (pos 0)) (shifted k j) ∙ at (suc j)

  spot-is : (k e t : ℕ) → 0 < e → spot k e (t % e) ≡ place_on (axis_along k mapping.dims) (weight_on mapping.grid (axis_along k mapping.dims)) (low k) (t % e)
  spot-is k e t some =
      get_or-map-range_with_len (place_on (axis_along k mapping.dims) (weight_on mapping.grid (axis_along k mapping.dims)) (low k)) 0 e (t % e) (t % e) no_place
      (mod_below t e some) (omega arith)

  -- the parts of an element's places are what its subscripts add
  pub parts-sum : (k : ℕ) (es : List ℕ) (ls : List ℤ) (strides : List ℕ) (t : ℕ) → t < product es → length ls ≡ length es → AreLowerFrom k ls
      → parts_at (columns_of mapping lower k es strides) t ≡ sum_of part_along k (index_at ls (place_at es t))
  parts-sum k [] [] strides t below same at = refl
  parts-sum k [] (l ∷ ls) strides t below same at = refl
  parts-sum k (e ∷ es) [] strides t below same at = absurd (omega (arith, same))
  parts-sum k (e ∷ es) (l ∷ ls) strides t below same at =
      let some : 0 < e = some_factor e (product es) t below in
      let row : t / e < product es = div_below t e (product es) some (omega (arith, below)) in
      let rest = parts_at (columns_of mapping lower (k + 1) es (next k e strides)) (t / e) in
      ap (λ p. p.part + rest) (spot-is k e t some) ∙ ap (λ i. part_along k (i +ℤ pos (t % e)) + rest) (first-lower k l ls at)
      ∙ ap (λ n. part_along k (l +ℤ pos (t % e)) + n)
      (parts-sum (k + 1) es ls (next k e strides) (t / e) row (omega (arith, same)) (later-lower k l ls at))

  pub each-places : (node k : ℕ) (ls : List ℤ) (ps : List ℕ) → length ps ≡ length ls → AreLowerFrom k ls
      → each_subscript (along mapping node) k (index_at ls ps) ≡ each (own_at node) k ps
  each-places node k [] [] same at = refl
  each-places node k [] (p ∷ ps) same at = absurd (omega (arith, same))
  each-places node k (l ∷ ls) [] same at = absurd (omega (arith, same))
  each-places node k (l ∷ ls) (p ∷ ps) same at =
      ap (λ i. along mapping node k (i +ℤ pos p) && each_subscript (along mapping node) (k + 1) (index_at ls ps)) (sym (first-lower k l ls at))
      ∙ ap (λ b. own_at node k p && b) (each-places node (k + 1) ls ps (omega (arith, same)) (later-lower k l ls at))

  next-get : (k e node : ℕ) (strides : List ℕ) → node < product mapping.grid
      → get_or (next k e strides) node 0 ≡ get_or strides node 0 * length (filter (own_at node k) (range_with_len 0 e))
  next-get k e node strides below =
      get_or-map-range_with_len
      (λ n. get_or strides n 0 * count_on (axis_along k mapping.dims) (low k) e (own_on (node_coordinates mapping.grid n) (axis_along k mapping.dims))) 0
      (product mapping.grid) node node 0 below (omega arith)

  -- the address of an element that the node owns, by its ranks
  address-number : (k node : ℕ) (es strides : List ℕ) (t : ℕ) → node < product mapping.grid → t < product es → each (own_at node) k (places_at es t) ≡ true
      → address_at node (columns_of mapping lower k es strides) t
      ≡ get_or strides node 0 * number_at (counts (own_at node) k es) (ranks (own_at node) k (places_at es t))
  address-number k node [] strides t inside below passes = omega arith
  address-number k node (e ∷ es) strides t inside below passes =
      let some : 0 < e = some_factor e (product es) t below in
      let row : t / e < product es = div_below t e (product es) some (omega (arith, below)) in
      let parts = and_parts (own_at node k (t % e)) (each (own_at node) (k + 1) (places_at es (t / e))) passes in
      let stride = get_or strides node 0 in
      let count = length (filter (own_at node k) (range_with_len 0 e)) in
      let rank = length (filter (own_at node k) (range_with_len 0 (t % e))) in
      let number = number_at (counts (own_at node) (k + 1) es) (ranks (own_at node) (k + 1) (places_at es (t / e))) in
      let rest : address_at node (columns_of mapping lower (k + 1) es (next k e strides)) (t / e) ≡ get_or (next k e strides) node 0 * number =
      address-number (k + 1) node es (next k e strides) (t / e) inside row parts.1 in
      let here : (spot k e (t % e)).rank ≡ rank =
      ap (λ p. p.rank) (spot-is k e t some) ∙ ap (count_on (axis_along k mapping.dims) (low k) (t % e)) (eqb-true _ _ parts.0) in
      ap (λ r. r * stride + address_at node (columns_of mapping lower (k + 1) es (next k e strides)) (t / e)) here
      ∙ ap (λ n. rank * stride + n) (rest ∙ ap (λ s. s * number) (next-get k e node strides inside)) ∙ put_together rank stride count number
    where
      put_together : (r s c n : ℕ) → r * s + s * c * n ≡ s * (n * c + r)
      put_together r s c n = omega arith

  -- no address is greater than the number of the element
  pub address-most : (k node : ℕ) (es strides : List ℕ) (t : ℕ) → node < product mapping.grid → t < product es
      → address_at node (columns_of mapping lower k es strides) t ≤ get_or strides node 0 * t
  address-most k node [] strides t inside below = omega arith
  address-most k node (e ∷ es) strides t inside below =
      let some : 0 < e = some_factor e (product es) t below in
      let row : t / e < product es = div_below t e (product es) some (omega (arith, below)) in
      let stride = get_or strides node 0 in
      let count = length (filter (own_at node k) (range_with_len 0 e)) in
      let own = get_or (next k e strides) node 0 in
      let rest = address-most (k + 1) node es (next k e strides) (t / e) inside row in
      let rank : (spot k e (t % e)).rank ≤ t % e =
      subst (λ p. p.rank ≤ t % e) (sym (spot-is k e t some))
      (count-few (λ q. coordinate_on (axis_along k mapping.dims) (low k +ℤ pos q) == coordinate_on (axis_along k mapping.dims) (low k +ℤ pos (t % e))) (t % e)) in
      let few : count ≤ e = count-few (own_at node k) e in
      let first : (spot k e (t % e)).rank * stride ≤ t % e * stride = mul-le-mul_right stride rank in
      let own-few : own ≤ stride * e = subst (λ n. n ≤ stride * e) (sym (next-get k e node strides inside)) (mul-le stride count stride e (omega arith) few) in
      let later : own * (t / e) ≤ stride * e * (t / e) = mul-le-mul_right (t / e) own-few in
      let whole : t % e * stride + stride * e * (t / e) ≡ stride * t = put_together stride e (t / e) (t % e) t (mod-add-div t e) in
      omega (arith, first, rest, later, whole)
    where
      put_together : (s e q r n : ℕ) → r + e * q ≡ n → r * s + s * e * q ≡ s * n
      put_together s e q r n is = let whole : s * (r + e * q) ≡ s * n = ap (λ m. s * m) is in omega (arith, whole)

  pub totals-product : (k node : ℕ) (es strides : List ℕ) → node < product mapping.grid
      → get_or (totals_of mapping lower k es strides) node 0 ≡ get_or strides node 0 * product (counts (own_at node) k es)
  totals-product k node [] strides inside = omega arith
  totals-product k node (e ∷ es) strides inside =
      totals-product (k + 1) node es (next k e strides) inside
      ∙ ap (λ s. s * product (counts (own_at node) (k + 1) es)) (next-get k e node strides inside)
      ∙ put_together (get_or strides node 0) (length (filter (own_at node k) (range_with_len 0 e))) (product (counts (own_at node) (k + 1) es))
    where
      put_together : (s c p : ℕ) → s * c * p ≡ s * (c * p)
      put_together s c p = omega arith

  pub length-totals : (k nodes : ℕ) (es strides : List ℕ) → product mapping.grid ≡ nodes → length strides ≡ nodes
      → length (totals_of mapping lower k es strides) ≡ nodes
  length-totals k nodes [] strides grid is = is
  length-totals k nodes (e ∷ es) strides grid is = length-totals (k + 1) nodes es (next k e strides) grid (length-next mapping (low k) k e strides ∙ grid)

  pub filled : (k nodes : ℕ) (es strides : List ℕ) → product mapping.grid ≡ nodes → length strides ≡ nodes → All (λ e. 1 ≤ e) es
      → All (IsFilled nodes) (columns_of mapping lower k es strides)
  filled k nodes [] strides grid is some = λ n d below. absurd (omega arith)
  filled k nodes (e ∷ es) strides grid is some =
      All-cons (IsFilled nodes) (column_of mapping (low k) k e strides) (columns_of mapping lower (k + 1) es (next k e strides))
      (record {
        some = All-head (λ x. 1 ≤ x) e es some;
        places = length-map-range_with_len (place_on (axis_along k mapping.dims) (weight_on mapping.grid (axis_along k mapping.dims)) (low k)) 0 e;
        strides = is;
      })
      (filled (k + 1) nodes es (next k e strides) grid (length-next mapping (low k) k e strides ∙ grid)
      (All-tail (λ x. 1 ≤ x) e es some))

-- ---- the elements of a layout

module _ (nodes : ℕ) (layout : Layout) (laid : IsLaid nodes layout) (some : 1 ≤ nodes) where
  abbrev extents : List ℕ
  extents = extents_of layout.shape

  abbrev ones : List ℕ
  ones = replicate nodes 1

  abbrev pub columns : List ColumnView
  columns = columns_of layout.mapping layout.shape.lower 0 extents ones

  abbrev base : ℕ
  base = asked_number layout.mapping.grid fixed_subscript layout.mapping.dims

  -- as far as all elements are given the same
  abbrev pub fixed : ℕ → Bool
  fixed node = list_all (fixed_agrees (node_coordinates layout.mapping.grid node)) layout.mapping.dims

  abbrev own : ℕ → ℕ → ℕ → Bool
  own node = own_at layout.mapping layout.shape.lower node

  rank : length layout.shape.lower ≡ length extents
  rank = laid.shape.rank ∙ sym (length-map layout.shape.extent unsigned_abs)

  from : (j : ℕ) → get_or layout.shape.lower (0 + j) (pos 0) ≡ get_or layout.shape.lower j (pos 0)
  from j = let at : 0 + j ≡ j = omega arith in ap (λ n. get_or layout.shape.lower n (pos 0)) at

  module _ (at : ℕ) (below : at < size_of layout) where
    in-product : at < product extents
    unfolding size_of
    in-product = below

    index-is : element_index layout.shape at ≡ index_at layout.shape.lower (place_at extents at)
    index-is = elements-get layout.shape at [] in-product

    valid : IsMapping (length (element_index layout.shape at)) layout.mapping
    valid = subst (λ n. IsMapping n layout.mapping) (sym (element_index-rank layout.shape at laid.shape in-product)) laid.mapping

    inside : MapsInside layout.mapping (element_index layout.shape at)
    inside = laid.inside at [] (omega (arith, in-product, length-elements layout.shape))

    parts-are : base + parts_at columns at ≡ asked_number layout.mapping.grid (λ align. aligned align (map Some (element_index layout.shape at))) layout.mapping.dims
    parts-are =
        ap (λ n. base + n)
        (parts-sum layout.mapping layout.shape.lower 0 extents layout.shape.lower ones at in-product rank from
        ∙ ap (sum_of (λ k i. part layout.mapping.grid i (axis_along k layout.mapping.dims)) 0) (sym index-is))
        ∙ sym (entries-sum layout.mapping.grid (element_index layout.shape at) layout.mapping.dims valid.entries valid.apart)

    least-first : least_at nodes layout at ≡ first (owns layout.mapping (element_index layout.shape at)) 0 nodes
    least-first = first-agree _ _ 0 nodes (λ node low high. owned-inside layout node at below)

    -- the least owner is what all elements are given and what the places add
    pub parts-least : base + parts_at columns at ≡ least_at nodes layout at
    parts-least = parts-are ∙ sym (least-first ∙ asked-first layout.mapping (element_index layout.shape at) nodes valid inside laid.grid some)

    pub least-owns : (least_at nodes layout at < nodes) × (owned_by layout (least_at nodes layout at) at ≡ true)
    least-owns =
        let is = least-first ∙ asked-first layout.mapping (element_index layout.shape at) nodes valid inside laid.grid some in (
          omega (arith, is, asked-within layout.mapping (element_index layout.shape at) nodes valid inside laid.grid some),
          owned-inside layout (least_at nodes layout at) at below ∙ ap (owns layout.mapping (element_index layout.shape at)) is
              ∙ asked-owns layout.mapping (element_index layout.shape at) nodes valid inside laid.grid some,
        )

    -- to own an element is to own its places
    pub owned-places : (node : ℕ) → owned_by layout node at ≡ fixed node && each (own node) 0 (places_at extents at)
    owned-places node =
        owned-inside layout node at below ∙ owns-each layout.mapping node (element_index layout.shape at) valid
        ∙ ap (λ index. fixed node && each_subscript (along layout.mapping node) 0 index) index-is
        ∙ ap (λ b. fixed node && b)
        (each-places layout.mapping layout.shape.lower node 0 layout.shape.lower (place_at extents at) (length-place_at extents at ∙ sym rank) from)

  once : (n node : ℕ) → node < nodes → get_or ones node 0 * n ≡ n
  once n node within = ap (λ s. s * n) (get_or-replicate nodes node 1 0 within) ∙ omega arith

  -- an address is the number of the elements before that the node owns
  pub address-is : (node at : ℕ) → node < nodes → at < size_of layout → owned_by layout node at ≡ true
      → address_at node columns at ≡ count_passing (owned_by layout node) 0 at
  address-is node at within below h =
      let inside : at < product extents = in-product at below in
      let in-grid : node < product layout.mapping.grid = omega (arith, within, laid.grid) in
      let earlier : (k : ℕ) → k < at → owned_by layout node k ≡ fixed node && each (own node) 0 (places_at extents k) =
      λ k less. owned-places k (omega (arith, less, below)) node in
      let parts = and_parts _ _ (sym (owned-places at below node) ∙ h) in
      let ranked : ℕ = number_at (counts (own node) 0 extents) (ranks (own node) 0 (places_at extents at)) in
      let by_ranks = address-number layout.mapping layout.shape.lower 0 node extents ones at in-grid inside parts.1 in
      let one : get_or ones node 0 * ranked ≡ ranked = once ranked node within in
      by_ranks ∙ one
      ∙ sym (count-agree (owned_by layout node) (λ t. each (own node) 0 (places_at extents t)) 0 at
      (λ k low high. earlier k (omega (arith, high)) ∙ ap (λ b. b && each (own node) 0 (places_at extents k)) parts.0)
      ∙ count-length (λ t. each (own node) 0 (places_at extents t)) 0 at ∙ before (own node) extents at inside parts.1)

  pub address-few : (node at : ℕ) → node < nodes → at < size_of layout → address_at node columns at ≤ at
  address-few node at within below =
      let few = address-most layout.mapping layout.shape.lower 0 node extents ones at (omega (arith, within, laid.grid)) (in-product at below) in
      let one : get_or ones node 0 * at ≡ at = once at node within in
      omega (arith, few, one)

  -- how many elements a node owns
  pub owned-total : (node : ℕ) → node < nodes
      → (if fixed node then get_or (totals_of layout.mapping layout.shape.lower 0 extents ones) node 0 else 0) ≡ count_passing (owned_by layout node) 0 (size_of layout)
  unfolding size_of
  owned-total node within = by_test (fixed node) refl
    where
      by_test : (b : Bool) → fixed node ≡ b
          → (if b then get_or (totals_of layout.mapping layout.shape.lower 0 extents ones) node 0 else 0) ≡ count_passing (owned_by layout node) 0 (product extents)
      by_test true is =
          let total = totals-product layout.mapping layout.shape.lower 0 node extents ones (omega (arith, within, laid.grid)) in
          let all = product (counts (own node) 0 extents) in
          let one : get_or ones node 0 * all ≡ all = once all node within in
          total ∙ one
          ∙ sym (count-agree (owned_by layout node) (λ t. each (own node) 0 (places_at extents t)) 0 (product extents)
          (λ k low high. owned-places k (omega (arith, high)) node ∙ ap (λ b. b && each (own node) 0 (places_at extents k)) is)
          ∙ count-length (λ t. each (own node) 0 (places_at extents t)) 0 (product extents) ∙ passing-count (own node) extents)
      by_test false is =
          sym (count-agree (owned_by layout node) (λ t. false) 0 (product extents)
          (λ k low high. owned-places k (omega (arith, high)) node ∙ ap (λ b. b && each (own node) 0 (places_at extents k)) is)
          ∙ count-none 0 (product extents))

  pub base-within : 1 ≤ size_of layout → base < nodes
  base-within any = omega (arith, parts-least 0 (omega (arith, any)), (least-owns 0 (omega (arith, any))).0)

  pub columns-filled : 1 ≤ size_of layout → All (IsFilled nodes) columns
  unfolding size_of
  columns-filled any =
      filled layout.mapping layout.shape.lower 0 nodes extents ones laid.grid (length-replicate nodes 1) (factors_some extents any)
