-- What a look-up in the tables of a row finds.
use Rattle.std.proofs.Common.{◌≡◌, ℕ, ◌+◌, ◌<◌, ◌≤◌, true, ◌==◌, List, [], All, get_or, length, map, filter, sym, ◌∙◌, ap, subst, arith}
use Rattle.std.proofs.lemmas.List.{get_or-map, length-map}
use Rattle.std.proofs.lemmas.List.Elements.{All-filter}
use Rattle.std.proofs.lemmas.List.FromFn.{get_or-map-range_with_len, length-map-range_with_len}
use Rattle.std.proofs.lemmas.Simd.{map-map}
use Rattle.std.specs.List.{range_with_len}
use Rattle.std.specs.Vec.{vec_len}
use Rattle.hpf_base.specs.declared.limits.TheConstants.{MAX_ELEMENTS, MAX_NODES}
use Rattle.mappings.specs.declared.mapping.Mapping.{Mapping}
use Rattle.local_address.specs.Runs.{fixed_subscript}
use Rattle.hpf_base.proofs.Ranges.{All-range, map-range_agree}
use Rattle.machine_steps.specs.Layout.{Layout, count_passing, owned_by, size_of}
use Rattle.owner_tables.specs.declared.tables.Tables.TheInside.{Inside}
use Rattle.owner_tables.specs.Alike.{alike_nodes, is_alike, leader}
use Rattle.owner_tables.specs.Columns.{ColumnView, IsFilled, address_at, asked_number, parts_at}
use Rattle.owner_tables.specs.Numbers.{least_at}
use Rattle.owner_tables.specs.Tables.{AreTables, layout_of, view_of}
use Rattle.owner_tables.specs.Views.{TableView}
use Rattle.owner_tables.proofs.AlikeLaws.{owned-by-leader, owners-alike, sharers-own}
use Rattle.owner_tables.proofs.ColumnLaws.{address-few, address-is, columns as all_columns, columns-filled, least-owns, parts-least}
use Rattle.owner_tables.proofs.Ranges.{filter-head}

-- a list by place
entry : (f : ℕ → ℕ) (xs : List ℕ) (n i d : ℕ) → xs ≡ map f (range_with_len 0 n) → i < n → get_or xs i d ≡ f i
entry f xs n i d is within = ap (λ l. get_or l i d) is ∙ get_or-map-range_with_len f 0 n i i d within (omega arith)

entries : (f : ℕ → ℕ) (xs : List ℕ) (n : ℕ) → xs ≡ map f (range_with_len 0 n) → length xs ≡ n
entries f xs n is = ap length is ∙ length-map-range_with_len f 0 n

module _ {V : Type 0} (items : V → List ℕ) (f : ℕ → List ℕ) (vs : List V) (n : ℕ) (is : map items vs ≡ map f (range_with_len 0 n)) where
  rows : length vs ≡ n
  rows = sym (length-map vs items) ∙ ap length is ∙ length-map-range_with_len f 0 n

  row : (i : ℕ) (d : V) → i < n → items (get_or vs i d) ≡ f i
  row i d within =
      sym (get_or-map items vs i d [] (omega (arith, within, rows))) ∙ ap (λ l. get_or l i []) is
      ∙ get_or-map-range_with_len f 0 n i i [] within (omega arith)

-- the tables by a layout and a number of nodes
pub record AreLooked (t : Inside) (columns : List ColumnView) (layout : Layout) (nodes : ℕ) : Type 0 where
  pub size : t.size ≡ size_of layout
  pub small : size_of layout ≤ MAX_ELEMENTS
  pub few : nodes ≤ MAX_NODES
  pub leaders : vec_len t.leaders ≡ nodes
  pub counts : vec_len t.numbers.owned ≡ nodes
  pub alike : vec_len t.alike ≡ nodes
  pub filled : (at : ℕ) → at < size_of layout → All (IsFilled nodes) columns
  pub least : (at : ℕ) → at < size_of layout → t.numbers.base + parts_at columns at ≡ least_at nodes layout at
  pub below : (at : ℕ) → at < size_of layout → least_at nodes layout at < nodes
  pub owner : (at : ℕ) → at < size_of layout → owned_by layout (least_at nodes layout at) at ≡ true
  pub led : (node d : ℕ) → node < nodes → get_or t.leaders.items node d ≡ leader layout.mapping nodes node
  pub owns : (node at : ℕ) → node < nodes → at < size_of layout
      → (least_at nodes layout at == leader layout.mapping nodes node) ≡ owned_by layout node at
  pub address-few : (node at : ℕ) → node < nodes → at < size_of layout → address_at node columns at ≤ at
  pub address : (node at : ℕ) → node < nodes → at < size_of layout → owned_by layout node at ≡ true
      → address_at node columns at ≡ count_passing (owned_by layout node) 0 at
  pub owned : (node d : ℕ) → node < nodes → get_or t.numbers.owned.items node d ≡ count_passing (owned_by layout node) 0 (size_of layout)
  pub sharers : (node at : ℕ) → node < nodes → at < size_of layout → owned_by layout node at ≡ true
      → filter (λ other. owned_by layout other at) (range_with_len 0 nodes) ≡ alike_nodes layout.mapping nodes node
  pub rows : map (λ v. v.items) t.alike.items ≡ map (alike_nodes layout.mapping nodes) (range_with_len 0 nodes)
  pub owners : (at : ℕ) → at < size_of layout
      → alike_nodes layout.mapping nodes (least_at nodes layout at) ≡ filter (λ node. owned_by layout node at) (range_with_len 0 nodes)

module _ (t : Inside) (is : AreTables t) where
  abbrev layout : Layout
  layout = layout_of t

  columns-are : (at : ℕ) → at < size_of layout → t.numbers.columns.items ≡ all_columns t.nodes layout is.laid is.some
  columns-are at below = is.columns (omega (arith, below))

  dealt : (at : ℕ) → at < size_of layout → owned_by layout (least_at t.nodes layout at) at ≡ true
  dealt at below = (least-owns t.nodes layout is.laid is.some at below).1

  size-small : size_of layout ≤ MAX_ELEMENTS
  unfolding size_of
  size-small = is.laid.shape.size

  abbrev passing : ℕ → ℕ
  passing node = count_passing (owned_by layout node) 0 (size_of layout)

  looked : AreLooked t t.numbers.columns.items layout t.nodes
  looked = record {
    size = is.size;
    small = size-small;
    few = is.few;
    leaders = let len = t.leaders.ok.0 in omega (arith, len, entries (leader t.mapping t.nodes) t.leaders.items t.nodes is.leaders);
    counts = let len = t.numbers.owned.ok.0 in omega (arith, len, entries passing t.numbers.owned.items t.nodes is.owned);
    alike = let len = t.alike.ok.0 in omega (arith, len, rows (λ v. v.items) (alike_nodes t.mapping t.nodes) t.alike.items t.nodes is.alike);
    filled = λ at below. subst (All (IsFilled t.nodes)) (sym (columns-are at below)) (columns-filled t.nodes layout is.laid is.some (omega (arith, below)));
    least = λ at below.
        ap (λ n. n + parts_at t.numbers.columns.items at) (is.base (omega (arith, below)))
        ∙ ap (λ cs. asked_number t.mapping.grid fixed_subscript t.mapping.dims + parts_at cs at) (columns-are at below)
        ∙ parts-least t.nodes layout is.laid is.some at below;
    below = λ at below. (least-owns t.nodes layout is.laid is.some at below).0;
    owner = dealt;
    led = λ node d within. entry (leader t.mapping t.nodes) t.leaders.items t.nodes node d is.leaders within;
    owns = λ node at within below. owned-by-leader t.nodes layout is.laid dealt node at within below;
    address-few = λ node at within below.
        subst (λ cs. address_at node cs at ≤ at) (sym (columns-are at below)) (address-few t.nodes layout is.laid is.some node at within below);
    address = λ node at within below h.
        ap (λ cs. address_at node cs at) (columns-are at below) ∙ address-is t.nodes layout is.laid is.some node at within below h;
    owned = λ node d within. entry passing t.numbers.owned.items t.nodes node d is.owned within;
    sharers = λ node at within below h. sharers-own t.nodes layout is.laid node at below h;
    rows = is.alike;
    owners = λ at below. owners-alike t.nodes layout is.laid dealt at below;
  }

-- the same by the view
pub seen : (t : Inside) (v : TableView) → view_of t ≡ v → AreTables t → AreLooked t t.numbers.columns.items v.layout v.nodes
seen t v view is = subst (λ w. AreLooked t t.numbers.columns.items w.layout w.nodes) view (looked t is)

-- and by the columns
pub seen-by : (t : Inside) (v : TableView) → view_of t ≡ v → AreTables t → (cs : List ColumnView) → cs ≡ t.numbers.columns.items → AreLooked t cs v.layout v.nodes
seen-by t v view is cs same = subst (λ ds. AreLooked t ds v.layout v.nodes) (sym same) (seen t v view is)

-- a node's row has those alike to it
pub alike-row : {V : Type 0} (items : V → List ℕ) (vs : List V) (layout : Layout) (nodes node : ℕ) (d : V)
    → map items vs ≡ map (alike_nodes layout.mapping nodes) (range_with_len 0 nodes) → node < nodes
    → items (get_or vs node d) ≡ alike_nodes layout.mapping nodes node
alike-row items vs layout nodes node d is within = row items (alike_nodes layout.mapping nodes) vs nodes is node d within

pub alike-below : (mapping : Mapping) (nodes node : ℕ) → All (λ other. other < nodes) (alike_nodes mapping nodes node)
alike-below mapping nodes node = All-filter (is_alike mapping node) (λ other. other < nodes) (range_with_len 0 nodes)
    (All-range (λ other. other < nodes) 0 nodes (λ j from below. omega (arith, below)))

-- the owners of an element are the row of its least owner
pub owners-row : {V : Type 0} (items : V → List ℕ) (vs : List V) (layout : Layout) (nodes at : ℕ) (d : V)
    → map items vs ≡ map (alike_nodes layout.mapping nodes) (range_with_len 0 nodes) → least_at nodes layout at < nodes
    → items (get_or vs (least_at nodes layout at) d) ≡ alike_nodes layout.mapping nodes (least_at nodes layout at)
owners-row items vs layout nodes at d is within = row items (alike_nodes layout.mapping nodes) vs nodes is (least_at nodes layout at) d within

-- the first of each row are the leaders
pub leaders-are : {V : Type 0} (items : V → List ℕ) (mapping : Mapping) (nodes : ℕ) (vs given : List V) (firsts : List ℕ)
    → firsts ≡ map (λ v. get_or (items v) 0 0) given → given ≡ vs → map items vs ≡ map (alike_nodes mapping nodes) (range_with_len 0 nodes)
    → firsts ≡ map (leader mapping nodes) (range_with_len 0 nodes)
leaders-are items mapping nodes vs given firsts made same is =
    made ∙ ap (map (λ v. get_or (items v) 0 0)) same ∙ sym (map-map (λ l. get_or l 0 0) items vs) ∙ ap (map (λ l. get_or l 0 0)) is
    ∙ map-map (λ l. get_or l 0 0) (alike_nodes mapping nodes) (range_with_len 0 nodes)
    ∙ map-range_agree (λ node. get_or (alike_nodes mapping nodes node) 0 0) (leader mapping nodes) 0 nodes (λ node from below. filter-head (is_alike mapping node) 0 nodes)
