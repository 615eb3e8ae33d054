-- Each element that maps inside every line has an owner.
use Rattle.std.proofs.Common.{◌≡◌, ◌≢◌, ℕ, zero, suc, ◌+◌, ◌<◌, ◌≤◌, ◌⊎◌, inl, inr, ℤ, pos, negsuc, ◌≤ℤ◌, Bool, true, false, ◌&&◌, List, [], ◌∷◌, refl, sym, ◌∙◌, ap, subst, arith, length, get_or, replicate, set, eq-eqb, Option, Some, None, find, All, AllPairs, unsigned_abs}
use Rattle.std.proofs.lemmas.Bool.{and_from, cases_eq, cond-true, cond-false}
use Rattle.std.proofs.lemmas.List.{get_or-replicate, get_or-set_other, get_or-set_same, length-replicate, length-set}
use Rattle.std.proofs.lemmas.List.Elements.{All-head, All-tail}
use Rattle.std.proofs.lemmas.Option.{get_or_from_slice_get, slice_get_within}
use Rattle.std.proofs.lemmas.Int.{ints}
use Rattle.std.specs.List.{list_all, range_with_len}
use Rattle.mappings.specs.declared.mapping.Line.{Line}
use Rattle.mappings.specs.declared.mapping.MapDim.{MapDim}
use Rattle.mappings.specs.declared.mapping.Mapping.{Mapping}
use Rattle.mappings.specs.Alignment.{agrees, agrees_at, aligned, owns_at, position_at}
use Rattle.hpf_base.specs.ElementOrder.{product}
use Rattle.hpf_base.specs.Grid.{IsGrid, node_coordinates}
use Rattle.mappings.specs.Mapping.{InLine, IsMapDim, IsMapping}
use Rattle.mappings.specs.Owner.{coordinate}
use Rattle.mappings.proofs.Lines.{coordinate-below}
use Rattle.hpf_base.proofs.Places.{IsPlace, number_of, number_of-below, place_at-number_of, places-get}

first_or_later : (p : ℕ → Bool) (a n m : ℕ) → (a ≡ m) ⊎ (a ≡ m → ⊥) → ((k : ℕ) → a ≤ k → k < m → p k ≡ false) → p m ≡ true
    → (a + 1 ≤ m → find p (range_with_len (a + 1) n) ≡ Some m) → a ≤ m → find p (range_with_len a (suc n)) ≡ Some m
first_or_later p a n m (inl same) before here rest from =
    cond-true (p a) (Some a) (find p (range_with_len (a + 1) n)) (ap p same ∙ here) ∙ ap Some same
first_or_later p a n m (inr other) before here rest from =
    cond-false (p a) (Some a) (find p (range_with_len (a + 1) n)) (before a (omega arith) (omega arith)) ∙ rest (omega arith)

-- the first number of a range that passes
pub find-range : (p : ℕ → Bool) (a n m : ℕ) → a ≤ m → m < a + n → ((k : ℕ) → a ≤ k → k < m → p k ≡ false) → p m ≡ true
    → find p (range_with_len a n) ≡ Some m
find-range p a zero m from below before here = absurd (omega arith)
find-range p a (suc n) m from below before here =
    first_or_later p a n m (cases_eq a m) before here
    (λ later. find-range p (a + 1) n m later (omega arith) (λ k low high. before k (omega arith) high) here)
    from

-- a position inside a line is a number from 1 to its extent
pub position_within : (line : Line) (position : ℤ) → pos 1 ≤ℤ position → position ≤ℤ pos line.extent
    → (1 ≤ unsigned_abs position) × (unsigned_abs position ≤ line.extent)
position_within line (pos n) from upto = (omega (arith, ints), omega (arith, ints))
position_within line (negsuc n) from upto = absurd (omega (arith, ints))

-- coordinates for some entries of a mapping
record Agreed (grid : List ℕ) (subscripts : List (Option ℤ)) (entries : List MapDim) : Type 0 where
  coordinates : List ℕ
  place : IsPlace grid coordinates
  all : list_all (agrees coordinates subscripts) entries ≡ true

-- entries on other dimensions of the grid don't see a coordinate
agrees-set : (coordinates : List ℕ) (subscripts : List (Option ℤ)) (dim value : ℕ) (entries : List MapDim)
    → All (λ entry. dim ≢ entry.grid_dim) entries
    → list_all (agrees (set coordinates dim value) subscripts) entries ≡ list_all (agrees coordinates subscripts) entries
agrees-set coordinates subscripts dim value [] apart = refl
agrees-set coordinates subscripts dim value (entry ∷ entries) apart =
    let here : dim ≢ entry.grid_dim = All-head (λ e. dim ≢ e.grid_dim) entry entries apart in
    let other : get_or (set coordinates dim value) entry.grid_dim 0 ≡ get_or coordinates entry.grid_dim 0 =
    get_or-set_other coordinates dim entry.grid_dim value 0 (λ h. here (sym h)) in
    let rest = agrees-set coordinates subscripts dim value entries (All-tail (λ e. dim ≢ e.grid_dim) entry entries apart) in
    ap (λ own. agrees_at entry.line own (aligned entry.align subscripts) && list_all (agrees (set coordinates dim value) subscripts) entries) other
    ∙ ap (λ t. agrees coordinates subscripts entry && t) rest

IsPlace-set : (grid coordinates : List ℕ) (dim value : ℕ) → IsPlace grid coordinates → value < get_or grid dim 0 → IsPlace grid (set coordinates dim value)
IsPlace-set grid coordinates dim value place below = record {
  rank = length-set coordinates dim value ∙ place.rank;
  below = λ k inside. cases k inside (cases_eq k dim);
}
  where
    cases : (k : ℕ) → k < length grid → (k ≡ dim) ⊎ (k ≡ dim → ⊥) → get_or (set coordinates dim value) k 0 < get_or grid k 0
    cases k inside (inl same) =
        let at : dim < length coordinates = omega (arith, place.rank, same) in
        let written : get_or (set coordinates dim value) dim 0 ≡ value = get_or-set_same coordinates dim value 0 at in
        subst (λ n. get_or (set coordinates dim value) n 0 < get_or grid n 0) (sym same) (omega (arith, written, below))
    cases k inside (inr other) =
        let kept : get_or (set coordinates dim value) k 0 ≡ get_or coordinates k 0 = get_or-set_other coordinates dim k value 0 other in
        omega (arith, kept, place.below k inside)

-- one entry more, by the subscript that it is given
agreed_more : (grid : List ℕ) (rank : ℕ) (subscripts : List (Option ℤ)) (entry : MapDim) (entries : List MapDim) (given : Option ℤ)
    → aligned entry.align subscripts ≡ given → IsMapDim grid rank entry → InLine entry.line given
    → All (λ other. entry.grid_dim ≢ other.grid_dim) entries → Agreed grid subscripts entries → Agreed grid subscripts (entry ∷ entries)
agreed_more grid rank subscripts entry entries None is valid inside apart rest = record {
  coordinates = rest.coordinates;
  place = rest.place;
  all = and_from _ _ (ap (agrees_at entry.line (get_or rest.coordinates entry.grid_dim 0)) is) rest.all;
}
agreed_more grid rank subscripts entry entries (Some subscript) is valid inside apart rest =
    let value = coordinate entry.line (unsigned_abs (position_at entry.line subscript)) in
    let extent : get_or grid entry.grid_dim 0 ≡ entry.line.procs = get_or_from_slice_get grid entry.grid_dim entry.line.procs 0 valid.procs in
    let within : entry.grid_dim < length grid = slice_get_within grid entry.grid_dim entry.line.procs valid.procs in
    let position : (1 ≤ unsigned_abs (position_at entry.line subscript)) × (unsigned_abs (position_at entry.line subscript) ≤ entry.line.extent) =
    position_within entry.line (position_at entry.line subscript) inside.0 inside.1 in
    let below : value < entry.line.procs =
    coordinate-below entry.line (unsigned_abs (position_at entry.line subscript)) valid.line position.0 position.1 in
    let at : entry.grid_dim < length rest.coordinates = omega (arith, within, rest.place.rank) in
    let written : get_or (set rest.coordinates entry.grid_dim value) entry.grid_dim 0 ≡ value =
    get_or-set_same rest.coordinates entry.grid_dim value 0 at in
    record {
      coordinates = set rest.coordinates entry.grid_dim value;
      place = IsPlace-set grid rest.coordinates entry.grid_dim value rest.place (omega (arith, below, extent));
      all = and_from _ _
          (ap (agrees_at entry.line (get_or (set rest.coordinates entry.grid_dim value) entry.grid_dim 0)) is ∙ eq-eqb value _ (sym written))
          (agrees-set rest.coordinates subscripts entry.grid_dim value entries apart ∙ rest.all);
    }

agreed : (grid : List ℕ) (rank : ℕ) (subscripts : List (Option ℤ)) (entries : List MapDim) → All (λ extent. 1 ≤ extent) grid
    → All (IsMapDim grid rank) entries → All (λ entry. InLine entry.line (aligned entry.align subscripts)) entries
    → AllPairs (λ x y. x.grid_dim ≢ y.grid_dim) entries → Agreed grid subscripts entries
agreed grid rank subscripts [] some valid inside apart = record {
  coordinates = replicate (length grid) 0;
  place = record {
    rank = length-replicate (length grid) 0;
    below = λ k within. omega (arith, get_or-replicate {A = ℕ} (length grid) k 0 0 within, some k 0 within);
  };
  all = refl;
}
agreed grid rank subscripts (entry ∷ entries) some valid inside apart =
    agreed_more grid rank subscripts entry entries (aligned entry.align subscripts) refl
    (All-head (IsMapDim grid rank) entry entries valid)
    (All-head (λ e. InLine e.line (aligned e.align subscripts)) entry entries inside)
    (λ k d within. apart 0 (suc k) d (omega arith) (omega arith))
    (agreed grid rank subscripts entries some (All-tail (IsMapDim grid rank) entry entries valid)
    (All-tail (λ e. InLine e.line (aligned e.align subscripts)) entry entries inside)
    (λ i j d order within. apart (suc i) (suc j) d (omega arith) (omega arith)))

-- a node of the grid agrees in every entry
pub has_owner : (mapping : Mapping) (rank : ℕ) (subscripts : List (Option ℤ)) → IsGrid mapping.grid → IsMapping rank mapping
    → All (λ entry. InLine entry.line (aligned entry.align subscripts)) mapping.dims
    → (node : ℕ) × (node < product mapping.grid) × (owns_at mapping subscripts node ≡ true)
has_owner mapping rank subscripts grid valid inside =
    let found = agreed mapping.grid rank subscripts mapping.dims grid.extents valid.entries inside valid.grid_dims in
    let node = number_of mapping.grid found.coordinates in
    let below : node < product mapping.grid = number_of-below mapping.grid found.coordinates found.place in
    let at : node_coordinates mapping.grid node ≡ found.coordinates =
    places-get mapping.grid node [] below ∙ place_at-number_of mapping.grid found.coordinates found.place in
    (node, below, ap (λ coordinates. list_all (agrees coordinates subscripts) mapping.dims) at ∙ found.all)
