-- What composing keeps.
use Rattle.std.proofs.Common.{◌≡◌, ◌≢◌, ℕ, suc, zero, ◌<◌, ◌⊎◌, inl, inr, ℤ, pos, ◌+ℤ◌, ◌*ℤ◌, Bool, true, false, cond, ◌&&◌, List, [], ◌∷◌, refl, sym, ◌∙◌, ap, subst, arith, length, map, get_or, All, AllPairs, Option, Some, None, option_map}
use Rattle.std.proofs.Math.IntN.{zero-*ℤ, *ℤ-zero}
use Rattle.std.proofs.lemmas.Bool.{cases_order}
use Rattle.std.proofs.lemmas.Bool.Decides.{Decides-int_eq}
use Rattle.std.proofs.lemmas.List.{get_or-map, get_or_default, length-map}
use Rattle.std.proofs.lemmas.List.Elements.{All-map}
use Rattle.std.specs.List.{list_all}
use Rattle.std.specs.Ordering.{int_eq}
use Rattle.mappings.specs.declared.mapping.AlignDim.{AlignDim}
use Rattle.mappings.specs.declared.mapping.AlignDim.TheVariants.{Linear, At, Every}
use Rattle.mappings.specs.declared.mapping.MapDim.{MapDim}
use Rattle.mappings.specs.declared.mapping.Mapping.{Mapping}
use Rattle.mappings.specs.Alignment.{agrees, agrees_at, align_through, aligned, composed, composed_align, composed_entry, owns_at}
use Rattle.hpf_base.specs.Grid.{node_coordinates}
use Rattle.mappings.specs.Mapping.{IsAlign, IsMapDim, IsMapping, MoveApart, moves_along}
use Rattle.hpf_base.proofs.Integers.{linear_of_linear}

get_or-map_default : {X Y : Type 0} (f : X → Y) (xs : List X) (k : ℕ) (d : X) → get_or (map f xs) k (f d) ≡ f (get_or xs k d)
get_or-map_default f [] k d = refl
get_or-map_default f (x ∷ xs) zero d = refl
get_or-map_default f (x ∷ xs) (suc k) d = get_or-map_default f xs k d

linear-linear : (a b c d : ℤ) (given : Option ℤ)
    → option_map (λ i. ((a *ℤ c) *ℤ i) +ℤ ((a *ℤ d) +ℤ b)) given ≡ option_map (λ i. (a *ℤ i) +ℤ b) (option_map (λ i. (c *ℤ i) +ℤ d) given)
linear-linear a b c d None = refl
linear-linear a b c d (Some i) = ap Some (linear_of_linear a b c d i)

aligned-align_through : (a b : ℤ) (inner : AlignDim) (subscripts : List (Option ℤ))
    → aligned (align_through a b inner) subscripts ≡ option_map (λ i. (a *ℤ i) +ℤ b) (aligned inner subscripts)
aligned-align_through a b (Linear dim c d) subscripts = linear-linear a b c d (get_or subscripts dim None)
aligned-align_through a b (At v) subscripts = refl
aligned-align_through a b Every subscripts = refl

-- the subscript by a composed alignment is that by both
aligned-composed : (align : List AlignDim) (outer : AlignDim) (subscripts : List (Option ℤ))
    → aligned (composed_align align outer) subscripts ≡ aligned outer (map (λ inner. aligned inner subscripts) align)
aligned-composed align (Linear dim a b) subscripts =
    aligned-align_through a b (get_or align dim Every) subscripts
    ∙ ap (option_map (λ i. (a *ℤ i) +ℤ b)) (sym (get_or-map_default (λ inner. aligned inner subscripts) align dim Every))
aligned-composed align (At v) subscripts = refl
aligned-composed align Every subscripts = refl

agrees-composed : (align : List AlignDim) (subscripts : List (Option ℤ)) (coordinates : List ℕ) (entries : List MapDim)
    → list_all (agrees coordinates subscripts) (map (composed_entry align) entries)
    ≡ list_all (agrees coordinates (map (λ inner. aligned inner subscripts) align)) entries
agrees-composed align subscripts coordinates [] = refl
agrees-composed align subscripts coordinates (entry ∷ entries) =
    ap (λ given. agrees_at entry.line (get_or coordinates entry.grid_dim 0) given
    && list_all (agrees coordinates subscripts) (map (composed_entry align) entries)) (aligned-composed align entry.align subscripts)
    ∙ ap (λ t. agrees coordinates (map (λ inner. aligned inner subscripts) align) entry && t) (agrees-composed align subscripts coordinates entries)

-- to compose and then to own is to own through both
pub owns_at-composed : (target : Mapping) (align : List AlignDim) (subscripts : List (Option ℤ)) (node : ℕ)
    → owns_at (composed target align) subscripts node ≡ owns_at target (map (λ inner. aligned inner subscripts) align) node
owns_at-composed target align subscripts node = agrees-composed align subscripts (node_coordinates target.grid node) target.dims

-- the dimension along which a product moves
moves-product : (a c : ℤ) (dim along : ℕ) → cond (int_eq (a *ℤ c) (pos 0)) None (Some dim) ≡ Some along
    → (cond (int_eq a (pos 0)) None (Some dim) ≡ Some dim) × (cond (int_eq c (pos 0)) None (Some dim) ≡ Some along)
moves-product a c dim along moves = cases (int_eq a (pos 0)) (int_eq c (pos 0)) refl refl
  where
    stands : (t : Bool) → int_eq (a *ℤ c) (pos 0) ≡ t → a *ℤ c ≡ pos 0 → ⊥
    stands true is zero_product = cc (ap (λ u. cond u None (Some dim)) is)
    stands false is zero_product = cc ((Decides-int_eq (a *ℤ c) (pos 0)).1 zero_product)

    one : (t : Bool) → int_eq (a *ℤ c) (pos 0) ≡ t → dim ≡ along
    one true is = cc (ap (λ u. cond u None (Some dim)) is)
    one false is = cc (ap (λ u. cond u None (Some dim)) is)

    cases : (s t : Bool) → int_eq a (pos 0) ≡ s → int_eq c (pos 0) ≡ t → (cond s None (Some dim) ≡ Some dim) × (cond t None (Some dim) ≡ Some along)
    cases true t s-is t-is =
        absurd (stands (int_eq (a *ℤ c) (pos 0)) refl (ap (λ x. x *ℤ c) ((Decides-int_eq a (pos 0)).0 s-is) ∙ zero-*ℤ c))
    cases false true s-is t-is =
        absurd (stands (int_eq (a *ℤ c) (pos 0)) refl (ap (λ x. a *ℤ x) ((Decides-int_eq c (pos 0)).0 t-is) ∙ *ℤ-zero a))
    cases false false s-is t-is = (refl, ap Some (one (int_eq (a *ℤ c) (pos 0)) refl))

moves-through : (a b : ℤ) (dim : ℕ) (inner : AlignDim) (along : ℕ) → moves_along (align_through a b inner) ≡ Some along
    → (moves_along (Linear dim a b) ≡ Some dim) × (moves_along inner ≡ Some along)
moves-through a b dim (Linear d c e) along moves = (a_moves (int_eq a (pos 0)) (moves-product a c d along moves).0, (moves-product a c d along moves).1)
  where
    a_moves : (s : Bool) → cond s None (Some d) ≡ Some d → cond s None (Some dim) ≡ Some dim
    a_moves true is = cc
    a_moves false is = refl
moves-through a b dim (At v) along moves = cc
moves-through a b dim Every along moves = cc

-- a composed alignment moves where both do
record MovesThrough (align : List AlignDim) (outer : AlignDim) (along : ℕ) : Type 0 where
  dim : ℕ
  within : dim < length align
  outer_moves : moves_along outer ≡ Some dim
  inner_moves : moves_along (get_or align dim Every) ≡ Some along

moves-composed : (align : List AlignDim) (outer : AlignDim) (along : ℕ) → IsAlign (length align) outer
    → moves_along (composed_align align outer) ≡ Some along → MovesThrough align outer along
moves-composed align (Linear dim a b) along valid moves =
    let both = moves-through a b dim (get_or align dim Every) along moves in
    record { dim = dim; within = valid; outer_moves = both.0; inner_moves = both.1 }
moves-composed align (At v) along valid moves = cc
moves-composed align Every along valid moves = cc

MoveApart-composed : (align : List AlignDim) (x y : AlignDim) → AllPairs MoveApart align → IsAlign (length align) x → IsAlign (length align) y
    → MoveApart x y → MoveApart (composed_align align x) (composed_align align y)
MoveApart-composed align x y apart x-valid y-valid outer along x-moves y-moves =
    meet (moves-composed align x along x-valid x-moves) (moves-composed align y along y-valid y-moves)
  where
    meet : MovesThrough align x along → MovesThrough align y along → ⊥
    meet p q = cases (cases_order p.dim q.dim)
      where
        cases : (p.dim ≡ q.dim) ⊎ ((p.dim < q.dim) ⊎ (q.dim < p.dim)) → ⊥
        cases (inl same) = outer p.dim p.outer_moves (q.outer_moves ∙ ap Some (sym same))
        cases (inr (inl less)) = apart p.dim q.dim Every less q.within along p.inner_moves q.inner_moves
        cases (inr (inr more)) = apart q.dim p.dim Every more p.within along q.inner_moves p.inner_moves

IsAlign-through : (rank : ℕ) (a b : ℤ) (inner : AlignDim) → IsAlign rank inner → IsAlign rank (align_through a b inner)
IsAlign-through rank a b (Linear dim c d) valid = valid
IsAlign-through rank a b (At v) valid = valid
IsAlign-through rank a b Every valid = valid

IsAlign-composed : (rank : ℕ) (align : List AlignDim) (outer : AlignDim) → All (IsAlign rank) align → IsAlign (length align) outer
    → IsAlign rank (composed_align align outer)
IsAlign-composed rank align (Linear dim a b) inner valid = IsAlign-through rank a b (get_or align dim Every) (inner dim Every valid)
IsAlign-composed rank align (At v) inner valid = valid
IsAlign-composed rank align Every inner valid = valid

AllPairs-map : {X : Type 0} (R : X → X → Type 0) (f : X → X) (xs : List X)
    → ((i j : ℕ) (d : X) → i < j → j < length xs → R (f (get_or xs i d)) (f (get_or xs j d))) → AllPairs R (map f xs)
AllPairs-map R f xs pairs i j d order within =
    let below : j < length xs = omega (arith, length-map xs f) in
    let before : i < length xs = omega arith in
    let first : get_or (map f xs) i d ≡ f (get_or xs i d) = get_or-map f xs i d d before in
    let second : get_or (map f xs) j d ≡ f (get_or xs j d) = get_or-map f xs j d d below in
    subst (λ y. R (get_or (map f xs) i d) y) (sym second) (subst (λ x. R x (f (get_or xs j d))) (sym first) (pairs i j d order below))

-- the composed mapping is valid for the array whose dimensions the alignments name
pub IsMapping-composed : (target : Mapping) (align : List AlignDim) (rank : ℕ) → IsMapping (length align) target → AllPairs MoveApart align
    → All (IsAlign rank) align → IsMapping rank (composed target align)
IsMapping-composed target align rank valid apart inner = record {
  entries = All-map (IsMapDim target.grid rank) (composed_entry align) target.dims
      (λ k d within.
      let entry : IsMapDim target.grid (length align) (get_or target.dims k d) = valid.entries k d within in
      record {
        line = entry.line;
        distributed = entry.distributed;
        procs = entry.procs;
        align = IsAlign-composed rank align (get_or target.dims k d).align inner entry.align;
      });
  grid_dims = AllPairs-map (λ x y. x.grid_dim ≢ y.grid_dim) (composed_entry align) target.dims valid.grid_dims;
  apart = AllPairs-map (λ x y. MoveApart x.align y.align) (composed_entry align) target.dims
      (λ i j d order within.
      MoveApart-composed align (get_or target.dims i d).align (get_or target.dims j d).align apart
      (valid.entries i d (omega arith)).align (valid.entries j d within).align (valid.apart i j d order within));
}

pub IsMapping-composed_parts : (target : Mapping) (align : List AlignDim) (rank : ℕ) (grid : List ℕ) (dims : List MapDim)
    → grid ≡ target.grid → dims ≡ map (composed_entry align) target.dims → IsMapping rank (composed target align)
    → IsMapping rank (record { grid = grid; dims = dims })
IsMapping-composed_parts target align rank grid dims grid-is dims-is valid =
    subst (λ g. IsMapping rank (record { grid = g; dims = dims })) (sym grid-is)
    (subst (λ ds. IsMapping rank (record { grid = target.grid; dims = ds })) (sym dims-is) valid)

-- the read alignment put in, at any default of the read
pub put_in_linear : (align : List AlignDim) (outer : AlignDim) (dim : ℕ) (a b a' b' : ℤ) (default answer : AlignDim)
    → answer ≡ align_through a' b' (get_or align dim default) → a' ≡ a → b' ≡ b → outer ≡ Linear dim a b → IsAlign (length align) outer
    → answer ≡ composed_align align outer
put_in_linear align outer dim a b a' b' default answer given a-is b-is is valid =
    let inside : dim < length align = subst (IsAlign (length align)) is valid in
    given ∙ ap (λ x. align_through x b' (get_or align dim default)) a-is ∙ ap (λ y. align_through a y (get_or align dim default)) b-is
    ∙ ap (align_through a b) (get_or_default align dim default Every inside) ∙ sym (ap (composed_align align) is)
