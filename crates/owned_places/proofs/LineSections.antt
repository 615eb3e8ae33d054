-- What an entry gives the subscripts along an axis, as a section of its line.
use Rattle.std.proofs.Common.{◌≡◌, ℕ, zero, suc, ◌+◌, ◌*◌, ◌<◌, ◌≤◌, ◌&&◌, ◌||◌, not, Bool, true, false, cond, List, [], ◌∷◌, length, get_or, slice_index, ℤ, pos, negsuc, neg_ℤ, ◌+ℤ◌, ◌*ℤ◌, ◌≤ℤ◌, unsigned_abs, Some, None, refl, sym, ◌∙◌, ap, subst, arith, eq-eqb, FitsSigned}
use Rattle.std.proofs.lemmas.Int.{fits_signed_from_abs, ints, unsigned_abs-mul}
use Rattle.std.proofs.Math.IntN.{*ℤ-zero, negsuc-*ℤ-pos, pos-*ℤ-pos}
use Rattle.std.proofs.Math.Nat.{mul-le-mul}
use Rattle.std.specs.Int.{w64}
use Rattle.mappings.specs.declared.limits.TheConstants.{MAX_TEMPLATE_EXTENT}
use Rattle.hpf_base.specs.ElementOrder.{product}
use Rattle.hpf_base.specs.Grid.{node_coordinates}
use Rattle.hpf_base.proofs.Integers.{linear_of_linear}
use Rattle.mappings.specs.declared.mapping.AlignDim.{AlignDim}
use Rattle.mappings.specs.declared.mapping.AlignDim.TheVariants.{Linear, At, Every}
use Rattle.mappings.specs.declared.mapping.Line.{Line}
use Rattle.mappings.specs.declared.mapping.MapDim.{MapDim}
use Rattle.mappings.specs.Alignment.{agrees_at, position_at}
use Rattle.mappings.specs.Mapping.{InLine, IsMapDim}
use Rattle.local_address.proofs.SpanLaws.{own-below}
use Rattle.gap_table.specs.OwnedSequence.{position_of}
use Rattle.courses.specs.AxisTables.{subscript_on}
use Rattle.courses.specs.Subscripts.{agrees_along, along_dims}
use Rattle.owned_places.specs.Dims.{asks_dim, entries_asking, given_along}
use Rattle.owned_places.proofs.HeldDims.{and-parts, and-true}

-- the first place
pub at-first : (i step : ℤ) → subscript_on i step 0 ≡ i
at-first i step = ap (λ z. i +ℤ z) (*ℤ-zero step) ∙ (let none : i +ℤ pos 0 ≡ i = omega (arith, ints) in none)

one-times : (x : ℤ) → x *ℤ pos 1 ≡ x
one-times (pos n) = pos-*ℤ-pos n 1 ∙ (let once : n * 1 ≡ n = omega arith in ap pos once)
one-times (negsuc n) =
    negsuc-*ℤ-pos n 1 ∙ (let once : suc n * 1 ≡ suc n = omega arith in ap (λ k. neg_ℤ (pos k)) once)
    ∙ (let same : neg_ℤ (pos (suc n)) ≡ negsuc n = omega (arith, ints) in same)

-- the position of a place, by the stride
pub position-at : (line : Line) (a b i step stride : ℤ) (start j : ℕ) → pos start ≡ position_at line ((a *ℤ i) +ℤ b) → stride ≡ a *ℤ step
    → position_of start stride j ≡ position_at line ((a *ℤ subscript_on i step j) +ℤ b)
position-at line a b i step stride start j start-is stride-is =
    let turn : i +ℤ (step *ℤ pos j) ≡ (step *ℤ pos j) +ℤ i = omega (arith, ints) in
    (λ n. start-is n +ℤ (stride-is n *ℤ pos j)) ∙ moved ((a *ℤ step) *ℤ pos j) ((a *ℤ i) +ℤ b)
    ∙ ap (position_at line) (linear_of_linear a b step i (pos j)) ∙ ap (λ z. position_at line ((a *ℤ z) +ℤ b)) (sym turn)
  where
    moved : (x y : ℤ) → position_at line y +ℤ x ≡ position_at line (x +ℤ y)
    moved x y = omega (arith, ints)

-- two places inside a line bound the stride
pub stride-fits : (line : Line) (a b i step : ℤ) → line.extent ≤ MAX_TEMPLATE_EXTENT → InLine line (Some ((a *ℤ subscript_on i step 0) +ℤ b))
    → InLine line (Some ((a *ℤ subscript_on i step 1) +ℤ b)) → FitsSigned w64 (a *ℤ step)
stride-fits line a b i step small zero-in one-in =
    let x : ℤ = a *ℤ step in
    let y : ℤ = (a *ℤ i) +ℤ b in
    let next : (a *ℤ subscript_on i step 1) +ℤ b ≡ (a *ℤ step) +ℤ ((a *ℤ i) +ℤ b) =
    (let turn : i +ℤ (step *ℤ pos 1) ≡ (step *ℤ pos 1) +ℤ i = omega (arith, ints) in ap (λ z. (a *ℤ z) +ℤ b) turn)
    ∙ sym (linear_of_linear a b step i (pos 1)) ∙ ap (λ z. z +ℤ ((a *ℤ i) +ℤ b)) (one-times (a *ℤ step)) in
    let here : InLine line (Some ((a *ℤ i) +ℤ b)) = subst (λ z. InLine line (Some ((a *ℤ z) +ℤ b))) (at-first i step) zero-in in
    let there : InLine line (Some ((a *ℤ step) +ℤ ((a *ℤ i) +ℤ b))) = subst (λ z. InLine line (Some z)) next one-in in
    fits_signed_from_abs w64 (a *ℤ step) (small-step (a *ℤ step) ((a *ℤ i) +ℤ b) here.0 here.1 there.0 there.1)
  where
    small-step : (x y : ℤ) → pos 1 ≤ℤ position_at line y → position_at line y ≤ℤ pos line.extent → pos 1 ≤ℤ position_at line (x +ℤ y)
        → position_at line (x +ℤ y) ≤ℤ pos line.extent → unsigned_abs x < 9223372036854775808
    small-step x y low high low2 high2 = by_sign x low2 high2
      where
        by_sign : (x : ℤ) → pos 1 ≤ℤ position_at line (x +ℤ y) → position_at line (x +ℤ y) ≤ℤ pos line.extent → unsigned_abs x < 9223372036854775808
        by_sign (pos n) low2 high2 = omega (arith, ints, low, high, low2, high2, small)
        by_sign (negsuc n) low2 high2 = omega (arith, ints, low, high, low2, high2, small)

-- neither factor is 0
pub never-zero : (a s : ℤ) → ((a ≡ pos 0) → ⊥) → ((s ≡ pos 0) → ⊥) → (a *ℤ s ≡ pos 0) → ⊥
never-zero a s moves steps none =
    let some : 1 * 1 ≤ unsigned_abs a * unsigned_abs s = mul-le-mul (at-least a moves) (at-least s steps) in
    let zero-is : unsigned_abs a * unsigned_abs s ≡ 0 = sym (unsigned_abs-mul a s) ∙ ap unsigned_abs none in
    omega (arith, some, zero-is)
  where
    at-least : (z : ℤ) → ((z ≡ pos 0) → ⊥) → 1 ≤ unsigned_abs z
    at-least (pos zero) differ = absurd (differ refl)
    at-least (pos (suc n)) differ = omega arith
    at-least (negsuc n) differ = omega arith

-- the coordinate of a node in an entry's line
pub coordinate-below : (grid : List ℕ) (rank node : ℕ) (entry : MapDim) → IsMapDim grid rank entry → node < product grid
    → slice_index (node_coordinates grid node) entry.grid_dim < entry.line.procs
coordinate-below grid rank node entry is below =
    own-below grid node (Some record { line = entry.line; grid_dim = entry.grid_dim; factor = pos 1; offset = pos 0 }) is.procs below

-- what an entry that moves along the dimension gives
pub given-is : (line : Line) (align : AlignDim) (dim k : ℕ) (a b z : ℤ) → align ≡ Linear dim a b → dim ≡ k → InLine line (given_along k z align)
    → InLine line (Some ((a *ℤ z) +ℤ b))
given-is line align dim k a b z is same given =
    subst (λ t. InLine line (cond t (Some ((a *ℤ z) +ℤ b)) None)) (eq-eqb dim k same) (subst (λ x. InLine line (given_along k z x)) is given)

pub agrees-is : (line : Line) (own : ℕ) (align : AlignDim) (dim k : ℕ) (a b z : ℤ) → align ≡ Linear dim a b → dim ≡ k
    → agrees_at line own (Some ((a *ℤ z) +ℤ b)) ≡ agrees_along line own align k z
agrees-is line own align dim k a b z is same =
    sym (ap (λ x. agrees_along line own x k z) is ∙ ap (λ t. not t || agrees_at line own (Some ((a *ℤ z) +ℤ b))) (eq-eqb dim k same))

-- one entry of all
held-at : (coordinates : List ℕ) (entries : List MapDim) (n k : ℕ) (z : ℤ) (d : MapDim) → n < length entries → along_dims coordinates entries k z ≡ true
    → agrees_along (get_or entries n d).line (slice_index coordinates (get_or entries n d).grid_dim) (get_or entries n d).align k z ≡ true
held-at coordinates [] n k z d within held = absurd (omega (arith, within))
held-at coordinates (e ∷ es) zero k z d within held = (and-parts _ _ held).0
held-at coordinates (e ∷ es) (suc n) k z d within held = held-at coordinates es n k z d (omega (arith, within)) (and-parts _ _ held).1

-- an entry that is read from the list
pub one-agrees : (coordinates : List ℕ) (entries : List MapDim) (n k : ℕ) (z : ℤ) (e : MapDim) → n < length entries → e ≡ get_or entries n e
    → along_dims coordinates entries k z ≡ true → agrees_along e.line (slice_index coordinates e.grid_dim) e.align k z ≡ true
one-agrees coordinates entries n k z e within is held =
    subst (λ x. agrees_along x.line (slice_index coordinates x.grid_dim) x.align k z ≡ true) (sym is) (held-at coordinates entries n k z e within held)

-- an entry that doesn't ask the dimension
unasked : (line : Line) (own : ℕ) (align : AlignDim) (k : ℕ) (z : ℤ) → asks_dim k align ≡ false → agrees_along line own align k z ≡ true
unasked line own (Linear dim a b) k z other = ap (λ t. not t || agrees_at line own (Some ((a *ℤ z) +ℤ b))) other
unasked line own (At v) k z other = refl
unasked line own Every k z other = refl

pub asks-is : (align : AlignDim) (dim k : ℕ) (a b : ℤ) → align ≡ Linear dim a b → dim ≡ k → asks_dim k align ≡ true
asks-is align dim k a b is same = ap (asks_dim k) is ∙ eq-eqb dim k same

-- where none asks it
pub none-asks : (coordinates : List ℕ) (entries : List MapDim) (k : ℕ) (z : ℤ) → entries_asking k entries ≡ 0 → along_dims coordinates entries k z ≡ true
none-asks coordinates [] k z none = refl
none-asks coordinates (e ∷ es) k z none = by_test (none-asks coordinates es k z) (asks_dim k e.align) refl none
  where
    by_test : (entries_asking k es ≡ 0 → along_dims coordinates es k z ≡ true)
        → (t : Bool) → asks_dim k e.align ≡ t → cond t 1 0 + entries_asking k es ≡ 0 → along_dims coordinates (e ∷ es) k z ≡ true
    by_test rest true asks none = absurd (omega (arith, none))
    by_test rest false other none =
        ap (λ b. b && along_dims coordinates es k z) (unasked e.line (slice_index coordinates e.grid_dim) e.align k z other) ∙ rest (omega (arith, none))

some-asks : (entries : List MapDim) (n k : ℕ) (d : MapDim) → n < length entries → asks_dim k (get_or entries n d).align ≡ true → 1 ≤ entries_asking k entries
some-asks [] n k d within asks = absurd (omega (arith, within))
some-asks (e ∷ es) zero k d within asks = let one : ◌≡◌ {A = ℕ} (cond (asks_dim k e.align) 1 0) 1 = ap (λ t. cond t 1 0) asks in omega (arith, one)
some-asks (e ∷ es) (suc n) k d within asks = let later = some-asks es n k d (omega (arith, within)) asks in omega (arith, later)

-- where one alone does
asked-at : (coordinates : List ℕ) (entries : List MapDim) (n k : ℕ) (z : ℤ) (d : MapDim) → n < length entries → asks_dim k (get_or entries n d).align ≡ true
    → entries_asking k entries ≡ 1 → along_dims coordinates entries k z
    ≡ agrees_along (get_or entries n d).line (slice_index coordinates (get_or entries n d).grid_dim) (get_or entries n d).align k z
asked-at coordinates [] n k z d within asks one = absurd (omega (arith, within))
asked-at coordinates (e ∷ es) zero k z d within asks one =
    let here : ◌≡◌ {A = ℕ} (cond (asks_dim k e.align) 1 0) 1 = ap (λ t. cond t 1 0) asks in
    let agrees = agrees_along e.line (slice_index coordinates e.grid_dim) e.align k z in
    ap (λ b. agrees && b) (none-asks coordinates es k z (omega (arith, one, here))) ∙ and-true agrees
asked-at coordinates (e ∷ es) (suc n) k z d within asks one =
    by_test (asked-at coordinates es n k z d (omega (arith, within)) asks) (asks_dim k e.align) refl one
  where
    by_test : (entries_asking k es ≡ 1 → along_dims coordinates es k z
        ≡ agrees_along (get_or es n d).line (slice_index coordinates (get_or es n d).grid_dim) (get_or es n d).align k z)
        → (t : Bool) → asks_dim k e.align ≡ t → cond t 1 0 + entries_asking k es ≡ 1 → along_dims coordinates (e ∷ es) k z
        ≡ agrees_along (get_or es n d).line (slice_index coordinates (get_or es n d).grid_dim) (get_or es n d).align k z
    by_test rest true here one = absurd (let later = some-asks es n k d (omega (arith, within)) asks in omega (arith, one, later))
    by_test rest false other one =
        ap (λ b. b && along_dims coordinates es k z) (unasked e.line (slice_index coordinates e.grid_dim) e.align k z other) ∙ rest (omega (arith, one))

-- an entry that is read from the list
pub one-asks : (coordinates : List ℕ) (entries : List MapDim) (n k : ℕ) (z : ℤ) (e : MapDim) → n < length entries → e ≡ get_or entries n e
    → asks_dim k e.align ≡ true → entries_asking k entries ≡ 1 → along_dims coordinates entries k z
    ≡ agrees_along e.line (slice_index coordinates e.grid_dim) e.align k z
one-asks coordinates entries n k z e within is asks one =
    asked-at coordinates entries n k z e within (subst (λ x. asks_dim k x.align ≡ true) is asks) one
    ∙ ap (λ x. agrees_along x.line (slice_index coordinates x.grid_dim) x.align k z) (sym is)
