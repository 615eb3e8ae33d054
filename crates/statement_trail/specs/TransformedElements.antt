-- Of the claim.
-- Circular shifts and transposes of whole arrays as assignments of elements (Fortran 95, 13.14.26 and 13.14.111): the indices go along the bounds of the
-- target, as in a FORALL with this header, whose assignment has these sides.
use Rattle.std.specs.Prelude.{ℕ, suc, max, List, [], ◌∷◌, map, slice_index_or, ℤ, pos}
use Rattle.op_tables.specs.declared.op.Op.{Op}
use Rattle.op_tables.specs.declared.op.Op.TheVariants as op
use Rattle.op_tables.specs.Operators.{modulo}
use Rattle.nest_syntax.specs.Dim.{Dim}
use Rattle.nest_syntax.specs.Dims.{extent}
use Rattle.nest_syntax.specs.Sequence.{Sequence}
use Rattle.nest_syntax.specs.Terms.{Term, Number, Index, Element, Apply, Terms, NoTerm, More}
use Rattle.nest_syntax.specs.Statements.{WholeArray, Transformation, CircularShift, Transposition, PrefixSum}
use Rattle.nest_syntax.specs.Transformations.{extents_of}

-- ---- the indices

-- the subscripts of a dimension
abbrev pub bounds_of : Dim → Sequence
bounds_of d = record { first = d.lower; step = pos 1; count = extent d }

abbrev pub axes_of : WholeArray → List Sequence
axes_of x = map bounds_of x.dims

-- the left side has an index for each dimension
abbrev pub indices_from : ℕ → List Dim → Terms
indices_from k [] = NoTerm
indices_from k (d ∷ ds) = More (Index k) (indices_from (suc k) ds)

-- ---- subscripts of the source

abbrev pub applied : Op → Term → Term → Term
applied o t u = Apply o (More t (More u NoTerm))

-- how far an index is above the lower bound of its dimension, and the subscript that is so far above the lower bound of another
abbrev pub above_lower : ℕ → Dim → Term
above_lower k d = applied op.Sub (Index k) (Number d.lower)

abbrev pub from_lower : Dim → Term → Term
from_lower e t = applied op.Add t (Number e.lower)

-- by the same places in these dimensions
abbrev pub same_places : ℕ → (target source : List Dim) → Terms
same_places k (d ∷ ds) (e ∷ es) = More (from_lower e (above_lower k d)) (same_places (suc k) ds es)
same_places k ds es = NoTerm

-- a number below 2n, less n where it isn't below n
abbrev pub turned : ℕ → Term → Term
turned n t = applied op.Sub t (applied op.Mul (Number (pos n)) (applied op.Ge t (Number (pos n))))

-- in the first dimension, of n, so many places on, which are below n
abbrev pub shifted_subscripts : Term → (target source : List Dim) → Terms
shifted_subscripts turn (d ∷ ds) (e ∷ es) = More (from_lower e (turned (extent d) (applied op.Add (above_lower 0 d) turn))) (same_places 1 ds es)
shifted_subscripts turn ds es = NoTerm

-- by the places of each other's dimension
abbrev pub transposed_subscripts : (target source : List Dim) → Terms
transposed_subscripts (d ∷ d' ∷ []) (e ∷ e' ∷ []) = More (from_lower e (above_lower 1 d')) (More (from_lower e' (above_lower 0 d)) NoTerm)
transposed_subscripts ds es = NoTerm

-- those of the source; a prefix sum moves no elements, and nothing asks for its subscripts
abbrev pub source_subscripts : Transformation → Term → (target source : List Dim) → Terms
source_subscripts (CircularShift by) turn ds es = shifted_subscripts turn ds es
source_subscripts Transposition turn ds es = transposed_subscripts ds es
source_subscripts PrefixSum turn ds es = same_places 0 ds es

-- the right side
abbrev pub source_element : WholeArray → WholeArray → Transformation → Term → Term
source_element x y how turn = Element y.array (source_subscripts how turn x.dims y.dims)

-- ---- how many places a shift turns: MODULO(k, n) of the first extent, of which an empty dimension has one

abbrev pub first_extent : WholeArray → ℕ
first_extent x = max 1 (slice_index_or (extents_of x) 0 1)

abbrev pub turn_of : WholeArray → ℤ → ℤ
turn_of x k = modulo k (pos (first_extent x))
