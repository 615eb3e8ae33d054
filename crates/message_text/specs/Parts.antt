-- Of the claim.
-- The parts of a trail on nodes: what each reads at a tuple, and who computes it. The owners of the element that is assigned compute it.
use Rattle.std.specs.Prelude.{ℕ, ◌+◌, ◌==◌, Bool, true, false, List, [], ◌∷◌, ◌++◌, length, map, replicate, ℤ, pos, Option, Some, None}
use Rattle.std.specs.Result.{result_unwrap_or}
use Rattle.expression_rules.specs.declared.dims.Dim.{Dim}
use Rattle.storage.specs.Storage.{Spot}
use Rattle.array_meaning.specs.Terms.{Term, Element, Apply, Terms, NoTerm, More}
use Rattle.array_meaning.specs.Sections.{positions, subscripts_at}
use Rattle.array_meaning.specs.State.{State}
use Rattle.array_meaning.specs.declared.sections.Sequence.{Sequence}
use Rattle.array_meaning.specs.Expressions.{value, values}
use Rattle.array_meaning.specs.Forall.{index_extents, indices_at, linear}
use Rattle.statement_trail.specs.Anchors.{AnchorTerm, AtTerm, AlongTerms, AnchorText}
use Rattle.statement_trail.specs.NestParts.{EnteredNest, NestPart, ScalarPart, ElementPart, ConditionPart, index_in, copied_in, scalar_copy, condition_copy}
use Rattle.nest_syntax.specs.Asked.{Asked}
use Rattle.statement_trail.specs.Trail.{Event, SectionAssigned, ValuesCopied, Reduced, ForallMask, ElementsAssigned, CopyAssigned, OfNest, Redistributed}
use Rattle.machine_steps.specs.Instr.{Remapping}
use Rattle.machine_steps.specs.Layout.{Layout, in_bounds}
use Rattle.machine_steps.specs.Message.{Part, computes_left, first_read, least_or_zero}
use Rattle.machine_steps.specs.Space.{space_count}
use Rattle.code_meaning.specs.Beside.{Anchor, aligned_layout}
use Rattle.code_meaning.specs.Anchors.{AnchorValue, LinearValue, TripletValue, anchor_by}
use Rattle.code_meaning.specs.Parallel.{reads_at, spot_of}
use Rattle.nest_syntax.specs.NestTerms.{indexed, all_indexed}

-- what is known beside a trail: how many nodes there are; the declared names, by their places, and the dimensions of those that are
-- arrays; which arrays the REDISTRIBUTE of a line moves, and to which mappings (HPF 2.0, 8.3); and rows of copies, with the scalars whose copies these are
pub record Setting : Type 0 where
  pub nodes : ℕ
  pub names : List (List ℕ)
  pub shapes : List (List Dim)
  pub moves : ℕ → List Remapping
  pub copies : List ℕ
  pub copied : List ℕ

-- ---- expressions of a FORALL, where the indices have these values. Its subscripts name no element

abbrev pub scalars_state : List ℤ → State
scalars_state scalars = record { scalars = scalars; arrays = []; printed = [] }

abbrev pub subscripts_in : List ℤ → List ℤ → Terms → List ℤ
subscripts_in scalars indices ts = result_unwrap_or (values indices (scalars_state scalars) ts) []

module _ (shapes : List (List Dim)) (scalars : List ℤ) (indices : List ℤ) where
  abbrev mutual
    -- the elements that it names, in the order of the text
    pub named_in : Term → List (Option Spot)
    named_in (Element a ts) = spot_of shapes a (subscripts_in scalars indices ts) ∷ []
    named_in (Apply o ts) = all_named_in ts
    named_in t = []

    pub all_named_in : Terms → List (Option Spot)
    all_named_in NoTerm = []
    all_named_in (More t ts) = named_in t ++ all_named_in ts

-- ---- parts of nests of INDEPENDENT loops (HPF 2.0, 5.1). The copies stand after the declared names, of which there are as many as scalars

module _ (nest : EnteredNest) (scalars : List ℤ) where
  -- the iteration's element of a copy
  abbrev pub copy_at : ℕ → ℕ → Option Spot
  copy_at copy t = Some record { row = length scalars + copy; at = t }

  -- the stored conditions that are asked for
  abbrev pub conditions_read : List Asked → ℕ → List (Option Spot)
  conditions_read asked t = map (λ w. copy_at (condition_copy nest w.number) t) asked

  -- the copies of the scalars that an expression names and the nest assigns, and then the elements that it names. A scalar that is an index of the nest
  -- has the value that this has in the iteration
  abbrev pub right_read : List (List Dim) → Term → ℕ → List (Option Spot)
  right_read shapes e t =
      map (λ k. copy_at (scalar_copy nest k) t) (copied_in nest.assigned e) ++ named_in shapes scalars (indices_at nest.axes t) (indexed (index_in nest.indices 0) e)

  abbrev pub part_read : List (List Dim) → NestPart → ℕ → List (Option Spot)
  part_read shapes (ScalarPart k e) t = right_read shapes e t
  part_read shapes (ElementPart a ts e) t = right_read shapes e t
  part_read shapes (ConditionPart k (Some e)) t = right_read shapes e t
  part_read shapes (ConditionPart k None) t = []

  -- what is assigned in an iteration: its copy of a scalar or of a condition, or an element
  abbrev pub part_assigned : List (List Dim) → NestPart → ℕ → Option Spot
  part_assigned shapes (ScalarPart k e) t = copy_at (scalar_copy nest k) t
  part_assigned shapes (ElementPart a ts e) t = spot_of shapes a (subscripts_in scalars (indices_at nest.axes t) (all_indexed (index_in nest.indices 0) ts))
  part_assigned shapes (ConditionPart k e) t = copy_at (condition_copy nest k) t

-- ---- parts

-- the extents of the space of a part
abbrev pub space_of : Event → List ℕ
space_of (SectionAssigned masked beside ns a ds x) = ns
space_of (ValuesCopied beside ns x) = ns
space_of (Reduced o ns x) = ns
space_of (ForallMask beside axes t) = index_extents axes
space_of (ElementsAssigned masked beside axes a ts t) = index_extents axes
space_of (CopyAssigned axes a ts) = index_extents axes
space_of (OfNest nest asked part) = index_extents nest.axes
space_of Redistributed = []

-- an element of the copy of a mask or of the source of a prefix sum, which stands after the declared names, of which there are as many as scalars
abbrev pub copy_spot : List ℤ → ℕ → Option Spot
copy_spot scalars t = Some record { row = length scalars; at = t }

abbrev pub mask_reads : List ℤ → Bool → ℕ → List (Option Spot)
mask_reads scalars false t = []
mask_reads scalars true t = copy_spot scalars t ∷ []

-- what is read at a tuple: the mask or other copies, and then the elements that the expression names, in the order of the text
abbrev pub reads_of : Setting → List ℤ → Event → ℕ → List (Option Spot)
reads_of s scalars (SectionAssigned masked beside ns a ds x) t = mask_reads scalars masked t ++ reads_at s.shapes (positions ns t) x
reads_of s scalars (ValuesCopied beside ns x) t = reads_at s.shapes (positions ns t) x
reads_of s scalars (Reduced o ns x) t = reads_at s.shapes (positions ns t) x
reads_of s scalars (ForallMask beside axes e) t = named_in s.shapes scalars (indices_at axes t) e
reads_of s scalars (ElementsAssigned masked beside axes a ts e) t = mask_reads scalars masked t ++ named_in s.shapes scalars (indices_at axes t) e
reads_of s scalars (CopyAssigned axes a ts) t = copy_spot scalars t ∷ []
reads_of s scalars (OfNest nest asked part) t = conditions_read nest scalars asked t ++ part_read nest scalars s.shapes part t
reads_of s scalars Redistributed t = []

-- the element that is assigned at a tuple, of an array or of a copy
abbrev pub left_of : Setting → List ℤ → Event → ℕ → Option Spot
left_of s scalars (SectionAssigned masked beside ns a ds x) t = spot_of s.shapes a (subscripts_at ds (positions ns t))
left_of s scalars (ElementsAssigned masked beside axes a ts e) t = spot_of s.shapes a (subscripts_in scalars (indices_at axes t) ts)
left_of s scalars (CopyAssigned axes a ts) t = spot_of s.shapes a (subscripts_in scalars (indices_at axes t) ts)
left_of s scalars (OfNest nest asked part) t = part_assigned nest scalars s.shapes part t
left_of s scalars event t = copy_spot scalars t

-- who computes a tuple: the owners of the element that is assigned, or in a reduction the least owner of the first element that is
-- read; node 0 where there is none
abbrev pub computes : Setting → List Layout → List ℤ → Event → (node tuple : ℕ) → Bool
computes s layouts scalars (Reduced o ns x) node t =
    least_or_zero s.nodes layouts (in_bounds layouts (first_read (reads_of s scalars (Reduced o ns x) t))) == node
computes s layouts scalars event node t = computes_left layouts node (in_bounds layouts (left_of s scalars event t))

abbrev pub part_of : Setting → List Layout → List ℤ → Event → Part
part_of s layouts scalars event = record {
  tuples = space_count (space_of event);
  reads = reads_of s scalars event;
  computes = computes s layouts scalars event;
}

-- ---- what copies lie beside: by the scalars

abbrev pub term_value : List ℤ → Term → ℤ
term_value scalars t = result_unwrap_or (value [] (scalars_state scalars) t) (pos 0)

abbrev pub anchor_at : List ℤ → AnchorTerm → AnchorValue
anchor_at scalars (AtTerm t) = LinearValue (linear (scalars_state scalars) t)
anchor_at scalars (AlongTerms first stride) = TripletValue (term_value scalars first) (term_value scalars stride)

-- over indices that take these values
abbrev pub anchor_over : List ℤ → List Sequence → Option AnchorText → Option Anchor
anchor_over scalars axes None = None
anchor_over scalars axes (Some a) = anchor_by a.array axes (map (anchor_at scalars) a.subscripts)

-- an array statement has no indices
abbrev pub anchor_of : List ℤ → Event → Option Anchor
anchor_of scalars (SectionAssigned masked beside ns a ds x) = anchor_over scalars [] beside
anchor_of scalars (ValuesCopied beside ns x) = anchor_over scalars [] beside
anchor_of scalars (ForallMask beside axes t) = anchor_over scalars axes beside
anchor_of scalars (ElementsAssigned masked beside axes a ts t) = anchor_over scalars axes beside
anchor_of scalars (OfNest nest asked part) = anchor_over scalars nest.axes nest.beside
anchor_of scalars event = None

-- the declared names lie so, and after them a copy of these extents, beside what is assigned at its tuples where that is good
abbrev pub with_copy : Setting → List Layout → Option Anchor → List ℕ → List Layout
with_copy s layouts beside ns = layouts ++ aligned_layout s.nodes layouts beside ns ∷ []

-- or so many such copies
abbrev pub with_copies : Setting → List Layout → (count : ℕ) → Option Anchor → List ℕ → List Layout
with_copies s layouts count beside ns = layouts ++ replicate count (aligned_layout s.nodes layouts beside ns)

-- where these rows have copies of these scalars
abbrev pub with_copied : Setting → (copies copied : List ℕ) → Setting
with_copied s copies copied = record s { copies = copies; copied = copied }

-- the copies of a nest's scalars
abbrev pub copies_of : EnteredNest → List ℤ → List ℕ
copies_of nest scalars = map (λ k. length scalars + scalar_copy nest k) nest.assigned
