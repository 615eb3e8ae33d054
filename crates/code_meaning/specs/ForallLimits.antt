-- Of the claim.
-- The limits of a FORALL, and assignments of it that meet, by the slots.
use Rattle.std.specs.Prelude.{ℕ, ◌==◌, List, [], ◌∷◌, map, ℤ, pos, Bool, ◌||◌, Result, Ok, if◌then◌else◌}
use Rattle.hpf_base.specs.ElementOrder.{product}
use Rattle.node_code.specs.FaultKind.{FaultKind}
use Rattle.node_code.specs.FaultKind.TheVariants.{NotOneToOne, SpaceLimit}
use Rattle.node_code.specs.Sequence.{Sequence}
use Rattle.node_code.specs.Selection.{Selection}
use Rattle.node_code.specs.Selection.TheVariants.{At, Along}
use Rattle.node_code.specs.Terms.{Term, Number, Scalar, Index, Apply, Terms, NoTerm, More}
use Rattle.node_code.specs.Faults.{Cause, fails}
use Rattle.node_code.specs.State.{State}
use Rattle.node_code.specs.Sections.{extents}
use Rattle.node_code.specs.Forall.{is_forall_in_limits, is_one_to_one}
use Rattle.node_code.specs.Flat.{Flat, Int, Slot, Axis, Read, Operated, Flats, NoFlat, AndFlat}
use Rattle.node_code.specs.Forms.{Sub}
use Rattle.code_meaning.specs.Forms.{selections_in}

abbrev mutual
  -- an expression over slots and indices, where each slot stands for the scalar of its number
  pub term_of : Flat → Term
  term_of (Int v) = Number v
  term_of (Slot k) = Scalar k
  term_of (Axis k) = Index k
  term_of (Read k) = Number (pos 0)
  term_of (Operated o fs) = Apply o (terms_of fs)

  pub terms_of : Flats → Terms
  terms_of NoFlat = NoTerm
  terms_of (AndFlat f fs) = More (term_of f) (terms_of fs)

abbrev pub slots_state : List ℤ → State
slots_state slots = record { scalars = slots; arrays = []; printed = [] }

abbrev pub sequences_of : List Selection → List Sequence
sequences_of [] = []
sequences_of (At i ∷ ds) = sequences_of ds
sequences_of (Along p ∷ ds) = p ∷ sequences_of ds

-- a test, which an empty space passes
abbrev pub unless_empty : List ℕ → Bool → FaultKind → Result ℕ Cause
unless_empty ns test kind = if (product ns == 0) || test then Ok 0 else fails kind

-- of the space of these indices and all subscripts
abbrev pub forall_limits : List Sub → List Flat → List ℤ → Result ℕ Cause
forall_limits over subscripts slots =
    unless_empty (extents (selections_in slots over))
    (is_forall_in_limits (slots_state slots) (sequences_of (selections_in slots over)) (map term_of subscripts)) SpaceLimit

-- of an assignment with these subscripts on the left
abbrev pub one_to_one : List Sub → List Flat → List ℤ → Result ℕ Cause
one_to_one over left slots =
    unless_empty (extents (selections_in slots over)) (is_one_to_one (slots_state slots) (map term_of left) 0 (extents (selections_in slots over)))
    NotOneToOne
