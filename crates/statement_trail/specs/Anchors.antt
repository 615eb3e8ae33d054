-- Of the claim.
-- What the copies of a WHERE, of a FORALL and of a nest lie beside: the left side of its first assignment, in the order of the text, that stores into an array.
use Rattle.std.specs.Prelude.{ℕ, List, [], ◌∷◌, map, Bool, true, false, ◌&&◌, Option, Some, None, if◌then◌else◌}
use Rattle.std.specs.Option.{option_or}
use Rattle.nest_syntax.specs.Terms.{Term, Number, Scalar, Apply, Terms, NoTerm, More, list_of, SectionSubscripts, NoSubscript, Subscript, Triplet}
use Rattle.nest_syntax.specs.Statements.{SectionAssignment, ElementAssignment, Block, Done, Then, Statement, AssignElement, If, Arms, NoArm, Arm}
use Rattle.nest_syntax.specs.NestTerms.{all_indexed}
use Rattle.nest_syntax.specs.LinearOperators.{is_linear_operator}

-- a subscript: an expression, in which the indices of the space may stand, or a triplet, whose values go along the next axis of the space
pub data AnchorTerm : Type 0 where
  AtTerm : Term → AnchorTerm
  AlongTerms : (first stride : Term) → AnchorTerm

pub record AnchorText : Type 0 where
  pub array : ℕ
  pub subscripts : List AnchorTerm

abbrev pub element_anchor : (array : ℕ) → Terms → AnchorText
element_anchor a ts = record { array = a; subscripts = map AtTerm (list_of ts) }

-- ---- FORALL

abbrev pub forall_anchor : List ElementAssignment → Option AnchorText
forall_anchor [] = None
forall_anchor (b ∷ bs) = Some (element_anchor b.array b.subscripts)

-- ---- WHERE, whose mask is evaluated before the subscripts of its assignments are

abbrev mutual
  -- a value that is known before: numbers and scalars under signs, sums and products
  pub is_foreknown : Term → Bool
  is_foreknown (Number v) = true
  is_foreknown (Scalar k) = true
  is_foreknown (Apply o ts) = is_linear_operator o && are_foreknown ts
  is_foreknown t = false

  pub are_foreknown : Terms → Bool
  are_foreknown NoTerm = true
  are_foreknown (More t ts) = is_foreknown t && are_foreknown ts

abbrev pub are_all_foreknown : SectionSubscripts → Bool
are_all_foreknown NoSubscript = true
are_all_foreknown (Subscript t subs) = is_foreknown t && are_all_foreknown subs
are_all_foreknown (Triplet first last step subs) = is_foreknown first && (is_foreknown last && (is_foreknown step && are_all_foreknown subs))

abbrev pub section_terms : SectionSubscripts → List AnchorTerm
section_terms NoSubscript = []
section_terms (Subscript t subs) = AtTerm t ∷ section_terms subs
section_terms (Triplet first last step subs) = AlongTerms first step ∷ section_terms subs

abbrev pub section_anchor : (array : ℕ) → SectionSubscripts → Option AnchorText
section_anchor a subs = if are_all_foreknown subs then Some (record { array = a; subscripts = section_terms subs }) else None

-- of all assignments, those after ELSEWHERE included
abbrev pub where_anchor : List SectionAssignment → Option AnchorText
where_anchor [] = None
where_anchor (b ∷ bs) = section_anchor b.array b.subscripts

-- ---- nests: in the block of the innermost loop, outside the loops in it

-- `index` says which names are indices
module _ (index : ℕ → Option ℕ) where
  abbrev mutual
    pub block_anchor : Block → Option AnchorText
    block_anchor Done = None
    block_anchor (Then line statement rest) = option_or (statement_anchor statement) (block_anchor rest)

    pub statement_anchor : Statement → Option AnchorText
    statement_anchor (AssignElement a ts t) = Some (element_anchor a (all_indexed index ts))
    statement_anchor (If arms other) = option_or (arms_anchor arms) (block_anchor other)
    statement_anchor statement = None

    pub arms_anchor : Arms → Option AnchorText
    arms_anchor NoArm = None
    arms_anchor (Arm line t body arms) = option_or (block_anchor body) (arms_anchor arms)
