-- What copies lie beside names what is declared, and in a WHERE no index stands in it.
use Rattle.std.proofs.Common.{◌≡◌, ℕ, ◌<◌, List, [], ◌∷◌, ◌++◌, map, Bool, true, false, ◌&&◌, true≢false, ℤ, Option, Some, None, option_map, if◌then◌else◌, refl, sym}
use Rattle.std.specs.List.{AllByRecursion}
use Rattle.op_tables.specs.declared.op.Op.{Op}
use Rattle.op_tables.specs.declared.op.Op.TheVariants as op
use Rattle.op_tables.specs.Operators.{can_divide}
use Rattle.array_meaning.specs.Terms.{Term, Number, Scalar, Index, Element, Section, Apply, Reduce, Terms, NoTerm, More, list_of, SectionSubscripts, NoSubscript, Subscript, Triplet}
use Rattle.array_meaning.specs.Statements.{SectionAssignment, ElementAssignment}
use Rattle.statement_trail.specs.Anchors.{AnchorText, AtTerm, element_anchor, forall_anchor, is_foreknown, are_foreknown, are_all_foreknown, section_terms, section_anchor, where_anchor}
use Rattle.statement_trail.specs.LinearOperators.{is_linear_operator}
use Rattle.node_code.specs.Forms.{Sub}
use Rattle.code_meaning.specs.Forms.{selections_in}
use Rattle.code_meaning.specs.ForallLimits.{sequences_of}
use Rattle.code_meaning.specs.Anchors.{by_positions, have_strides, anchor_value, anchor_in}
use Rattle.code_meaning.specs.Instructions.{IsAnchorBelow}
use Rattle.program_code.specs.ExpressionCode.{anchor_code}
use Rattle.lowered_expressions.specs.Anchors.{IsAnchorTerm, IsAnchorText, IsForeknownTerm, IsForeknown}
use Rattle.lowered_expressions.specs.WellFormed.{IsScalar, AreScalar, AreScalarSubscripts, IsSubscript, AreSubscripts, AreMasked, AreIndexedAssignments}

pub linear-safe : (o : Op) → is_linear_operator o ≡ true → can_divide o ≡ false
linear-safe op.Neg h = refl
linear-safe op.Plus h = refl
linear-safe op.Add h = refl
linear-safe op.Sub h = refl
linear-safe op.Mul h = refl
linear-safe o h = absurd (true≢false (sym h))

both : (a b : Bool) → (a && b) ≡ true → (a ≡ true) × (b ≡ true)
both true b h = (refl, h)
both false b h = absurd (true≢false (sym h))

-- ---- an element

subscripts-anchored : (n : ℕ) (ts : Terms) → AreSubscripts n ts → AllByRecursion (IsAnchorTerm n) (map AtTerm (list_of ts))
subscripts-anchored n NoTerm ok = tt
subscripts-anchored n (More t ts) ok = (ok.0, subscripts-anchored n ts ok.1)

pub element-anchored : (n a : ℕ) (ts : Terms) → a < n → AreSubscripts n ts → IsAnchorText n (Some (element_anchor a ts))
element-anchored n a ts lt ok = (lt, subscripts-anchored n ts ok)

pub forall-anchored : (n : ℕ) (bs : List ElementAssignment) → AreIndexedAssignments n bs → IsAnchorText n (forall_anchor bs)
forall-anchored n [] ok = tt
forall-anchored n (b ∷ bs) ok = element-anchored n b.array b.subscripts ok.0 ok.1

-- ---- a section

mutual
  foreknown-subscript : (n : ℕ) (t : Term) → is_foreknown t ≡ true → IsScalar n t → IsSubscript n t
  foreknown-subscript n (Number v) h ok = tt
  foreknown-subscript n (Scalar k) h ok = ok
  foreknown-subscript n (Index k) h ok = tt
  foreknown-subscript n (Element a ts) h ok = absurd (true≢false (sym h))
  foreknown-subscript n (Section a subs) h ok = absurd (true≢false (sym h))
  foreknown-subscript n (Apply o ts) h ok =
      let two = both (is_linear_operator o) (are_foreknown ts) h in (linear-safe o two.0, foreknown-subscripts n ts two.1 ok)
  foreknown-subscript n (Reduce o t) h ok = absurd (true≢false (sym h))

  foreknown-subscripts : (n : ℕ) (ts : Terms) → are_foreknown ts ≡ true → AreScalar n ts → AreSubscripts n ts
  foreknown-subscripts n NoTerm h ok = tt
  foreknown-subscripts n (More t ts) h ok =
      let two = both (is_foreknown t) (are_foreknown ts) h in (foreknown-subscript n t two.0 ok.0, foreknown-subscripts n ts two.1 ok.1)

section-terms : (n : ℕ) (subs : SectionSubscripts) → are_all_foreknown subs ≡ true → AreScalarSubscripts n subs
    → AllByRecursion (IsAnchorTerm n) (section_terms subs)
section-terms n NoSubscript h ok = tt
section-terms n (Subscript t subs) h ok =
    let two = both (is_foreknown t) (are_all_foreknown subs) h in (foreknown-subscript n t two.0 ok.0, section-terms n subs two.1 ok.1)
section-terms n (Triplet first last step subs) h ok =
    let a = both (is_foreknown first) (is_foreknown last && (is_foreknown step && are_all_foreknown subs)) h in
    let b = both (is_foreknown last) (is_foreknown step && are_all_foreknown subs) a.1 in
    let c = both (is_foreknown step) (are_all_foreknown subs) b.1 in
    ((foreknown-subscript n first a.0 ok.0.0, foreknown-subscript n step c.0 ok.0.2), section-terms n subs c.1 ok.1)

terms-foreknown : (subs : SectionSubscripts) → are_all_foreknown subs ≡ true → AllByRecursion IsForeknownTerm (section_terms subs)
terms-foreknown NoSubscript h = tt
terms-foreknown (Subscript t subs) h =
    let two = both (is_foreknown t) (are_all_foreknown subs) h in (two.0, terms-foreknown subs two.1)
terms-foreknown (Triplet first last step subs) h =
    let a = both (is_foreknown first) (is_foreknown last && (is_foreknown step && are_all_foreknown subs)) h in
    let b = both (is_foreknown last) (is_foreknown step && are_all_foreknown subs) a.1 in
    let c = both (is_foreknown step) (are_all_foreknown subs) b.1 in
    (tt, terms-foreknown subs c.1)

pub section-anchored : (n : ℕ) (a : ℕ) (subs : SectionSubscripts) → a < n → AreScalarSubscripts n subs → IsAnchorText n (section_anchor a subs)
section-anchored n a subs lt ok = by_test (are_all_foreknown subs) refl
  where
    by_test : (t : Bool) → are_all_foreknown subs ≡ t
        → IsAnchorText n (if t then Some (record { array = a; subscripts = section_terms subs }) else None)
    by_test true h = (lt, section-terms n subs h ok)
    by_test false h = tt

pub section-foreknown : (a : ℕ) (subs : SectionSubscripts) → IsForeknown (section_anchor a subs)
section-foreknown a subs = by_test (are_all_foreknown subs) refl
  where
    by_test : (t : Bool) → are_all_foreknown subs ≡ t → IsForeknown (if t then Some (record { array = a; subscripts = section_terms subs }) else None)
    by_test true h = terms-foreknown subs h
    by_test false h = tt

-- ---- WHERE

pub where-anchored : (n : ℕ) (bs : List SectionAssignment) → AreMasked n bs → IsAnchorText n (where_anchor bs)
where-anchored n [] ok = tt
where-anchored n (b ∷ bs) ok = section-anchored n b.array b.subscripts ok.0 ok.1

pub where-foreknown : (bs : List SectionAssignment) → IsForeknown (where_anchor bs)
where-foreknown [] = tt
where-foreknown (b ∷ bs) = section-foreknown b.array b.subscripts

-- the assignments after ELSEWHERE, too
pub masked-append : (n : ℕ) (xs ys : List SectionAssignment) → AreMasked n xs → AreMasked n ys → AreMasked n (xs ++ ys)
masked-append n [] ys h g = g
masked-append n (x ∷ xs) ys h g = (h.0, h.1, h.2, masked-append n xs ys h.3 g)

-- ---- rows

-- the row of an anchor that is told by the slots is a declared name's
pub anchor-below : (n : ℕ) (slots : List ℤ) (over : List Sub) (beside : Option AnchorText) → IsAnchorText n beside
    → IsAnchorBelow n (anchor_in slots over (option_map anchor_code beside))
anchor-below n slots over None ok = tt
anchor-below n slots over (Some a) ok = by_test (have_strides (map (anchor_value slots) (anchor_code a).subscripts))
  where
    by_test : (t : Bool) → IsAnchorBelow n (if t then Some (record {
      row = a.array;
      subscripts = by_positions (sequences_of (selections_in slots over)) 0 (map (anchor_value slots) (anchor_code a).subscripts);
    }) else None)
    by_test true = ok.0
    by_test false = tt
