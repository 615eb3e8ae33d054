-- What parallel statements name is what they read and assign.
use Rattle.std.proofs.Common.{◌≡◌, ℕ, ◌<◌, All, Bool, true, false, List, length, map, ℤ, Option, Some, None, option_map, IfSome, refl, sym, ap, subst}
use Rattle.std.proofs.lemmas.Option.{none-some}
use Rattle.hpf_base.specs.ElementOrder.{product}
use Rattle.storage.specs.Storage.{Spot}
use Rattle.expression_rules.specs.declared.dims.Dim.{Dim}
use Rattle.array_meaning.specs.declared.sections.Selection.{Selection}
use Rattle.array_meaning.specs.Sections.{subscripts_at, positions}
use Rattle.machine_steps.specs.Message.{names_spot}
use Rattle.node_code.specs.Forms.{Sub}
use Rattle.code_meaning.specs.Forms.{selections_at}
use Rattle.courses.specs.Courses.{Course}
use Rattle.courses.specs.Entries.{axes_in, entries_in}
use Rattle.courses.specs.References.{IsAlongAxes, Named, index_courses, named_element, named_spot, selected_courses, subs_courses}
use Rattle.courses.proofs.Axes.{axes, copy-along, element-along, names-along, selected-below}
use Rattle.courses.proofs.Copies.{copies}
use Rattle.courses.proofs.References.{element-named, reads, selected, subs}
use Rattle.courses.proofs.StraightForms.{same}
use Rattle.courses.proofs.TurnedNames.{all-spots, all-turned-along}
use Rattle.tuple_values.specs.Naming.{left_name, names_by}
use Rattle.tuple_values.specs.NamedElements.{AreInOrder, AreReferences, spot_if}
use Rattle.tuple_values.specs.Statements.{Statement, Target, Nowhere, InCopy, InSection, ByIndices, left_in, place_in, tuple_count, tuple_reads}

module _ (shapes : List (List Dim)) (slots : List ℤ) (ns : List ℕ) (indices : Option (List Selection)) (is : Option (List Course))
    (known : index_courses ns indices ≡ Some is) where
  -- what is assigned, where it is known
  abbrev Names : Target → Option Named → Type 0
  Names target l = ((t : ℕ) → t < product ns → left_in target (place_in shapes slots indices ns target t) ≡ spot_if ns t l) × IfSome l (IsAlongAxes (length ns))

  section-is : (a : ℕ) (ds : List Selection) (o : Option Named) (l : Option Named) → named_element shapes a (selected_courses ns ds) ≡ o → option_map Some o ≡ Some l
      → Names (InSection a ds) l
  section-is a ds None l by e = absurd (none-some l e)
  section-is a ds (Some r) l by e =
      subst (Names (InSection a ds)) (same e) (
        (λ t below. element-named shapes ns t a (subscripts_at ds (positions ns t)) (selected_courses ns ds) r (λ cs h. (selected ns ds cs t below h).0) by),
        element-along shapes ns a (selected_courses ns ds) r (λ cs h. selected-below ns ds cs h) by,
      )

  indexed-is : (a : ℕ) (ss : List Sub) (o : Option Named) (l : Option Named) → named_element shapes a (subs_courses slots ns is ss) ≡ o → option_map Some o ≡ Some l
      → Names (ByIndices a ss) l
  indexed-is a ss None l by e = absurd (none-some l e)
  indexed-is a ss (Some r) l by e =
      subst (Names (ByIndices a ss)) (same e) (
        (λ t below. element-named shapes ns t a (subscripts_at (selections_at slots (axes_in indices (entries_in indices ns t)) ss) (entries_in indices ns t))
            (subs_courses slots ns is ss) r (λ cs h. subs slots ns indices is ss cs t below known h) by),
        element-along shapes ns a (subs_courses slots ns is ss) r (λ cs h. axes slots ns indices is ss cs known h) by,
      )

  left-is : (target : Target) (l : Option Named) → left_name shapes slots ns is target ≡ Some l → Names target l
  left-is Nowhere l e = subst (Names Nowhere) (same e) ((λ t below. refl), tt)
  left-is (InCopy row) l e = subst (Names (InCopy row)) (same e) ((λ t below. sym (copies row ns t below)), copy-along ns row)
  left-is (InSection a ds) l e = section-is a ds (named_element shapes a (selected_courses ns ds)) l refl e
  left-is (ByIndices a ss) l e = indexed-is a ss (named_element shapes a (subs_courses slots ns is ss)) l refl e

-- all that is read, in order where it is known so
names-are : (w : Statement) (is : Option (List Course)) (rs : List Named) (b : Bool) → index_courses w.extents w.indices ≡ Some is
    → names_by b w.shapes w.slots w.extents is w.whens w.copies w.form ≡ Some rs
    → ((t : ℕ) (spot : Spot) → t < product w.extents → names_spot (tuple_reads w t) spot ≡ names_spot (map (named_spot w.extents t) rs) spot)
    × All (IsAlongAxes (length w.extents)) rs × (b ≡ true → AreInOrder w w.extents rs)
names-are w is rs true known all =
    let each : AreInOrder w w.extents rs = λ t below. reads w.shapes w.slots w.extents w.indices is w.whens w.copies w.form rs t below known all in (
      (λ t spot below. ap (λ l. names_spot l spot) (each t below)),
      names-along w.shapes w.slots w.extents w.indices is w.whens w.copies w.form rs known all,
      (λ in_order. each),
    )
names-are w is rs false known all = (
  all-spots w.shapes w.slots w.extents w.whens w.copies w.form rs w.indices is known all,
  all-turned-along w.shapes w.slots w.extents w.whens w.copies w.form rs w.indices is known all,
  (λ in_order. absurd cc),
)

at-extents : (w : Statement) (is : Option (List Course)) (l : Option Named) (rs : List Named) (b : Bool) → 0 < product w.extents
    → product w.extents ≡ tuple_count w → index_courses w.extents w.indices ≡ Some is → left_name w.shapes w.slots w.extents is w.target ≡ Some l
    → names_by b w.shapes w.slots w.extents is w.whens w.copies w.form ≡ Some rs → AreReferences w w.extents l rs × (b ≡ true → AreInOrder w w.extents rs)
at-extents w is l rs b some count known left all =
    let h = left-is w.shapes w.slots w.extents w.indices is known w.target l left in
    let g = names-are w is rs b known all in (
      record {
        extents = refl;
        some = some;
        count = count;
        left = h.0;
        reads = g.0;
        along_left = h.1;
        along_reads = g.1;
      },
      g.2,
    )

pub references-are : (w : Statement) (ns : List ℕ) (is : Option (List Course)) (l : Option Named) (rs : List Named) (b : Bool) → ns ≡ w.extents → 0 < product ns
    → product ns ≡ tuple_count w → index_courses ns w.indices ≡ Some is → left_name w.shapes w.slots ns is w.target ≡ Some l
    → names_by b w.shapes w.slots ns is w.whens w.copies w.form ≡ Some rs → AreReferences w ns l rs × (b ≡ true → AreInOrder w ns rs)
references-are w ns is l rs b same_extents some count known left all =
    subst Refers (sym same_extents)
    (at-extents w is l rs b (subst (λ ms. 0 < product ms) same_extents some) (subst (λ ms. product ms ≡ tuple_count w) same_extents count)
    (subst (λ ms. index_courses ms w.indices ≡ Some is) same_extents known) (subst (λ ms. left_name w.shapes w.slots ms is w.target ≡ Some l) same_extents left)
    (subst (λ ms. names_by b w.shapes w.slots ms is w.whens w.copies w.form ≡ Some rs) same_extents all))
  where
    Refers : List ℕ → Type 0
    Refers ms = AreReferences w ms l rs × (b ≡ true → AreInOrder w ms rs)
