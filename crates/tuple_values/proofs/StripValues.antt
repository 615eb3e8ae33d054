-- Values of a statement at the tuples of a strip.
use Rattle.std.proofs.Common.{◌≡◌, ℕ, suc, ◌<◌, true, false, List, [], ◌∷◌, ◌++◌, length, map, drop, ℤ, pos, Option, Some, None, Result, Ok, refl, ap, sym, subst, ◌∙◌}
use Rattle.std.specs.Option.{is_some}
use Rattle.std.specs.Prelude.{option_map, slice_index_or}
use Rattle.std.proofs.lemmas.List.{length-map}
use Rattle.storage.specs.Storage.{Spot}
use Rattle.array_meaning.specs.Faults.{Cause, ◌>>=◌}
use Rattle.array_meaning.specs.State.{if_in_bounds}
use Rattle.machine_steps.specs.Instr.{Outcome, Value}
use Rattle.machine_steps.specs.Machine.{value_by}
use Rattle.code_meaning.specs.Forms.{elemental_at}
use Rattle.code_meaning.specs.NestStatements.{row_spots, when_spots}
use Rattle.code_meaning.specs.Parallel.{reads_at}
use Rattle.courses.specs.Entries.{axes_in}
use Rattle.tuple_values.specs.declared.strips.ElementLine.{ElementLine}
use Rattle.tuple_values.specs.declared.strips.Strip.{Strip}
use Rattle.tuple_values.specs.FormStrips.{AreMade, FormReads, FormValues, HavePlaces, entries_in_strip}
use Rattle.tuple_values.specs.Statements.{InCopy, InSection, ByIndices, Nowhere, Statement, Target, asked_by, bounded_value, entries, left_in, made_by, place_in, spot_in_row, tuple_outcome, tuple_place, tuple_reads, value_at}
use Rattle.tuple_values.specs.Strips.{AreReadLines, AreStripValues, IsLeftLine, line_spot, strip_tuple}
use Rattle.tuple_values.proofs.ByReads.{value_asked, where_asked}
use Rattle.tuple_values.proofs.FormStrips.{rest-spots}

-- ---- places

placed : (row : ℕ) (p : Option ℕ) (spot : Spot) → option_map (spot_in_row row) p ≡ Some spot → is_some p ≡ true
placed row None spot e = absurd cc
placed row (Some k) spot e = refl

has-place : (target : Target) (p : Option ℕ) (spot : Spot) → left_in target p ≡ Some spot → is_some p ≡ true
has-place Nowhere p spot e = absurd cc
has-place (InCopy row) p spot e = placed row p spot e
has-place (InSection a ds) p spot e = placed a p spot e
has-place (ByIndices a ds) p spot e = placed a p spot e

bounded : {B : Type 0} (p : Option ℕ) (f : Result B Cause) → is_some p ≡ true → (if_in_bounds p >>= (λ k. f)) ≡ f
bounded None f e = absurd cc
bounded (Some k) f e = refl

module _ (w : Statement) (s : Strip) where
  pub places_on_line : (l : ElementLine) → IsLeftLine w s (Some l) → HavePlaces w s
  places_on_line l left k lt = has-place w.target (tuple_place w (strip_tuple s k)) (line_spot l k) (left k lt)

  rows-counted : (rows : List ℕ) (t : ℕ) → length (row_spots rows t) ≡ length rows
  rows-counted [] t = refl
  rows-counted (r ∷ rows) t = ap suc (rows-counted rows t)

  pub places_nowhere : w.target ≡ Nowhere → HavePlaces w s
  places_nowhere is k lt = ap (λ target. is_some (place_in w.shapes w.slots w.indices w.extents target (strip_tuple s k))) is

  -- what the expression reads, after the copies
  pub form_reads : (ls : List ElementLine) → w.whens ≡ [] → AreReadLines w s ls → FormReads w s w.form (drop (length w.copies) ls)
  form_reads ls none reads k lt =
      rest-spots (row_spots w.copies (strip_tuple s k)) (reads_at w.shapes (entries_in_strip w s k) (elemental_at w.slots (axes_in w.indices (entries_in_strip w s k)) w.form)) (length w.copies) ls k
      (rows-counted w.copies (strip_tuple s k))
      (sym (ap (λ whens. when_spots whens (strip_tuple s k) ++ (row_spots w.copies (strip_tuple s k) ++ reads_at w.shapes (entries_in_strip w s k)
      (elemental_at w.slots (axes_in w.indices (entries_in_strip w s k)) w.form))) none) ∙ reads k lt)

  pub values_are : (get : Spot → ℤ) (vs us : List ℤ) → w.whens ≡ [] → HavePlaces w s → FormValues w s get w.form vs → AreMade w.made vs us → AreStripValues w s get us
  values_are get vs us none places values made = record {
    count = made.0 ∙ values.0;
    at = λ k lt.
        let t = strip_tuple s k in
        sym (where_asked w get t (ap (λ whens. asked_by get whens t) none))
        ∙ sym (value_asked w get t (slice_index_or vs k (pos 0)) (bounded (tuple_place w t) (value_at w get t (entries w t)) (places k lt) ∙ values.1 k lt))
        ∙ ap Value (sym (made.1 k (subst (λ n. k < n) (sym values.0) lt)));
  }
