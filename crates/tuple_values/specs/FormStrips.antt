-- Of private clauses.
-- What a part of an array expression comes to at the tuples of a strip. Private contracts alone cite this.
use Rattle.std.specs.Prelude.{◌≡◌, ℕ, ◌+◌, ◌<◌, List, [], ◌++◌, length, slice_index_or, ℤ, pos, true, Option, Result}
use Rattle.std.specs.Option.{is_some}
use Rattle.op_tables.specs.declared.reductions.Made.{Made}
use Rattle.storage.specs.Storage.{Spot}
use Rattle.array_meaning.specs.Faults.{Cause}
use Rattle.array_meaning.specs.Elementals.{Elemental}
use Rattle.node_code.specs.Flat.{Flat}
use Rattle.code_meaning.specs.Flat.{flat_value}
use Rattle.node_code.specs.Forms.{ArrayForm, FlatForm, SectionForm, OperationForm, Forms, NoForm, AndForm}
use Rattle.code_meaning.specs.Forms.{elemental_at}
use Rattle.code_meaning.specs.NestStatements.{nest_elemental}
use Rattle.code_meaning.specs.Parallel.{reads_at}
use Rattle.courses.specs.Entries.{axes_in}
use Rattle.strip_operators.specs.Strips.{IsStrip}
use Rattle.tuple_values.specs.ByElements.{value_by_elements}
use Rattle.tuple_values.specs.declared.strips.Strip.{Strip}
use Rattle.tuple_values.specs.declared.strips.ElementLine.{ElementLine}
use Rattle.tuple_values.specs.Statements.{Statement, copied_by, entries, made_by, tuple_place}
use Rattle.tuple_values.specs.Strips.{spots_at, strip_tuple}

-- how many sections stand in an expression
abbrev mutual
  pub section_count : ArrayForm → ℕ
  section_count (FlatForm f) = 0
  section_count (SectionForm a subs) = 1
  section_count (OperationForm o fs) = all_section_counts fs

  pub all_section_counts : Forms → ℕ
  all_section_counts NoForm = 0
  all_section_counts (AndForm f fs) = section_count f + all_section_counts fs

module _ (w : Statement) (s : Strip) where
  abbrev pub entries_in_strip : ℕ → List ℤ
  entries_in_strip k = entries w (strip_tuple s k)

  -- what is read at the tuples, in order
  abbrev pub FormReads : ArrayForm → List ElementLine → Type 0
  FormReads f ls = (k : ℕ) → k < s.count →
      reads_at w.shapes (entries_in_strip k) (elemental_at w.slots (axes_in w.indices (entries_in_strip k)) f) ≡ spots_at ls k

  module _ (get : Spot → ℤ) where
    -- what expressions see outside of subscripts
    abbrev pub seen_in_strip : ℕ → List ℤ
    seen_in_strip k = axes_in w.indices (entries_in_strip k) ++ copied_by get w.copies (strip_tuple s k)

    abbrev pub value_in_strip : Elemental → ℕ → Result ℤ Cause
    value_in_strip x k = value_by_elements w.shapes get (entries_in_strip k) x

    abbrev pub form_in_strip : ArrayForm → ℕ → Elemental
    form_in_strip f k = nest_elemental w.slots (axes_in w.indices (entries_in_strip k)) (seen_in_strip k) f

    -- those of an expression over slots and axes at the tuples, all of which have one
    abbrev pub FlatValues : Flat → List ℤ → Type 0
    FlatValues f vs = IsStrip (λ k. flat_value w.slots (seen_in_strip k) [] f) s.count vs

    -- those of an array expression
    abbrev pub FormValues : ArrayForm → List ℤ → Type 0
    FormValues f vs = IsStrip (λ k. value_in_strip (form_in_strip f k) k) s.count vs

    -- so many numbers, which are its values where these lines are what it reads
    pub record IsFormStrip (f : ArrayForm) (ls : List ElementLine) (vs : List ℤ) : Type 0 where
      pub count : length vs ≡ s.count
      pub values : FormReads f ls → FormValues f vs

-- what is assigned at each tuple has a place
abbrev pub HavePlaces : Statement → Strip → Type 0
HavePlaces w s = (k : ℕ) → k < s.count → is_some (tuple_place w (strip_tuple s k)) ≡ true

-- what is made of values
abbrev pub AreMade : Option Made → List ℤ → List ℤ → Type 0
AreMade m vs ws = (length ws ≡ length vs) × ((k : ℕ) → k < length vs → slice_index_or ws k (pos 0) ≡ made_by m (slice_index_or vs k (pos 0)))
