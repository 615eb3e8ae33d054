-- Of a promise.
-- The names of a nest on the machine, and what its texts may name.
use Rattle.std.specs.Prelude.{◌≡◌, ℕ, ◌<◌, ◌⊎◌, List, ◌++◌, length, Bool, true, false, Option, Some, None}
use Rattle.nest_syntax.specs.NestKinds.{Kind, has_copies}
use Rattle.array_meaning.specs.Terms.{Term, Terms}
use Rattle.array_meaning.specs.Statements.{Nest}
use Rattle.array_meaning.specs.Iterations.{nest_indices}
use Rattle.node_code.specs.Forms.{Sub}
use Rattle.node_code.specs.Anchors.{FlatAnchor}
use Rattle.code_meaning.specs.Instructions.{ArrayTable}
use Rattle.lowered_expressions.specs.WellFormed.{IsIndexed, AreSubscripts}
use Rattle.statement_trail.specs.NestParts.{index_in}
use Rattle.nest_syntax.specs.NestTerms.{HasNoIndex, HaveNoIndex, indexed, all_indexed, SubscriptsFirst}
use Rattle.nest_items.specs.Naming.{IsNaming, AreNaming}
use Rattle.nest_syntax.specs.Assigning.{Assigning, ToScalar, ToElement}

-- How the names of a program stand on the machine for one of its nests. There are so many names, and each has a slot of its number. `kinds` says
-- what each is to the nest; `is_row` which rows the nest's storage has, and `place` where among the machine's rows such a row lies; `marks` in
-- which row the marks of a scalar are, if it has some; `is_index` which scalars are indices of the nest or of loops in it; `over` the values of
-- the nest's indices, and `beside` what its copies lie beside; and `copied_in` the scalars whose copies an expression reads
pub record NestNames : Type 0 where
  pub nest : Nest
  pub count : ℕ
  pub table : ArrayTable
  pub kinds : ℕ → Kind
  pub is_row : ℕ → Bool
  pub place : ℕ → ℕ
  pub marks : ℕ → Option ℕ
  pub is_index : ℕ → Bool
  pub over : List Sub
  pub beside : Option FlatAnchor
  pub copied_in : Term → List ℕ

module _ (w : NestNames) where
  -- the indices of the nest, the innermost loop's first
  abbrev pub indices_of : List ℕ
  indices_of = nest_indices w.nest

  -- a name as an index of a form: an index of the nest, or after those a scalar whose copy is read
  abbrev pub index_of : List ℕ → ℕ → Option ℕ
  index_of copies = index_in (indices_of ++ copies) 0

  -- `round` are the indices of the inner loops round a text, the innermost first. A scalar without copies is one of these; or an index of the
  -- nest; or no index at all
  abbrev pub IsFixedName : List ℕ → ℕ → Type 0
  IsFixedName round k = (k < w.count) × (has_copies (w.kinds k) ≡ false)
      × (((index_in indices_of 0 k ≡ None) × (j : ℕ) × (index_in round 0 k ≡ Some j))
      ⊎ (((index_in indices_of 0 k ≡ None) × (index_in round 0 k ≡ None) × (w.is_index k ≡ false))
      ⊎ ((index_in round 0 k ≡ None) × (j : ℕ) × (index_in indices_of 0 k ≡ Some j))))

  -- and its copy isn't read
  abbrev pub IsFixedHere : List ℕ → List ℕ → ℕ → Type 0
  IsFixedHere round copies k = IsFixedName round k × (index_in copies 0 k ≡ None)

  -- a scalar with copies, one of those that the text reads
  abbrev pub IsCopyName : List ℕ → ℕ → Type 0
  IsCopyName copies k = (k < w.count) × (has_copies (w.kinds k) ≡ true) × (w.is_row k ≡ true) × (index_in indices_of 0 k ≡ None)
      × (j : ℕ) × (index_in copies 0 k ≡ Some j)

  -- a scalar that a text names
  abbrev pub IsScalarName : List ℕ → List ℕ → ℕ → Type 0
  IsScalarName round copies k = IsFixedHere round copies k ⊎ IsCopyName copies k

  -- an array, which lies at its own place
  abbrev pub IsArrayName : ℕ → Type 0
  IsArrayName a = (a < w.count) × (has_copies (w.kinds a) ≡ false) × (w.is_row a ≡ true) × (w.place a ≡ a)

  -- an expression in a text: it names such scalars and arrays, and only indices of the nest stand in subscripts
  pub record IsTextTerm (round copies : List ℕ) (t : Term) : Type 0 where
    pub names : IsNaming (IsScalarName round copies) IsArrayName t
    pub plain : HasNoIndex t
    pub form : IsIndexed w.count (indexed (index_of copies) t)
    pub first : SubscriptsFirst (length indices_of) (indexed (index_of copies) t)

  -- the subscripts of a left side
  pub record AreTextSubscripts (round copies : List ℕ) (ts : Terms) : Type 0 where
    pub names : AreNaming (IsFixedHere round copies) (λ a. ⊥) ts
    pub plain : HaveNoIndex ts
    pub form : AreSubscripts w.count (all_indexed (index_of copies) ts)

  -- an assignment: to a scalar with copies, or to an element of an array
  abbrev pub IsText : List ℕ → List ℕ → Assigning → Type 0
  IsText round copies (ToScalar k t) = ((has_copies (w.kinds k) ≡ true) × (w.is_row k ≡ true)) × IsTextTerm round copies t
  IsText round copies (ToElement a ts t) = (IsArrayName a × AreTextSubscripts round copies ts) × IsTextTerm round copies t
