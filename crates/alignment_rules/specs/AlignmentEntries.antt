-- Of the claim.
-- What the dimensions of an align target are given for an element of the alignee (HPF 2.0, 3.4).
use Rattle.std.specs.Prelude.{ℕ, zero, suc, Bool, true, false, ◌||◌, nat_lt, bytes_eq, unsigned_abs, List, [], ◌∷◌, length, drop, ℤ, ◌-ℤ◌, ◌*ℤ◌, Option, Some, None, if◌then◌else◌}
use Rattle.std.specs.List.{list_any}
use Rattle.alignment_rules.specs.declared.limits.TheConstants.{MAX_ALIGN_FACTOR, MAX_ALIGN_OFFSET}
use Rattle.mappings.specs.declared.mapping.AlignDim.{AlignDim}
use Rattle.mappings.specs.declared.mapping.AlignDim.TheVariants.{Linear, At, Every}
use Rattle.syntax_tree.specs.Directive as directive
use Rattle.syntax_tree.specs.Directive.{Source, Dummy, Spread}
use Rattle.expression_rules.specs.Symbols.{Name}
use Rattle.expression_rules.specs.declared.dims.Dim.{Dim}
use Rattle.distribution_rules.specs.Distributed.{all_or_none}
use Rattle.distribution_rules.specs.Setting.{Setting, dims_of}
use Rattle.alignment_rules.specs.declared.alignment_values.Alignment.{Alignment}
use Rattle.alignment_rules.specs.declared.alignment_values.Alignment.TheVariants.{Known, PastLimits, Unknown}
use Rattle.linear_subscripts.specs.declared.form.LinearForm.{LinearForm}
use Rattle.alignment_rules.specs.declared.alignment_values.Pair.{Pair}
use Rattle.alignment_rules.specs.declared.alignment_values.TargetValue.{TargetValue}
use Rattle.alignment_rules.specs.declared.alignment_values.TargetValue.TheVariants as value
use Rattle.alignment_rules.specs.AlignmentValues.{first_dim, sources, target_values}

-- the dimensions of the alignee, numbered from n, whose entries are `:`
abbrev pub colons_from : ℕ → List Source → List ℕ
colons_from n [] = []
colons_from n (Spread ∷ ss) = n ∷ colons_from (suc n) ss
colons_from n (s ∷ ss) = colons_from (suc n) ss

-- the dimension whose entry is this dummy
abbrev pub is_dummy : Name → Source → Bool
is_dummy x (Dummy y) = bytes_eq x y
is_dummy x s = false

abbrev pub dimension_from : ℕ → Name → List Source → ℕ
dimension_from n x [] = n
dimension_from n x (s ∷ ss) = if is_dummy x s then n else dimension_from (suc n) x ss

abbrev pub is_triplet : TargetValue → Bool
is_triplet (value.Triplet first last step) = true
is_triplet v = false

abbrev pub first_colon : List ℕ → ℕ
first_colon [] = 0
first_colon (c ∷ cs) = c

-- the dimension of the alignee along which a subscript of the target moves, where these `:` are left
abbrev pub dimension_of : List Source → List ℕ → TargetValue → ℕ
dimension_of ss cs (value.Subscript (Some x) l) = dimension_from 0 x ss
dimension_of ss cs (value.Triplet first last step) = first_colon cs
dimension_of ss cs v = 0

abbrev pub at_place : {A : Type 0} → List (Option A) → ℕ → Option A
at_place [] n = None
at_place (a ∷ as') zero = a
at_place (a ∷ as') (suc n) = at_place as' n

-- a dimension of the target, with the dimension of the alignee along which its subscript moves
abbrev pub pair : TargetValue → Option Dim → ℕ → Option Dim → Pair
pair v b dim d = record { value = v; bounds = b; dim = dim; along = d }

-- the n-th triplet goes with the n-th `:`
abbrev pub pairs_from : List Source → List (Option Dim) → List ℕ → List TargetValue → List (Option Dim) → List Pair
pairs_from ss ds cs [] bs = []
pairs_from ss ds cs (v ∷ vs) bs =
    pair v (first_dim bs) (dimension_of ss cs v) (at_place ds (dimension_of ss cs v)) ∷ pairs_from ss ds (if is_triplet v then drop 1 cs else cs) vs (drop 1 bs)

abbrev pub pairs : List Source → List (Option Dim) → List TargetValue → List (Option Dim) → List Pair
pairs ss ds vs bs = pairs_from ss ds (colons_from 0 ss) vs bs

abbrev pub subscript_entry : Option Name → ℕ → LinearForm → AlignDim
subscript_entry None dim l = At l.b
subscript_entry (Some x) dim l = Linear dim l.a l.b

-- subscript i of the dimension that a triplet goes with is given `(i - lower) * step + first`
abbrev pub triplet_entry : ℕ → Dim → ℤ → ℤ → AlignDim
triplet_entry dim d first step = Linear dim step (first -ℤ (d.lower *ℤ step))

-- what a dimension of the target is given, where it is known
abbrev pub entry_of : Pair → Option AlignDim
entry_of p = of_value p.value p.along
  where
    of_value : TargetValue → Option Dim → Option AlignDim
    of_value value.Every d = Some Every
    of_value (value.Subscript x (Some l)) d = Some (subscript_entry x p.dim l)
    of_value (value.Triplet (Some first) last (Some step)) (Some d) = Some (triplet_entry p.dim d first step)
    of_value v d = None

-- a or b of `a * i + b` is past its limit
abbrev pub is_past_limits : AlignDim → Bool
is_past_limits (Linear dim a b) = nat_lt MAX_ALIGN_FACTOR (unsigned_abs a) || nat_lt MAX_ALIGN_OFFSET (unsigned_abs b)
is_past_limits e = false

abbrev pub alignment_with : Option (List AlignDim) → Alignment
alignment_with None = Unknown
alignment_with (Some es) = if list_any is_past_limits es then PastLimits else Known es

-- the alignment of an alignee: what each dimension of the target is given
abbrev pub alignment_of : Setting → directive.Alignment → Name → Alignment
alignment_of s a x = alignment_with (all_or_none entry_of (pairs (sources a (length (dims_of s x))) (dims_of s x) (target_values s a) (dims_of s a.target)))
