-- The dimensions of an alignee along which the subscripts of a target move.
use Rattle.std.proofs.Common.{◌≡◌, ℕ, zero, suc, pos, ◌<◌, Bool, true, false, List, [], ◌∷◌, drop, filter, length, Option, Some, None, All, refl, sym, ap, subst, ◌∙◌, arith}
use Rattle.std.specs.Prelude.{cond, if◌then◌else◌, AllPairs, slice_index_or}
use Rattle.std.specs.Ordering.{int_eq}
use Rattle.std.proofs.lemmas.Bool.{false≢true}
use Rattle.std.proofs.lemmas.List.Elements.{All-cons, All-nil}
use Rattle.std.proofs.lemmas.Slice.Eq.{bytes_eq-Decides}
use Rattle.mappings.specs.Mapping.{IsAlign, MoveApart}
use Rattle.mappings.specs.declared.mapping.AlignDim.{AlignDim}
use Rattle.mappings.specs.declared.mapping.AlignDim.TheVariants as align
use Rattle.syntax_tree.specs.Directive.{Source, Dummy, Spread, Collapsed}
use Rattle.expression_rules.specs.Symbols.{Name}
use Rattle.expression_rules.specs.declared.dims.Dim.{Dim}
use Rattle.distribution_rules.specs.Distributed.{all_or_none, and_more}
use Rattle.linear_subscripts.specs.declared.form.LinearForm.{LinearForm}
use Rattle.alignment_rules.specs.declared.alignment_values.TargetValue.{TargetValue}
use Rattle.alignment_rules.specs.declared.alignment_values.TargetValue.TheVariants.{Every, Subscript, Triplet}
use Rattle.alignment_rules.specs.AlignmentEntries.{at_place, dimension_from, dimension_of, entry_of, is_dummy, is_triplet, pair, pairs_from, triplet_entry}
use Rattle.alignment_rules.specs.AlignmentValues.{first_dim}

-- ---- facts of all elements, element by element

abbrev pub Each : {X : Type 0} → (X → Type 0) → List X → Type 0
Each P [] = Unit {0}
Each P (x ∷ xs) = P x × Each P xs

abbrev pub EachLater : {X : Type 0} → (X → X → Type 0) → List X → Type 0
EachLater R [] = Unit {0}
EachLater R (x ∷ xs) = Each (R x) xs × EachLater R xs

pub each_mapped : {X : Type 0} (P Q : X → Type 0) → ((x : X) → P x → Q x) → (xs : List X) → Each P xs → Each Q xs
each_mapped P Q f [] h = tt
each_mapped P Q f (x ∷ xs) h = (f x h.0, each_mapped P Q f xs h.1)

pub all_each : {X : Type 0} (P : X → Type 0) (xs : List X) → Each P xs → All P xs
all_each P [] h = All-nil P
all_each P (x ∷ xs) h = All-cons P x xs h.0 (all_each P xs h.1)

each_at : {X : Type 0} (P : X → Type 0) (xs : List X) (n : ℕ) (d : X) → n < length xs → Each P xs → P (slice_index_or xs n d)
each_at P [] n d within h = absurd (omega arith)
each_at P (x ∷ xs) zero d within h = h.0
each_at P (x ∷ xs) (suc n) d within h = each_at P xs n d (omega arith) h.1

pub pairs_each : {X : Type 0} (R : X → X → Type 0) (xs : List X) → EachLater R xs → AllPairs R xs
pairs_each R [] h i j d before within = absurd (omega arith)
pairs_each R (x ∷ xs) h zero zero d before within = absurd (omega arith)
pairs_each R (x ∷ xs) h zero (suc j) d before within = each_at (R x) xs j d (omega arith) h.0
pairs_each R (x ∷ xs) h (suc i) zero d before within = absurd (omega arith)
pairs_each R (x ∷ xs) h (suc i) (suc j) d before within = pairs_each R xs h.1 i j d (omega arith) (omega arith)

-- ---- entries that are made of dimensions of the target

pub same_some : {A : Type 0} (x y : A) → Some x ≡ Some y → x ≡ y
same_some x y h = cc

-- what is made of the first, and of the others
pub record IsMade {A : Type 0} (first : Option A) (others : Option (List A)) (es : List A) : Type 0 where
  pub e : A
  pub rest : List A
  pub of_first : first ≡ Some e
  pub of_others : others ≡ Some rest
  pub whole : e ∷ rest ≡ es

pub made : {A : Type 0} (first : Option A) (others : Option (List A)) (es : List A) → and_more first others ≡ Some es → IsMade first others es
made None others es is = absurd cc
made (Some e) None es is = absurd cc
made (Some e) (Some rest) es is = record { e = e; rest = rest; of_first = refl; of_others = refl; whole = cc }

-- the dimension along which an entry moves, if any, has a property
abbrev pub Moves : (ℕ → Type 0) → AlignDim → Type 0
Moves Q (align.Linear dim a b) = Q dim
Moves Q (align.At v) = Unit {0}
Moves Q align.Every = Unit {0}

-- so has the dimension of a dummy that stands in a subscript
abbrev pub NameHas : (ℕ → Type 0) → List Source → TargetValue → Type 0
NameHas Q ss Every = Unit {0}
NameHas Q ss (Subscript None l) = Unit {0}
NameHas Q ss (Subscript (Some x) l) = Q (dimension_from 0 x ss)
NameHas Q ss (Triplet first last step) = Unit {0}

-- as many `:` are left as triplets
abbrev pub IsLeft : List ℕ → List TargetValue → Type 0
IsLeft cs vs = length cs ≡ length (filter is_triplet vs)

abbrev pub rest_of : List ℕ → TargetValue → List ℕ
rest_of cs v = if is_triplet v then drop 1 cs else cs

left_next : (cs : List ℕ) (v : TargetValue) (vs : List TargetValue) → IsLeft cs (v ∷ vs) → IsLeft (rest_of cs v) vs
left_next cs Every vs h = h
left_next cs (Subscript x l) vs h = h
left_next [] (Triplet first last step) vs h = absurd (omega arith)
left_next (c ∷ cs) (Triplet first last step) vs h = omega arith

each_rest : (Q : ℕ → Type 0) (cs : List ℕ) (v : TargetValue) → Each Q cs → Each Q (rest_of cs v)
each_rest Q cs Every h = h
each_rest Q cs (Subscript x l) h = h
each_rest Q [] (Triplet first last step) h = tt
each_rest Q (c ∷ cs) (Triplet first last step) h = h.1

-- the entry of one dimension of the target
entry_moves : (Q : ℕ → Type 0) (ss : List Source) (cs : List ℕ) (v : TargetValue) (vs : List TargetValue) (b along : Option Dim) (e : AlignDim) → Each Q cs → IsLeft cs (v ∷ vs) →
    NameHas Q ss v → entry_of (pair v b (dimension_of ss cs v) along) ≡ Some e → Moves Q e
entry_moves Q ss cs Every vs b along e of_colons left named is = subst (Moves Q) (same_some align.Every e is) tt
entry_moves Q ss cs (Subscript x None) vs b along e of_colons left named is = absurd cc
entry_moves Q ss cs (Subscript None (Some l)) vs b along e of_colons left named is = subst (Moves Q) (same_some (align.At l.b) e is) tt
entry_moves Q ss cs (Subscript (Some x) (Some l)) vs b along e of_colons left named is =
    subst (Moves Q) (same_some (align.Linear (dimension_from 0 x ss) l.a l.b) e is) named
entry_moves Q ss cs (Triplet None last step) vs b along e of_colons left named is = absurd cc
entry_moves Q ss cs (Triplet (Some first) last None) vs b along e of_colons left named is = absurd cc
entry_moves Q ss cs (Triplet (Some first) last (Some step)) vs b None e of_colons left named is = absurd cc
entry_moves Q ss [] (Triplet (Some first) last (Some step)) vs b (Some d) e of_colons left named is = absurd (omega arith)
entry_moves Q ss (c ∷ cs) (Triplet (Some first) last (Some step)) vs b (Some d) e of_colons left named is =
    subst (Moves Q) (same_some (triplet_entry c d first step) e is) of_colons.0

-- the entries of all of them
pub all_move : (Q : ℕ → Type 0) (ss : List Source) (ds : List (Option Dim)) (cs : List ℕ) (vs : List TargetValue) (bs : List (Option Dim)) (es : List AlignDim) →
    Each Q cs → IsLeft cs vs → Each (NameHas Q ss) vs → all_or_none entry_of (pairs_from ss ds cs vs bs) ≡ Some es → Each (Moves Q) es
all_move Q ss ds cs [] bs es of_colons left named is = subst (Each (Moves Q)) (same_some [] es is) tt
all_move Q ss ds cs (v ∷ vs) bs es of_colons left named is =
    let m = made (entry_of (pair v (first_dim bs) (dimension_of ss cs v) (at_place ds (dimension_of ss cs v))))
    (all_or_none entry_of (pairs_from ss ds (rest_of cs v) vs (drop 1 bs))) es is in
    subst (Each (Moves Q)) m.whole (
      entry_moves Q ss cs v vs (first_dim bs) (at_place ds (dimension_of ss cs v)) m.e of_colons left named.0 m.of_first,
      all_move Q ss ds (rest_of cs v) vs (drop 1 bs) m.rest (each_rest Q cs v of_colons) (left_next cs v vs left) named.1 m.of_others,
    )

-- as many entries as subscripts of the target
pub entries_length : (ss : List Source) (ds : List (Option Dim)) (cs : List ℕ) (vs : List TargetValue) (bs : List (Option Dim)) (es : List AlignDim) →
    all_or_none entry_of (pairs_from ss ds cs vs bs) ≡ Some es → length es ≡ length vs
entries_length ss ds cs [] bs es is = sym (ap length (same_some [] es is))
entries_length ss ds cs (v ∷ vs) bs es is =
    let m = made (entry_of (pair v (first_dim bs) (dimension_of ss cs v) (at_place ds (dimension_of ss cs v))))
    (all_or_none entry_of (pairs_from ss ds (rest_of cs v) vs (drop 1 bs))) es is in
    sym (ap length m.whole) ∙ ap suc (entries_length ss ds (rest_of cs v) vs (drop 1 bs) m.rest m.of_others)

-- ---- no two move along one dimension

abbrev pub Differs : ℕ → ℕ → Type 0
Differs m n = n ≡ m → ⊥

abbrev pub ApartFrom : AlignDim → AlignDim → Type 0
ApartFrom (align.Linear dim a b) f = Moves (Differs dim) f
ApartFrom (align.At v) f = Unit {0}
ApartFrom align.Every f = Unit {0}

moved : (t : Bool) (m dim : ℕ) → cond t None (Some m) ≡ Some dim → m ≡ dim
moved true m dim h = absurd cc
moved false m dim h = cc

pub apart_of : (e f : AlignDim) → ApartFrom e f → MoveApart e f
apart_of (align.Linear m a b) (align.Linear n c d) h dim first second = h (moved (int_eq c (pos 0)) n dim second ∙ sym (moved (int_eq a (pos 0)) m dim first))
apart_of (align.Linear m a b) (align.At v) h dim first second = absurd cc
apart_of (align.Linear m a b) align.Every h dim first second = absurd cc
apart_of (align.At v) f h dim first second = absurd cc
apart_of align.Every f h dim first second = absurd cc

-- ---- where `:` and dummies stand among the entries of an alignee

abbrev pub at : List Source → ℕ → Source
at ss n = slice_index_or ss n Collapsed

abbrev pub IsColonAt : List Source → ℕ → Type 0
IsColonAt ss n = (n < length ss) × (at ss n ≡ Spread)

-- a dummy stands where its dimension is
abbrev pub StandsIn : List Source → Name → Type 0
StandsIn ss x = (dimension_from 0 x ss < length ss) × (is_dummy x (at ss (dimension_from 0 x ss)) ≡ true)

abbrev pub NameStands : List Source → TargetValue → Type 0
NameStands ss Every = Unit {0}
NameStands ss (Subscript None l) = Unit {0}
NameStands ss (Subscript (Some x) l) = StandsIn ss x
NameStands ss (Triplet first last step) = Unit {0}

abbrev pub NamesDiffer : TargetValue → TargetValue → Type 0
NamesDiffer (Subscript (Some x) l) (Subscript (Some y) k) = x ≡ y → ⊥
NamesDiffer v w = Unit {0}

-- a dummy is no `:`, and two dummies of one entry are one
not_colon : (x : Name) (s : Source) → is_dummy x s ≡ true → s ≡ Spread → ⊥
not_colon x s dummy colon = false≢true (sym (ap (is_dummy x) colon) ∙ dummy)

one_dummy : (x y : Name) (s : Source) → is_dummy x s ≡ true → is_dummy y s ≡ true → x ≡ y
one_dummy x y (Dummy z) first second = (bytes_eq-Decides x z).0 first ∙ sym ((bytes_eq-Decides y z).0 second)
one_dummy x y Spread first second = absurd (false≢true first)
one_dummy x y Collapsed first second = absurd (false≢true first)

-- the dimensions of other names differ from that of a name, and from that of a `:`
names_differ : (ss : List Source) (x : Name) (l : Option LinearForm) → StandsIn ss x → (w : TargetValue) → NameStands ss w → NamesDiffer (Subscript (Some x) l) w →
    NameHas (Differs (dimension_from 0 x ss)) ss w
names_differ ss x l stands Every there differ = tt
names_differ ss x l stands (Subscript None k) there differ = tt
names_differ ss x l stands (Subscript (Some y) k) there differ =
    λ same. differ (one_dummy x y (at ss (dimension_from 0 x ss)) stands.1 (sym (ap (λ n. is_dummy y (at ss n)) same) ∙ there.1))
names_differ ss x l stands (Triplet first last step) there differ = tt

names_no_colon : (ss : List Source) (c : ℕ) → IsColonAt ss c → (w : TargetValue) → NameStands ss w → NameHas (Differs c) ss w
names_no_colon ss c colon Every there = tt
names_no_colon ss c colon (Subscript None k) there = tt
names_no_colon ss c colon (Subscript (Some y) k) there = λ same. not_colon y (at ss (dimension_from 0 y ss)) there.1 (ap (at ss) same ∙ colon.1)
names_no_colon ss c colon (Triplet first last step) there = tt

colon_no_name : (ss : List Source) (x : Name) → StandsIn ss x → (c : ℕ) → IsColonAt ss c → Differs (dimension_from 0 x ss) c
colon_no_name ss x stands c colon = λ same. not_colon x (at ss (dimension_from 0 x ss)) stands.1 (sym (ap (at ss) same) ∙ colon.1)

each_two : {X : Type 0} (P Q R : X → Type 0) → ((x : X) → P x → Q x → R x) → (xs : List X) → Each P xs → Each Q xs → Each R xs
each_two P Q R f [] g h = tt
each_two P Q R f (x ∷ xs) g h = (f x g.0 h.0, each_two P Q R f xs g.1 h.1)

each_unit : {X : Type 0} (xs : List X) → Each (λ x. Unit {0}) xs
each_unit [] = tt
each_unit (x ∷ xs) = (tt, each_unit xs)

-- what a target is known by: where its `:` and its dummies stand
pub record IsPlaced (ss : List Source) (cs : List ℕ) (vs : List TargetValue) : Type 0 where
  pub colons : Each (IsColonAt ss) cs
  pub left : IsLeft cs vs
  pub names : Each (NameStands ss) vs
  pub colons_apart : EachLater Differs cs
  pub names_apart : EachLater NamesDiffer vs

later_rest : (cs : List ℕ) (v : TargetValue) → EachLater Differs cs → EachLater Differs (rest_of cs v)
later_rest cs Every h = h
later_rest cs (Subscript x l) h = h
later_rest [] (Triplet first last step) h = tt
later_rest (c ∷ cs) (Triplet first last step) h = h.1

placed_next : (ss : List Source) (cs : List ℕ) (v : TargetValue) (vs : List TargetValue) → IsPlaced ss cs (v ∷ vs) → IsPlaced ss (rest_of cs v) vs
placed_next ss cs v vs p = record {
  colons = each_rest (IsColonAt ss) cs v p.colons;
  left = left_next cs v vs p.left;
  names = p.names.1;
  colons_apart = later_rest cs v p.colons_apart;
  names_apart = p.names_apart.1;
}

-- the first entry beside those after it
first_apart : (ss : List Source) (ds : List (Option Dim)) (cs : List ℕ) (v : TargetValue) (vs : List TargetValue) (b along : Option Dim)
    (bs : List (Option Dim)) (e : AlignDim) (es : List AlignDim) → IsPlaced ss cs (v ∷ vs) → entry_of (pair v b (dimension_of ss cs v) along) ≡ Some e →
    all_or_none entry_of (pairs_from ss ds (rest_of cs v) vs bs) ≡ Some es → Each (ApartFrom e) es
first_apart ss ds cs Every vs b along bs e es p is others =
    subst (λ x. Each (ApartFrom x) es) (same_some align.Every e is) (each_unit es)
first_apart ss ds cs (Subscript x None) vs b along bs e es p is others = absurd cc
first_apart ss ds cs (Subscript None (Some l)) vs b along bs e es p is others =
    subst (λ x. Each (ApartFrom x) es) (same_some (align.At l.b) e is) (each_unit es)
first_apart ss ds cs (Subscript (Some x) (Some l)) vs b along bs e es p is others =
    let n = dimension_from 0 x ss in
    subst (λ y. Each (ApartFrom y) es) (same_some (align.Linear n l.a l.b) e is)
    (all_move (Differs n) ss ds cs vs bs es (each_mapped (IsColonAt ss) (Differs n) (colon_no_name ss x p.names.0) cs p.colons) p.left
    (each_two (NameStands ss) (NamesDiffer (Subscript (Some x) (Some l))) (NameHas (Differs n) ss) (names_differ ss x (Some l) p.names.0) vs p.names.1 p.names_apart.0) others)
first_apart ss ds cs (Triplet None last step) vs b along bs e es p is others = absurd cc
first_apart ss ds cs (Triplet (Some first) last None) vs b along bs e es p is others = absurd cc
first_apart ss ds cs (Triplet (Some first) last (Some step)) vs b None bs e es p is others = absurd cc
first_apart ss ds [] (Triplet (Some first) last (Some step)) vs b (Some d) bs e es p is others = let left = p.left in absurd (omega arith)
first_apart ss ds (c ∷ cs) (Triplet (Some first) last (Some step)) vs b (Some d) bs e es p is others =
    subst (λ y. Each (ApartFrom y) es) (same_some (triplet_entry c d first step) e is)
    (all_move (Differs c) ss ds cs vs bs es p.colons_apart.0 (left_next (c ∷ cs) (Triplet (Some first) last (Some step)) vs p.left)
    (each_mapped (NameStands ss) (NameHas (Differs c) ss) (names_no_colon ss c p.colons.0) vs p.names.1) others)

pub all_apart : (ss : List Source) (ds : List (Option Dim)) (cs : List ℕ) (vs : List TargetValue) (bs : List (Option Dim)) (es : List AlignDim) → IsPlaced ss cs vs →
    all_or_none entry_of (pairs_from ss ds cs vs bs) ≡ Some es → EachLater ApartFrom es
all_apart ss ds cs [] bs es p is = subst (EachLater ApartFrom) (same_some [] es is) tt
all_apart ss ds cs (v ∷ vs) bs es p is =
    let m = made (entry_of (pair v (first_dim bs) (dimension_of ss cs v) (at_place ds (dimension_of ss cs v))))
    (all_or_none entry_of (pairs_from ss ds (rest_of cs v) vs (drop 1 bs))) es is in
    subst (EachLater ApartFrom) m.whole (
      first_apart ss ds cs v vs (first_dim bs) (at_place ds (dimension_of ss cs v)) (drop 1 bs) m.e m.rest p m.of_first m.of_others,
      all_apart ss ds (rest_of cs v) vs (drop 1 bs) m.rest (placed_next ss cs v vs p) m.of_others,
    )

later_mapped : {X : Type 0} (R S : X → X → Type 0) → ((x y : X) → R x y → S x y) → (xs : List X) → EachLater R xs → EachLater S xs
later_mapped R S f [] h = tt
later_mapped R S f (x ∷ xs) h = (each_mapped (R x) (S x) (f x) xs h.0, later_mapped R S f xs h.1)

pub apart_entries : (es : List AlignDim) → EachLater ApartFrom es → AllPairs MoveApart es
apart_entries es h = pairs_each MoveApart es (later_mapped ApartFrom MoveApart apart_of es h)

-- a dimension of the alignee
below : (ss : List Source) (w : TargetValue) → NameStands ss w → NameHas (λ n. n < length ss) ss w
below ss Every there = tt
below ss (Subscript None k) there = tt
below ss (Subscript (Some y) k) there = there.0
below ss (Triplet first last step) there = tt

is_align : (rank : ℕ) (e : AlignDim) → Moves (λ n. n < rank) e → IsAlign rank e
is_align rank (align.Linear dim a b) h = h
is_align rank (align.At v) h = tt
is_align rank align.Every h = tt

pub align_entries : (ss : List Source) (ds : List (Option Dim)) (cs : List ℕ) (vs : List TargetValue) (bs : List (Option Dim)) (es : List AlignDim) → IsPlaced ss cs vs →
    all_or_none entry_of (pairs_from ss ds cs vs bs) ≡ Some es → All (IsAlign (length ss)) es
align_entries ss ds cs vs bs es p is =
    all_each (IsAlign (length ss)) es (each_mapped (Moves (λ n. n < length ss)) (IsAlign (length ss)) (is_align (length ss)) es
    (all_move (λ n. n < length ss) ss ds cs vs bs es (each_mapped (IsColonAt ss) (λ n. n < length ss) (λ c h. h.0) cs p.colons) p.left
    (each_mapped (NameStands ss) (NameHas (λ n. n < length ss) ss) (below ss) vs p.names) is))
