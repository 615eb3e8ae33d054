-- The mappings that a REDISTRIBUTE gives are valid, where no rule is broken.
use Rattle.std.proofs.Common.{◌≡◌, ℕ, suc, pos, ◌+◌, ◌<◌, ◌≤◌, Bool, true, false, List, [], ◌∷◌, ◌++◌, bytes_eq, map, All, Some, refl, sym, ap, subst, ◌∙◌, arith}
use Rattle.std.specs.List.{flat_map, list_any}
use Rattle.std.specs.Prelude.{AllPairs, slice_get, unwrap_or, ◌||◌, if◌then◌else◌}
use Rattle.std.proofs.lemmas.List.Elements.{All-append, All-cons, All-nil}
use Rattle.std.proofs.lemmas.List.Kept.{AllPairs-cons}
use Rattle.std.proofs.lemmas.Option.{same_Some, slice_get_within}
use Rattle.std.proofs.lemmas.Slice.Eq.{bytes_eq-Decides}
use Rattle.hpf_base.specs.ElementOrder.{product}
use Rattle.hpf_base.specs.Grid.{IsGrid}
use Rattle.syntax_tree.specs.Directive as directive
use Rattle.expression_rules.specs.Symbols.{Name, is_among}
use Rattle.expression_rules.specs.declared.dims.Dim.{Dim}
use Rattle.statement_walk.specs.Head.{Head}
use Rattle.statement_walk.specs.Head as head
use Rattle.statement_walk.specs.Heads.{PlacedHead}
use Rattle.declarations.specs.Reasons.{at}
use Rattle.name_table.specs.declared.names.Entry.{Entry}
use Rattle.name_table.specs.declared.names.What.{What}
use Rattle.name_table.specs.declared.names.What.TheVariants as what
use Rattle.array_maps.specs.Maps.{AreNewMaps, IsMapOf, IsNewMap}
use Rattle.array_maps.specs.declared.maps.ArrayMap.{ArrayMap}
use Rattle.array_maps.specs.declared.maps.NewMap.{NewMap}
use Rattle.array_maps.specs.declared.maps.Redistribution.{Redistribution}
use Rattle.distribution_rules.specs.DistributionRules.{distribution_reasons, distribution_values, distributee_reasons}
use Rattle.distribution_rules.specs.Setting.{Setting, array_of, arrays, object}
use Rattle.directive_check.specs.MappedObjects.{MappedObject}
use Rattle.directive_check.specs.Chains.{root_of}
use Rattle.directive_check.specs.MappingRules.{chain_breaches, head_reasons, redistribute_breaches_at}
use Rattle.directive_check.specs.ProgramMaps.{distributed_as, moves_of, new_map, new_maps_from, replicated, shape_of, start_map, start_maps_in, with_root}
use Rattle.directive_check.proofs.ValidMapped.{AllGood, all_sound, chain_found, none_at, none_of}
use Rattle.directive_check.proofs.ValidStarts.{AllOwn, OwnEntry, Sized, distributed_of, either, map_of, replicated_of, with_root_of}

-- ---- one REDISTRIBUTE

-- an object of the list breaks no rule
listed : (s : Setting) (d : directive.Distribution) (xs : List Name) (y : Name) → flat_map (λ x. distributee_reasons (distribution_values s d) (object s x)) xs ≡ [] →
    is_among y xs ≡ true → distributee_reasons (distribution_values s d) (object s y) ≡ []
listed s d [] y none among = absurd cc
listed s d (x ∷ xs) y none among = by (bytes_eq y x) refl (listed s d xs y each.1) among
  where
    each : (distributee_reasons (distribution_values s d) (object s x) ≡ []) × (flat_map (λ x. distributee_reasons (distribution_values s d) (object s x)) xs ≡ [])
    each = none_of (distributee_reasons (distribution_values s d) (object s x)) _ none

    by : (b : Bool) → bytes_eq y x ≡ b → (is_among y xs ≡ true → distributee_reasons (distribution_values s d) (object s y) ≡ []) → (b || list_any (bytes_eq y) xs) ≡ true →
        distributee_reasons (distribution_values s d) (object s y) ≡ []
    by true same others more = subst (λ z. distributee_reasons (distribution_values s d) (object s z) ≡ []) (sym ((bytes_eq-Decides y x).0 same)) each.0
    by false same others more = others more

-- a distribution that breaks no rule with any of its objects
abbrev pub GoodMove : Setting → directive.Distribution → Type 0
GoodMove s d = (distribution_reasons (distribution_values s d) ≡ []) × (flat_map (λ x. distributee_reasons (distribution_values s d) (object s x)) d.names ≡ [])

-- a list goes on as another one
abbrev GoesOn : {X : Type 0} → List X → ℕ → List X → Type 0
GoesOn xs n ys = (j : ℕ) → slice_get xs (n + j) ≡ slice_get ys j

here : {X : Type 0} (xs : List X) (n : ℕ) (y : X) (ys : List X) → GoesOn xs n (y ∷ ys) → slice_get xs n ≡ Some y
here xs n y ys on = let none : n ≡ n + 0 = omega arith in ap (slice_get xs) none ∙ on 0

next : {X : Type 0} (xs : List X) (n : ℕ) (y : X) (ys : List X) → GoesOn xs n (y ∷ ys) → GoesOn xs (suc n) ys
next xs n y ys on j = let same_place : suc n + j ≡ n + suc j = omega arith in ap (slice_get xs) same_place ∙ on (suc j)

-- new mappings of arrays from a number on, in order
abbrev NewFrom : ℕ → List ArrayMap → ℕ → List NewMap → Type 0
NewFrom nodes starts n news = All (IsNewMap nodes starts) news × All (λ m. n ≤ m.array.0) news × AllPairs (λ x y. x.array.0 < y.array.0) news

none_new : (nodes : ℕ) (starts : List ArrayMap) (n : ℕ) → NewFrom nodes starts n []
none_new nodes starts n = (All-nil (IsNewMap nodes starts), All-nil (λ m. n ≤ m.array.0), λ i j d before within. absurd (omega (arith, within)))

one_more : (nodes : ℕ) (starts : List ArrayMap) (n : ℕ) (m : NewMap) (news : List NewMap) → m.array.0 ≡ n → IsNewMap nodes starts m → NewFrom nodes starts (suc n) news →
    NewFrom nodes starts n (m ∷ news)
one_more nodes starts n m news at is rest = (
  All-cons (IsNewMap nodes starts) m news is rest.0,
  All-cons (λ x. n ≤ x.array.0) m news (omega (arith, at)) (λ k d within. let later = rest.1 k d within in omega (arith, later)),
  AllPairs-cons (λ x y. x.array.0 < y.array.0) m news (λ k d within. let later = rest.1 k d within in omega (arith, later, at)) rest.2,
)

later_ones : (nodes : ℕ) (starts : List ArrayMap) (n : ℕ) (news : List NewMap) → NewFrom nodes starts (suc n) news → NewFrom nodes starts n news
later_ones nodes starts n news rest = (rest.0, λ k d within. let later = rest.1 k d within in omega (arith, later), rest.2)

-- an array that moves, and one that doesn't
new_one : (s : Setting) (ms : List MappedObject) (d : directive.Distribution) (n : ℕ) (x : Name) (ds : List Dim) (starts : List ArrayMap) (a : ArrayMap) (news : List NewMap) →
    slice_get starts n ≡ Some a → a.shape ≡ shape_of ds →
    (is_among (root_of s ms x) d.names ≡ true → IsMapOf (product s.grid) (shape_of ds) (unwrap_or (with_root s ms x (distributed_as s d (root_of s ms x))) (replicated s.grid))) →
    NewFrom (product s.grid) starts (suc n) news → NewFrom (product s.grid) starts n (new_map s ms d n x ++ news)
new_one s ms d n x ds starts a news at shape valid rest = by (is_among (root_of s ms x) d.names) refl
  where
    to : NewMap
    to = record { array = record { 0 = n }; map = unwrap_or (with_root s ms x (distributed_as s d (root_of s ms x))) (replicated s.grid) }

    by : (b : Bool) → is_among (root_of s ms x) d.names ≡ b → NewFrom (product s.grid) starts n ((if b then to ∷ [] else []) ++ news)
    by false moves = later_ones (product s.grid) starts n news rest
    by true moves = one_more (product s.grid) starts n to news refl
        (record {
          array = slice_get_within starts n a at;
          map = λ b is. subst (λ h. IsMapOf (product s.grid) h to.map) (sym shape ∙ ap (λ m. m.shape) (same_Some a b (sym at ∙ is))) (valid moves);
        })
        rest

new_all : (s : Setting) (ms : List MappedObject) (d : directive.Distribution) (starts : List ArrayMap) (n : ℕ) (es : List Entry) → IsGrid s.grid → Sized s → AllGood s ms →
    chain_breaches s ms ≡ [] → GoodMove s d → AllOwn s es → GoesOn starts n (start_maps_in s ms es) → NewFrom (product s.grid) starts n (new_maps_from s ms d n (arrays es))
new_all s ms d starts n [] grid sized good none move own on = none_new (product s.grid) starts n
new_all s ms d starts n (e ∷ es) grid sized good none move own on = by e.what own.0 (λ m next_on. new_all s ms d starts m es grid sized good none move own.1 next_on) on
  where
    valid : (ds : List Dim) → OwnEntry s e.name (what.Array ds (pos 0)) → is_among (root_of s ms e.name) d.names ≡ true →
        IsMapOf (product s.grid) (shape_of ds) (unwrap_or (with_root s ms e.name (distributed_as s d (root_of s ms e.name))) (replicated s.grid))
    valid ds is among =
        either (IsMapOf (product s.grid) (shape_of ds)) (with_root s ms e.name (distributed_as s d (root_of s ms e.name))) (replicated s.grid)
        (λ m gives. with_root_of s ms e.name ds (distributed_as s d (root_of s ms e.name)) m is.1 (all_sound s ms good) (λ h how. chain_found s ms ms e.name h none how)
        (λ r root. distributed_of s d (root_of s ms e.name) r grid sized (move.0, listed s d d.names (root_of s ms e.name) move.1 among) root) gives)
        (map_of s.grid ds (replicated s.grid) (replicated_of s.grid (map Some ds)))

    by : (w : What) → OwnEntry s e.name w →
        ((m : ℕ) → GoesOn starts m (start_maps_in s ms es) → NewFrom (product s.grid) starts m (new_maps_from s ms d m (arrays es))) → GoesOn starts n (start_map s ms e.name w ++ start_maps_in s ms es) →
        NewFrom (product s.grid) starts n (new_maps_from s ms d n (array_of e.name w ++ arrays es))
    by (what.Array ds v) is rest on =
        new_one s ms d n e.name ds starts _ _ (here starts n _ (start_maps_in s ms es) on) refl (valid ds is)
        (rest (suc n) (next starts n _ (start_maps_in s ms es) on))
    by (what.Scalar v) is rest on = rest n on
    by (what.Constant v) is rest on = rest n on
    by what.Template is rest on = rest n on
    by what.Arrangement is rest on = rest n on

-- ---- all of them

from_start : {X : Type 0} (xs : List X) → GoesOn xs 0 xs
from_start xs j = let same_place : 0 + j ≡ j = omega arith in ap (slice_get xs) same_place

abbrev IsValid : Setting → List MappedObject → List Entry → Redistribution → Type 0
IsValid s ms es r = AreNewMaps (product s.grid) (start_maps_in s ms es) r.maps

move_valid : (s : Setting) (ms : List MappedObject) (dynamic : List Name) (es : List Entry) (line : ℕ) (h : Head) → IsGrid s.grid → Sized s → AllGood s ms →
    chain_breaches s ms ≡ [] → AllOwn s es → head_reasons s ms dynamic h ≡ [] → All (IsValid s ms es) (moves_of s ms (arrays es) line h)
move_valid s ms dynamic es line (head.Redistribute d) grid sized good none own kept =
    let two = none_of (distribution_reasons (distribution_values s d) ++ flat_map (λ x. distributee_reasons (distribution_values s d) (object s x)) d.names) _ kept in
    let move = none_of (distribution_reasons (distribution_values s d)) _ two.0 in
    let news = new_all s ms d (start_maps_in s ms es) 0 es grid sized good none move own (from_start (start_maps_in s ms es)) in
    All-cons (IsValid s ms es) _ [] (record { each = news.0; ascending = news.2 })
    (All-nil (IsValid s ms es))
move_valid s ms dynamic es line (head.Assignment left right) grid sized good none own kept = All-nil (IsValid s ms es)
move_valid s ms dynamic es line (head.MaskedAssignment mask left right) grid sized good none own kept = All-nil (IsValid s ms es)
move_valid s ms dynamic es line (head.ForallAssignment axes left right) grid sized good none own kept = All-nil (IsValid s ms es)
move_valid s ms dynamic es line (head.Condition c) grid sized good none own kept = All-nil (IsValid s ms es)
move_valid s ms dynamic es line (head.Independent m) grid sized good none own kept = All-nil (IsValid s ms es)
move_valid s ms dynamic es line (head.Do m axis) grid sized good none own kept = All-nil (IsValid s ms es)
move_valid s ms dynamic es line (head.Where mask) grid sized good none own kept = All-nil (IsValid s ms es)
move_valid s ms dynamic es line (head.Forall axes mask) grid sized good none own kept = All-nil (IsValid s ms es)
move_valid s ms dynamic es line (head.Print items) grid sized good none own kept = All-nil (IsValid s ms es)
move_valid s ms dynamic es line head.Transfer grid sized good none own kept = All-nil (IsValid s ms es)

-- the new mappings of all REDISTRIBUTEs are valid
pub moves_valid : (s : Setting) (ms : List MappedObject) (dynamic : List Name) (es : List Entry) (hs : List PlacedHead) → IsGrid s.grid → Sized s →
    AllGood s ms → chain_breaches s ms ≡ [] → AllOwn s es → flat_map (redistribute_breaches_at s ms dynamic) hs ≡ [] →
    All (λ r. AreNewMaps (product s.grid) (start_maps_in s ms es) r.maps) (flat_map (λ h. moves_of s ms (arrays es) h.line h.what) hs)
moves_valid s ms dynamic es [] grid sized good none own kept = All-nil (IsValid s ms es)
moves_valid s ms dynamic es (h ∷ hs) grid sized good none own kept =
    let both = none_of (redistribute_breaches_at s ms dynamic h) (flat_map (redistribute_breaches_at s ms dynamic) hs) kept in
    All-append (IsValid s ms es) (moves_of s ms (arrays es) h.line h.what) _
    (move_valid s ms dynamic es h.line h.what grid sized good none own (none_at h.line _ both.0))
    (moves_valid s ms dynamic es hs grid sized good none own both.1)
