-- The arrays of a program, one after the other.
use Rattle.std.proofs.Common.{◌≡◌, ℕ, suc, ◌+◌, List, [], ◌∷◌, ◌++◌, append_assoc, drop, get_or, length, map, Some, refl, sym, ap, ◌∙◌, arith}
use Rattle.std.specs.Prelude.{slice_get}
use Rattle.std.specs.List.{flat_map}
use Rattle.std.proofs.lemmas.List.{length-map, map-append}
use Rattle.std.proofs.lemmas.Option.{same_Some, slice_get-get_or, slice_get_within}
use Rattle.array_maps.specs.declared.maps.ArrayMap.{ArrayMap}
use Rattle.array_maps.specs.declared.maps.NewMap.{NewMap}
use Rattle.syntax_tree.specs.Directive.{Distribution}
use Rattle.expression_rules.specs.Symbols.{Name}
use Rattle.name_table.specs.declared.names.Entry.{Entry}
use Rattle.name_table.specs.declared.names.What.{What}
use Rattle.name_table.specs.declared.names.What.TheVariants as what
use Rattle.statement_walk.specs.Head.{Head}
use Rattle.statement_walk.specs.Head as head
use Rattle.statement_walk.specs.Heads.{PlacedHead}
use Rattle.distribution_rules.specs.declared.objects.Object.{Object}
use Rattle.distribution_rules.specs.Setting.{Setting, array_of, arrays}
use Rattle.directive_check.specs.MappedObjects.{MappedObject}
use Rattle.directive_check.specs.ProgramMaps.{moves_of, new_map, new_maps_from, redistribution, start_map, start_maps_in}
use Rattle.directive_check.specs.Redistributes.{redistribute_of, redistributes}
use Rattle.directive_check.proofs.ListTurns.{drop_at}

-- what is left of a list from the item at a place on
drop_slice : {X : Type 0} (xs : List X) (n : ℕ) (x : X) → Some x ≡ slice_get xs n → drop n xs ≡ x ∷ drop (n + 1) xs
drop_slice xs n x is =
    let within = slice_get_within xs n x (sym is) in
    drop_at xs n x within ∙ ap (λ y. y ∷ drop (n + 1) xs) (same_Some (get_or xs n x) x (sym (slice_get-get_or xs n x within) ∙ sym is))

-- a turn of the loop over the names, at the start
pub start_next : (s : Setting) (ms : List MappedObject) (es : List Entry) (n : ℕ) (e : Entry) (before after all : List ArrayMap) → Some e ≡ slice_get es n →
    after ≡ before ++ start_map s ms e.name e.what → before ++ start_maps_in s ms (drop n es) ≡ all → after ++ start_maps_in s ms (drop (n + 1) es) ≡ all
start_next s ms es n e before after all is more so_far =
    let rest = start_maps_in s ms (drop (n + 1) es) in
    ap (λ l. l ++ rest) more
    ∙ append_assoc before (start_map s ms e.name e.what) rest
    ∙ ap (λ l. before ++ start_maps_in s ms l) (sym (drop_slice es n e is))
    ∙ so_far

-- those that move, of two lists of arrays
new_more : (s : Setting) (ms : List MappedObject) (d : Distribution) (n : ℕ) (os ps : List Object) →
    new_maps_from s ms d n (os ++ ps) ≡ new_maps_from s ms d n os ++ new_maps_from s ms d (n + length os) ps
new_more s ms d n [] ps = let e : n ≡ n + 0 = omega (arith) in ap (λ k. new_maps_from s ms d k ps) e
new_more s ms d n (o ∷ os) ps =
    let e : suc n + length os ≡ n + suc (length os) = omega (arith) in
    ap (λ l. new_map s ms d n o.name ++ l) (new_more s ms d (suc n) os ps ∙ ap (λ k. new_maps_from s ms d (suc n) os ++ new_maps_from s ms d k ps) e)
    ∙ sym (append_assoc (new_map s ms d n o.name) (new_maps_from s ms d (suc n) os) (new_maps_from s ms d (n + suc (length os)) ps))

-- a turn of the loop over the names, for a REDISTRIBUTE
pub moved_next : (s : Setting) (ms : List MappedObject) (d : Distribution) (es : List Entry) (n number next : ℕ) (e : Entry) (before after all : List NewMap) →
    Some e ≡ slice_get es n → after ≡ before ++ new_maps_from s ms d number (array_of e.name e.what) → next ≡ number + length (array_of e.name e.what) →
    before ++ new_maps_from s ms d number (arrays (drop n es)) ≡ all → after ++ new_maps_from s ms d next (arrays (drop (n + 1) es)) ≡ all
moved_next s ms d es n number next e before after all is more number_is so_far =
    let own = array_of e.name e.what in
    let rest = arrays (drop (n + 1) es) in
    (λ i. more i ++ new_maps_from s ms d (number_is i) rest)
    ∙ append_assoc before (new_maps_from s ms d number own) (new_maps_from s ms d (number + length own) rest)
    ∙ ap (λ l. before ++ l) (sym (new_more s ms d number own rest) ∙ ap (λ l. new_maps_from s ms d number (arrays l)) (sym (drop_slice es n e is)))
    ∙ so_far

-- what a statement moves
moves_head : (s : Setting) (ms : List MappedObject) (os : List Object) (line : ℕ) (h : Head) →
    map (λ d. redistribution s ms os d.0 d.1) (redistribute_of line h) ≡ moves_of s ms os line h
moves_head s ms os line (head.Redistribute d) = refl
moves_head s ms os line (head.Assignment left right) = refl
moves_head s ms os line (head.MaskedAssignment mask left right) = refl
moves_head s ms os line (head.ForallAssignment axes left right) = refl
moves_head s ms os line (head.Condition cond) = refl
moves_head s ms os line (head.Independent m) = refl
moves_head s ms os line (head.Do mark axis) = refl
moves_head s ms os line (head.Where mask) = refl
moves_head s ms os line (head.Forall axes mask) = refl
moves_head s ms os line (head.Print items) = refl
moves_head s ms os line head.Transfer = refl

pub all_moves : (s : Setting) (ms : List MappedObject) (os : List Object) (hs : List PlacedHead) →
    map (λ d. redistribution s ms os d.0 d.1) (redistributes hs) ≡ flat_map (λ h. moves_of s ms os h.line h.what) hs
all_moves s ms os [] = refl
all_moves s ms os (h ∷ hs) =
    map-append (λ d. redistribution s ms os d.0 d.1) (redistribute_of h.line h.what) (redistributes hs)
    ∙ (λ i. moves_head s ms os h.line h.what i ++ all_moves s ms os hs i)

-- ---- as many mappings as arrays

start_named : (s : Setting) (ms : List MappedObject) (x : Name) (w : What) → map (λ m. m.name) (start_map s ms x w) ≡ map (λ o. o.name) (array_of x w)
start_named s ms x (what.Array ds n) = refl
start_named s ms x (what.Scalar n) = refl
start_named s ms x (what.Constant n) = refl
start_named s ms x what.Template = refl
start_named s ms x what.Arrangement = refl

pub starts_named : (s : Setting) (ms : List MappedObject) (es : List Entry) → map (λ m. m.name) (start_maps_in s ms es) ≡ map (λ o. o.name) (arrays es)
starts_named s ms [] = refl
starts_named s ms (e ∷ es) =
    map-append (λ m. m.name) (start_map s ms e.name e.what) (start_maps_in s ms es)
    ∙ (λ i. start_named s ms e.name e.what i ++ starts_named s ms es i)
    ∙ sym (map-append (λ o. o.name) (array_of e.name e.what) (arrays es))

pub starts_many : (s : Setting) (ms : List MappedObject) (es : List Entry) → length (start_maps_in s ms es) ≡ length (arrays es)
starts_many s ms es =
    sym (length-map (start_maps_in s ms es) (λ m. m.name)) ∙ ap length (starts_named s ms es) ∙ length-map (arrays es) (λ o. o.name)
