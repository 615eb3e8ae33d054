-- Rows that lie so are whole: they have the sizes of their layouts, and each element has an owner.
use Rattle.std.proofs.Common.{◌≡◌, ℕ, zero, suc, ◌+◌, ◌*◌, ◌<◌, true, List, [], ◌∷◌, ◌++◌, length, map, replicate, take, get_or, refl, sym, ap, ◌∙◌, arith}
use Rattle.std.proofs.lemmas.List.{length-map, length-replicate, length-take-le}
use Rattle.hpf_base.specs.ElementOrder.{extents_of, product}
use Rattle.syntax_tree.specs.MainProgram.{MainProgram}
use Rattle.expression_rules.specs.declared.dims.Dim.{Dim}
use Rattle.expression_rules.specs.Dims.{elements, extent}
use Rattle.name_table.specs.Entries.{entries}
use Rattle.name_table.specs.declared.names.Entry.{Entry}
use Rattle.name_table.specs.declared.names.What.{What}
use Rattle.name_table.specs.declared.names.What.TheVariants as what
use Rattle.storage.specs.Storage.{Storage}
use Rattle.directive_check.specs.ProgramMaps.{shape_of}
use Rattle.array_meaning.specs.Resolution.{initial_array}
use Rattle.array_meaning.specs.State.{Array}
use Rattle.machine_steps.specs.Layout.{IsDealt, Layout, owned_in, size_of, sizes}
use Rattle.machine_steps.specs.Agrees.{AreDeclared, IsWhole}
use Rattle.node_code.specs.Instructions.{NewMapping}
use Rattle.nodes_lowered.specs.OnNodes.{AreUnmade, LieAsDeclared, LiesAsDeclared, names_shapes, program_copies, program_opening}

-- ---- sizes

shape-size : (ds : List Dim) → elements ds ≡ product (extents_of (shape_of ds))
shape-size [] = refl
shape-size (d ∷ ds) = ap (λ k. extent d * k) (shape-size ds)

pub array-size : (ds : List Dim) (layout : Layout) → layout.shape ≡ shape_of ds → elements ds ≡ size_of layout
unfolding size_of
array-size ds layout e = shape-size ds ∙ ap (λ s. product (extents_of s)) (sym e)

row-size : (count : ℕ) (w : What) (layout : Layout) → LiesAsDeclared count w layout → length (initial_array w).elements ≡ size_of layout
row-size count (what.Array ds v) layout h = length-replicate (elements ds) v ∙ array-size ds layout h.0
row-size count (what.Scalar v) layout h = sym h
row-size count (what.Constant v) layout h = sym h
row-size count what.Template layout h = sym h
row-size count what.Arrangement layout h = sym h

-- copies that aren't made
abbrev unmade : ℕ → Storage
unmade room = replicate room []

unmade-sized : (room : ℕ) (copies : List Layout) → AreUnmade room copies → map length (unmade room) ≡ sizes copies
unmade-sized zero [] h = refl
unmade-sized zero (copy ∷ copies) h = absurd h
unmade-sized (suc room) [] h = absurd h
unmade-sized (suc room) (copy ∷ copies) h = ap (λ k. k ∷ map length (unmade room)) (sym h.0) ∙ ap (λ ks. size_of copy ∷ ks) (unmade-sized room copies h.1)

abbrev rows : ℕ → List Entry → Storage
rows room es = map (λ (a : Array). a.elements) (map (λ (e : Entry). initial_array e.what) es) ++ unmade room

rows-sized : (count room : ℕ) (es : List Entry) (layouts : List Layout) → LieAsDeclared count room es layouts → map length (rows room es) ≡ sizes layouts
rows-sized count room [] copies h = unmade-sized room copies h
rows-sized count room (e ∷ es) [] h = absurd h
rows-sized count room (e ∷ es) (layout ∷ layouts) h =
    ap (λ k. k ∷ map length (rows room es)) (row-size count e.what layout h.0) ∙ ap (λ ks. size_of layout ∷ ks) (rows-sized count room es layouts h.1)

-- ---- how many rows there are

unmade-many : (room : ℕ) (copies : List Layout) → AreUnmade room copies → length copies ≡ room
unmade-many zero [] h = refl
unmade-many zero (copy ∷ copies) h = absurd h
unmade-many (suc room) [] h = absurd h
unmade-many (suc room) (copy ∷ copies) h = ap suc (unmade-many room copies h.1)

pub laid-many : (count room : ℕ) (es : List Entry) (layouts : List Layout) → LieAsDeclared count room es layouts → length layouts ≡ length es + room
laid-many count room [] copies h = let many : length copies ≡ room = unmade-many room copies h in omega (arith, many)
laid-many count room (e ∷ es) [] h = absurd h
laid-many count room (e ∷ es) (layout ∷ layouts) h = let many : length layouts ≡ length es + room = laid-many count room es layouts h.1 in omega (arith, many)

-- ---- owners

-- an element has an owner among so many nodes
abbrev HasOwner : ℕ → List Layout → ℕ → ℕ → Type 0
HasOwner count layouts row at = (node : ℕ) × (node < count) × (owned_in layouts row node at ≡ true)

none-below : {A : Type 0} (at size : ℕ) → size ≡ 0 → at < size → A
none-below at size e lt = absurd (omega (arith, e, lt))

laid-owned : (count : ℕ) (w : What) (layout : Layout) → LiesAsDeclared count w layout → IsDealt count layout
laid-owned count (what.Array ds v) layout h = h.1
laid-owned count (what.Scalar v) layout h = λ at lt. none-below at (size_of layout) h lt
laid-owned count (what.Constant v) layout h = λ at lt. none-below at (size_of layout) h lt
laid-owned count what.Template layout h = λ at lt. none-below at (size_of layout) h lt
laid-owned count what.Arrangement layout h = λ at lt. none-below at (size_of layout) h lt

unmade-owned : (count room : ℕ) (copies : List Layout) → AreUnmade room copies → (row at : ℕ) → at < get_or (sizes copies) row 0 → HasOwner count copies row at
unmade-owned count zero [] h row at lt = none-below at 0 refl lt
unmade-owned count zero (copy ∷ copies) h row at lt = absurd h
unmade-owned count (suc room) [] h row at lt = absurd h
unmade-owned count (suc room) (copy ∷ copies) h zero at lt = none-below at (size_of copy) h.0 lt
unmade-owned count (suc room) (copy ∷ copies) h (suc row) at lt = unmade-owned count room copies h.1 row at lt

rows-owned : (count room : ℕ) (es : List Entry) (layouts : List Layout) → LieAsDeclared count room es layouts → (row at : ℕ) → at < get_or (sizes layouts) row 0
    → HasOwner count layouts row at
rows-owned count room [] copies h row at lt = unmade-owned count room copies h row at lt
rows-owned count room (e ∷ es) [] h row at lt = absurd h
rows-owned count room (e ∷ es) (layout ∷ layouts) h zero at lt = laid-owned count e.what layout h.0 at lt
rows-owned count room (e ∷ es) (layout ∷ layouts) h (suc row) at lt = rows-owned count room es layouts h.1 row at lt

front-declared : (n : ℕ) (layouts : List Layout) → AreDeclared (map (λ (l : Layout). l.shape) (take n layouts)) layouts
front-declared zero layouts = tt
front-declared (suc n) [] = tt
front-declared (suc n) (layout ∷ layouts) = (refl, front-declared n layouts)

-- as many shapes as names
pub names-many : (count : ℕ) (p : MainProgram) (layouts : List Layout) → LieAsDeclared count (program_copies p) (entries p) layouts
    → length (names_shapes p layouts) ≡ length (entries p)
names-many count p layouts h =
    let n : ℕ = length (entries p) in
    let many : length layouts ≡ n + program_copies p = laid-many count (program_copies p) (entries p) layouts h in
    length-map (take n layouts) (λ (l : Layout). l.shape) ∙ length-take-le n layouts (omega (arith, many))

pub opening-whole : (count : ℕ) (p : MainProgram) (moves : ℕ → List NewMapping) (layouts : List Layout) → LieAsDeclared count (program_copies p) (entries p) layouts
    → IsWhole count (names_shapes p layouts) (program_opening p moves layouts)
opening-whole count p moves layouts h = record {
  shaped = rows-sized count (program_copies p) (entries p) layouts h;
  declared = front-declared (length (entries p)) layouts;
  owned = λ spot lt. rows-owned count (program_copies p) (entries p) layouts h spot.row spot.at lt;
  kept = λ k e. cc;
}
