-- One place does as well as all on an axis along which none of a reference's subscripts moves.
use Rattle.std.proofs.Common.{◌≡◌, ℕ, zero, suc, ◌+◌, ◌*◌, ◌/◌, ◌%◌, ◌<◌, ◌≤◌, ◌==◌, inl, inr, ◌&&◌, ◌||◌, Bool, true, false, if◌then◌else◌, List, [], ◌∷◌, ◌++◌, filter, get_or, length, Some, refl, sym, ◌∙◌, ap, subst, arith, eq-eqb, pos, ◌+ℤ◌, ◌*ℤ◌, option_map}
use Rattle.std.proofs.Math.Nat.{mul-le-mul_left}
use Rattle.std.proofs.lemmas.Bool.{eqb-false, eqb-true}
use Rattle.std.proofs.lemmas.Nat.{div-mul-add, div_below, mod-mul-add, mod_below}
use Rattle.std.specs.List.{list_any, range_with_len}
use Rattle.hpf_base.specs.ElementOrder.{product}
use Rattle.storage.specs.Storage.{Spot}
use Rattle.array_meaning.specs.State.{element_place}
use Rattle.message_elements.specs.Elements.{is_named}
use Rattle.axis_products.specs.Products.{each, passing, places_at}
use Rattle.axis_products.specs.Tests.{Test, holds}
use Rattle.axis_products.proofs.Products.{some_factor}
use Rattle.mappings.proofs.Sections.{same_test}
use Rattle.courses.specs.Courses.{Course, Fixed, Moving, course_at, courses_at}
use Rattle.courses.specs.References.{Named}
use Rattle.courses.proofs.Sections.{both}
use Rattle.gap_table.proofs.AscendingLists.{In}
use Rattle.visited_tuples.specs.Own.{listed_tuples}
use Rattle.visited_tuples.proofs.Members.{filter-agree}
use Rattle.visited_tuples.proofs.Sent.{clash}
use Rattle.visited_tuples.proofs.Taken.{listed}
use Rattle.pair_messages.specs.Enough.{AreEnoughFrom, IsEnough, moves_along, moves_on}
use Rattle.pair_messages.specs.Sent.{is_named_among, is_named_by}
use Rattle.pair_messages.proofs.Anys.{any-filter}
use Rattle.pair_messages.proofs.Ascending.{same-part}
use Rattle.pair_messages.proofs.BothTests.{filter-none}

-- the test of lists that are enough: where not all places are asked for, it takes one of them alone
abbrev pub picked : (ℕ → Bool) → (ℕ → ℕ → Bool) → (ℕ → ℕ) → ℕ → ℕ → Bool
picked asked test pick axis x = test axis x && (asked axis || (x == pick axis))

-- the first place of each list
abbrev pub first_places : List (List ℕ) → ℕ → ℕ
first_places lists axis = get_or (get_or lists axis []) 0 0

-- the tuples with a place of each list
abbrev pub few_test : (ℕ → Bool) → Test → List (List ℕ) → Test
few_test asked c lists = record { always = c.always; at = picked asked c.at (first_places lists) }

and-true : (b : Bool) → (b && true) ≡ b
and-true true = refl
and-true false = refl

-- the list of one axis, by that test
enough-list : (a : Bool) (p : ℕ → Bool) (extent : ℕ) (ps : List ℕ) → IsEnough a p extent ps → ps ≡ filter (λ x. p x && (a || (x == get_or ps 0 0))) (range_with_len 0 extent)
enough-list true p extent ps is = is ∙ (λ i. filter (λ x. sym (and-true (p x)) i) (range_with_len 0 extent))
enough-list false p extent ps (inl (none, fails)) =
    none
    ∙ sym (filter-agree (λ x. p x && (x == get_or ps 0 0)) (λ x. false) 0 extent (λ x low high. ap (λ b. b && (x == get_or ps 0 0)) (fails x (omega (arith, high))))
    ∙ filter-none 0 extent)
enough-list false p extent ps (inr (x, one, below, passes)) =
    let P : ℕ → Bool = λ y. p y && (y == x) in
    let here : P x ≡ true = ap (λ b. b && (x == x)) passes ∙ eq-eqb x x refl in
    one
    ∙ sym (ap (λ b. if b then x ∷ [] else []) here)
    ∙ same-part P extent (x ∷ []) (λ k less. absurd (omega (arith, less)))
    (λ y i. only y i)
    (λ y small held. inl (eqb-true y x (both (p y) (y == x) held).1))
    ∙ ap (λ z. filter (λ y. p y && (y == z)) (range_with_len 0 extent)) (sym (ap (λ l. get_or l 0 0) one))
  where
    only : (y : ℕ) → In y (x ∷ []) → y < extent
    only y (inl same) = omega (arith, same, below)
    only y (inr i) = absurd i

enough-lists : (asked : ℕ → Bool) (test : ℕ → ℕ → Bool) (pick : ℕ → ℕ) (axis : ℕ) (es : List ℕ) (lists : List (List ℕ)) → AreEnoughFrom asked test axis es lists
    → ((j : ℕ) → pick (axis + j) ≡ first_places lists j) → lists ≡ passing (picked asked test pick) axis es
enough-lists asked test pick axis [] [] are at = refl
enough-lists asked test pick axis [] (ps ∷ pss) are at = absurd are
enough-lists asked test pick axis (e ∷ es) [] are at = absurd are
enough-lists asked test pick axis (e ∷ es) (ps ∷ pss) are at =
    let here : axis + 0 ≡ axis = omega arith in
    let first : get_or ps 0 0 ≡ pick axis = sym (at 0) ∙ ap pick here in
    ap (λ l. l ∷ pss) (enough-list (asked axis) (test axis) e ps are.0 ∙ ap (λ z. filter (λ x. test axis x && (asked axis || (x == z))) (range_with_len 0 e)) first)
    ∙ ap (λ l. filter (picked asked test pick axis) (range_with_len 0 e) ∷ l)
    (enough-lists asked test pick (axis + 1) es pss are.1 (λ j. let next : axis + 1 + j ≡ axis + suc j = omega arith in ap pick next ∙ at (suc j)))

pub enough-passing : (asked : ℕ → Bool) (test : ℕ → ℕ → Bool) (es : List ℕ) (lists : List (List ℕ)) → AreEnoughFrom asked test 0 es lists
    → lists ≡ passing (picked asked test (first_places lists)) 0 es
enough-passing asked test es lists are =
    enough-lists asked test (first_places lists) 0 es lists are (λ j. let here : 0 + j ≡ j = omega arith in ap (first_places lists) here)

pub enough-long : (asked : ℕ → Bool) (test : ℕ → ℕ → Bool) (axis : ℕ) (es : List ℕ) (lists : List (List ℕ)) → AreEnoughFrom asked test axis es lists → length lists ≡ length es
enough-long asked test axis [] [] are = refl
enough-long asked test axis [] (ps ∷ pss) are = absurd are
enough-long asked test axis (e ∷ es) [] are = absurd are
enough-long asked test axis (e ∷ es) (ps ∷ pss) are = ap suc (enough-long asked test (axis + 1) es pss are.1)

-- one axis more
pub enough-more : (asked : ℕ → Bool) (test : ℕ → ℕ → Bool) (axis : ℕ) (es : List ℕ) (lists : List (List ℕ)) (e : ℕ) (ps : List ℕ) → AreEnoughFrom asked test axis es lists
    → IsEnough (asked (axis + length es)) (test (axis + length es)) e ps → AreEnoughFrom asked test axis (es ++ e ∷ []) (lists ++ ps ∷ [])
enough-more asked test axis [] [] e ps are is = let here : axis + 0 ≡ axis = omega arith in (subst (λ n. IsEnough (asked n) (test n) e ps) here is, tt)
enough-more asked test axis [] (qs ∷ pss) e ps are is = absurd are
enough-more asked test axis (d ∷ es) [] e ps are is = absurd are
enough-more asked test axis (d ∷ es) (qs ∷ pss) e ps are is =
    let next : axis + suc (length es) ≡ axis + 1 + length es = omega arith in
    (are.0, enough-more asked test (axis + 1) es pss e ps are.1 (subst (λ n. IsEnough (asked n) (test n) e ps) next is))

-- ---- the places of a tuple, with the picked ones where not all are asked for

abbrev chosen : (ℕ → Bool) → (ℕ → ℕ) → ℕ → List ℕ → List ℕ
chosen asked pick axis [] = []
chosen asked pick axis (p ∷ ps) = (if asked axis then p else pick axis) ∷ chosen asked pick (axis + 1) ps

-- they are those of a tuple that passes
record Passes (asked : ℕ → Bool) (test : ℕ → ℕ → Bool) (pick : ℕ → ℕ) (axis : ℕ) (es ps : List ℕ) : Type 0 where
  number : ℕ
  below : number < product es
  places : places_at es number ≡ ps
  held : each (picked asked test pick) axis ps ≡ true

with-place : (asked : ℕ → Bool) (test : ℕ → ℕ → Bool) (pick : ℕ → ℕ) (axis e p : ℕ) (es ps : List ℕ) → p < e → picked asked test pick axis p ≡ true
    → Passes asked test pick (axis + 1) es ps → Passes asked test pick axis (e ∷ es) (p ∷ ps)
with-place asked test pick axis e p es ps small passes rest = record {
  number = rest.number * e + p;
  below = room rest.number e p (product es) small rest.below;
  places = (λ i. mod-mul-add rest.number e p small i ∷ places_at es (div-mul-add rest.number e p small i)) ∙ ap (λ l. p ∷ l) rest.places;
  held = ap (λ b. b && each (picked asked test pick) (axis + 1) ps) passes ∙ rest.held;
}
  where
    room : (n e p m : ℕ) → p < e → n < m → n * e + p < e * m
    room n e p m small less = let up : e * (n + 1) ≤ e * m = mul-le-mul_left e (omega (arith, less)) in omega (arith, up, small)

chosen-passes : (asked : ℕ → Bool) (test : ℕ → ℕ → Bool) (pick : ℕ → ℕ) (axis : ℕ) (es : List ℕ) (lists : List (List ℕ)) (t : ℕ) → AreEnoughFrom asked test axis es lists
    → ((j : ℕ) → pick (axis + j) ≡ first_places lists j) → t < product es → each test axis (places_at es t) ≡ true
    → Passes asked test pick axis es (chosen asked pick axis (places_at es t))
chosen-passes asked test pick axis [] [] t are at below held = record { number = 0; below = omega arith; places = refl; held = refl }
chosen-passes asked test pick axis [] (ps ∷ pss) t are at below held = absurd are
chosen-passes asked test pick axis (e ∷ es) [] t are at below held = absurd are
chosen-passes asked test pick axis (e ∷ es) (ps ∷ pss) t are at below held =
    let some : 0 < e = some_factor e (product es) t below in
    let h = both (test axis (t % e)) (each test (axis + 1) (places_at es (t / e))) held in
    let rest = chosen-passes asked test pick (axis + 1) es pss (t / e) are.1 (λ j. let next : axis + 1 + j ≡ axis + suc j = omega arith in ap pick next ∙ at (suc j))
    (div_below t e (product es) some (let c : t < e * product es = below in omega (arith, c))) h.1 in
    let here : axis + 0 ≡ axis = omega arith in
    let first : get_or ps 0 0 ≡ pick axis = sym (at 0) ∙ ap pick here in
    let one = by_asked (asked axis) refl (t % e) (mod_below t e some) h.0 (subst (λ a. IsEnough a (test axis) e ps) refl are.0) first in
    with-place asked test pick axis e (if asked axis then t % e else pick axis) es (chosen asked pick (axis + 1) (places_at es (t / e))) one.0 one.1 rest
  where
    by_asked : (a : Bool) → asked axis ≡ a → (x : ℕ) → x < e → test axis x ≡ true → IsEnough a (test axis) e ps → get_or ps 0 0 ≡ pick axis
        → ((if a then x else pick axis) < e) × ((test axis (if a then x else pick axis) && (asked axis || ((if a then x else pick axis) == pick axis))) ≡ true)
    by_asked true is x small passes enough first = (small, ap (λ b. test axis x && (b || (x == pick axis))) is ∙ ap (λ b. b && true) passes)
    by_asked false is x small passes (inl (none, fails)) first = clash passes (fails x small)
    by_asked false is x small passes (inr (y, one, below, held)) first =
        let same : y ≡ pick axis = sym (ap (λ l. get_or l 0 0) one) ∙ first in (
          subst (λ z. z < e) same below,
          ap (λ b. test axis (pick axis) && (b || (pick axis == pick axis))) is ∙ ap (λ b. b && (pick axis == pick axis)) (ap (test axis) (sym same) ∙ held)
              ∙ eq-eqb (pick axis) (pick axis) refl,
        )

-- ---- what is named there

chosen-place : (asked : ℕ → Bool) (pick : ℕ → ℕ) (axis : ℕ) (ps : List ℕ) (j : ℕ) → asked (axis + j) ≡ true → get_or (chosen asked pick axis ps) j 0 ≡ get_or ps j 0
chosen-place asked pick axis [] j is = refl
chosen-place asked pick axis (p ∷ ps) zero is =
    let here : axis ≡ axis + 0 = omega arith in ap (λ b. if b then p else pick axis) (ap asked here ∙ is)
chosen-place asked pick axis (p ∷ ps) (suc j) is =
    let next : axis + 1 + j ≡ axis + suc j = omega arith in chosen-place asked pick (axis + 1) ps j (ap asked next ∙ is)

chosen-courses : (asked : ℕ → Bool) (pick : ℕ → ℕ) (ps : List ℕ) (cs : List Course) → ((axis : ℕ) → moves_on cs axis ≡ true → asked axis ≡ true)
    → courses_at (chosen asked pick 0 ps) cs ≡ courses_at ps cs
chosen-courses asked pick ps [] all = refl
chosen-courses asked pick ps (c ∷ cs) all =
    ap (λ z. z ∷ courses_at (chosen asked pick 0 ps) cs) (one c (λ axis moves. all axis (ap (λ b. b || moves_on cs axis) moves)))
    ∙ ap (λ zs. course_at ps c ∷ zs) (chosen-courses asked pick ps cs (λ axis moves. all axis (later (moves_along axis c) (moves_on cs axis) moves)))
  where
    later : (a b : Bool) → b ≡ true → (a || b) ≡ true
    later true b e = refl
    later false b e = e

    one : (c : Course) → ((axis : ℕ) → moves_along axis c ≡ true → asked axis ≡ true) → course_at (chosen asked pick 0 ps) c ≡ course_at ps c
    one (Fixed i) moves = refl
    one (Moving axis first step) moves =
        let here : 0 + axis ≡ axis = omega arith in
        ap (λ x. first +ℤ (step *ℤ pos x)) (chosen-place asked pick 0 ps axis (ap asked here ∙ moves axis (eq-eqb axis axis refl)))

-- ---- one of a range

any-one : (P : ℕ → Bool) (lo len : ℕ) → list_any P (range_with_len lo len) ≡ true → (t : ℕ) × (lo ≤ t) × (t < lo + len) × (P t ≡ true)
any-one P lo zero any = absurd cc
any-one P lo (suc len) any = by_case (P lo) refl any (any-one P (lo + 1) len)
  where
    by_case : (b : Bool) → P lo ≡ b → (b || list_any P (range_with_len (lo + 1) len)) ≡ true
        → (list_any P (range_with_len (lo + 1) len) ≡ true → (t : ℕ) × (lo + 1 ≤ t) × (t < lo + 1 + len) × (P t ≡ true))
        → (t : ℕ) × (lo ≤ t) × (t < lo + suc len) × (P t ≡ true)
    by_case true is any rest = (lo, omega arith, omega arith, is)
    by_case false is any rest = let h = rest any in let a = h.1 in let b = h.2 in (h.0, omega (arith, a), omega (arith, b), h.3)

one-any : (P : ℕ → Bool) (lo len t : ℕ) → lo ≤ t → t < lo + len → P t ≡ true → list_any P (range_with_len lo len) ≡ true
one-any P lo zero t low high passes = absurd (omega (arith, low, high))
one-any P lo (suc len) t low high passes =
    by_case (lo == t) refl (λ above. one-any P (lo + 1) len t (omega (arith, above, low)) (omega (arith, high)) passes)
  where
    later : (a b : Bool) → b ≡ true → (a || b) ≡ true
    later true b e = refl
    later false b e = e

    by_case : (b : Bool) → (lo == t) ≡ b → ((lo ≡ t → ⊥) → list_any P (range_with_len (lo + 1) len) ≡ true) → (P lo || list_any P (range_with_len (lo + 1) len)) ≡ true
    by_case true is rest = ap (λ b. b || list_any P (range_with_len (lo + 1) len)) (ap P (eqb-true lo t is) ∙ passes)
    by_case false is rest = later (P lo) (list_any P (range_with_len (lo + 1) len)) (rest (eqb-false lo t is))

-- ---- the tuples of such lists name all that is named

module _ (ns : List ℕ) (r : Named) (c : Test) (lists : List (List ℕ)) (spot : Spot) (always : c.always ≡ true) (are : AreEnoughFrom (moves_on r.courses) c.at 0 ns lists) where
  abbrev asked : ℕ → Bool
  asked = moves_on r.courses

  abbrev pick : ℕ → ℕ
  pick = first_places lists

  abbrev few : Test
  few = few_test asked c lists

  abbrev all_of : ℕ → Bool
  all_of t = holds c (places_at ns t) && is_named_by ns r t spot

  abbrev few_of : ℕ → Bool
  few_of t = holds few (places_at ns t) && is_named_by ns r t spot

  both-hold : (a b : Bool) → a ≡ true → b ≡ true → (a && b) ≡ true
  both-hold a b e f = ap (λ x. x && b) e ∙ f

  each-of : (axis : ℕ) (ps : List ℕ) → each (picked asked c.at pick) axis ps ≡ true → each c.at axis ps ≡ true
  each-of axis [] held = refl
  each-of axis (p ∷ ps) held =
      let h = both (picked asked c.at pick axis p) (each (picked asked c.at pick) (axis + 1) ps) held in
      both-hold (c.at axis p) (each c.at (axis + 1) ps) (both (c.at axis p) (asked axis || (p == pick axis)) h.0).0 (each-of (axis + 1) ps h.1)

  forth : list_any few_of (range_with_len 0 (product ns)) ≡ true → list_any all_of (range_with_len 0 (product ns)) ≡ true
  forth any =
      let h = any-one few_of 0 (product ns) any in
      let t = h.0 in
      let g = both (holds few (places_at ns t)) (is_named_by ns r t spot) h.3 in
      one-any all_of 0 (product ns) t h.1 h.2 (both-hold (holds c (places_at ns t)) (is_named_by ns r t spot)
      (both-hold c.always (each c.at 0 (places_at ns t)) always (each-of 0 (places_at ns t) (both c.always (each few.at 0 (places_at ns t)) g.0).1)) g.1)

  back : list_any all_of (range_with_len 0 (product ns)) ≡ true → list_any few_of (range_with_len 0 (product ns)) ≡ true
  back any =
      let h = any-one all_of 0 (product ns) any in
      let t = h.0 in
      let b = h.2 in
      let g = both (holds c (places_at ns t)) (is_named_by ns r t spot) h.3 in
      let p = chosen-passes asked c.at pick 0 ns lists t are (λ j. let here : 0 + j ≡ j = omega arith in ap pick here) (omega (arith, b))
      (both c.always (each c.at 0 (places_at ns t)) g.0).1 in
      let less = p.below in
      let same : courses_at (places_at ns p.number) r.courses ≡ courses_at (places_at ns t) r.courses =
      ap (λ ps. courses_at ps r.courses) p.places ∙ chosen-courses asked pick (places_at ns t) r.courses (λ axis moves. moves) in
      one-any few_of 0 (product ns) p.number (omega arith) (omega (arith, less))
      (both-hold (holds few (places_at ns p.number)) (is_named_by ns r p.number spot)
      (both-hold c.always (each few.at 0 (places_at ns p.number)) always (ap (each few.at 0) p.places ∙ p.held))
      (ap (λ is. is_named (option_map (λ k. record { row = r.row; at = k }) (element_place r.dims is)) spot) same ∙ g.1))

  pub enough-named : list_any all_of (range_with_len 0 (product ns)) ≡ is_named_among ns r (listed_tuples ns (Some lists)) spot
  enough-named =
      same_test (list_any all_of (range_with_len 0 (product ns))) (list_any few_of (range_with_len 0 (product ns))) back forth
      ∙ sym (any-filter (λ t. is_named_by ns r t spot) (λ t. holds few (places_at ns t)) (range_with_len 0 (product ns)))
      ∙ ap (λ ts. is_named_among ns r ts spot) (listed few ns (Some lists) (always, enough-passing asked c.at ns lists are))
