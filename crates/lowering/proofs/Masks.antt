-- The values of a mask in a copy.
use Rattle.node_code.specs.Instructions.{NewMapping, Instruction}
use Rattle.code_meaning.specs.Instructions.{ArrayTable}
use Rattle.std.proofs.Common.{◌≡◌, ℕ, zero, suc, ◌+◌, ◌<◌, ◌≤◌, List, [], ◌∷◌, ◌++◌, length, ℤ, Option, Some, None, Result, Ok, Err, refl, sym, ap, ◌∙◌, arith, length-append, slice_set, length-set, get_or-set_same, get_or-set_other, option_map}
use Rattle.std.specs.Bool.{⊤}
use Rattle.array_meaning.specs.Elementals.{sections, all_sections, first_extents, each}
use Rattle.array_meaning.specs.Faults.{Cause, Fault, ◌>>=◌, at_tuple}
use Rattle.array_meaning.specs.Sections.{extents}
use Rattle.array_meaning.specs.State.{State}
use Rattle.array_meaning.specs.Terms.{Term, Number, Scalar, Index, Element, Section, Apply, Reduce, Terms, NoTerm, More, SectionSubscripts, NoSubscript, Subscript, Triplet}
use Rattle.array_meaning.specs.declared.sections.Selection.{Selection}
use Rattle.lowered_expressions.proofs.Goes.{Holds}
use Rattle.program_code.specs.ExpressionCode.{first_subs, first_subs_of, or_no_sub, subscripts_slots, subs_of, parts_slots, all_parts_slots, form_of, forms_of, control_slots, triplet, slots_of}
use Rattle.storage.specs.Effect.{Effect, Put, Fail, scatter}
use Rattle.storage.specs.Storage.{Storage, row_of, write}
use Rattle.code_meaning.specs.Flat.{slot}
use Rattle.node_code.specs.Forms.{Sub, SubAt, SubAlong, ArrayForm, FlatForm, SectionForm, OperationForm, Forms, NoForm, AndForm}
use Rattle.code_meaning.specs.Forms.{selections_in, elemental_in, elementals_in}
use Rattle.code_meaning.specs.Parallel.{fault_at}
use Rattle.std.specs.Option.{option_or}

-- ---- the shape of the first section

abbrev head : {A : Type 0} → List A → Option A
head [] = None
head (x ∷ xs) = Some x

head-append : {A : Type 0} (xs ys : List A) → head (xs ++ ys) ≡ option_or (head xs) (head ys)
head-append [] ys = refl
head-append (x ∷ xs) ys = refl

either-map : {A B : Type 0} (f : A → B) (x y : Option A) → option_or (option_map f x) (option_map f y) ≡ option_map f (option_or x y)
either-map f None y = refl
either-map f (Some x) y = refl

mutual
  head-form : (slots : List ℤ) (f : ArrayForm) → head (sections (elemental_in slots f)) ≡ option_map (selections_in slots) (first_subs f)
  head-form slots (FlatForm f) = refl
  head-form slots (SectionForm a subs) = refl
  head-form slots (OperationForm o fs) = head-forms slots fs

  head-forms : (slots : List ℤ) (fs : Forms) → head (all_sections (elementals_in slots fs)) ≡ option_map (selections_in slots) (first_subs_of fs)
  head-forms slots NoForm = refl
  head-forms slots (AndForm f fs) =
      head-append (sections (elemental_in slots f)) (all_sections (elementals_in slots fs)) ∙ ap (λ x. option_or x (head (all_sections (elementals_in slots fs))))
      (head-form slots f)
      ∙ ap (option_or (option_map (selections_in slots) (first_subs f))) (head-forms slots fs) ∙ either-map (selections_in slots) (first_subs f) (first_subs_of fs)

pub shape-first : (slots : List ℤ) (f : ArrayForm) → first_extents (sections (elemental_in slots f)) ≡ extents (selections_in slots (or_no_sub (first_subs f)))
shape-first slots f = by_head (sections (elemental_in slots f)) (first_subs f) (head-form slots f)
  where
    by_head : (parts : List (List Selection)) (o : Option (List Sub)) → head parts ≡ option_map (selections_in slots) o → first_extents parts
        ≡ extents (selections_in slots (or_no_sub o))
    by_head [] None e = refl
    by_head [] (Some subs) e = cc
    by_head (ds ∷ parts) None e = cc
    by_head (ds ∷ parts) (Some subs) e = ap extents (some-eq ds (selections_in slots subs) e)
      where
        some-eq : (a b : List Selection) → Some a ≡ Some b → a ≡ b
        some-eq a b e = cc

-- ---- slots of its triplets

-- the triplets' slots are among those from n to b
abbrev pub Within : ℕ → ℕ → List Sub → Type 0
Within n b [] = Unit {0}
Within n b (SubAt f ∷ subs) = Within n b subs
Within n b (SubAlong v ∷ subs) = (n ≤ v) × (v + 3 ≤ b) × Within n b subs

abbrev pub FirstWithin : ℕ → ℕ → Option (List Sub) → Type 0
FirstWithin n b None = Unit {0}
FirstWithin n b (Some subs) = Within n b subs

within-subscripts : (n b c : ℕ) (rs : SectionSubscripts) → n ≤ b → b + subscripts_slots rs ≤ c → Within n c (subs_of b rs)
within-subscripts n b c NoSubscript le few = tt
within-subscripts n b c (Subscript t rs) le few = within-subscripts n (b + slots_of t) c rs (omega (arith, le)) (omega (arith, few))
within-subscripts n b c (Triplet f l st rs) le few =
    (omega (arith, le), omega (arith, few), within-subscripts n (b + control_slots (triplet f l st) + 3) c rs (omega (arith, le)) (omega (arith, few)))

either-within : (n c : ℕ) (x y : Option (List Sub)) → FirstWithin n c x → FirstWithin n c y → FirstWithin n c (option_or x y)
either-within n c None y h g = g
either-within n c (Some x) y h g = h

mutual
  pub first-within : (n b c : ℕ) (t : Term) → n ≤ b → b + parts_slots t ≤ c → FirstWithin n c (first_subs (form_of b t))
  first-within n b c (Number v) le few = tt
  first-within n b c (Scalar k) le few = tt
  first-within n b c (Index k) le few = tt
  first-within n b c (Element a ts) le few = tt
  first-within n b c (Section a rs) le few = within-subscripts n b c rs le few
  first-within n b c (Apply o ts) le few = all-within n b c ts le few
  first-within n b c (Reduce o t) le few = tt

  all-within : (n b c : ℕ) (ts : Terms) → n ≤ b → b + all_parts_slots ts ≤ c → FirstWithin n c (first_subs_of (forms_of b ts))
  all-within n b c NoTerm le few = tt
  all-within n b c (More t ts) le few = either-within n c (first_subs (form_of b t)) (first_subs_of (forms_of (b + parts_slots t) ts))
      (first-within n b c t le (omega (arith, few))) (all-within n (b + parts_slots t) c ts (omega (arith, le)) (omega (arith, few)))

-- extents hang on the triplets' slots alone
extents-kept : (n b : ℕ) (subs : List Sub) (xs ys : List ℤ) → Within n b subs → ((k : ℕ) → n ≤ k → k < b → slot xs k ≡ slot ys k) → extents (selections_in xs subs)
    ≡ extents (selections_in ys subs)
extents-kept n b [] xs ys h same = refl
extents-kept n b (SubAt f ∷ subs) xs ys h same = extents-kept n b subs xs ys h same
extents-kept n b (SubAlong v ∷ subs) xs ys h same = rw (
  same v h.0 (omega (arith, h.1)),
  same (v + 1) (omega (arith, h.0)) (omega (arith, h.1)),
  same (v + 2)
      (omega (arith, h.0)) (omega (arith, h.1)),
  extents-kept n b subs xs ys h.2 same,
) refl

pub first-kept : (n b : ℕ) (o : Option (List Sub)) (xs ys : List ℤ) → FirstWithin n b o → ((k : ℕ) → n ≤ k → k < b → slot xs k ≡ slot ys k)
    → extents (selections_in xs (or_no_sub o)) ≡ extents (selections_in ys (or_no_sub o))
first-kept n b None xs ys h same = refl
first-kept n b (Some subs) xs ys h same = extents-kept n b subs xs ys h same

-- ---- the copy is filled

set-seam : (vs : List ℤ) (z v : ℤ) (rest : List ℤ) → slice_set (vs ++ z ∷ rest) (length vs) v ≡ (vs ++ v ∷ []) ++ rest
set-seam [] z v rest = refl
set-seam (w ∷ vs) z v rest = ap (λ l. w ∷ l) (set-seam vs z v rest)

module _ (table : ArrayTable) (row_count : ℕ) (moves : ℕ → List NewMapping) (code : List Instruction) (n many : ℕ) where
  pub holds-copy : (s : State) (slots : List ℤ) (rows : Storage) (x : List ℤ) → Holds table row_count moves code n many None s slots rows → Holds table row_count moves code n many None s slots
      (slice_set rows n x)
  holds-copy s slots rows x h = record {
    scalars = h.scalars;
    arrays = record { elements = λ a lt. get_or-set_other rows n a x [] (λ e. absurd (omega (arith, e, lt))) ∙ h.arrays.elements a lt; shape = h.arrays.shape; places = h.places };
    places = h.places;
    more_places = h.more_places;
    wide = omega (arith, h.wide, length-set rows n x);
    more_rows = length-set rows n x ∙ h.more_rows;
    size = h.size;
    copied = λ m e. cc;
  }

  pub holds-some : (s : State) (slots : List ℤ) (rows : Storage) (m : List ℤ) → row_of rows n ≡ m → Holds table row_count moves code n many None s slots rows → Holds table row_count moves code n many
      (Some m) s slots rows
  holds-some s slots rows m e h = record {
    scalars = h.scalars;
    arrays = h.arrays;
    places = h.places;
    more_places = h.more_places;
    wide = h.wide;
    more_rows = h.more_rows;
    size = h.size;
    copied =
        λ m' e'. e ∙ some-eq m m' e';
  }
    where
      some-eq : (a b : List ℤ) → Some a ≡ Some b → a ≡ b
      some-eq a b e = cc

  abbrev pub value_effect : ℕ → ℕ → Result ℤ Cause → Effect Fault
  value_effect line t (Ok v) = Put (record { row = n; at = t }) v
  value_effect line t (Err c) = Fail (fault_at line c)

  module _ (line count : ℕ) (s : State) (slots : List ℤ) (rows : Storage) (holds : Holds table row_count moves code n many None s slots rows) (empty : length (row_of rows n) ≡ count)
      (effect : ℕ → Effect Fault) where
    abbrev pub Filled : Result (List ℤ) Cause → ℕ → Type 0
    Filled (Ok vs) t = (rest : List ℤ) × (row_of (scatter effect t rows) n ≡ vs ++ rest) × (length vs ≡ t) × (t + length rest ≡ count) × Holds table row_count moves code n many None s slots
        (scatter effect t rows)
    Filled (Err c) t = ⊤

    one-more : (t : ℕ) (r : Result (List ℤ) Cause) (q : Result ℤ Cause) → t < count → effect t ≡ value_effect line t q → Filled r t
        → Filled (r >>= (λ vs. q >>= (λ v. Ok (vs ++ v ∷ [])))) (suc t)
    one-more t (Ok vs) (Err c) lt e h = tt
    one-more t (Err c) q lt e h = tt
    one-more t (Ok vs) (Ok v) lt e h = by_rest h.0 h.1 h.3
      where
        m : Storage
        m = scatter effect t rows

        by_rest : (rest : List ℤ) → row_of m n ≡ vs ++ rest → t + length rest ≡ count → Filled (Ok (vs ++ v ∷ [])) (suc t)
        by_rest [] r c = absurd (omega (arith, c, lt))
        by_rest (z ∷ rest) r c =
            let new : row_of (write m (record { row = n; at = t }) v) n ≡ (vs ++ v ∷ []) ++ rest = get_or-set_same m n (slice_set (row_of m n) t v) [] h.4.wide
            ∙ ap (λ l. slice_set l t v) r ∙ ap (λ k. slice_set (vs ++ z ∷ rest) k v) (sym h.2) ∙ set-seam vs z v rest in
            (rest, rw (e) new, omega (arith, length-append vs (v ∷ []), h.2), omega (arith, c), rw (e) (holds-copy s slots m (slice_set (row_of m n) t v) h.4))

    pub filled : (tuple : ℕ → List ℤ) (f : ℕ → Result ℤ Cause) (t : ℕ) → t ≤ count → ((u : ℕ) → u < t → effect u ≡ value_effect line u (at_tuple (tuple u) (f u)))
        → Filled (each tuple f t) t
    filled tuple f zero le h = (row_of rows n, refl, refl, omega (arith, empty), holds)
    filled tuple f (suc t) le h = one-more t (each tuple f t) (at_tuple (tuple t) (f t)) (omega (arith, le)) (h t (omega arith))
        (filled tuple f t (omega (arith, le)) (λ u lt. h u (omega (arith, lt))))
