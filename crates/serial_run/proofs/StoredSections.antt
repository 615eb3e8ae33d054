-- Assignments to sections, by what they store.
use Rattle.std.proofs.Common.{◌≡◌, ℕ, List, [], ◌∷◌, refl, ap, true, Option, Some, None, Result, Ok, Err}
use Rattle.array_meaning.specs.Terms.{Term, SectionSubscripts}
use Rattle.array_meaning.specs.Statements.{SectionAssignment}
use Rattle.array_meaning.specs.Faults.{Cause, ◌>>=◌}
use Rattle.array_meaning.specs.declared.sections.Selection.{Selection}
use Rattle.array_meaning.specs.declared.sections.Store.{Store}
use Rattle.array_meaning.specs.State.{State, store, store_all}
use Rattle.array_meaning.specs.Sections.{extents, positions, space_size}
use Rattle.array_meaning.specs.Elementals.{Elemental, each, sections}
use Rattle.array_meaning.specs.Expressions.{elemental, selections}
use Rattle.array_meaning.specs.ArrayAssignments.{Mask, assign_elemental, assign_section, assign_where}
use Rattle.serial_run.specs.SectionStores.{kept, kept_of, masked_store, right_stores, section_stores, space_stores, stored_each, where_stores}

then_is : {A B C : Type 0} (r : Result A Cause) (f : A → Result B Cause) (g : B → Result C Cause) (h : A → Result C Cause) → ((a : A) → f a >>= g ≡ h a) → (r >>= f) >>= g ≡ r >>= h
then_is (Ok a) f g h is = is a
then_is (Err c) f g h is = refl

-- nothing is stored where nothing was kept
all_stored : (a : ℕ) (os : List (Option Store)) (s : State) → stored_each s a (kept os) ≡ store_all s a os
all_stored a [] s = refl
all_stored a (None ∷ os) s = all_stored a os s
all_stored a (Some st ∷ os) s = all_stored a os (store s a st.place st.value)

pub kept_stored : (a : ℕ) (s : State) (r : Result (List (Option Store)) Cause) → kept_of r >>= (λ stores. Ok (stored_each s a stores)) ≡ r >>= (λ os. Ok (store_all s a os))
kept_stored a s (Ok os) = ap Ok (all_stored a os s)
kept_stored a s (Err c) = refl

space_is : (ns : List ℕ) (mask : Mask) (a : ℕ) (ds : List Selection) (x : Elemental) (s : State) →
    space_stores ns mask a ds x s >>= (λ stores. Ok (stored_each s a stores)) ≡ assign_elemental ns mask a ds x s
space_is ns mask a ds x s = then_is (space_size ns (ds ∷ sections x)) _ _ _ (λ n. kept_stored a s (each (positions ns) (masked_store s ns mask a ds x) n))

right_is : (ns : List ℕ) (mask : Mask) (a : ℕ) (ds : List Selection) (right : Term) (s : State) →
    right_stores ns mask a ds right s >>= (λ stores. Ok (stored_each s a stores)) ≡ elemental [] s right >>= (λ x. assign_elemental ns mask a ds x s)
right_is ns mask a ds right s = then_is (elemental [] s right) _ _ _ (λ x. space_is ns mask a ds x s)

pub section_is : (a : ℕ) (subs : SectionSubscripts) (right : Term) (s : State) →
    section_stores a subs right s >>= (λ stores. Ok (stored_each s a stores)) ≡ assign_section a subs right s
section_is a subs right s = then_is (selections [] s subs) _ _ _ (λ ds. right_is (extents ds) (λ t. true) a ds right s)

pub where_is : (ns : List ℕ) (mask : Mask) (b : SectionAssignment) (s : State) →
    where_stores ns mask b s >>= (λ stores. Ok (stored_each s b.array stores)) ≡ assign_where ns mask b s
where_is ns mask b s = then_is (selections [] s b.subscripts) _ _ _ (λ ds. right_is ns mask b.array ds b.right s)
