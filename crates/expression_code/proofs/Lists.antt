-- Expressions over slots, and what is left of array expressions, as lists.
use Rattle.std.proofs.Common.{◌≡◌, List, [], ◌∷◌, ◌++◌, map, refl, sym, ap, ◌∙◌}
use Rattle.std.proofs.lemmas.List.{append-nil}
use Rattle.node_code.specs.declared.flat.Flat.{Flat as HeldFlat}
use Rattle.node_code.specs.declared.form.ArrayForm.{ArrayForm as HeldForm}
use Rattle.array_meaning.specs.Terms.{Terms, NoTerm, More, list_of}
use Rattle.program_code.specs.ExpressionCode.{index_flat, index_flats}
use Rattle.node_code.specs.Flat.{Flat, Flats, NoFlat, AndFlat}
use Rattle.node_code.specs.Forms.{ArrayForm, Forms, NoForm, AndForm}
use Rattle.node_code.specs.Texts.{flat, flats_of, form, forms_of}

abbrev pub flat_list : Flats → List Flat
flat_list NoFlat = []
flat_list (AndFlat f fs) = f ∷ flat_list fs

abbrev flats_in : List Flat → Flats
flats_in [] = NoFlat
flats_in (f ∷ fs) = AndFlat f (flats_in fs)

flats_listed : (fs : Flats) → flats_in (flat_list fs) ≡ fs
flats_listed NoFlat = refl
flats_listed (AndFlat f fs) = ap (AndFlat f) (flats_listed fs)

flats_held : (fs : List HeldFlat) → flats_of fs ≡ flats_in (map flat fs)
flats_held [] = refl
flats_held (f ∷ fs) = ap (AndFlat (flat f)) (flats_held fs)

-- what is made, where nothing is left to make
pub flats_made : (fs : List HeldFlat) (rest whole : Flats) → rest ≡ NoFlat → map flat fs ++ flat_list rest ≡ flat_list whole → flats_of fs ≡ whole
flats_made fs rest whole none so_far =
    flats_held fs ∙ ap flats_in (sym (append-nil (map flat fs)) ∙ ap (λ r. map flat fs ++ flat_list r) (sym none) ∙ so_far) ∙ flats_listed whole

pub list_of_flats : (fs : List HeldFlat) → map flat fs ≡ flat_list (flats_of fs)
list_of_flats [] = refl
list_of_flats (f ∷ fs) = ap (λ l. flat f ∷ l) (list_of_flats fs)

pub index_list : (ts : Terms) → flat_list (index_flats ts) ≡ map index_flat (list_of ts)
index_list NoTerm = refl
index_list (More t ts) = ap (λ l. index_flat t ∷ l) (index_list ts)

abbrev pub form_list : Forms → List ArrayForm
form_list NoForm = []
form_list (AndForm f fs) = f ∷ form_list fs

abbrev forms_in : List ArrayForm → Forms
forms_in [] = NoForm
forms_in (f ∷ fs) = AndForm f (forms_in fs)

forms_listed : (fs : Forms) → forms_in (form_list fs) ≡ fs
forms_listed NoForm = refl
forms_listed (AndForm f fs) = ap (AndForm f) (forms_listed fs)

forms_held : (fs : List HeldForm) → forms_of fs ≡ forms_in (map form fs)
forms_held [] = refl
forms_held (f ∷ fs) = ap (AndForm (form f)) (forms_held fs)

pub forms_made : (fs : List HeldForm) (rest whole : Forms) → rest ≡ NoForm → map form fs ++ form_list rest ≡ form_list whole → forms_of fs ≡ whole
forms_made fs rest whole none so_far =
    forms_held fs ∙ ap forms_in (sym (append-nil (map form fs)) ∙ ap (λ r. map form fs ++ form_list r) (sym none) ∙ so_far) ∙ forms_listed whole
