-- Of a promise.
-- Codes of the expressions of node code, which hold themselves: each goes as the tokens of its postfix form.
use Rattle.std.specs.Prelude.{◌≡◌, ℕ, ℤ, pos, List, [], ◌∷◌}
use Rattle.std.specs.Coded.{Coded, code_by, codes}
use Rattle.std.proofs.Common.{refl, ◌∙◌, ap}
use Rattle.op_tables.specs.declared.op.Op.{Op}
use Rattle.node_code.specs.Flat.{Flat, Int, Slot, Axis, Read, Operated, Flats, NoFlat, AndFlat}
use Rattle.node_code.specs.Forms.{Sub, ArrayForm, FlatForm, SectionForm, OperationForm, Forms, NoForm, AndForm}

-- ---- expressions over slots

data FlatToken : Type 0 where
  TInt : ℤ → FlatToken
  TSlot : ℕ → FlatToken
  TAxis : ℕ → FlatToken
  TRead : ℕ → FlatToken
  TOperated : Op → FlatToken
  TNoFlat : FlatToken
  TAndFlat : FlatToken

abbrev mutual
  flat_tokens : Flat → List FlatToken → List FlatToken
  flat_tokens (Int v) rest = TInt v ∷ rest
  flat_tokens (Slot k) rest = TSlot k ∷ rest
  flat_tokens (Axis k) rest = TAxis k ∷ rest
  flat_tokens (Read k) rest = TRead k ∷ rest
  flat_tokens (Operated o fs) rest = flats_tokens fs (TOperated o ∷ rest)

  flats_tokens : Flats → List FlatToken → List FlatToken
  flats_tokens NoFlat rest = TNoFlat ∷ rest
  flats_tokens (AndFlat f fs) rest = flat_tokens f (flats_tokens fs (TAndFlat ∷ rest))

-- what stands on the stack
data FlatItem : Type 0 where
  OneFlat : Flat → FlatItem
  SomeFlats : Flats → FlatItem

abbrev with_token : FlatToken → List FlatItem → List FlatItem
with_token (TInt v) stack = OneFlat (Int v) ∷ stack
with_token (TSlot k) stack = OneFlat (Slot k) ∷ stack
with_token (TAxis k) stack = OneFlat (Axis k) ∷ stack
with_token (TRead k) stack = OneFlat (Read k) ∷ stack
with_token (TOperated o) (SomeFlats fs ∷ stack) = OneFlat (Operated o fs) ∷ stack
with_token (TOperated o) stack = stack
with_token TNoFlat stack = SomeFlats NoFlat ∷ stack
with_token TAndFlat (SomeFlats fs ∷ OneFlat f ∷ stack) = SomeFlats (AndFlat f fs) ∷ stack
with_token TAndFlat stack = stack

abbrev with_tokens : List FlatToken → List FlatItem → List FlatItem
with_tokens [] stack = stack
with_tokens (t ∷ ts) stack = with_tokens ts (with_token t stack)

abbrev top_flat : List FlatItem → Flat
top_flat (OneFlat f ∷ stack) = f
top_flat stack = Int (pos 0)

mutual
  flat_back : (f : Flat) (rest : List FlatToken) (stack : List FlatItem) → with_tokens (flat_tokens f rest) stack ≡ with_tokens rest (OneFlat f ∷ stack)
  flat_back (Int v) rest stack = refl
  flat_back (Slot k) rest stack = refl
  flat_back (Axis k) rest stack = refl
  flat_back (Read k) rest stack = refl
  flat_back (Operated o fs) rest stack = flats_back fs (TOperated o ∷ rest) stack

  flats_back : (fs : Flats) (rest : List FlatToken) (stack : List FlatItem) → with_tokens (flats_tokens fs rest) stack ≡ with_tokens rest (SomeFlats fs ∷ stack)
  flats_back NoFlat rest stack = refl
  flats_back (AndFlat f fs) rest stack = flat_back f (flats_tokens fs (TAndFlat ∷ rest)) stack ∙ flats_back fs (TAndFlat ∷ rest) (OneFlat f ∷ stack)

flat_tokens_code : Coded (List FlatToken)
flat_tokens_code = Prim.hlevel codes

pub flat_code : Coded Flat
flat_code = code_by (List FlatToken) flat_tokens_code (λ f. flat_tokens f []) (λ ts. top_flat (with_tokens ts [])) (λ f. ap top_flat (flat_back f [] []))

abbrev top_flats : List FlatItem → Flats
top_flats (SomeFlats fs ∷ stack) = fs
top_flats stack = NoFlat

pub flats_code : Coded Flats
flats_code = code_by (List FlatToken) flat_tokens_code (λ fs. flats_tokens fs []) (λ ts. top_flats (with_tokens ts [])) (λ fs. ap top_flats (flats_back fs [] []))

-- ---- array expressions

data FormToken : Type 0 where
  TFlat : Flat → FormToken
  TSection : ℕ → List Sub → FormToken
  TOperation : Op → FormToken
  TNoForm : FormToken
  TAndForm : FormToken

abbrev mutual
  form_tokens : ArrayForm → List FormToken → List FormToken
  form_tokens (FlatForm f) rest = TFlat f ∷ rest
  form_tokens (SectionForm a subs) rest = TSection a subs ∷ rest
  form_tokens (OperationForm o fs) rest = forms_tokens fs (TOperation o ∷ rest)

  forms_tokens : Forms → List FormToken → List FormToken
  forms_tokens NoForm rest = TNoForm ∷ rest
  forms_tokens (AndForm f fs) rest = form_tokens f (forms_tokens fs (TAndForm ∷ rest))

-- what stands on the stack
data FormItem : Type 0 where
  OneForm : ArrayForm → FormItem
  SomeForms : Forms → FormItem

abbrev with_form : FormToken → List FormItem → List FormItem
with_form (TFlat f) stack = OneForm (FlatForm f) ∷ stack
with_form (TSection a subs) stack = OneForm (SectionForm a subs) ∷ stack
with_form (TOperation o) (SomeForms fs ∷ stack) = OneForm (OperationForm o fs) ∷ stack
with_form (TOperation o) stack = stack
with_form TNoForm stack = SomeForms NoForm ∷ stack
with_form TAndForm (SomeForms fs ∷ OneForm f ∷ stack) = SomeForms (AndForm f fs) ∷ stack
with_form TAndForm stack = stack

abbrev with_forms : List FormToken → List FormItem → List FormItem
with_forms [] stack = stack
with_forms (t ∷ ts) stack = with_forms ts (with_form t stack)

abbrev top_form : List FormItem → ArrayForm
top_form (OneForm f ∷ stack) = f
top_form stack = FlatForm (Int (pos 0))

mutual
  form_back : (f : ArrayForm) (rest : List FormToken) (stack : List FormItem) → with_forms (form_tokens f rest) stack ≡ with_forms rest (OneForm f ∷ stack)
  form_back (FlatForm f) rest stack = refl
  form_back (SectionForm a subs) rest stack = refl
  form_back (OperationForm o fs) rest stack = forms_back fs (TOperation o ∷ rest) stack

  forms_back : (fs : Forms) (rest : List FormToken) (stack : List FormItem) → with_forms (forms_tokens fs rest) stack ≡ with_forms rest (SomeForms fs ∷ stack)
  forms_back NoForm rest stack = refl
  forms_back (AndForm f fs) rest stack = form_back f (forms_tokens fs (TAndForm ∷ rest)) stack ∙ forms_back fs (TAndForm ∷ rest) (OneForm f ∷ stack)

form_tokens_code : Coded (List FormToken)
form_tokens_code = Prim.hlevel (codes, flat_code)

pub form_code : Coded ArrayForm
form_code = code_by (List FormToken) form_tokens_code (λ f. form_tokens f []) (λ ts. top_form (with_forms ts [])) (λ f. ap top_form (form_back f [] []))
