-- Operands in a row, and in a list.
use Rattle.std.proofs.Common.{◌≡◌, Global, List, ℤ, ap, sym, ◌∙◌}
use Rattle.std.specs.Prelude.{Vec}
use Rattle.op_tables.specs.declared.op.Op.{Op}
use Rattle.node_code.specs.declared.flat.Flat.{Flat as HeldFlat}
use Rattle.node_code.specs.declared.flat.Flat.TheVariants as held
use Rattle.node_code.specs.declared.form.ArrayForm.{ArrayForm as HeldForm}
use Rattle.node_code.specs.declared.form.ArrayForm.TheVariants as held_form
use Rattle.node_code.specs.Texts.{flat, flats_of, form, forms_of}
use Rattle.node_code.proofs.Rows.{operated_vec, operation_vec}
use Rattle.part_steps.specs.Agreement.{agree_on_flat, agree_on_flats, agree_on_form, agree_on_forms}

module _ (old new : List ℤ) where
  pub agree_on_operated : (f : HeldFlat) (o : Op) (fs : Vec HeldFlat Global) → f ≡ held.Operated o fs → agree_on_flats old new (flats_of fs.items) ≡ agree_on_flat old new (flat f)
  agree_on_operated f o fs is = ap (agree_on_flat old new) (sym (operated_vec o fs) ∙ ap flat (sym is))

  pub agree_on_operation : (f : HeldForm) (o : Op) (fs : Vec HeldForm Global) → f ≡ held_form.Operation o fs → agree_on_forms old new (forms_of fs.items) ≡ agree_on_form old new (form f)
  agree_on_operation f o fs is = ap (agree_on_form old new) (sym (operation_vec o fs) ∙ ap form (sym is))
