-- Operands of forms in a row, and in a list.
use Rattle.std.proofs.Common.{◌≡◌, Global, ap, sym, ◌∙◌}
use Rattle.std.specs.Prelude.{Vec}
use Rattle.op_tables.specs.declared.op.Op.{Op}
use Rattle.node_code.specs.declared.form.ArrayForm.{ArrayForm as HeldForm}
use Rattle.node_code.specs.declared.form.ArrayForm.TheVariants as held
use Rattle.node_code.specs.declared.flat.Flat.{Flat as HeldFlat}
use Rattle.node_code.specs.declared.flat.Flat.TheVariants as held_flat
use Rattle.node_code.specs.Flat.{Operated}
use Rattle.node_code.specs.Forms.{OperationForm}
use Rattle.node_code.specs.Texts.{flat, flats_of, form, forms_of}
use Rattle.node_code.proofs.Rows.{operated_vec, operation_vec}

pub operation_is : (f : HeldForm) (o : Op) (v : Vec HeldForm Global) → f ≡ held.Operation o v → OperationForm o (forms_of v.items) ≡ form f
operation_is f o v is = sym (operation_vec o v) ∙ ap form (sym is)

pub operated_is : (f : HeldFlat) (o : Op) (v : Vec HeldFlat Global) → f ≡ held_flat.Operated o v → Operated o (flats_of v.items) ≡ flat f
operated_is f o v is = sym (operated_vec o v) ∙ ap flat (sym is)
