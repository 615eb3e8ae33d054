-- Operands of an operator.
use Rattle.std.proofs.Common.{◌≡◌, List, ℤ, ap, sym, ◌∙◌, Global}
use Rattle.std.specs.Prelude.{Vec}
use Rattle.op_tables.specs.declared.op.Op.{Op}
use Rattle.node_code.specs.declared.flat.Flat.{Flat as HeldFlat}
use Rattle.node_code.specs.declared.flat.Flat.TheVariants as held
use Rattle.node_code.specs.Flat.{Operated}
use Rattle.node_code.specs.Texts.{flat, flats_of}
use Rattle.node_code.proofs.Rows.{operated_vec}
use Rattle.courses.specs.StraightForms.{by_operands, straights, straight}

pub operated_is : (f : HeldFlat) (o : Op) (fs : Vec HeldFlat Global) → f ≡ held.Operated o fs → Operated o (flats_of fs.items) ≡ flat f
operated_is f o fs is = sym (operated_vec o fs) ∙ ap flat (sym is)

pub operands_are : (slots : List ℤ) (f : HeldFlat) (o : Op) (fs : Vec HeldFlat Global) → f ≡ held.Operated o fs
    → by_operands o (straights slots (flats_of fs.items)) ≡ straight slots (flat f)
operands_are slots f o fs is = ap (straight slots) (operated_is f o fs is)
