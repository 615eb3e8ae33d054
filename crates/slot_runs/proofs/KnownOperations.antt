-- What operators over slots come to, once their operands have values.
use Rattle.std.proofs.Common.{◌≡◌, ◌∙◌, List, [], ◌∷◌, length, ℤ, ap, Ok, arith}
use Rattle.std.specs.Prelude.{slice_index_or}
use Rattle.op_tables.specs.declared.op.Op.{Op}
use Rattle.array_meaning.specs.Elementals.{operated}
use Rattle.array_meaning.specs.Faults.{◌>>=◌, with_more}
use Rattle.node_code.specs.declared.flat.Flat.{Flat as HeldFlat}
use Rattle.code_meaning.specs.Flat.{flat_value}
use Rattle.node_code.specs.Texts.{flat, flats_of}
use Rattle.slot_values.specs.Operations.{operation_value}
use Rattle.slot_values.proofs.Pairs.{pair_values}

module _ (slots : List ℤ) where
  pub of_one : (o : Op) (fs : List HeldFlat) (d : HeldFlat) (a v : ℤ) → length fs ≡ 1 → flat_value slots [] [] (flat (slice_index_or fs 0 d)) ≡ Ok a → operated o (a ∷ []) ≡ Ok v →
      operation_value slots [] o (flats_of fs) ≡ Ok v
  of_one o [] d a v one here is = let f : ⊥ = omega (arith, one) in absurd f
  of_one o (f ∷ g ∷ fs) d a v one here is = let f : ⊥ = omega (arith, one) in absurd f
  of_one o (f ∷ []) d a v one here is = ap (λ r. with_more r (Ok []) >>= operated o) here ∙ is

  pub of_two : (o : Op) (fs : List HeldFlat) (d : HeldFlat) (a b v : ℤ) → length fs ≡ 2 → flat_value slots [] [] (flat (slice_index_or fs 0 d)) ≡ Ok a →
      flat_value slots [] [] (flat (slice_index_or fs 1 d)) ≡ Ok b → operated o (a ∷ b ∷ []) ≡ Ok v → operation_value slots [] o (flats_of fs) ≡ Ok v
  of_two o fs d a b v two first second is = ap (λ r. r >>= operated o) (pair_values slots [] fs d a b two first second) ∙ is
