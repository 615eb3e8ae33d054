-- Expressions of nests, which see values outside of subscripts, and others.
use Rattle.std.proofs.Common.{◌≡◌, List, ◌++◌, ℤ, refl, ap}
use Rattle.expression_rules.specs.declared.dims.Dim.{Dim}
use Rattle.array_meaning.specs.Elementals.{Operand, Operation}
use Rattle.node_code.specs.Forms.{ArrayForm, FlatForm, SectionForm, OperationForm, Forms, NoForm, AndForm}
use Rattle.code_meaning.specs.Forms.{elemental_at, elementals_at}
use Rattle.code_meaning.specs.NestStatements.{nest_elemental, nest_elementals}
use Rattle.code_meaning.specs.Parallel.{reads_at, all_reads_at}

-- whatever they see, they read the same
module _ (shapes : List (List Dim)) (x slots axes seen : List ℤ) where
  mutual
    pub same_reads : (f : ArrayForm) → reads_at shapes x (nest_elemental slots axes seen f) ≡ reads_at shapes x (elemental_at slots axes f)
    same_reads (FlatForm f) = refl
    same_reads (SectionForm a ds) = refl
    same_reads (OperationForm o fs) = all-same-reads fs

    all-same-reads : (fs : Forms) → all_reads_at shapes x (nest_elementals slots axes seen fs) ≡ all_reads_at shapes x (elementals_at slots axes fs)
    all-same-reads NoForm = refl
    all-same-reads (AndForm f fs) = λ i. same_reads f i ++ all-same-reads fs i

-- one that sees the axes alone is as any other
module _ (slots axes : List ℤ) where
  mutual
    pub sees_axes : (f : ArrayForm) → nest_elemental slots axes axes f ≡ elemental_at slots axes f
    sees_axes (FlatForm f) = refl
    sees_axes (SectionForm a ds) = refl
    sees_axes (OperationForm o fs) = ap (Operation o) (all-see-axes fs)

    all-see-axes : (fs : Forms) → nest_elementals slots axes axes fs ≡ elementals_at slots axes fs
    all-see-axes NoForm = refl
    all-see-axes (AndForm f fs) = λ i. Operand (sees_axes f i) (all-see-axes fs i)
