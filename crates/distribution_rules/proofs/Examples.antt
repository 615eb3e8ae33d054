-- DISTRIBUTE with GEN_BLOCK on a grid of four nodes (HPF 2.0, approved extensions), each with what is wrong with it: A has ten elements, T an
-- extent that isn't known, and P one that isn't. Beside a breach no other rule is broken.
use Rattle.std.specs.Prelude.{◌≡◌, refl, codes, List, [], ◌∷◌, ℕ, pos, Option, Some, None, map, option_map}
use Rattle.std.specs.Int.{int_wrap}
use Rattle.hpf_base.specs.declared.refusal.Reason.{Reason}
use Rattle.hpf_base.specs.declared.refusal.Reason.TheVariants.{BadDirective, Limit, BadConstant}
use Rattle.name_table.specs.Op.TheVariants as op
use Rattle.syntax_tree.specs.Directive.{Distribution, GenBlock}
use Rattle.syntax_tree.specs.Expression.{Expression, Number, Name as Alone, Unary}
use Rattle.mappings.specs.declared.mapping.AlignDim.TheVariants.{Linear}
use Rattle.mappings.specs.declared.mapping.Form.TheVariants.{Gen}
use Rattle.expression_rules.specs.declared.dims.Dim.{Dim}
use Rattle.expression_rules.specs.declared.symbols.Symbol.TheVariants.{Uninitialized}
use Rattle.distribution_rules.specs.declared.objects.ObjectKind.TheVariants.{Array, Template, Arrangement}
use Rattle.distribution_rules.specs.Distributed.{distributed}
use Rattle.distribution_rules.specs.DistributionRules.{distribute_reasons, distribution_values}
use Rattle.distribution_rules.specs.Setting.{Setting}

abbrev ten : List (Option Dim)
ten = Some (record { lower = pos 1; upper = pos 10 }) ∷ []

abbrev four_nodes : Setting
four_nodes = record {
  grid = 4 ∷ [];
  names = (codes "X", Uninitialized) ∷ [];
  objects =
      record { name = codes "A"; kind = Array; dims = ten }
      ∷ record { name = codes "T"; kind = Template; dims = None ∷ [] }
      ∷ record { name = codes "P"; kind = Arrangement; dims = None ∷ [] } ∷ [];
}

abbrev gen_block : List ℕ → Option (List ℕ) → List Expression → Distribution
gen_block x onto sizes = record { names = x ∷ []; formats = GenBlock sizes ∷ []; onto = onto }

abbrev wrong_with : Distribution → List Reason
wrong_with d = distribute_reasons four_nodes d

abbrev numbers : List ℕ → List Expression
numbers ns = map (λ n. Number (pos n)) ns

-- DISTRIBUTE A(GEN_BLOCK(3,0,5,4)), whose sum is above the extent, and what it gives
allowed : wrong_with (gen_block (codes "A") None (numbers (3 ∷ 0 ∷ 5 ∷ 4 ∷ []))) ≡ []
allowed = refl

mapped : option_map (λ m. m.dims) (distributed four_nodes (distribution_values four_nodes (gen_block (codes "A") None (numbers (3 ∷ 0 ∷ 5 ∷ 4 ∷ [])))) ten)
    ≡ Some (record {
      line = record { lower = pos 1; extent = 10; form = Gen (3 ∷ 0 ∷ 5 ∷ 4 ∷ []); procs = 4 };
      grid_dim = 0;
      align = Linear 0 (pos 1) (pos 0);
    } ∷ [])
mapped = refl

-- a sum that is the extent, and one that is one below it
just_enough : wrong_with (gen_block (codes "A") None (numbers (3 ∷ 0 ∷ 5 ∷ 2 ∷ []))) ≡ []
just_enough = refl

small_sum : wrong_with (gen_block (codes "A") None (numbers (3 ∷ 0 ∷ 5 ∷ 1 ∷ []))) ≡ BadDirective ∷ []
small_sum = refl

-- a size too few, and one too many
too_few : wrong_with (gen_block (codes "A") None (numbers (3 ∷ 5 ∷ 4 ∷ []))) ≡ BadDirective ∷ []
too_few = refl

too_many : wrong_with (gen_block (codes "A") None (numbers (3 ∷ 0 ∷ 5 ∷ 4 ∷ 0 ∷ []))) ≡ BadDirective ∷ []
too_many = refl

-- a size below 0
negative : wrong_with (gen_block (codes "A") None (Unary op.Neg (Number (pos 1)) ∷ numbers (10 ∷ 0 ∷ 0 ∷ []))) ≡ BadDirective ∷ []
unfolding int_wrap
negative = refl

-- the greatest size, 2^40, and one above it
greatest : wrong_with (gen_block (codes "A") None (numbers (1099511627776 ∷ 0 ∷ 0 ∷ 0 ∷ []))) ≡ []
greatest = refl

too_great : wrong_with (gen_block (codes "A") None (numbers (1099511627777 ∷ 0 ∷ 0 ∷ 0 ∷ []))) ≡ Limit ∷ []
too_great = refl

-- the value of a variable
not_constant : wrong_with (gen_block (codes "A") None (Alone (codes "X") ∷ numbers (10 ∷ 0 ∷ 0 ∷ []))) ≡ BadConstant ∷ []
not_constant = refl

-- of what isn't known nothing is asked: the sum where the extent isn't, and the number of sizes where that of the processors isn't
unknown_extent : wrong_with (gen_block (codes "T") None (numbers (3 ∷ 0 ∷ 5 ∷ 4 ∷ []))) ≡ []
unknown_extent = refl

unknown_extent_too_few : wrong_with (gen_block (codes "T") None (numbers (3 ∷ 5 ∷ []))) ≡ BadDirective ∷ []
unknown_extent_too_few = refl

unknown_processors : wrong_with (gen_block (codes "A") (Some (codes "P")) (numbers (6 ∷ 4 ∷ []))) ≡ []
unknown_processors = refl

unknown_processors_small_sum : wrong_with (gen_block (codes "A") (Some (codes "P")) (numbers (6 ∷ 3 ∷ []))) ≡ BadDirective ∷ []
unknown_processors_small_sum = refl
