-- Where there is one node, it computes each tuple.
use Rattle.std.proofs.Common.{◌≡◌, ℕ, ◌<◌, nat_lt, Bool, true, false, List, Option, None, Some, get_or, if◌then◌else◌, refl, sym, subst, arith, eq-eqb}
use Rattle.std.proofs.lemmas.Bool.Decides.{nat_tests}
use Rattle.storage.specs.Storage.{Spot}
use Rattle.machine_steps.specs.Layout.{AreOwned, Layout, in_bounds, sizes}
use Rattle.machine_steps.specs.Message.{computes_left, first_read}
use Rattle.tuple_values.specs.Statements.{Statement, tuple_left, tuple_reads}
use Rattle.comm_sets.proofs.Alone.{owns-all}
use Rattle.part_steps.specs.Parts.{computed_by, computing_node}
use Rattle.part_steps.specs.declared.who.Who.{Who}
use Rattle.part_steps.specs.declared.who.Who.TheVariants.{Left, First, Root}
use Rattle.part_steps.proofs.Owners.{least-below}

module _ (layouts : List Layout) where
  computes-one : AreOwned 1 layouts → (who : Who) (w : Statement) (t : ℕ) → computed_by who 1 layouts w 0 t ≡ true
  computes-one owned Left w t = by_left (tuple_left w t)
    where
      by_size : (s : Spot) (b : Bool) → nat_lt s.at (get_or (sizes layouts) s.row 0) ≡ b → computes_left layouts 0 (if b then Some s else None) ≡ true
      by_size s true e =
          let inside : s.at < get_or (sizes layouts) s.row 0 = grind (arith, nat_tests) in
          owns-all layouts owned s 0 (omega arith) inside
      by_size s false e = refl

      by_left : (left : Option Spot) → computes_left layouts 0 (in_bounds layouts left) ≡ true
      by_left None = refl
      by_left (Some s) = by_size s (nat_lt s.at (get_or (sizes layouts) s.row 0)) refl
  computes-one owned First w t =
      let below : computing_node 1 layouts w t < 1 = least-below 1 layouts (in_bounds layouts (first_read (tuple_reads w t))) (omega arith) in
      eq-eqb (computing_node 1 layouts w t) 0 (omega (arith, below))
  computes-one owned Root w t = refl

  pub computes-all : (nodes : ℕ) → nodes ≡ 1 → AreOwned nodes layouts → (who : Who) (w : Statement) (t : ℕ) → computed_by who nodes layouts w 0 t ≡ true
  computes-all nodes one owned who w t = subst (λ n. AreOwned n layouts → computed_by who n layouts w 0 t ≡ true) (sym one) (λ dealt. computes-one dealt who w t) owned
