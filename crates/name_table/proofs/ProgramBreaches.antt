-- The first of what a program breaks, from the firsts of its parts.
use Rattle.std.proofs.Common.{◌≡◌, List, ◌++◌, Option, Some, None, sym, ap, subst, ◌∙◌}
use Rattle.hpf_base.specs.declared.refusal.Refusal.{Refusal}
use Rattle.hpf_base.specs.FirstBreach.{Among, IsFirstOrNone, earlier, least}
use Rattle.hpf_base.proofs.FirstBreaches.{earlier_assoc, least_append, least_first}
use Rattle.syntax_tree.specs.MainProgram.{MainProgram}
use Rattle.name_table.specs.NameRules.{name_breaches}
use Rattle.name_table.specs.RankRules.{rank_breaches}
use Rattle.name_table.specs.Resolved.{IsRefusedOrNone, by_names, by_ranks}

-- of five lists, one after the other
pub first_of_five : (a b c d e : List Refusal) → earlier (least a) (earlier (least b) (earlier (least c) (earlier (least d) (least e)))) ≡ least (a ++ b ++ c ++ d ++ e)
first_of_five a b c d e =
    sym (least_append (a ++ b ++ c ++ d) e
    ∙ ap (λ r. earlier r (least e)) (least_append (a ++ b ++ c) d ∙ ap (λ r. earlier r (least d)) (least_append (a ++ b) c ∙ ap (λ r. earlier r (least c)) (least_append a b)))
    ∙ earlier_assoc (earlier (earlier (least a) (least b)) (least c)) (least d) (least e)
    ∙ earlier_assoc (earlier (least a) (least b)) (least c) (earlier (least d) (least e))
    ∙ earlier_assoc (least a) (least b) (earlier (least c) (earlier (least d) (least e))))

first_is : (rs : List Refusal) (o : Option Refusal) → o ≡ least rs → IsFirstOrNone (Among rs) o
first_is rs o is = subst (IsFirstOrNone (Among rs)) (sym is) (least_first rs)

-- a breach of names
pub refused_by_names : (p : MainProgram) (r : Refusal) → Some r ≡ least (name_breaches p) → IsRefusedOrNone p (Some r)
refused_by_names p r is = by_names (first_is (name_breaches p) (Some r) is)

-- no breach of names, and of ranks one or none
pub refused_by_ranks : (p : MainProgram) (o : Option Refusal) → None ≡ least (name_breaches p) → o ≡ least (rank_breaches p) → IsRefusedOrNone p o
refused_by_ranks p None good is = record { names = first_is (name_breaches p) None good; ranks = first_is (rank_breaches p) None is }
refused_by_ranks p (Some r) good is = by_ranks (first_is (name_breaches p) None good) (first_is (rank_breaches p) (Some r) is)

-- the earliest of five, one after the other
pub earliest_of_five : (a b c d e : List Refusal) (x y z v w after rest more all : Option Refusal) →
    x ≡ least a → y ≡ least b → z ≡ least c → v ≡ least d → w ≡ least e →
    after ≡ earlier v w → rest ≡ earlier z after → more ≡ earlier y rest → all ≡ earlier x more → all ≡ least (a ++ b ++ c ++ d ++ e)
earliest_of_five a b c d e x y z v w after rest more all xa yb zc vd we h1 h2 h3 h4 = let five = first_of_five a b c d e in cc

-- and of two
pub earliest_of_two : (a b : List Refusal) (x y all : Option Refusal) → x ≡ least a → y ≡ least b → all ≡ earlier x y → all ≡ least (a ++ b)
earliest_of_two a b x y all xa yb h = let two = least_append a b in cc
