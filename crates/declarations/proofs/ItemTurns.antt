-- What declarations say, one item after the other, and in lists that are put together.
use Rattle.std.proofs.Common.{◌≡◌, ℕ, ◌+◌, ◌<◌, ◌≤◌, List, [], ◌∷◌, ◌++◌, append_assoc, drop, length, get_or, map, Option, refl, sym, ap, subst, ◌∙◌}
use Rattle.std.specs.List.{flat_map}
use Rattle.std.proofs.lemmas.List.{append-nil, at_drop_all}
use Rattle.hpf_base.specs.declared.refusal.Reason.{Reason}
use Rattle.hpf_base.specs.declared.refusal.Refusal.{Refusal}
use Rattle.hpf_base.specs.FirstBreach.{at_line, earlier, least}
use Rattle.hpf_base.proofs.FirstBreaches.{earlier_assoc, earlier_none, least_append}
use Rattle.syntax_tree.specs.declared.decl.Decl.{Decl}
use Rattle.syntax_tree.specs.MainProgram.{declaration}
use Rattle.expression_rules.specs.Symbols.{SymbolTable}
use Rattle.expression_rules.proofs.Lists.{drop_item}
use Rattle.declarations.specs.Declarations.{Item, PlacedItem, after, after_all, items}
use Rattle.declarations.specs.Declaring.{items_in, least_reason, placed_item}
use Rattle.declarations.specs.DeclarationRules.{item_breaches, item_reasons}
use Rattle.declarations.specs.Reasons.{at}
use Rattle.declarations.proofs.LeastReasons.{least_at}

pub after_append : (t : SymbolTable) (xs ys : List PlacedItem) → after_all t (xs ++ ys) ≡ after_all (after_all t xs) ys
after_append t [] ys = refl
after_append t (i ∷ is) ys = after_append (after t i.what) is ys

breaches_append : (t : SymbolTable) (xs ys : List PlacedItem) → item_breaches t (xs ++ ys) ≡ item_breaches t xs ++ item_breaches (after_all t xs) ys
breaches_append t [] ys = refl
breaches_append t (i ∷ is) ys =
    ap (λ l. at i.line (item_reasons t i.what) ++ l) (breaches_append (after t i.what) is ys)
    ∙ sym (append_assoc (at i.line (item_reasons t i.what)) (item_breaches (after t i.what) is) (item_breaches (after_all (after t i.what) is) ys))

pub first_append : (t : SymbolTable) (xs ys : List PlacedItem) → least (item_breaches t (xs ++ ys))
    ≡ earlier (least (item_breaches t xs)) (least (item_breaches (after_all t xs) ys))
first_append t xs ys = ap least (breaches_append t xs ys) ∙ least_append (item_breaches t xs) (item_breaches (after_all t xs) ys)

-- one item
pub first_one : (line : ℕ) (t : SymbolTable) (i : Item) → least (item_breaches t (placed_item line i ∷ [])) ≡ at_line line (least_reason (item_reasons t i))
first_one line t i = ap least (append-nil (at line (item_reasons t i))) ∙ least_at line (item_reasons t i)

-- the table so far leads over the rest of the items to the whole one, and what is found so far and in the rest is all
abbrev pub Leads : SymbolTable → Option Refusal → List PlacedItem → SymbolTable → Option Refusal → Type 0
Leads t first rest table all = (after_all t rest ≡ table) × (earlier first (least (item_breaches t rest)) ≡ all)

-- some items more
pub leads_on : (t later table : SymbolTable) (first found next all : Option Refusal) (some rest : List PlacedItem) →
    later ≡ after_all t some → found ≡ least (item_breaches t some) → next ≡ earlier first found → Leads t first (some ++ rest) table all → Leads later next rest table all
leads_on t later table first found next all some rest after_it of_some more so_far = (
  ap (λ a. after_all a rest) after_it ∙ sym (after_append t some rest) ∙ so_far.0,
  (λ i. earlier ((more ∙ ap (earlier first) of_some) i) (least (item_breaches (after_it i) rest)))
      ∙ earlier_assoc first (least (item_breaches t some)) (least (item_breaches (after_all t some) rest))
      ∙ ap (earlier first) (sym (first_append t some rest))
      ∙ so_far.1,
)

-- a turn of a loop over declarations
pub declaration_next : (ds : List Decl) (n : ℕ) (d : Decl) (t later table : SymbolTable) (first found next all : Option Refusal) → n < length ds → d ≡ get_or ds n d →
    later ≡ after_all t (items_in d) → found ≡ least (item_breaches t (items_in d)) → next ≡ earlier first found →
    Leads t first (flat_map items_in (drop n ds)) table all → Leads later next (flat_map items_in (drop (n + 1) ds)) table all
declaration_next ds n d t later table first found next all within is after_it of_one more so_far =
    leads_on t later table first found next all (items_in d) (flat_map items_in (drop (n + 1) ds)) after_it of_one more
    (subst (λ l. Leads t first (flat_map items_in l) table all) (drop_item ds n d within is) so_far)

-- after the last
pub declarations_end : (ds : List Decl) (n : ℕ) (t table : SymbolTable) (first all : Option Refusal) → length ds ≤ n →
    Leads t first (flat_map items_in (drop n ds)) table all → (t ≡ table) × (first ≡ all)
declarations_end ds n t table first all end so_far =
    let none = at_drop_all (flat_map items_in) ds n end in
    (ap (after_all t) (sym none) ∙ so_far.0, sym (earlier_none first) ∙ ap (λ l. earlier first (least (item_breaches t l))) (sym none) ∙ so_far.1)

-- a turn of a loop over what declares one name each
pub item_next : {X : Type 0} (line : ℕ) (f : X → Item) (xs : List X) (n : ℕ) (x : X) (t later table : SymbolTable) (first found next all : Option Refusal) (why : Option Reason) →
    n < length xs → x ≡ get_or xs n x → later ≡ after t (f x) → why ≡ least_reason (item_reasons t (f x)) → found ≡ at_line line why → next ≡ earlier first found →
    Leads t first (map (λ x. placed_item line (f x)) (drop n xs)) table all → Leads later next (map (λ x. placed_item line (f x)) (drop (n + 1) xs)) table all
item_next line f xs n x t later table first found next all why within is after_it of_one refused more so_far =
    leads_on t later table first found next all (placed_item line (f x) ∷ []) (map (λ x. placed_item line (f x)) (drop (n + 1) xs)) after_it
    (refused ∙ ap (at_line line) of_one ∙ sym (first_one line t (f x))) more
    (subst (λ l. Leads t first (map (λ x. placed_item line (f x)) l) table all) (drop_item xs n x within is) so_far)

-- the items of all declarations
pub items_flat : (ds : List Decl) → items (map declaration ds) ≡ flat_map items_in ds
items_flat [] = refl
items_flat (d ∷ ds) = ap (λ l. items_in d ++ l) (items_flat ds)
