-- The first of what is wrong with statements, as a walk finds it.
use Rattle.std.proofs.Common.{◌≡◌, ℕ, ◌+◌, ◌<◌, List, [], ◌∷◌, ◌++◌, append_assoc, drop, length, get_or, Option, refl, sym, ap, ◌∙◌}
use Rattle.std.specs.List.{flat_map}
use Rattle.hpf_base.specs.declared.refusal.Refusal.{Refusal}
use Rattle.hpf_base.specs.FirstBreach.{earlier, least}
use Rattle.hpf_base.proofs.FirstBreaches.{earlier_assoc, least_append}
use Rattle.expression_rules.proofs.Lists.{drop_item}

flat_append : {X : Type 0} (f : X → List Refusal) (xs ys : List X) → flat_map f (xs ++ ys) ≡ flat_map f xs ++ flat_map f ys
flat_append f [] ys = refl
flat_append f (x ∷ xs) ys = ap (λ l. f x ++ l) (flat_append f xs ys) ∙ sym (append_assoc (f x) (flat_map f xs) (flat_map f ys))

-- of two lists together
pub least_both : {X : Type 0} (f : X → List Refusal) (xs ys : List X) → least (flat_map f (xs ++ ys)) ≡ earlier (least (flat_map f xs)) (least (flat_map f ys))
least_both f xs ys = ap least (flat_append f xs ys) ∙ least_append (flat_map f xs) (flat_map f ys)

-- of one and a list after it
pub least_more : {X : Type 0} (f : X → List Refusal) (x : X) (ys : List X) → least (flat_map f (x ∷ ys)) ≡ earlier (least (f x)) (least (flat_map f ys))
least_more f x ys = least_append (f x) (flat_map f ys)

-- a turn of a loop over items, each with what it says
pub first_next : {X Y : Type 0} (f : Y → List Refusal) (F : List X → List Y) (g : X → List Y) → ((x : X) (xs : List X) → F (x ∷ xs) ≡ g x ++ F xs) →
    (xs : List X) (n : ℕ) (x : X) (first found after : Option Refusal) → n < length xs → x ≡ get_or xs n x →
    found ≡ least (flat_map f (g x)) → after ≡ earlier first found →
    earlier first (least (flat_map f (F (drop n xs)))) ≡ least (flat_map f (F xs)) →
    earlier after (least (flat_map f (F (drop (n + 1) xs)))) ≡ least (flat_map f (F xs))
first_next f F g step xs n x first found after within is of_one more so_far =
    let rest = F (drop (n + 1) xs) in
    ap (λ a. earlier a (least (flat_map f rest))) (more ∙ ap (earlier first) of_one)
    ∙ earlier_assoc first (least (flat_map f (g x))) (least (flat_map f rest))
    ∙ ap (earlier first) (sym (least_both f (g x) rest) ∙ ap (λ l. least (flat_map f l)) (sym (step x (drop (n + 1) xs)) ∙ ap F (sym (drop_item xs n x within is))))
    ∙ so_far
