-- The least of the reasons of lists that are put together, where tests and lists without names give them.
use Rattle.std.proofs.Common.{◌≡◌, ℕ, ◌+◌, ◌<◌, Bool, List, ◌∷◌, ◌++◌, drop, length, get_or, Option, add-one, drop-cons, sym, ap, ◌∙◌}
use Rattle.hpf_base.specs.declared.refusal.Reason.{Reason}
use Rattle.declarations.specs.Declaring.{least_reason, lesser, reason_if}
use Rattle.declarations.specs.Reasons.{when}
use Rattle.declarations.proofs.LeastReasons.{least_reason_append, least_reason_when, lesser_assoc}

-- of a list and one more that a test gives, and of two that tests give
pub reason_more : (whys : List Reason) (test : Bool) (why : Reason) → least_reason (whys ++ when test why) ≡ lesser (least_reason whys) (reason_if test why)
reason_more whys test why = least_reason_append whys (when test why) ∙ ap (lesser (least_reason whys)) (least_reason_when test why)

pub two_reasons : (a b : Bool) (why other : Reason) → least_reason (when a why ++ when b other) ≡ lesser (reason_if a why) (reason_if b other)
two_reasons a b why other = reason_more (when a why) b other ∙ ap (λ r. lesser r (reason_if b other)) (least_reason_when a why)

-- a turn of a loop that keeps the least of what items give, which have no name
pub lesser_turn : {X : Type 0} (F : List X → Option Reason) (f : X → Option Reason) → ((x : X) (xs : List X) → F (x ∷ xs) ≡ lesser (f x) (F xs)) →
    (xs : List X) (n : ℕ) (z : X) (so_far found after : Option Reason) → n < length xs → found ≡ f (get_or xs n z) → after ≡ lesser so_far found →
    lesser so_far (F (drop n xs)) ≡ F xs → lesser after (F (drop (n + 1) xs)) ≡ F xs
lesser_turn F f step xs n z so_far found after within of_one more all =
    let x = get_or xs n z in
    ap (λ a. lesser a (F (drop (n + 1) xs))) (more ∙ ap (lesser so_far) of_one)
    ∙ lesser_assoc so_far (f x) (F (drop (n + 1) xs))
    ∙ ap (lesser so_far) (sym (step x (drop (n + 1) xs)) ∙ ap F (sym (drop-cons xs n z within ∙ ap (λ m. x ∷ drop m xs) (sym (add-one n)))))
    ∙ all
