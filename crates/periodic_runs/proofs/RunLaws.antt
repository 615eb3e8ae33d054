-- Laws on places by runs.
use Rattle.std.proofs.Common.{◌≡◌, ℕ, zero, suc, ◌+◌, ◌-◌, ◌<◌, ◌≤◌, ◌^◌, nat_lt, if◌then◌else◌, List, [], ◌∷◌, ◌++◌, sym, ◌∙◌, ap, arith, length, map, get_or}
use Rattle.std.proofs.lemmas.Bool.{le-ltb, lt-ltb}
use Rattle.std.proofs.lemmas.List.FromFn.{map-range_with_len_more}
use Rattle.std.specs.List.{range_with_len}
use Rattle.hpf_base.proofs.Ranges.{map-range_agree}
use Rattle.periodic_runs.specs.declared.runs.Place.{Place}
use Rattle.periodic_runs.specs.declared.runs.Run.{Run}
use Rattle.periodic_runs.specs.Runs.{capped, no_run, place_in, placed, run_at}

-- a run that has begun at a number takes the place of the one before it, and another one doesn't
begun : (before run : Run) (number : ℕ) → run.first ≤ number → (if nat_lt number run.first then before else run) ≡ run
begun before run number low = ap (λ t. if t then before else run) (le-ltb number run.first low)

ahead : (before run : Run) (number : ℕ) → number < run.first → (if nat_lt number run.first then before else run) ≡ before
ahead before run number high = ap (λ t. if t then before else run) (lt-ltb number run.first high)

-- where so many runs have begun, and no other, the last of these
pub last-begun : (before : Run) (runs : List Run) (number n : ℕ) (d : Run) → n ≤ length runs
    → ((k : ℕ) → k < n → (get_or runs k d).first ≤ number)
    → ((k : ℕ) → n ≤ k → k < length runs → number < (get_or runs k d).first)
    → run_at before runs number ≡ get_or (before ∷ runs) n d
last-begun before [] number n d within low high =
    let none : n ≡ 0 = omega (arith, within) in
    ap (λ m. get_or (before ∷ []) m d) (sym none)
last-begun before (run ∷ runs) number zero d within low high =
    ap (λ b. run_at b runs number) (ahead before run number (high 0 (omega arith) (omega arith)))
    ∙ last-begun before runs number zero d (omega arith) (λ k below. omega (arith, below)) (λ k from inside. high (suc k) (omega arith) (omega (arith, inside)))
last-begun before (run ∷ runs) number (suc n) d within low high =
    ap (λ b. run_at b runs number) (begun before run number (low 0 (omega arith)))
    ∙ last-begun run runs number n d (omega (arith, within)) (λ k below. low (suc k) (omega (arith, below)))
    (λ k from inside. high (suc k) (omega (arith, from)) (omega (arith, inside)))

-- a run at the end is the last one from where it begins, and changes nothing before
pushed-from : (before : Run) (runs : List Run) (run : Run) (number : ℕ) → run.first ≤ number → run_at before (runs ++ run ∷ []) number ≡ run
pushed-from before [] run number low = begun before run number low
pushed-from before (r ∷ runs) run number low = pushed-from (if nat_lt number r.first then before else r) runs run number low

pushed-before : (before : Run) (runs : List Run) (run : Run) (number : ℕ) → number < run.first
    → run_at before (runs ++ run ∷ []) number ≡ run_at before runs number
pushed-before before [] run number high = ahead before run number high
pushed-before before (r ∷ runs) run number high = pushed-before (if nat_lt number r.first then before else r) runs run number high

-- a list that is made of a function of the number has one element more
pub one-more : {Y : Type 0} (f : ℕ → Y) (ys : List Y) (y : Y) (n : ℕ) → map f (range_with_len 0 n) ≡ ys → f n ≡ y
    → map f (range_with_len 0 (n + 1)) ≡ ys ++ y ∷ []
one-more f ys y n made value =
    map-range_with_len_more f 0 n n (omega arith) ∙ ap (λ l. l ++ f n ∷ []) made ∙ ap (λ v. ys ++ v ∷ []) value

-- a place that begins a run
pub run-more : (runs pushed : List Run) (len : ℕ) (place : Place) (places : List Place)
    → pushed ≡ runs ++ record { first = len; part = place.part; rank = place.rank } ∷ [] → place.rank < 2 ^ 32
    → map (place_in runs) (range_with_len 0 len) ≡ places
    → map (place_in pushed) (range_with_len 0 (len + 1)) ≡ places ++ place ∷ []
run-more runs pushed len place places is fits made =
    let run : Run = record { first = len; part = place.part; rank = place.rank } in
    let rank : capped (place.rank + (len - len)) ≡ place.rank = omega (arith, fits) in
    let here : place_in pushed len ≡ place =
    ap (λ rs. place_in rs len) is ∙ ap (λ r. placed r len) (pushed-from no_run runs run len (omega arith))
    ∙ (λ i. record { part = place.part; rank = rank i }) in
    one-more (place_in pushed) places place len
    (map-range_agree (place_in pushed) (place_in runs) 0 len (λ j low below.
    ap (λ rs. place_in rs j) is ∙ ap (λ r. placed r j) (pushed-before no_run runs run j (omega (arith, below)))) ∙ made)
    here
