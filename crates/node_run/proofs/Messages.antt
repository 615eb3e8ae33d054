-- What a message holds: exactly the elements that pass, each once.
use Rattle.std.proofs.Common.{nat_eq, ◌≡◌, ℕ, zero, suc, ◌+◌, ◌<◌, ◌≤◌, ◌==◌, ◌&&◌, not, Bool, true, false, if◌then◌else◌, nat_lt, List, [], ◌∷◌, ◌++◌, map, get_or, refl, sym, ◌∙◌, ap, arith, ⊎_elim, eq-eqb}
use Rattle.std.specs.List.{range_with_len, filter}
use Rattle.std.proofs.lemmas.List.Elements.{filter-append}
use Rattle.std.proofs.lemmas.Bool.{ne_eqb, cases_eq, lt-ltb, le-ltb, true≢false}
use Rattle.storage.specs.Storage.{Spot, is_same_spot}
use Rattle.machine_steps.specs.Layout.{Layout, sizes, owns_spot, least_owner_of}
use Rattle.machine_steps.specs.Message.{Part, needs, message, remap_message, spots_from, all_spots}
use Rattle.node_run.proofs.Spots.{same-true}

-- all times that the element stands in the list
abbrev times : Spot → List Spot → List Spot
times s xs = filter (is_same_spot s) xs

-- the element once, or not at all
abbrev once : Bool → Spot → List Spot
once b s = if b then s ∷ [] else []

times-filter : (P : Spot → Bool) (s : Spot) (xs : List Spot) → times s (filter P xs) ≡ (if P s then times s xs else [])
times-filter P s [] = by_case (P s)
  where
    by_case : (b : Bool) → [] ≡ (if b then times s [] else [])
    by_case true = refl
    by_case false = refl
times-filter P s (x ∷ xs) = by_case (P x) refl (is_same_spot s x) refl (P s) refl (times-filter P s xs)
  where
    by_case : (b : Bool) → P x ≡ b → (c : Bool) → is_same_spot s x ≡ c → (d : Bool) → P s ≡ d → times s (filter P xs) ≡ (if d then times s xs else [])
        → times s (if b then x ∷ filter P xs else filter P xs) ≡ (if d then (if c then x ∷ times s xs else times s xs) else [])
    by_case true eb true ec true ed h = rw ec (ap (λ l. x ∷ l) h)
    by_case true eb true ec false ed h = absurd (true≢false (sym eb ∙ ap P (sym (same-true s x ec)) ∙ ed))
    by_case true eb false ec true ed h = rw ec h
    by_case true eb false ec false ed h = rw ec h
    by_case false eb true ec true ed h = absurd (true≢false (sym ed ∙ ap P (same-true s x ec) ∙ eb))
    by_case false eb true ec false ed h = h
    by_case false eb false ec true ed h = h
    by_case false eb false ec false ed h = h

abbrev in_row : ℕ → ℕ → Spot
in_row row at = record { row = row; at = at }

other-row : (row : ℕ) (s : Spot) (len lo : ℕ) → (s.row ≡ row → ⊥) → times s (map (in_row row) (range_with_len lo len)) ≡ []
other-row row s zero lo ne = refl
other-row row s (suc len) lo ne = rw (ne_eqb s.row row ne) (other-row row s len (lo + 1) ne)

before-range : (row : ℕ) (s : Spot) (len lo : ℕ) → s.at < lo → times s (map (in_row row) (range_with_len lo len)) ≡ []
before-range row s zero lo lt = refl
before-range row s (suc len) lo lt = by_case (nat_eq s.row row) (before-range row s len (lo + 1) (omega arith))
  where
    by_case : (b : Bool) → times s (map (in_row row) (range_with_len (lo + 1) len)) ≡ []
        → (if b && nat_eq s.at lo then in_row row lo ∷ times s (map (in_row row) (range_with_len (lo + 1) len)) else times s (map (in_row row) (range_with_len (lo + 1) len))) ≡ []
    by_case true h = rw (ne_eqb s.at lo (λ e. absurd (omega arith))) h
    by_case false h = h

this-row : (s : Spot) (len lo : ℕ) → lo ≤ s.at → times s (map (in_row s.row) (range_with_len lo len)) ≡ once (nat_lt s.at (lo + len)) s
this-row s zero lo le = rw (le-ltb s.at (lo + 0) (omega arith)) refl
this-row s (suc len) lo le = ⊎_elim
    (λ (e : s.at ≡ lo). rw (eq-eqb s.row s.row refl, eq-eqb s.at lo e, lt-ltb s.at (lo + suc len) (omega arith))
    (ap (λ l. in_row s.row lo ∷ l) (before-range s.row s len (lo + 1) (omega arith)) ∙ ap (λ k. in_row s.row k ∷ []) (sym e)))
    (λ (ne : s.at ≡ lo → ⊥).
    let on : lo + 1 + len ≡ lo + suc len = omega arith in
    rw (eq-eqb s.row s.row refl, ne_eqb s.at lo ne) (this-row s len (lo + 1) (omega (arith, ne)) ∙ ap (λ k. once (nat_lt s.at k) s) on))
    (cases_eq s.at lo)

-- an element of a row before those of these sizes isn't among theirs
rows-past : (szs : List ℕ) (lo : ℕ) (s : Spot) → s.row < lo → times s (spots_from lo szs) ≡ []
rows-past [] lo s lt = refl
rows-past (size ∷ szs) lo s lt =
    filter-append (is_same_spot s) (map (in_row lo) (range_with_len 0 size)) (spots_from (lo + 1) szs)
    ∙ ap (λ l. l ++ times s (spots_from (lo + 1) szs)) (other-row lo s size 0 (λ e. absurd (omega arith)))
    ∙ rows-past szs (lo + 1) s (omega arith)

rows-once : (szs : List ℕ) (lo k : ℕ) (s : Spot) → s.row ≡ lo + k → times s (spots_from lo szs) ≡ once (nat_lt s.at (get_or szs k 0)) s
rows-once [] lo k s e = rw (le-ltb s.at 0 (omega arith)) refl
rows-once (size ∷ szs) lo zero s e =
    let here : s.row ≡ lo = omega arith in
    let all : 0 + size ≡ size = omega arith in
    filter-append (is_same_spot s) (map (in_row lo) (range_with_len 0 size)) (spots_from (lo + 1) szs)
    ∙ ap (λ r. times s (map (in_row r) (range_with_len 0 size)) ++ times s (spots_from (lo + 1) szs)) (sym here)
    ∙ ap (λ l. l ++ times s (spots_from (lo + 1) szs)) (this-row s size 0 (omega arith) ∙ ap (λ k. once (nat_lt s.at k) s) all)
    ∙ ap (λ l. once (nat_lt s.at size) s ++ l) (rows-past szs (lo + 1) s (omega arith))
    ∙ by_case (nat_lt s.at size)
  where
    by_case : (b : Bool) → once b s ++ [] ≡ once b s
    by_case true = refl
    by_case false = refl
rows-once (size ∷ szs) lo (suc k) s e =
    filter-append (is_same_spot s) (map (in_row lo) (range_with_len 0 size)) (spots_from (lo + 1) szs)
    ∙ ap (λ l. l ++ times s (spots_from (lo + 1) szs)) (other-row lo s size 0 (λ f. absurd (omega arith)))
    ∙ rows-once szs (lo + 1) k s (omega arith)

passing-once : (layouts : List Layout) (P : Spot → Bool) (s : Spot)
    → times s (filter P (all_spots layouts)) ≡ once (nat_lt s.at (get_or (sizes layouts) s.row 0) && P s) s
passing-once layouts P s = times-filter P s (all_spots layouts)
    ∙ ap (λ l. if P s then l else []) (rows-once (sizes layouts) 0 s.row s (omega arith)) ∙ by_case (P s) (nat_lt s.at (get_or (sizes layouts) s.row 0))
  where
    by_case : (b c : Bool) → (if b then once c s else []) ≡ once (c && b) s
    by_case true true = refl
    by_case true false = refl
    by_case false true = refl
    by_case false false = refl

-- exactly the elements that q needs, that q doesn't own and whose least owner is p, each once
pub message-exact : (count : ℕ) (layouts : List Layout) (part : Part) (p q : ℕ) (s : Spot)
    → times s (message count layouts part p q)
    ≡ once (nat_lt s.at (get_or (sizes layouts) s.row 0) && (needs part q s && (not (owns_spot layouts q s) && (least_owner_of count layouts s == p)))) s
message-exact count layouts part p q s =
    passing-once layouts (λ spot. needs part q spot && (not (owns_spot layouts q spot) && (least_owner_of count layouts spot == p))) s

-- exactly the elements that q owns after and not before and whose least owner before is p, each once
pub remap-message-exact : (count : ℕ) (old later : List Layout) (p q : ℕ) (s : Spot)
    → times s (remap_message count old later p q)
    ≡ once (nat_lt s.at (get_or (sizes old) s.row 0) && (owns_spot later q s && (not (owns_spot old q s) && (least_owner_of count old s == p)))) s
remap-message-exact count old later p q s =
    passing-once old (λ spot. owns_spot later q spot && (not (owns_spot old q spot) && (least_owner_of count old spot == p))) s
