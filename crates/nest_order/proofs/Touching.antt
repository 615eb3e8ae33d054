-- What an iteration touches is listed for it.
use Rattle.std.proofs.Common.{◌≡◌, ℕ, zero, suc, ◌+◌, ◌<◌, ◌≤◌, List, [], ◌∷◌, ◌++◌, Option, Some, None, Ok, Bool, true, false, refl, ap, sym, ◌∙◌, subst, arith, ◌⊎◌, ⊎_elim, true≢false}
use Rattle.std.specs.Prelude.{if◌then◌else◌, IfSome}
use Rattle.std.specs.List.{Contains}
use Rattle.std.proofs.lemmas.List.Elements.{Contains-append_left, Contains-append_right, Contains-append_cases}
use Rattle.nest_order.specs.Turns.{joined_up_to}
use Rattle.nest_order.specs.Items.{Items, Done, Then, If, Repeat, Branches, EndIf, Branch, Evaluation, holds_in, EachInBranches}
use Rattle.nest_order.specs.Parts.{most, guard_holds, IsBelow, Iteration, NestPart, Acts, Tests, count_items, count_branches, flat, flat_branches, is_evaluated, is_tested}
use Rattle.nest_order.specs.Listed.{value_or, counted, Names, names_in, known_in, names_of, go_on, go_on_all, touched, listed, listed_branches, AreKnown}
use Rattle.nest_order.proofs.Flattening.{set_at, Kept, kept-set, kept-below, kept-trans, AllBelow, below-more, all_below-more, holds_kept, tested_kept, tested_first, tested_later, tested_taken, tested_off}

-- each element of the one list is one of the other
abbrev pub AllIn : {L : Type 0} → List L → List L → Type 0
AllIn {L} xs ys = (x : L) → Contains xs x → Contains ys x

none_in : {L : Type 0} (ys : List L) → AllIn [] ys
none_in ys x h = absurd (let z : h.0 < 0 = h.1 in omega arith)

both_in : {L : Type 0} (xs xs' ys : List L) → AllIn xs ys → AllIn xs' ys → AllIn (xs ++ xs') ys
both_in xs xs' ys first second x h = ⊎_elim (λ l. first x l) (λ r. second x r) (Contains-append_cases xs xs' x h)

in_left : {L : Type 0} (xs ys : List L) → AllIn xs (xs ++ ys)
in_left xs ys x h = Contains-append_left xs ys x h

in_right : {L : Type 0} (xs ys : List L) → AllIn ys (xs ++ ys)
in_right xs ys x h = Contains-append_right xs ys x h

pub in_turn_of : {L : Type 0} (lists : ℕ → List L) (t x : ℕ) → x < t → AllIn (lists x) (joined_up_to t lists)
in_turn_of lists zero x lt name h = absurd (omega arith)
in_turn_of lists (suc t) x lt name h = ⊎_elim
    (λ less. Contains-append_left (joined_up_to t lists) (lists t) name (in_turn_of lists t x less name h))
    (λ same. Contains-append_right (joined_up_to t lists) (lists t) name (subst (λ y. Contains (lists y) name) same h))
    (last x t lt)
  where
    last : (x t : ℕ) → x < suc t → (x < t) ⊎ (x ≡ t)
    last x t lt = grind arith

pub taken_in : {L : Type 0} (known : Option Bool) (one two : List L) → ((v : Bool) → known ≡ Some v → v ≡ true) → AllIn one (counted known one two)
taken_in None one two is = in_left one two
taken_in (Some true) one two is = λ x h. h
taken_in (Some false) one two is = absurd (true≢false (sym (is false refl)))

pub later_in : {L : Type 0} (known : Option Bool) (one two : List L) → ((v : Bool) → known ≡ Some v → v ≡ false) → AllIn two (counted known one two)
later_in None one two is = in_right one two
later_in (Some false) one two is = λ x h. h
later_in (Some true) one two is = absurd (true≢false (is true refl))

module _ {A C L M F : Type 0} (E : Evaluation A C M F) (N : Names A C L) where
  -- the parts touch only what is allowed, and keep the conditions below k
  record Stays (ps : List (NestPart A C)) (s : Iteration M) (k : ℕ) (allowed : List L) : Type 0 where
    within : AllIn (touched E N ps s) allowed
    kept : Kept k s.conditions (go_on_all E ps s).conditions

  stays_nil : (s : Iteration M) (k : ℕ) (allowed : List L) → Stays [] s k allowed
  stays_nil s k allowed = record { within = none_in allowed; kept = λ x lt. refl }

  go_on-append : (ps qs : List (NestPart A C)) (s : Iteration M) → go_on_all E (ps ++ qs) s ≡ go_on_all E qs (go_on_all E ps s)
  go_on-append [] qs s = refl
  go_on-append (p ∷ ps) qs s = go_on-append ps qs (go_on E p s)

  touched-append : (ps qs : List (NestPart A C)) (s : Iteration M) (allowed : List L) → AllIn (touched E N ps s) allowed
      → AllIn (touched E N qs (go_on_all E ps s)) allowed → AllIn (touched E N (ps ++ qs) s) allowed
  touched-append [] qs s allowed first second = second
  touched-append (p ∷ ps) qs s allowed first second =
      let here = if is_evaluated p s.conditions then names_of N p else [] in
      let after = go_on E p s in
      both_in here (touched E N (ps ++ qs) after) allowed (λ x h. first x (Contains-append_left here (touched E N ps after) x h))
      (touched-append ps qs after allowed (λ x h. first x (Contains-append_right here (touched E N ps after) x h)) second)

  stays_append : (ps qs : List (NestPart A C)) (s : Iteration M) (k : ℕ) (allowed : List L) → Stays ps s k allowed
      → Stays qs (go_on_all E ps s) k allowed → Stays (ps ++ qs) s k allowed
  stays_append ps qs s k allowed h g = record {
    within = touched-append ps qs s allowed h.within g.within;
    kept = λ x lt. ap (λ t. t.conditions x) (go_on-append ps qs s) ∙ g.kept x lt ∙ h.kept x lt;
  }

  stays_cons : (p : NestPart A C) (qs : List (NestPart A C)) (s : Iteration M) (k : ℕ) (allowed : List L)
      → (is_evaluated p s.conditions ≡ true → AllIn (names_of N p) allowed) → Kept k s.conditions (go_on E p s).conditions
      → Stays qs (go_on E p s) k allowed → Stays (p ∷ qs) s k allowed
  stays_cons p qs s k allowed names kept g = record {
    within = both_in (if is_evaluated p s.conditions then names_of N p else []) (touched E N qs (go_on E p s)) allowed (here (is_evaluated p s.conditions) refl) g.within;
    kept = λ x lt. g.kept x lt ∙ kept x lt;
  }
    where
      here : (b : Bool) → is_evaluated p s.conditions ≡ b → AllIn (if b then names_of N p else []) allowed
      here true is = names is
      here false is = none_in allowed

  stays_more : (ps : List (NestPart A C)) (s : Iteration M) (k k' : ℕ) (one two : List L) → k ≤ k' → AllIn one two → Stays ps s k' one → Stays ps s k two
  stays_more ps s k k' one two le sub h = record { within = λ x t. sub x (h.within x t); kept = kept-below k k' s.conditions (go_on_all E ps s).conditions le h.kept }

  stays_turns : (lists : ℕ → List (NestPart A C)) (k : ℕ) (allowed : List L) (q : Bool) (g : Option ℕ) → IsBelow g k → (t : ℕ)
      → ((x : ℕ) → x < t → (s : Iteration M) → guard_holds g s.conditions ≡ q → Stays (lists x) s k allowed) →
      (s : Iteration M) → guard_holds g s.conditions ≡ q → Stays (joined_up_to t lists) s k allowed
  stays_turns lists k allowed q g below zero each s h = stays_nil s k allowed
  stays_turns lists k allowed q g below (suc t) each s h =
      let first = stays_turns lists k allowed q g below t (λ x lt. each x (omega arith)) s h in
      let after = go_on_all E (joined_up_to t lists) s in
      stays_append (joined_up_to t lists) (lists t) s k allowed first (each t (omega arith) after (holds_kept g k s.conditions after.conditions below first.kept ∙ h))

  -- the condition that a test stores
  stored : (g : Option ℕ) (es : List ℕ) (k : ℕ) (test : Option C) (s : Iteration M) (b : Bool)
      → (if is_tested g es s.conditions then value_or (holds_in E test s.storage) false else false) ≡ b →
      (go_on E (let p : NestPart A C = Tests k g es test in p) s).conditions k ≡ b
  stored g es k test s b is = set_at s.conditions k (if is_tested g es s.conditions then value_or (holds_in E test s.storage) false else false) ∙ is

  mutual
    -- after a guard that doesn't hold nothing is touched
    untouched : (items : Items A C) (g : Option ℕ) (k : ℕ) → IsBelow g k → (s : Iteration M) → guard_holds g s.conditions ≡ false → (allowed : List L)
        → Stays (flat items g k) s k allowed
    untouched Done g k below s off allowed = stays_nil s k allowed
    untouched (Then a rest) g k below s off allowed =
        stays_cons (Acts g a) (flat rest g k) s k allowed (λ on. absurd (true≢false (sym on ∙ off))) (λ x lt. refl)
        (untouched rest g k below (go_on E (let p : NestPart A C = Acts g a in p) s) off allowed)
    untouched (If branches rest) g k below s off allowed =
        let k' = k + count_branches branches in
        let ps = flat_branches branches g [] k in
        let first = untouched_branches branches g [] k below tt s (tested_first g s.conditions ∙ off) allowed in
        let after = go_on_all E ps s in
        stays_append ps (flat rest g k') s k allowed first
        (stays_more (flat rest g k') after k k' allowed allowed (omega arith) (λ x h. h)
        (untouched rest g k' (below-more g k k' (omega arith) below) after (holds_kept g k s.conditions after.conditions below first.kept ∙ off) allowed))
    untouched (Repeat t body rest) g k below s off allowed =
        let k' = k + most (suc t) (λ x. count_items (body x)) in
        let ps = joined_up_to t (λ x. flat (body x) g k) in
        let first = stays_turns (λ x. flat (body x) g k) k allowed false g below t (λ x lt s' h. untouched (body x) g k below s' h allowed) s off in
        let after = go_on_all E ps s in
        stays_append ps (flat rest g k') s k allowed first
        (stays_more (flat rest g k') after k k' allowed allowed (omega arith) (λ x h. h)
        (untouched rest g k' (below-more g k k' (omega arith) below) after (holds_kept g k s.conditions after.conditions below first.kept ∙ off) allowed))

    untouched_branches : (branches : Branches A C) (g : Option ℕ) (es : List ℕ) (k : ℕ) → IsBelow g k → AllBelow es k → (s : Iteration M)
        → is_tested g es s.conditions ≡ false → (allowed : List L) → Stays (flat_branches branches g es k) s k allowed
    untouched_branches EndIf g es k below all s off allowed = stays_nil s k allowed
    untouched_branches (Branch test body others) g es k below all s off allowed =
        let k' = k + 1 + count_items body in
        let p : NestPart A C = Tests k g es test in
        let s1 = go_on E p s in
        let ps = flat body (Some k) (k + 1) in
        let qs = flat_branches others g (k ∷ es) k' in
        let kept1 = kept-set k k s.conditions (if is_tested g es s.conditions then value_or (holds_in E test s.storage) false else false) (omega arith) in
        let free = stored g es k test s false (ap (λ b. if b then value_or (holds_in E test s.storage) false else false) off) in
        let first = untouched body (Some k) (k + 1) (omega arith) s1 free allowed in
        let s2 = go_on_all E ps s1 in
        let kept2 = kept-trans k s.conditions s1.conditions s2.conditions kept1 (kept-below k (k + 1) s1.conditions s2.conditions (omega arith) first.kept) in
        stays_cons p (ps ++ qs) s k allowed (λ on. absurd (true≢false (sym on ∙ off))) kept1
        (stays_append ps qs s1 k allowed (stays_more ps s1 k (k + 1) allowed allowed (omega arith) (λ x h. h) first)
        (stays_more qs s2 k k' allowed allowed (omega arith) (λ x h. h)
        (untouched_branches others g (k ∷ es) k' (below-more g k k' (omega arith) below) (omega arith, all_below-more es k k' (omega arith) all) s2
        (tested_off g es k s2.conditions (tested_kept g es k s.conditions s2.conditions below all kept2 ∙ off)) allowed)))

  -- a condition goes the way that is known
  known_is : (test : Option C) → IfSome test (λ condition. (b : Bool) → N.known condition ≡ Some b → (m : M) → E.condition condition m ≡ Ok b)
      → (b : Bool) → known_in N test ≡ Some b → (m : M) → holds_in E test m ≡ Ok b
  known_is None h b way m = let e : true ≡ b = cc in ap Ok e
  known_is (Some condition) h b way m = h b way m

  mutual
    -- after a guard that holds what is touched is listed
    items_listed : (items : Items A C) → AreKnown E N items → (g : Option ℕ) (k : ℕ) → IsBelow g k → (s : Iteration M)
        → guard_holds g s.conditions ≡ true → Stays (flat items g k) s k (listed N items)
    items_listed Done known g k below s on = stays_nil s k []
    items_listed (Then a rest) known g k below s on =
        let p : NestPart A C = Acts g a in
        stays_cons p (flat rest g k) s k ((N.of_action a) ++ listed N rest) (λ h. in_left (N.of_action a) (listed N rest)) (λ x lt. refl)
        (stays_more (flat rest g k) (go_on E p s) k k (listed N rest) ((N.of_action a) ++ listed N rest) (omega arith)
        (in_right (N.of_action a) (listed N rest)) (items_listed rest known.1 g k below (go_on E p s) on))
    items_listed (If branches rest) known g k below s on =
        let k' = k + count_branches branches in
        let ps = flat_branches branches g [] k in
        let one = listed_branches N branches in
        let first = branches_listed branches known.0 g [] k below tt s (tested_first g s.conditions ∙ on) in
        let after = go_on_all E ps s in
        stays_append ps (flat rest g k') s k (one ++ listed N rest) (stays_more ps s k k one (one ++ listed N rest) (omega arith) (in_left one (listed N rest)) first)
        (stays_more (flat rest g k') after k k' (listed N rest) (one ++ listed N rest) (omega arith) (in_right one (listed N rest))
        (items_listed rest known.1 g k' (below-more g k k' (omega arith) below) after (holds_kept g k s.conditions after.conditions below first.kept ∙ on)))
    items_listed (Repeat t body rest) known g k below s on =
        let k' = k + most (suc t) (λ x. count_items (body x)) in
        let ps = joined_up_to t (λ x. flat (body x) g k) in
        let one = joined_up_to t (λ x. listed N (body x)) in
        let first = stays_turns (λ x. flat (body x) g k) k one true g below t
        (λ x lt s' h.
        stays_more (flat (body x) g k) s' k k (listed N (body x)) one (omega arith) (in_turn_of (λ y. listed N (body y)) t x lt)
        (items_listed (body x) (known.0 x lt) g k below s' h)) s on in
        let after = go_on_all E ps s in
        stays_append ps (flat rest g k') s k (one ++ listed N rest) (stays_more ps s k k one (one ++ listed N rest) (omega arith) (in_left one (listed N rest)) first)
        (stays_more (flat rest g k') after k k' (listed N rest) (one ++ listed N rest) (omega arith) (in_right one (listed N rest))
        (items_listed rest known.1 g k' (below-more g k k' (omega arith) below) after (holds_kept g k s.conditions after.conditions below first.kept ∙ on)))

    branches_listed : (branches : Branches A C)
        → EachInBranches (λ action. Unit {0}) (λ condition. (b : Bool) → N.known condition ≡ Some b → (m : M) → E.condition condition m ≡ Ok b)
        branches → (g : Option ℕ) (es : List ℕ) (k : ℕ) → IsBelow g k → AllBelow es k → (s : Iteration M) → is_tested g es s.conditions ≡ true
        → Stays (flat_branches branches g es k) s k (listed_branches N branches)
    branches_listed EndIf known g es k below all s on = stays_nil s k []
    branches_listed (Branch test body others) are g es k below all s on =
        cases (λ s' h. items_listed body are.1 (Some k) (k + 1) (omega arith) s' h)
        (λ s' h.
        branches_listed others are.2 g (k ∷ es) (k + 1 + count_items body) (below-more g k (k + 1 + count_items body) (omega arith) below)
        (omega arith, all_below-more es k (k + 1 + count_items body) (omega arith) all) s' h)
        (value_or (holds_in E test s.storage) false) refl
      where
        cases : ((s' : Iteration M) → s'.conditions k ≡ true → Stays (flat body (Some k) (k + 1)) s' (k + 1) (listed N body)) →
            ((s' : Iteration M) → is_tested g (k ∷ es) s'.conditions ≡ true
            → Stays (flat_branches others g (k ∷ es) (k + 1 + count_items body)) s' (k + 1 + count_items body) (listed_branches N others)) →
            (b : Bool) → value_or (holds_in E test s.storage) false ≡ b
            → Stays (flat_branches (let bs : Branches A C = Branch test body others in bs) g es k) s k
            ((names_in N test) ++ counted (known_in N test) (listed N body) (listed_branches N others))
        cases taken later b is =
            let k' = k + 1 + count_items body in
            let p : NestPart A C = Tests k g es test in
            let s1 = go_on E p s in
            let ps = flat body (Some k) (k + 1) in
            let qs = flat_branches others g (k ∷ es) k' in
            let rest = counted (known_in N test) (listed N body) (listed_branches N others) in
            let kept1 = kept-set k k s.conditions (if is_tested g es s.conditions then value_or (holds_in E test s.storage) false else false) (omega arith) in
            let here = stored g es k test s b (ap (λ t. if t then value_or (holds_in E test s.storage) false else false) on ∙ is) in
            let first = of_body b is s1 here in
            let s2 = go_on_all E ps s1 in
            let kept2 = kept-trans k s.conditions s1.conditions s2.conditions kept1 (kept-below k (k + 1) s1.conditions s2.conditions (omega arith) first.kept) in
            stays_cons p (ps ++ qs) s k ((names_in N test) ++ rest) (λ h. in_left (names_in N test) rest) kept1
            (stays_append ps qs s1 k ((names_in N test) ++ rest) (stays_more ps s1 k (k + 1) rest ((names_in N test) ++ rest) (omega arith) (in_right (names_in N test) rest) first)
            (stays_more qs s2 k k' rest ((names_in N test) ++ rest) (omega arith) (in_right (names_in N test) rest)
            (of_others b is s2 (first.kept k (omega arith) ∙ here) (tested_kept g es k s.conditions s2.conditions below all kept2 ∙ on))))
          where
            k' : ℕ
            k' = k + 1 + count_items body

            goes : (b : Bool) → value_or (holds_in E test s.storage) false ≡ b → (v : Bool) → (known_in N test) ≡ Some v → v ≡ b
            goes b is v way = sym (ap (λ r. value_or r false) (known_is test are.0 v way s.storage)) ∙ is

            of_body : (b : Bool) → value_or (holds_in E test s.storage) false ≡ b → (s' : Iteration M) → s'.conditions k ≡ b
                → Stays (flat body (Some k) (k + 1)) s' (k + 1) (counted (known_in N test) (listed N body) (listed_branches N others))
            of_body true is s' h =
                stays_more (flat body (Some k) (k + 1)) s' (k + 1) (k + 1) (listed N body)
                (counted (known_in N test) (listed N body) (listed_branches N others)) (omega arith)
                (taken_in (known_in N test) (listed N body) (listed_branches N others) (goes true is)) (taken s' h)
            of_body false is s' h = untouched body (Some k) (k + 1) (omega arith) s' h (counted (known_in N test) (listed N body) (listed_branches N others))

            of_others : (b : Bool) → value_or (holds_in E test s.storage) false ≡ b → (s' : Iteration M) → s'.conditions k ≡ b → is_tested g es s'.conditions ≡ true →
                Stays (flat_branches others g (k ∷ es) (k + 1 + count_items body)) s' (k + 1 + count_items body)
                (counted (known_in N test) (listed N body) (listed_branches N others))
            of_others true is s' h on' =
                untouched_branches others g (k ∷ es) (k + 1 + count_items body) (below-more g k (k + 1 + count_items body) (omega arith) below)
                (omega arith, all_below-more es k (k + 1 + count_items body) (omega arith) all) s'
                (tested_taken g es k s'.conditions h) (counted (known_in N test) (listed N body) (listed_branches N others))
            of_others false is s' h on' =
                stays_more (flat_branches others g (k ∷ es) (k + 1 + count_items body)) s' (k + 1 + count_items body) (k + 1 + count_items body)
                (listed_branches N others) (counted (known_in N test) (listed N body) (listed_branches N others)) (omega arith)
                (later_in (known_in N test) (listed N body) (listed_branches N others) (goes false is)) (later s' (tested_later g es k s'.conditions true on' h))

  pub touched_listed : (items : Items A C) (g : Option ℕ) (k : ℕ) (s : Iteration M) (name : L) → AreKnown E N items → IsBelow g k
      → guard_holds g s.conditions ≡ true → Contains (touched E N (flat items g k) s) name → Contains (listed N items) name
  touched_listed items g k s name known below on h = (items_listed items known g k below s on).within name h
