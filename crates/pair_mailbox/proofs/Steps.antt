-- Each kind of step keeps the rule of a pair's queue.
use Rattle.std.proofs.Common.{◌≡◌, ◌≢◌, ℕ, zero, suc, ◌≤◌, true, true≢false, List, [], ◌∷◌, ◌++◌, length, set, sym, refl, ap, ◌∙◌, subst, ⊎_elim, append_assoc, length-append, arith, inl, inr, ◌⊎◌}
use Rattle.std.specs.Prelude.{Some, slice_get}
use mathlib.Core.Option.{some, some-ne-none}
use lib.ListN.{get_elem?}
use Rattle.crossbeam_queue.specs.Fifo.{Pushes, Pops, Forks, Merges, Learns}
use Rattle.crossbeam_queue.proofs.Lists.{at_set, at_snoc}
use Rattle.pair_mailbox.specs.declared.route.Route.{Route}
use Rattle.letters.specs.declared.letter.Letter.{Letter}
use Rattle.pair_mailbox.specs.declared.rule.View.{View}
use Rattle.pair_mailbox.specs.Rule.{whole, sender, taker, idle, no_route, IsNextLetter, AreNumbered, Knows, Carries}

abbrev All : (ℕ → View → Type 0) → List View → Type 0
All F views = (seat : ℕ) (v : View) → get_elem? views seat ≡ some v → F seat v

-- one view changes
all_set : (F : ℕ → View → Type 0) (views : List View) (seat : ℕ) (w : View) → F seat w
    → ((j : ℕ) (u : View) → j ≢ seat → get_elem? views j ≡ some u → F j u) → All F (set views seat w)
all_set F views seat w mine others j u e = ⊎_elim (λ (x : (j ≡ seat) × (w ≡ u)). subst (λ (y : ℕ × View). F y.0 y.1) (λ i. (sym x.0 i, x.1 i)) mine)
    (λ (x : (j ≢ seat) × (get_elem? views j ≡ some u)). others j u x.0 x.1) (at_set views seat j w u e)

at_end : (l : List View) (a b : View) (j : ℕ) → get_elem? l j ≢ some b → get_elem? (l ++ a ∷ []) j ≡ some b → j ≡ length l
at_end [] a b zero n e = refl
at_end [] a b (suc j) n e = absurd (some-ne-none b (sym e))
at_end (x ∷ xs) a b zero n e = absurd (n e)
at_end (x ∷ xs) a b (suc j) n e = ap suc (at_end xs a b j n e)

-- the letter after others
here : (taken : List Letter) (x : Letter) (rest : List Letter) → slice_get (taken ++ x ∷ rest) (length taken) ≡ Some x
here [] x rest = refl
here (t ∷ ts) x rest = here ts x rest

snoc_at : (sent : List Letter) (x y : Letter) (k : ℕ) → slice_get (sent ++ x ∷ []) k ≡ Some y → (slice_get sent k ≡ Some y) ⊎ ((k ≡ length sent) × (x ≡ y))
snoc_at [] x y zero e = inr (refl, cc)
snoc_at [] x y (suc k) e = cc
snoc_at (t ∷ ts) x y zero e = inl e
snoc_at (t ∷ ts) x y (suc k) e = ⊎_elim (λ a. inl a) (λ (z : (k ≡ length ts) × (x ≡ y)). inr (ap suc z.0, z.1)) (snoc_at ts x y k e)

-- one more letter, of its own number
numbered_more : (route : Route) (sent : List Letter) (x : Letter) → AreNumbered route sent → IsNextLetter route (length sent) x → AreNumbered route (sent ++ x ∷ [])
numbered_more route sent x all new k y e = ⊎_elim (all k y)
    (λ (z : (k ≡ length sent) × (x ≡ y)). subst (λ (w : ℕ × Letter). IsNextLetter route w.0 w.1) (λ i. (sym z.0 i, z.1 i)) new) (snoc_at sent x y k e)

pub begins : Carries [] (whole no_route [] [] ∷ [])
begins = record {
  writer = 0;
  reader = 0;
  route = no_route;
  sent = [];
  taken = [];
  after = record { in_order = refl; few = omega arith };
  numbered = λ k x e. cc;
  knows = all_set (Knows 0 0 no_route [] []) (whole no_route [] [] ∷ []) 0 (whole no_route [] []) ((λ _. (refl, refl, refl)), λ _. (refl, refl, refl))
      (λ j u other e. absurd (other (at_end [] _ u j (λ x. some-ne-none u (sym x)) e)));
}

pub opens : (seat : ℕ) (v : View) (route : Route) → v ≡ whole no_route [] [] → Forks Carries seat v (whole route [] []) idle
opens seat v route is items views h at = let mine = h.knows seat v at in let out = mine.0 (ap (λ (y : View). y.sends) is) in let inn = mine.1 (ap (λ (y : View). y.takes) is) in
    let none_sent : [] ≡ h.sent = sym (ap (λ (y : View). y.sent) is) ∙ out.2 in let none_taken : h.taken ≡ [] = sym inn.2 ∙ ap (λ (y : View). y.taken) is in
    let vs : List View = set views seat (whole route [] []) in
    let now : All (Knows seat seat route [] []) vs = all_set (Knows seat seat route [] []) views seat (whole route [] []) ((λ _. (refl, refl, refl)), λ _. (refl, refl, refl))
    (λ j u other e. ((λ p. absurd (other (((h.knows j u e).0 p).0 ∙ sym out.0))), λ p. absurd (other (((h.knows j u e).1 p).0 ∙ sym inn.0)))) in
    record {
      writer = seat;
      reader = seat;
      route = route;
      sent = [];
      taken = [];
      after = record { in_order = none_sent ∙ h.after.in_order ∙ ap (λ l. l ++ items) none_taken; few = h.after.few };
      numbered = λ k x e. cc;
      knows = λ j u e. ⊎_elim (now j u)
          (λ (i : idle ≡ u). ((λ p. absurd (true≢false (sym (ap (λ (y : View). y.sends) i ∙ p)))), λ p. absurd (true≢false (sym (ap (λ (y : View). y.takes) i ∙ p)))))
          (at_snoc vs idle u j e);
    }

pub parts : (seat : ℕ) (v : View) → v.sends ≡ true → v.takes ≡ true → Forks Carries seat v (sender v.route v.sent) (taker v.route v.taken)
parts seat v a b items views h at =
    let mine = h.knows seat v at in
    let l : View = sender v.route v.sent in
    let r : View = taker v.route v.taken in
    let vs : List View = set views seat l in
    let Old : ℕ → View → Type 0 = λ j u. (u.sends ≡ true → (j ≡ h.writer) × (u.route ≡ h.route) × (u.sent ≡ h.sent)) × (u.takes ≢ true) in
    let old : All Old vs = all_set Old views seat l ((λ _. mine.0 a), λ p. true≢false (sym p))
    (λ j u other e. ((h.knows j u e).0, λ p. other (((h.knows j u e).1 p).0 ∙ sym (mine.1 b).0))) in
    record {
      writer = h.writer;
      reader = length vs;
      route = h.route;
      sent = h.sent;
      taken = h.taken;
      after = h.after;
      numbered = h.numbered;
      knows = λ j u e. ⊎_elim (λ x. ((old j u x).0, λ p. absurd ((old j u x).1 p)))
          (λ (is : r ≡ u). (
            (λ p. absurd (true≢false (sym (ap (λ (y : View). y.sends) is ∙ p)))),
            λ p. (at_end vs r u j (λ x. (old j u x).1 p) e, ap (λ (y : View). y.route) (sym is) ∙ (mine.1 b).1, ap (λ (y : View). y.taken) (sym is) ∙ (mine.1 b).2),
          )) (at_snoc vs r u j e);
    }

pub pushes : (n seat : ℕ) (v : View) (x : Letter) → n ≡ 4 → v.sends ≡ true → IsNextLetter v.route (length v.sent) x
    → Pushes Carries n seat v x (λ w. w ≡ sender v.route (v.sent ++ x ∷ []))
pushes n seat v x four may next items views room h at = let mine = (h.knows seat v at).0 may in let w : View = sender v.route (v.sent ++ x ∷ []) in let sent = h.sent ++ x ∷ [] in (
  w,
  record {
    writer = h.writer;
    reader = h.reader;
    route = h.route;
    sent = sent;
    taken = h.taken;
    after = record { in_order = ap (λ l. l ++ x ∷ []) h.after.in_order ∙ append_assoc h.taken items (x ∷ []); few = omega (arith, length-append items (x ∷ [])) };
    numbered = numbered_more h.route h.sent x h.numbered (subst (λ (y : Route × List Letter). IsNextLetter y.0 (length y.1) x) (λ i. (mine.1 i, mine.2 i)) next);
    knows = all_set (Knows h.writer h.reader h.route sent h.taken) views seat w ((λ _. (mine.0, mine.1, ap (λ l. l ++ x ∷ []) mine.2)), λ p. absurd (true≢false (sym p)))
        (λ j u other e. ((λ p. absurd (other (((h.knows j u e).0 p).0 ∙ sym mine.0))), (h.knows j u e).1));
  },
  refl,
)

pub pops : (seat : ℕ) (v : View) → v.takes ≡ true → Pops Carries seat v (λ x w. (w ≡ taker v.route (v.taken ++ x ∷ [])) × IsNextLetter v.route (length v.taken) x)
pops seat v may x items views h at = let mine = (h.knows seat v at).1 may in let w : View = taker v.route (v.taken ++ x ∷ []) in let taken = h.taken ++ x ∷ [] in (
  w,
  record {
    writer = h.writer;
    reader = h.reader;
    route = h.route;
    sent = h.sent;
    taken = taken;
    after = record { in_order = h.after.in_order ∙ sym (append_assoc h.taken (x ∷ []) items); few = let f = h.after.few in omega arith };
    numbered = h.numbered;
    knows = all_set (Knows h.writer h.reader h.route h.sent taken) views seat w ((λ p. absurd (true≢false (sym p))), λ _. (mine.0, mine.1, ap (λ l. l ++ x ∷ []) mine.2))
        (λ j u other e. ((h.knows j u e).0, λ p. absurd (other (((h.knows j u e).1 p).0 ∙ sym mine.0))));
  },
  (
    refl,
    subst (λ (y : Route × List Letter). IsNextLetter y.0 (length y.1) x) (λ i. (sym mine.1 i, sym mine.2 i))
        (h.numbered (length h.taken) x (ap (λ l. slice_get l (length h.taken)) h.after.in_order ∙ here h.taken x items)),
  ),
)

pub full : (seat : ℕ) (v : View) → v.sends ≡ true → Learns Carries seat v (λ held. length held ≤ length v.sent)
full seat v may items views h at =
    let sent : length v.sent ≡ length (h.taken ++ items) = ap length (((h.knows seat v at).0 may).2 ∙ h.after.in_order) in
    omega (arith, length-append h.taken items, sent)

pub closes : (seat : ℕ) (v : View) (other : ℕ) (u : View) → v.sends ≡ true → u.takes ≡ true → Merges Carries seat v other u (whole v.route v.sent u.taken) idle
closes seat v other u a b items views h at two at' = let w : View = whole v.route v.sent u.taken in let mine = (h.knows seat v at).0 a in let vs : List View = set views seat w in
    let was : get_elem? views other ≡ some u = ⊎_elim (λ x. absurd (two x.0)) (λ x. x.1) (at_set views seat other w u at') in let theirs = (h.knows other u was).1 b in
    let Now : ℕ → View → Type 0 = λ j y. j ≢ other → Knows h.writer seat h.route h.sent h.taken j y in
    let now : All Now vs = all_set Now views seat w (λ _. ((λ _. mine), λ _. (refl, mine.1, theirs.2)))
    (λ j y _ e apart. ((h.knows j y e).0, λ p. absurd (apart (((h.knows j y e).1 p).0 ∙ sym theirs.0)))) in
    record {
      writer = h.writer;
      reader = seat;
      route = h.route;
      sent = h.sent;
      taken = h.taken;
      after = h.after;
      numbered = h.numbered;
      knows = all_set (Knows h.writer seat h.route h.sent h.taken) vs other idle ((λ p. absurd (true≢false (sym p))), λ p. absurd (true≢false (sym p)))
          (λ j y apart e. now j y e apart);
    }
