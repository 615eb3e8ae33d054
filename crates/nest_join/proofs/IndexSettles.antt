-- What a block leaves of the index of a loop in it doesn't depend on the iteration: a block leaves each scalar as it was, or with one value.
use Rattle.std.proofs.Common.{◌≡◌, ℕ, zero, suc, ◌<◌, ◌≤◌, ◌⊎◌, inl, inr, ⊎_elim, List, ◌∷◌, length, ℤ, pos, true, false, None, refl, sym, ap, ◌∙◌, subst, arith, length-set, get_or-set_same, get_or-set_other, true≢false}
use Rattle.std.proofs.lemmas.Bool.{cases_eq}
use Rattle.nest_order.specs.Turns.{after_turns}
use Rattle.array_meaning.specs.State.{State, scalar, set_scalar}
use Rattle.array_meaning.specs.Statements.{Loop, Block, Done, Then, AssignScalar, AssignElement, AssignSection, Transform, If, Do, Unmarked, Outermost, Where, Forall, Print, Stop, Exit, Cycle, Continue, Redistribute}
use Rattle.array_meaning.specs.declared.sections.Sequence.{Sequence}
use Rattle.array_meaning.specs.Iterations.{values_of, turn_value}
use Rattle.nest_items.specs.Settled.{settled, settled_by}
use Rattle.statement_trail.specs.NestParts.{index_in}
use Rattle.nest_join.specs.NestNames.{NestNames, indices_of}
use Rattle.nest_join.specs.NestTexts.{HoldsEntry}
use Rattle.nest_join.specs.CodedBlocks.{IsCodedLoop, IsCodedBlock}
use Rattle.nest_join.proofs.HiddenIndices.{hidden-is}
use Rattle.nest_join.proofs.LoopTurns.{P, values-are}
use Rattle.nest_join.proofs.InnerIndices.{turns-length, settled-length, by-length}

module _ (w : NestNames) (l b0 : ℕ) (entry : List ℤ) (s0 : State) (holds : HoldsEntry w b0 entry s0) (outside : (x : ℕ) → b0 ≤ x → w.is_index x ≡ false) where
  abbrev n : ℕ
  n = w.count

  -- a state whose scalars are those of the entry but for indices
  abbrev pub IsAsEntry : State → Type 0
  IsAsEntry st = (k : ℕ) → k < n → w.is_index k ≡ false → index_in (indices_of w) 0 k ≡ None → scalar st k ≡ scalar s0 k

  as-set : (st : State) (x : ℕ) (v : ℤ) → w.is_index x ≡ true → IsAsEntry st → IsAsEntry (set_scalar st x v)
  as-set st x v is as_entry k lt no_index off =
      get_or-set_other st.scalars x k v (pos 0) (λ e. true≢false (sym is ∙ ap w.is_index (sym e) ∙ no_index)) ∙ as_entry k lt no_index off

  -- ---- turns

  module _ (k : ℕ) (lt : k < n) where
    abbrev Long : State → Type 0
    Long z = length z.scalars ≡ n

    pub turns-leave : (c : ℕ) (f : ℕ → State → State) (z : State) → Long z
        → ((y : ℕ) (later : State) → y < c → Long later → Long (f y later) × (scalar (f y later) k ≡ scalar later k))
        → Long (after_turns c f z) × (scalar (after_turns c f z) k ≡ scalar z k)
    turns-leave zero f z long each = (long, refl)
    turns-leave (suc c) f z long each =
        let r = turns-leave c f z long (λ y later below many. each y later (omega (arith, below)) many) in
        let q = each c (after_turns c f z) (omega arith) r.0 in
        (q.0, q.1 ∙ r.1)

    -- what is done to a state z from a state at which the bounds of loops are as at the entry
    abbrev pub Leaves : (State → State → State) → Type 0
    Leaves f = (st z : State) → IsAsEntry st → Long z → scalar (f st z) k ≡ scalar z k

    abbrev pub Sets : (State → State → State) → Type 0
    Sets f = (v : ℤ) × ((st z : State) → IsAsEntry st → Long z → scalar (f st z) k ≡ v)

    abbrev pub Settles : (State → State → State) → Type 0
    Settles f = Leaves f ⊎ Sets f

    both : (f g : State → State → State) → ((st z : State) → Long z → Long (f st z)) → Settles f → Settles g → Settles (λ st z. g st (f st z))
    both f g long h (inr (v, sets)) = inr (v, λ st z as_entry many. sets st (f st z) as_entry (long st z many))
    both f g long (inl leaves) (inl leaves') = inl (λ st z as_entry many. leaves' st (f st z) as_entry (long st z many) ∙ leaves st z as_entry many)
    both f g long (inr (v, sets)) (inl leaves) = inr (v, λ st z as_entry many. leaves st (f st z) as_entry (long st z many) ∙ sets st z as_entry many)

    -- ---- a loop

    module _ (round : List ℕ) (loop : Loop) (body : Block) (ok : IsCodedLoop w s0 round loop) where
      abbrev x : ℕ
      x = loop.index

      abbrev p : Sequence
      p = P w l b0 entry s0 holds outside round loop ok

      is-index : w.is_index x ≡ true
      is-index = hidden-is w.is_index round x ok.index

      values-same : (st : State) → IsAsEntry st → values_of st loop ≡ p
      values-same st as_entry = values-are w l b0 entry s0 holds outside round loop ok st (λ j name. as_entry j name.0 name.1 name.2)

      abbrev turn : State → ℕ → State → State
      turn st y z = set_scalar (settled (set_scalar st x (turn_value (values_of st loop) y)) body z) x (turn_value (values_of st loop) y)

      turn-long : (st : State) (y : ℕ) (z : State) → length (turn st y z).scalars ≡ length z.scalars
      turn-long st y z =
          length-set (settled (set_scalar st x (turn_value (values_of st loop) y)) body z).scalars x (turn_value (values_of st loop) y)
          ∙ settled-length w l b0 entry s0 holds outside body (set_scalar st x (turn_value (values_of st loop) y)) z

      after-long : (c : ℕ) (st z : State) → Long z → Long (after_turns c (turn st) z)
      after-long c st z many = turns-length w l b0 entry s0 holds outside c (turn st) z (turn-long st) ∙ many

      abbrev By : State → State → State
      By st z = settled_by st (Do Unmarked loop body) z

      -- its own index
      own : k ≡ x → Settles By
      own e = inr (
        turn_value p p.count,
        λ st z as_entry many.
            let a : State = after_turns (values_of st loop).count (turn st) z in
            let long = after-long (values_of st loop).count st z many in
            let v : ℤ = turn_value (values_of st loop) (values_of st loop).count in
            subst (λ j. scalar (set_scalar a x v) j ≡ v) (sym e) (get_or-set_same a.scalars x v (pos 0) (let below = ok.below in omega (arith, below, long)))
            ∙ ap (λ (q : Sequence). turn_value q q.count) (values-same st as_entry),
      )

      -- any other scalar
      module _ (ne : k ≡ x → ⊥) where
        past : (st z : State) → scalar (By st z) k ≡ scalar (after_turns (values_of st loop).count (turn st) z) k
        past st z = get_or-set_other (after_turns (values_of st loop).count (turn st) z).scalars x k (turn_value (values_of st loop) (values_of st loop).count) (pos 0) ne

        turn-past : (st : State) (y : ℕ) (z : State) → scalar (turn st y z) k ≡ scalar (settled (set_scalar st x (turn_value (values_of st loop) y)) body z) k
        turn-past st y z = get_or-set_other (settled (set_scalar st x (turn_value (values_of st loop) y)) body z).scalars x k (turn_value (values_of st loop) y) (pos 0) ne

        left-so : Leaves (λ st z. settled st body z) → Leaves By
        left-so leaves st z as_entry many = past st z ∙ (turns-leave (values_of st loop).count (turn st) z many (λ y later below long. (
          turn-long st y later ∙ long,
          turn-past st y later ∙ leaves (set_scalar st x (turn_value (values_of st loop) y)) later (as-set st x (turn_value (values_of st loop) y) is-index as_entry) long,
        ))).1

        by-count : (v : ℤ) → ((st z : State) → IsAsEntry st → Long z → scalar (settled st body z) k ≡ v) → (c : ℕ) → p.count ≡ c → Settles By
        by-count v sets zero e = inl (λ st z as_entry many. past st z ∙ ap (λ q. scalar (after_turns q (turn st) z) k) (ap (λ (q : Sequence). q.count) (values-same st as_entry) ∙ e))
        by-count v sets (suc c) e = inr (
          v,
          λ st z as_entry many.
              past st z ∙ ap (λ q. scalar (after_turns q (turn st) z) k) (ap (λ (q : Sequence). q.count) (values-same st as_entry) ∙ e)
              ∙ turn-past st c (after_turns c (turn st) z)
              ∙ sets (set_scalar st x (turn_value (values_of st loop) c)) (after_turns c (turn st) z) (as-set st x (turn_value (values_of st loop) c) is-index as_entry)
              (after-long c st z many),
        )

        other : Settles (λ st z. settled st body z) → Settles By
        other (inl leaves) = inl (left-so leaves)
        other (inr (v, sets)) = by-count v sets p.count refl

      loop-settles : Settles (λ st z. settled st body z) → Settles By
      loop-settles inner = ⊎_elim (λ (e : k ≡ x). own e) (λ (ne : k ≡ x → ⊥). other ne inner) (cases_eq k x)

    -- ---- a block

    pub settles : (round : List ℕ) (block : Block) → IsCodedBlock w s0 round block → Settles (λ st z. settled st block z)
    settles round Done ok = inl (λ st z as_entry many. refl)
    settles round (Then line (AssignScalar j t) rest) ok = settles round rest ok.1
    settles round (Then line (AssignElement a ts t) rest) ok = settles round rest ok.1
    settles round (Then line (AssignSection a subs t) rest) ok = absurd ok.0
    settles round (Then line (Transform x y how) rest) ok = absurd ok.0
    settles round (Then line (If arms other) rest) ok = settles round rest ok.1
    settles round (Then line (Do Unmarked loop body) rest) ok =
        both (λ st z. settled_by st (Do Unmarked loop body) z) (λ st z. settled st rest z)
        (λ st z many. by-length w l b0 entry s0 holds outside (Do Unmarked loop body) st z ∙ many)
        (loop-settles round loop body ok.0.0 (settles (loop.index ∷ round) body ok.0.1)) (settles round rest ok.1)
    settles round (Then line (Do (Outermost nest inner) loop body) rest) ok = absurd ok.0
    settles round (Then line (Where mask body others) rest) ok = absurd ok.0
    settles round (Then line (Forall cs mask body) rest) ok = absurd ok.0
    settles round (Then line (Print items) rest) ok = absurd ok.0
    settles round (Then line Stop rest) ok = absurd ok.0
    settles round (Then line Exit rest) ok = absurd ok.0
    settles round (Then line Cycle rest) ok = absurd ok.0
    settles round (Then line Continue rest) ok = settles round rest ok.1
    settles round (Then line Redistribute rest) ok = absurd ok.0
