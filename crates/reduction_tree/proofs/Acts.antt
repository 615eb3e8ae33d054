-- Who sends and who takes in a round.
use Rattle.std.proofs.Common.{◌≡◌, ℕ, ◌+◌, ◌-◌, ◌*◌, ◌/◌, ◌%◌, ◌^◌, ◌<◌, ◌≤◌, ◌==◌, ◌&&◌, ◌⊎◌, inl, inr, Bool, true, false, nat_lt, if◌then◌else◌, refl, sym, ◌∙◌, ap, subst, arith, eq-eqb}
use Rattle.std.proofs.lemmas.Bool.{lt-ltb, ltb-true, eqb-true, cases_eq, ne_eqb}
use Rattle.std.proofs.lemmas.Nat.{mod-mul-add}
use Rattle.std.proofs.Math.Nat.{mod-add-div', mul-mod_left}
use Rattle.hpf_base.specs.declared.node.NodeId.{NodeId}
use Rattle.reduction_tree.specs.declared.tree.TreeAct.{TreeAct}
use Rattle.reduction_tree.specs.declared.tree.TreeAct.TheVariants.{Idle, Send, Take}
use Rattle.reduction_tree.specs.Tree.{levels, node_id, up_act, exchanged, act_of}
use Rattle.reduction_tree.proofs.RoundsUp.{power-some}

pub whole : (m p : ℕ) → p % m ≡ 0 → p ≡ p / m * m
whole m p h = let e = mod-add-div' p m in omega (arith, e, h)

pub with-rest : (m p r : ℕ) → p % m ≡ r → p ≡ p / m * m + r
with-rest m p r h = let e = mod-add-div' p m in omega (arith, e, h)

pub times-mod : (m c p : ℕ) → p ≡ c * m → p % m ≡ 0
times-mod m c p e = subst (λ x. x % m ≡ 0) (sym e) (mul-mod_left c m)

rest-mod : (m c r p : ℕ) → r < m → p ≡ c * m + r → p % m ≡ r
rest-mod m c r p lt e = subst (λ x. x % m ≡ r) (sym e) (mod-mul-add c m r lt)

-- numbers by a power b of 2 and its double
module _ (b p : ℕ) (some : 0 < b) where
  pub twice-divides : p % (b * 2) ≡ 0 → p % b ≡ 0
  twice-divides h = let e = whole (b * 2) p h in times-mod b (p / (b * 2) * 2) p (omega (arith, e))

  pub half-or-none : p % b ≡ 0 → (p % (b * 2) ≡ 0) ⊎ (p % (b * 2) ≡ b)
  half-or-none h = by_parity (cases_eq (p / b % 2) 0)
    where
      twofold : (c q r : ℕ) → c ≡ q * 2 + r → p ≡ c * b → p ≡ q * (b * 2) + r * b
      twofold c q r e f = let k : p ≡ (q * 2 + r) * b = f ∙ ap (λ x. x * b) e in k ∙ omega arith

      by_parity : (p / b % 2 ≡ 0) ⊎ (p / b % 2 ≡ 0 → ⊥) → (p % (b * 2) ≡ 0) ⊎ (p % (b * 2) ≡ b)
      by_parity (inl z) = let e = twofold (p / b) (p / b / 2) 0 (with-rest 2 (p / b) 0 z) (whole b p h) in inl (times-mod (b * 2) (p / b / 2) p (omega (arith, e)))
      by_parity (inr nz) =
          let one : p / b % 2 ≡ 1 = omega (arith, nz) in
          let e = twofold (p / b) (p / b / 2) 1 (with-rest 2 (p / b) 1 one) (whole b p h) in
          inr (rest-mod (b * 2) (p / b / 2) b p (omega arith) (omega (arith, e)))

  pub half-above : p % (b * 2) ≡ 0 → (p + b) % (b * 2) ≡ b
  half-above h = let e = whole (b * 2) p h in rest-mod (b * 2) (p / (b * 2)) b (p + b) (omega arith) (omega (arith, e))

  pub half-below : p % (b * 2) ≡ b → (p - b) % (b * 2) ≡ 0
  half-below h = let e = with-rest (b * 2) p b h in times-mod (b * 2) (p / (b * 2)) (p - b) (omega (arith, e))

  pub half-at-most : p % (b * 2) ≡ b → b ≤ p
  half-at-most h = let e = with-rest (b * 2) p b h in omega (arith, e)

-- an act of a round up, by what the number leaves
module _ (nodes r p : ℕ) where
  pub sends-up : p % (2 ^ r * 2) ≡ 2 ^ r → up_act nodes r p ≡ Send (node_id (p - 2 ^ r))
  sends-up h = rw (h, eq-eqb (2 ^ r) (2 ^ r) refl) refl

  not-half : p % (2 ^ r * 2) ≡ 0 → (p % (2 ^ r * 2) == 2 ^ r) ≡ false
  not-half h = let some = power-some r in ne_eqb (p % (2 ^ r * 2)) (2 ^ r) (λ e. absurd (omega arith))

  pub takes-up : p % (2 ^ r * 2) ≡ 0 → p + 2 ^ r < nodes → up_act nodes r p ≡ Take (node_id (p + 2 ^ r))
  takes-up h lt = rw (not-half h, eq-eqb (p % (2 ^ r * 2)) 0 h, lt-ltb (p + 2 ^ r) nodes lt) refl

  pub idle-up : p % (2 ^ r * 2) ≡ 0 → nat_lt (p + 2 ^ r) nodes ≡ false → up_act nodes r p ≡ Idle
  idle-up h past = rw (not-half h, eq-eqb (p % (2 ^ r * 2)) 0 h, past) refl

  -- and back
  pub data IsUpAct : TreeAct → Type 0 where
    sending : p % (2 ^ r * 2) ≡ 2 ^ r → IsUpAct (Send (node_id (p - 2 ^ r)))
    taking : p % (2 ^ r * 2) ≡ 0 → p + 2 ^ r < nodes → IsUpAct (Take (node_id (p + 2 ^ r)))
    idle : IsUpAct Idle

  pub is_up_act : IsUpAct (up_act nodes r p)
  is_up_act = by_tests (p % (2 ^ r * 2) == 2 ^ r) (p % (2 ^ r * 2) == 0) (nat_lt (p + 2 ^ r) nodes) refl refl refl
    where
      by_tests : (half none room : Bool) → (p % (2 ^ r * 2) == 2 ^ r) ≡ half → (p % (2 ^ r * 2) == 0) ≡ none → nat_lt (p + 2 ^ r) nodes ≡ room
          → IsUpAct (if half then Send (node_id (p - 2 ^ r)) else if none && room then Take (node_id (p + 2 ^ r)) else Idle)
      by_tests true none room eh en er = sending (eqb-true (p % (2 ^ r * 2)) (2 ^ r) eh)
      by_tests false true true eh en er = taking (eqb-true (p % (2 ^ r * 2)) 0 en) (ltb-true (p + 2 ^ r) nodes er)
      by_tests false true false eh en er = idle
      by_tests false false room eh en er = idle

same_node : (x y : ℕ) → Send (node_id x) ≡ Send (node_id y) → x ≡ y
same_node x y e = let h : node_id x ≡ node_id y = cc in ap (λ (n : NodeId). n.0) h

same_taken : (x y : ℕ) → Take (node_id x) ≡ Take (node_id y) → x ≡ y
same_taken x y e = let h : node_id x ≡ node_id y = cc in ap (λ (n : NodeId). n.0) h

-- in a round up one sends exactly where the other takes
module _ (nodes r p q : ℕ) (in-p : p < nodes) (in-q : q < nodes) where
  other-takes : up_act nodes r p ≡ Send (node_id q) → up_act nodes r q ≡ Take (node_id p)
  other-takes is = by_act (up_act nodes r p) (is_up_act nodes r p) is
    where
      by_act : (act : TreeAct) → IsUpAct nodes r p act → act ≡ Send (node_id q) → up_act nodes r q ≡ Take (node_id p)
      by_act _ (sending h) e =
          let some = power-some r in
          let le : 2 ^ r ≤ p = half-at-most (2 ^ r) p some h in
          let at : p - 2 ^ r ≡ q = same_node (p - 2 ^ r) q e in
          let back : q + 2 ^ r ≡ p = omega arith in
          let none : q % (2 ^ r * 2) ≡ 0 = subst (λ x. x % (2 ^ r * 2) ≡ 0) at (half-below (2 ^ r) p some h) in
          takes-up nodes r q none (omega arith) ∙ ap (λ x. Take (node_id x)) back
      by_act _ (taking h lt) e = cc
      by_act _ idle e = cc

  other-sends : up_act nodes r p ≡ Take (node_id q) → up_act nodes r q ≡ Send (node_id p)
  other-sends is = by_act (up_act nodes r p) (is_up_act nodes r p) is
    where
      by_act : (act : TreeAct) → IsUpAct nodes r p act → act ≡ Take (node_id q) → up_act nodes r q ≡ Send (node_id p)
      by_act _ (sending h) e = cc
      by_act _ (taking h lt) e =
          let some = power-some r in
          let at : p + 2 ^ r ≡ q = same_taken (p + 2 ^ r) q e in
          let back : q - 2 ^ r ≡ p = omega arith in
          let half : q % (2 ^ r * 2) ≡ 2 ^ r = subst (λ x. x % (2 ^ r * 2) ≡ 2 ^ r) at (half-above (2 ^ r) p some h) in
          sends-up nodes r q half ∙ ap (λ x. Send (node_id x)) back
      by_act _ idle e = cc

send-exchanged : (act : TreeAct) (q : NodeId) → exchanged act ≡ Send q → act ≡ Take q
send-exchanged Idle q e = cc
send-exchanged (Send p) q e = cc
send-exchanged (Take p) q e = cc

take-exchanged : (act : TreeAct) (q : NodeId) → exchanged act ≡ Take q → act ≡ Send q
take-exchanged Idle q e = cc
take-exchanged (Send p) q e = cc
take-exchanged (Take p) q e = cc

module _ (nodes round p q : ℕ) (in-p : p < nodes) (in-q : q < nodes) where
  abbrev by_round : ℕ → Bool → Bool → ℕ → TreeAct
  by_round at up down x = if up then up_act nodes round x else if down then exchanged (up_act nodes at x) else Idle

  sent_taken : (at : ℕ) (up down : Bool) → by_round at up down p ≡ Send (node_id q) → by_round at up down q ≡ Take (node_id p)
  sent_taken at true down e = other-takes nodes round p q in-p in-q e
  sent_taken at false true e = ap exchanged (other-sends nodes at p q in-p in-q (send-exchanged (up_act nodes at p) (node_id q) e))
  sent_taken at false false e = cc

  taken_sent : (at : ℕ) (up down : Bool) → by_round at up down q ≡ Take (node_id p) → by_round at up down p ≡ Send (node_id q)
  taken_sent at true down e = other-sends nodes round q p in-q in-p e
  taken_sent at false true e = ap exchanged (other-takes nodes at q p in-q in-p (take-exchanged (up_act nodes at q) (node_id p) e))
  taken_sent at false false e = cc

  pub sends-is-takes : act_of nodes round p ≡ Send (node_id q) → act_of nodes round q ≡ Take (node_id p)
  sends-is-takes = sent_taken (2 * levels nodes - 1 - round) (nat_lt round (levels nodes)) (nat_lt round (2 * levels nodes))

  pub takes-is-sends : act_of nodes round q ≡ Take (node_id p) → act_of nodes round p ≡ Send (node_id q)
  takes-is-sends = taken_sent (2 * levels nodes - 1 - round) (nat_lt round (levels nodes)) (nat_lt round (2 * levels nodes))

-- who is named is a node
abbrev pub Within : ℕ → TreeAct → Type 0
Within nodes Idle = Unit {0}
Within nodes (Send q) = q.0 < nodes
Within nodes (Take q) = q.0 < nodes

exchanged-within : (nodes : ℕ) (act : TreeAct) → Within nodes act → Within nodes (exchanged act)
exchanged-within nodes Idle h = h
exchanged-within nodes (Send q) h = h
exchanged-within nodes (Take q) h = h

up-within : (nodes r p : ℕ) → p < nodes → Within nodes (up_act nodes r p)
up-within nodes r p lt = by_act (up_act nodes r p) (is_up_act nodes r p)
  where
    by_act : (act : TreeAct) → IsUpAct nodes r p act → Within nodes act
    by_act _ (sending h) = omega arith
    by_act _ (taking h room) = room
    by_act _ idle = tt

pub act-within : (nodes round p : ℕ) → p < nodes → Within nodes (act_of nodes round p)
act-within nodes round p lt = by_tests (2 * levels nodes - 1 - round) (nat_lt round (levels nodes)) (nat_lt round (2 * levels nodes))
  where
    by_tests : (at : ℕ) (up down : Bool) → Within nodes (if up then up_act nodes round p else if down then exchanged (up_act nodes at p) else Idle)
    by_tests at true down = up-within nodes round p lt
    by_tests at false true = exchanged-within nodes (up_act nodes at p) (up-within nodes at p lt)
    by_tests at false false = tt
