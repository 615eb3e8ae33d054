-- Of a promise.
-- Nodes that number their letters.
use Rattle.std.specs.Prelude.{◌≡◌, ℕ, ◌<◌, IsTrue, List, length}
use Rattle.node_law.specs.declared.act.Act.TheVariants.{Send, Take}
use Rattle.node_law.specs.NodeSteps.{NodeSteps, Move, AreMovesOf, after_all, sent, taken}
use Rattle.letters.specs.declared.letter.Letter.{Letter}
use Rattle.pair_mailbox.specs.Rule.{IsNextLetter}
use Rattle.all_pairs.specs.Routes.{route}

module _ {N : Type 0} (S : NodeSteps N Letter) where
  -- The node a, which is `id` of so many, numbers its letters: whatever moves it makes and whatever it takes in them, what it is
  -- to send then is its pair's next letter, and it awaits its pair's next letter where it is to take one
  pub record IsLettered (count id : ℕ) (a : N) : Type 0 where
    pub sends : (xs : List (Move Letter)) (q : ℕ) → AreMovesOf S a xs → S.act (after_all S a xs) ≡ Send (record { 0 = q })
        → (q < count) × IsNextLetter (route id q) (length (sent q xs)) (S.letter (after_all S a xs))
    pub takes : (xs : List (Move Letter)) (p : ℕ) → AreMovesOf S a xs → S.act (after_all S a xs) ≡ Take (record { 0 = p })
        → (p < count) × ((x : Letter) → IsNextLetter (route p id) (length (taken p xs)) x → IsTrue (S.awaits (after_all S a xs) x))
