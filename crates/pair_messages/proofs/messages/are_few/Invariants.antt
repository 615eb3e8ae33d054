use Rattle.std.proofs.Common.{◌≤◌, ◌^◌, All, take}
use Rattle.pair_messages.proofs.messages.are_few.Given as goal

abbrev pub invariant-loop-extent : goal.invariant-loop-extent
invariant-loop-extent l = All (λ n. n ≤ 2 ^ 32) (take l.extent-index l.extents)
