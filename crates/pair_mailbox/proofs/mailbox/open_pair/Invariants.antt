use Rattle.pair_mailbox.proofs.mailbox.open_pair.Given as goal

abbrev pub ghosts-split_ends : goal.ghosts-split_ends
ghosts-split_ends g a = record { route = a.route }
