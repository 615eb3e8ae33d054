use Rattle.owner_cases.proofs.tables.write_steps.Given as goal

abbrev pub ghosts-steps_of : goal.ghosts-steps_of
ghosts-steps_of a = record { name = a.blank.name; parts = a.blank.parts }
