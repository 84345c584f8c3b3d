use Rattle.fak_count.proofs.credits.credit.Credit.join.Given as goal

-- the load is on this credit
abbrev pub ghosts-hear : goal.ghosts-hear
ghosts-hear a = record { key = a.words.now.key }
