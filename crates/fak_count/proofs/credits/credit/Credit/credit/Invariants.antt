use Rattle.fak_count.proofs.credits.credit.Credit.credit.Given as goal

-- the step is on this credit
abbrev pub ghosts-credit : goal.ghosts-credit
ghosts-credit a = record { key = a.words.now.key }
