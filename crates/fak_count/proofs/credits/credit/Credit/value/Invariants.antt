use Rattle.fak_count.proofs.credits.credit.Credit.value.Given as goal

-- the step is on this credit
abbrev pub ghosts-observe : goal.ghosts-observe
ghosts-observe a = record { key = a.words.now.key }
