use Rattle.fak_count.proofs.credits.credit.Credit.debit.Given as goal

-- the step is on this credit
abbrev pub ghosts-debit : goal.ghosts-debit
ghosts-debit a = record { key = a.words.now.key }
