use Rattle.fak_kernel.proofs.running.run_one_to_text.Given as goal

abbrev pub ghosts-run_alone : goal.ghosts-run_alone
ghosts-run_alone g a = record { script = a.script.now }
