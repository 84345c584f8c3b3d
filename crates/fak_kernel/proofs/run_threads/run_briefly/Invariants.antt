use Rattle.fak_kernel.proofs.run_threads.run_briefly.Given as goal

abbrev pub ghosts-run_as : goal.ghosts-run_as
ghosts-run_as g a = record { script = a.script.now }
