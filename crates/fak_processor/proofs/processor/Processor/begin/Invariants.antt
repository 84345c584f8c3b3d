use Rattle.fak_processor.proofs.processor.Processor.begin.Given as goal

-- the station is the processor's
abbrev pub ghosts-begin_at : goal.ghosts-begin_at
ghosts-begin_at g a = record { objects = a.processor.objects.now; number = a.processor.number }
