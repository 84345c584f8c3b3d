use Rattle.fak_processor.proofs.processor.Processor.work.Given as goal

-- the station is the processor's
abbrev pub ghosts-work_at : goal.ghosts-work_at
ghosts-work_at g a = record { objects = a.processor.objects.now; number = a.processor.number }
