use Rattle.fak_files_tests.proofs.calls.is_free.Goals as goal

pub returns : goal.returns
returns c = λ whole. c.a_file_table_at_rest_is_free.ensures _ _ _ c.is_whole.ensures.lawful c.is_whole.ensures.named (c.is_whole.ensures.rest whole)
