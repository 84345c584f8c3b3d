use Rattle.fak_files_tests.proofs.calls.close_free.Goals as goal

pub returns : goal.returns
returns c = let closed = c.close-rest.ensures in c.a_file_table_at_rest_is_free.ensures _ _ _ closed.lawful closed.named closed.rest
