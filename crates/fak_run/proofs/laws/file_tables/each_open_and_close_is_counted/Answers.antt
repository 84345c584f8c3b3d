use Rattle.fak_run.proofs.FileTables.{opens, opens_no_more, takes, opens_none, closes, frees, closes_none, finds, finds_none}
use Rattle.fak_run.proofs.laws.file_tables.each_open_and_close_is_counted.Goals as goal

pub returns : goal.returns
returns c = record {
  opens = opens;
  most = opens_no_more;
  takes = takes;
  full = opens_none;
  closes = closes;
  frees = frees;
  unopened = closes_none;
  uses = finds;
  no_uses = finds_none;
}
