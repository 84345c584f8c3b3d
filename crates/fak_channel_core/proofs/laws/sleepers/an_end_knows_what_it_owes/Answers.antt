use Rattle.fak_channel_core.proofs.SleeperLog.{told_reached, own_account}
use Rattle.fak_channel_core.proofs.laws.sleepers.an_end_knows_what_it_owes.Goals as goal

pub returns : goal.returns
returns g c = record {
  told = λ n size e schedule. (told_reached n size schedule).accounts e;
  own = λ n size e s v ne. own_account n size s e v ne;
  marks = λ n size schedule. (told_reached n size schedule).marks;
}
