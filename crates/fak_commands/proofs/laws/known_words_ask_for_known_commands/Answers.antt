use Rattle.std.proofs.Common.{refl, rules}
use Rattle.clap.proofs.OnLiterals.{clap_on_literals}
use Rattle.fak_commands.proofs.laws.known_words_ask_for_known_commands.Goals as goal

pub returns : goal.returns
unfolding clap_on_literals
returns c = record {
  replay = (_, refl);
  check = (_, refl);
  default = (_, refl, (_, refl, refl, search rules, search rules));
  least = (_, refl, (_, refl, refl, search rules, search rules));
  most = (_, refl, (_, refl, refl, search rules, search rules));
  too_many = λ n (rows, found, (text, is, n_is, low, high)). search rules;
  none = λ n (rows, found, (text, is, n_is, low, high)). search rules;
}
