use Rattle.fak_queue.proofs.BitAllowed.{bit_word, bits_within, gives_up_allowed}
use Rattle.fak_queue.proofs.Sleepers.{few_words}
use Rattle.fak_queue.proofs.steps.bits.give_up.Goals as goal

pub load-requires : goal.load-requires
load-requires g c =
    let t = c.requires.token.table in
    let one = c.requires.name.0 in
    let is = bit_word c.args.role _ _ _ _ c.requires.size.0 c.word_of.ensures in (
      t.same,
      bits_within c.args.role _ _ _ _ t.words is (few_words c.args.name c.requires.name.1),
      gives_up_allowed c.args.words.now.key _ _ _ c.args.name _ t.few one c.requires.token.phase _ c.args.role c.requires.role _ is c.requires.account,
    )
