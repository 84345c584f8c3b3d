use Rattle.std.specs.Int.{bit_not, w64}
use Rattle.fak_queue.proofs.Common.{ap}
use Rattle.fak_queue.proofs.BitAllowed.{bit_word, bits_within, clears_allowed}
use Rattle.fak_queue.proofs.Sleepers.{few_words}
use Rattle.fak_queue.proofs.steps.bits.clear.Goals as goal

pub fetch_and-found-requires : goal.fetch_and-found-requires
fetch_and-found-requires g c =
    let t = c.requires.token.table in
    let s = c.requires.token.seat in
    let is = bit_word c.args.role _ _ _ _ c.requires.size.0 c.word_of.ensures in (
      t.same,
      bits_within c.args.role _ _ _ _ t.words is (few_words c.args.other c.requires.other.1),
      clears_allowed c.args.words.now.key _ _ _ s.0 _ t.few s.1 c.requires.token.phase _ c.args.role c.requires.role _ c.args.other c.requires.other.0 _ _ is (ap (λ z. bit_not w64 z) c.mask.ensures) c.requires.other.1,
    )
