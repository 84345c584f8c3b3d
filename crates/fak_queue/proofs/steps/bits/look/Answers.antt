use Rattle.std.specs.Prelude.{◌≡◌, ◌+◌, ◌*◌, ◌/◌}
use Rattle.fak_queue.specs.Sleepers.{first_bits}
use Rattle.fak_queue.proofs.Common.{ap, arith, ◌∙◌}
use Rattle.fak_queue.proofs.BitAllowed.{bit_word, bits_within, looks_allowed}
use Rattle.fak_queue.proofs.steps.bits.look.Goals as goal

pub load-requires : goal.load-requires
load-requires g c =
    let t = c.requires.token.table in
    let s = c.requires.token.seat in
    let word = c.requires.word.1 in
    let is = bit_word c.args.role _ _ _ _ c.requires.size.0 (c.word_of.ensures ∙ ap (λ j. first_bits c.args.role c.args.size + j) (let j : 64 * c.args.word / 64 ≡ c.args.word = omega arith in j)) in (
      t.same,
      bits_within c.args.role _ _ _ _ t.words is word,
      looks_allowed c.args.words.now.key _ _ _ s.0 _ t.few s.1 c.requires.token.phase _ c.args.role c.requires.role _ c.args.word c.requires.word.0 _ is word,
    )
