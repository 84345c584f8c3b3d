use Rattle.std.proofs.Common.{◌≡◌, arith, sym, subst, true}
use Rattle.fak_model.specs.declared.note.Sign.TheVariants.{PassesWord}
use Rattle.fak_channel_core.specs.SleeperSides.{after_sign}
use Rattle.fak_callers.proofs.sleeper_seats.two_words_pay_for_128_seats.Goals as goal

pub returns : goal.returns
returns c = λ n d few.
    let once = after_sign n (PassesWord 0) d in
    c.a_look_pays.ensures.passes n 1 once (λ v low. let first : v ≡ 0 = omega (arith, low) in subst (λ w. once.passed w ≡ true) (sym first) (c.a_look_pays.ensures.passed n 0 d)) (omega (arith, few))
