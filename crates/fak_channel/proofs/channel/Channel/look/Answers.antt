use Rattle.std.proofs.Common.{sym, ◌∙◌, subst}
use Rattle.fak_channel.specs.declared.standing.ChannelStep.TheVariants.{GoesOn}
use Rattle.fak_channel.specs.Moves.{LooksOnce, looks_for}
use Rattle.fak_channel.proofs.channel.Channel.look.Goals as goal

pub returns-in-None : goal.returns-in-None
returns-in-None g c =
    let is = sym c.look_found.ensures ∙ c.in-None.is in
    subst (λ o. LooksOnce c.args.self.now.ends c.args.self.now.queue.size c.args.role (looks_for c.args.role c.args.seat.now.standing) c.args.seat.now c.load_word.new.seat o GoesOn) (sym is) c.load_word.ensures
