-- Standings after a step whose seat had what comes next taken out.
use Rattle.std.proofs.Common.{◌≡◌, ℕ, Bool, true, false, refl, ap, sym, ◌∙◌, subst}
use Rattle.fak_channel.specs.declared.channel.Channel.{Channel}
use Rattle.fak_channel.specs.declared.seat.ChannelSeat.{ChannelSeat}
use Rattle.fak_channel.specs.declared.standing.CallStanding.{CallStanding}
use Rattle.fak_channel.specs.declared.standing.ChannelStep.{ChannelStep}
use Rattle.fak_channel.specs.declared.standing.Next.{Next}
use Rattle.fak_channel.specs.declared.standing.Wish.TheVariants.{Send}
use Rattle.fak_channel.specs.Moves.{MovesNext, at_next, refused_next, room_made_if, item_made_if, with_next}

pub next_at : {T : Type 0} (c : Channel T) (old new : ChannelSeat T) (x : Next T) (r : ChannelStep T) → old.standing.next ≡ x → MovesNext c (at_next x old) new x r → MovesNext c old new old.standing.next r
next_at c old new x r is m = subst (λ (y : Next _). MovesNext c (at_next y old) new y r) (sym is) m

-- the standing after a claim that found the queue full, or empty
pub refused_standing : {T : Type 0} (withdraws : Bool) (ends : ℕ) (s owing new : CallStanding T) (claiming next : Next T) (x y : T) → new ≡ with_next next owing → next ≡ refused_next owing (Send y) → owing ≡ room_made_if withdraws ends s → y ≡ x
    → new ≡ with_next (refused_next (with_next claiming s) (Send x)) (room_made_if withdraws ends (with_next claiming s))
refused_standing {T} withdraws ends s owing new claiming next x y is next_is owes same =
    is
    ∙ (ap (λ (n : Next T). with_next n owing) next_is
    ∙ (ap (λ (o : CallStanding T). with_next (refused_next o (Send y)) o) owes ∙ (same_tries withdraws ∙ ap (λ (z : T). with_next (refused_next (with_next claiming s) (Send z)) (room_made_if withdraws ends (with_next claiming s))) same)))
  where
    same_tries : (b : Bool) → with_next (refused_next (room_made_if b ends s) (Send y)) (room_made_if b ends s) ≡ with_next (refused_next (with_next claiming s) (Send y)) (room_made_if b ends (with_next claiming s))
    same_tries true = refl
    same_tries false = refl

pub emptied_standing : {T : Type 0} (withdraws : Bool) (ends : ℕ) (s owing new : CallStanding T) (claiming next : Next T) → new ≡ with_next next owing → owing ≡ item_made_if withdraws ends s → new ≡ with_next next (item_made_if withdraws ends (with_next claiming s))
emptied_standing true ends s owing new claiming next is owes = is ∙ ap (with_next next) owes
emptied_standing false ends s owing new claiming next is owes = is ∙ ap (with_next next) owes
