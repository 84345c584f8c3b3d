use Rattle.std.proofs.Common.{◌≡◌, ◌≢◌, ◌∙◌, ◌/◌, ℕ, Some, None, ap, subst, sym}
use Rattle.fak_model.specs.declared.note.Sign.TheVariants.{FindsWord}
use Rattle.fak_queue.specs.declared.role.Role.{Role}
use Rattle.fak_queue.specs.Sleepers.{as_role}
use Rattle.fak_queue.specs.SleeperSeats.{AddsNote}
use Rattle.fak_channel.specs.declared.seat.ChannelSeat.{ChannelSeat}
use Rattle.fak_channel.specs.declared.standing.Looks.{Looks}
use Rattle.fak_channel.specs.Looks.{IsFoundAt, finding, past_bits, word_at}
use Rattle.fak_channel.specs.Moves.{LoadsWord, finds, goes_round, with_looks}
use Rattle.fak_channel.proofs.channel.Channel.load_word.Goals as goal

-- the word that was loaded is that of the look
signed : {T : Type 0} (size : ℕ) (role : Role) (l m : Looks) (old new : ChannelSeat T) (word found : ℕ) → m ≡ l → word ≡ word_at l → AddsNote size (as_role role (FindsWord word found)) old.queue new.queue → AddsNote size (as_role role (FindsWord (word_at m) found)) old.queue new.queue
signed size role l m old new word found same is signs = subst (λ (w : ℕ). AddsNote size (as_role role (FindsWord w found)) old.queue new.queue) (is ∙ sym (ap word_at same)) signs

-- the bit of end k was found set
found_set : {T : Type 0} (ends size : ℕ) (role : Role) (l : Looks) (old new : ChannelSeat T) (k word found : ℕ) (m : Looks) → m ≡ l → word ≡ word_at l → AddsNote size (as_role role (FindsWord word found)) old.queue new.queue → IsFoundAt found m (Some k)
    → new.standing ≡ with_looks role (finding k m) old.standing → LoadsWord ends size role l old new
found_set {T} ends size role l old new k word found m same is signs at stands =
    subst (λ (x : Looks). LoadsWord ends size role x old new) same (finds k found (signed size role l m old new word found same is signs) at stands)

-- the bits that were found set are all of ends before
found_before : {T : Type 0} (ends size : ℕ) (role : Role) (l : Looks) (old new : ChannelSeat T) (word found : ℕ) (m r : Looks) → m ≡ l → word ≡ word_at l → AddsNote size (as_role role (FindsWord word found)) old.queue new.queue → found ≢ 0 → IsFoundAt found m None
    → r ≡ past_bits ends m → new.standing ≡ with_looks role r old.standing → LoadsWord ends size role l old new
found_before {T} ends size role l old new word found m r same at_word signs some at is stands =
    subst (λ (x : Looks). LoadsWord ends size role x old new) same (goes_round found (signed size role l m old new word found same at_word signs) some at (stands ∙ ap (λ (x : Looks). with_looks role x old.standing) is))

pub returns-in-Some : goal.returns-in-Some
returns-in-Some g c = found_set _ _ _ _ _ _ c.in-Some.other _ _ c.looks_for-looks.result c.looks_for-looks.ensures (ap (λ (n : ℕ). n / 64) c.look_from-word.ensures) (c.look-found.ensures.some c.if-found-eq0.false) c.in-Some.ensures c.set_looks.ensures

pub returns-in-None : goal.returns-in-None
returns-in-None g c = found_before _ _ _ _ _ _ _ _ c.looks_for-looks.result c.past_bits.result c.looks_for-looks.ensures (ap (λ (n : ℕ). n / 64) c.look_from-word.ensures) (c.look-found.ensures.some c.if-found-eq0.false) c.if-found-eq0.false c.in-None.ensures c.past_bits.ensures c.set_looks-in-None.ensures
