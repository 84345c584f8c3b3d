-- Whether two cores are in the same state, field by field; this is an equivalence.
use denote.Builtin.{u64}
use Rattle.std.specs.Prelude.{Bool, nat_eq}
use Rattle.std.specs.Cmp.{IsEquivalence, nat_eq_equiv, int_eq_equiv, and_equiv, on_equiv}
use Rattle.std.specs.Cmp.Lexicographic.{pointwise, lists_equiv, options_equiv}
use Rattle.std.specs.Option.{option_eq}
use Rattle.std.specs.Ordering.{eq_of_both, int_eq, on}
use Rattle.std.specs.contracts.prelude.BoolPartialEq.TheImpl as bool
use Rattle.std.specs.contracts.prelude.BoolEq.TheImpl.Laws as bool_eq
use Rattle.std.specs.contracts.prelude.U64PartialEq.TheImpl as number
use Rattle.std.specs.contracts.prelude.U64PartialEq.TheImpl.Laws as number_laws
use Rattle.std.specs.contracts.prelude.U64Eq.TheImpl as number_eq
use Rattle.std.specs.contracts.prelude.U64Eq.TheImpl.Laws as number_eq_laws
use Rattle.fak_model.specs.contracts.queue.MarkPartialEq.TheImpl as mark
use Rattle.fak_model.specs.contracts.queue.MarkEq.TheImpl.Laws as mark_eq
use Rattle.fak_model.specs.contracts.room.RoomMarkPartialEq.TheImpl as room_mark
use Rattle.fak_model.specs.contracts.room.RoomMarkEq.TheImpl.Laws as room_mark_eq
use Rattle.fak_core.specs.contracts.queue.phase.PhasePartialEq.TheImpl as phase
use Rattle.fak_core.specs.contracts.queue.phase.PhaseEq.TheImpl.Laws as phase_eq
use Rattle.fak_core.specs.contracts.room.phase.CoreSeatPartialEq.TheImpl as seat
use Rattle.fak_core.specs.contracts.room.phase.CoreSeatEq.TheImpl.Laws as seat_eq
use Rattle.fak_core.specs.QueueFields.{QueueFields, history_of}
use Rattle.fak_core.specs.Room.{RoomState, history_of as room_history_of}

abbrev pub same_room : RoomState → RoomState → Bool
same_room =
    eq_of_both (on (λ s. s.bound) nat_eq)
    (eq_of_both (on (λ s. s.count) int_eq)
    (eq_of_both (on (λ s. s.seats) (pointwise (seat.ghosts).eq))
    (on room_history_of (pointwise (room_mark.ghosts).eq))))

pub same_room_laws : IsEquivalence same_room
same_room_laws =
    and_equiv (on_equiv (λ s. s.bound) nat_eq_equiv)
    (and_equiv (on_equiv (λ s. s.count) int_eq_equiv)
    (and_equiv (on_equiv (λ s. s.seats) (lists_equiv seat_eq.laws-law))
    (on_equiv room_history_of (lists_equiv room_mark_eq.laws-law))))

-- whether two queues have the same words and cells
abbrev pub same_words : QueueFields → QueueFields → Bool
same_words =
    eq_of_both (on (λ f. f.size) nat_eq)
    (eq_of_both (on (λ f. f.upper) int_eq)
    (eq_of_both (on (λ f. f.lower) int_eq)
    (eq_of_both (on (λ f. f.draws_in) nat_eq)
    (eq_of_both (on (λ f. f.draws_out) nat_eq)
    (eq_of_both (on (λ f. f.shut) (bool.ghosts).eq)
    (eq_of_both (on (λ f. f.turns) (pointwise nat_eq))
    (on (λ f. f.cells) (pointwise (option_eq nat_eq)))))))))

abbrev pub same_queue : QueueFields → QueueFields → Bool
same_queue =
    eq_of_both same_words
    (eq_of_both (on (λ f. f.phases) (pointwise (phase.ghosts u64 number.ghosts phase.no_dict).eq))
    (on history_of (pointwise (mark.ghosts u64 number.ghosts mark.no_dict).eq)))

pub same_words_laws : IsEquivalence same_words
same_words_laws =
    and_equiv (on_equiv (λ f. f.size) nat_eq_equiv)
    (and_equiv (on_equiv (λ f. f.upper) int_eq_equiv)
    (and_equiv (on_equiv (λ f. f.lower) int_eq_equiv)
    (and_equiv (on_equiv (λ f. f.draws_in) nat_eq_equiv)
    (and_equiv (on_equiv (λ f. f.draws_out) nat_eq_equiv)
    (and_equiv (on_equiv (λ f. f.shut) bool_eq.laws-law)
    (and_equiv (on_equiv (λ f. f.turns) (lists_equiv nat_eq_equiv))
    (on_equiv (λ f. f.cells) (lists_equiv (options_equiv nat_eq_equiv)))))))))

pub same_queue_laws : IsEquivalence same_queue
same_queue_laws =
    and_equiv same_words_laws
    (and_equiv (on_equiv (λ f. f.phases) (lists_equiv (phase_eq.laws-law u64 number_eq.ghosts number_eq.dict number.ghosts number.dict number_eq_laws.lawful number_laws.lawful)))
    (on_equiv history_of (lists_equiv (mark_eq.laws-law u64 number_eq.ghosts number_eq.dict number.ghosts number.dict number_eq_laws.lawful number_laws.lawful))))
