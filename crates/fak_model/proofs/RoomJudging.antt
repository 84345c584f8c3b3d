-- Whether a list of marks is a room's history.
use Rattle.fak_model.proofs.Common.{RoomKind, Up, Over, Back, No, Release, RoomMark, Owes, ℕ, zero, suc, ◌+◌, ltb, Bool, true, List, [], ◌∷◌, ◌++◌, Decides, refl, arith, common_steps}
use Rattle.fak_model.specs.Room.{Granted, Refused, Withdrawn, Released, kinds_of_call, total, up_amount, over_amount, back_amount, release_amount, amount_held, IsFair, room_rules, IsRoomHistory}
use Rattle.fak_model.proofs.Appending.{owed_comes, call_begins}
use Rattle.fak_model.proofs.Places.{CallsRun}
use Rattle.fak_model.proofs.Judging.{Grammar, judged, history_decided, le_decided}

abbrev pub needs : RoomKind → ℕ
needs (Back d) = suc d
needs _ = 0

abbrev pub leads : RoomKind → ℕ
leads (Over d) = suc d
leads _ = 0

abbrev pub owed : ℕ → List RoomKind
owed zero = []
owed (suc d) = Back d ∷ []

pub calls_run : CallsRun needs leads kinds_of_call
calls_run e = grind (arith, common_steps, kinds_of_call)

pub comes : (ws : List RoomKind) (k : RoomKind) → Owes kinds_of_call ws (owed (needs k)) → Owes kinds_of_call (ws ++ k ∷ []) (owed (leads k))
comes ws (Up d) o = owed_comes kinds_of_call ws (Up d) [] (call_begins kinds_of_call ws (Granted d) o)
comes ws (No d) o = owed_comes kinds_of_call ws (No d) [] (call_begins kinds_of_call ws (Refused d) o)
comes ws (Over d) o = owed_comes kinds_of_call ws (Over d) (Back d ∷ []) (call_begins kinds_of_call ws (Withdrawn d) o)
comes ws (Back d) o = owed_comes kinds_of_call ws (Back d) [] o
comes ws (Release d) o = owed_comes kinds_of_call ws (Release d) [] (call_begins kinds_of_call ws (Released d) o)

abbrev pub room_grammar : Grammar kinds_of_call
room_grammar = record {
  needs = needs;
  leads = leads;
  runs = calls_run;
  Stands = λ p ws. Owes kinds_of_call ws (owed p);
  rest = ([], refl);
  comes = comes;
  are_calls = λ p ws o. (owed p, o);
}

-- a test of the same sums, without a difference
abbrev pub is_fair_kind : ℕ → List RoomMark → ℕ → RoomKind → Bool
is_fair_kind bound before seat (Up d) = ltb (total up_amount before + total over_amount before + d) (bound + (total back_amount before + total release_amount before) + 1)
is_fair_kind bound before seat (No d) = ltb (bound + (total back_amount before + total release_amount before)) (total up_amount before + total over_amount before + d)
is_fair_kind bound before seat (Over d) = ltb (bound + (total back_amount before + total release_amount before)) (total up_amount before + total over_amount before + d)
is_fair_kind bound before seat (Release d) = ltb d (amount_held seat before + 1)
is_fair_kind bound before seat (Back d) = true

abbrev pub is_fair : ℕ → List RoomMark → RoomMark → Bool
is_fair bound before m = is_fair_kind bound before m.seat m.kind

pub kind_decided : (bound : ℕ) (before : List RoomMark) (seat : ℕ) (kind : RoomKind) → Decides (is_fair_kind bound before seat kind) (IsFair bound before seat kind)
kind_decided bound before seat kind = grind (arith, common_steps, IsFair, le_decided, total, up_amount, over_amount, back_amount, release_amount, amount_held)

abbrev pub is_room_history : ℕ → List RoomMark → Bool
is_room_history bound h = judged (room_rules bound) room_grammar (is_fair bound) (λ before m. kind_decided bound before m.seat m.kind) [] h

pub room_decided : (bound : ℕ) (h : List RoomMark) → Decides (is_room_history bound h) (IsRoomHistory bound h)
room_decided bound h = history_decided (room_rules bound) room_grammar (is_fair bound) (λ before m. kind_decided bound before m.seat m.kind) h
