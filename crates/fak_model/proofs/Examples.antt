-- From tests of lists of marks to examples of lawful and unlawful ones.
use Rattle.fak_model.proofs.Common.{Mark, RoomMark, FileMark, IsQueueHistory, IsRoomHistory, IsFileHistory, ◌≡◌, ℕ, true, false, List, ◌++◌, reverse, not_from_Decides, Parts}
use Rattle.fak_model.proofs.QueueJudging.{is_legal_past, queue_decided}
use Rattle.fak_model.proofs.RoomJudging.{is_room_history, room_decided}
use Rattle.fak_model.proofs.FileJudging.{is_file_history, file_decided}

pub queue_parts : (size : ℕ) (before may may_not : List (Mark ℕ)) → is_legal_past size (reverse (before ++ may)) ≡ true → is_legal_past size (reverse (before ++ may_not)) ≡ false → Parts (IsQueueHistory size) before may may_not
queue_parts size before may may_not is is_not = ((queue_decided size (before ++ may)).0 is, not_from_Decides _ (queue_decided size (before ++ may_not)) is_not)

pub room_parts : (bound : ℕ) (before may may_not : List RoomMark) → is_room_history bound (before ++ may) ≡ true → is_room_history bound (before ++ may_not) ≡ false → Parts (IsRoomHistory bound) before may may_not
room_parts bound before may may_not is is_not = ((room_decided bound (before ++ may)).0 is, not_from_Decides _ (room_decided bound (before ++ may_not)) is_not)

pub file_parts : (k : ℕ) (before may may_not : List FileMark) → is_file_history k (before ++ may) ≡ true → is_file_history k (before ++ may_not) ≡ false → Parts (IsFileHistory k) before may may_not
file_parts k before may may_not is is_not = ((file_decided k (before ++ may)).0 is, not_from_Decides _ (file_decided k (before ++ may_not)) is_not)
