use Rattle.fak_model.proofs.RoomRefusals.{refused_at_bound, granted_fit}
use Rattle.fak_model.proofs.laws.room.a_room_refuses_at_its_bound.Goals as goal

pub returns-clause-refused : goal.returns-clause-refused
returns-clause-refused c = refused_at_bound

pub returns-clause-granted : goal.returns-clause-granted
returns-clause-granted c = granted_fit
