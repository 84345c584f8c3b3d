-- What calls do to the contents of a queue that has one seat.
use Rattle.std.specs.Prelude.{◌+◌, ◌≡◌, ◌||◌, Bool, true, false, List, [], ◌∷◌, ◌++◌, length}
use Rattle.fak_model.specs.declared.queue.Kind.{Kind}
use Rattle.fak_model.specs.declared.queue.Kind.TheVariants.{Close}
use Rattle.fak_model.specs.declared.queue.Mark.{Mark}
use Rattle.fak_model.specs.Queue.{count, lower_raise, lower_drop, contents}
use Rattle.fak_model.specs.Calls.{SeatInfo}
use Rattle.fak_run.specs.Only.{IsOnly}

abbrev pub is_close : {T : Type 0} → Kind T → Bool
is_close Close = true
is_close _ = false

-- whether the queue was shut
abbrev pub has_close : {T : Type 0} → List (Mark T) → Bool
has_close [] = false
has_close (m ∷ h) = is_close m.kind || has_close h

-- the queue's only seat, between two calls: the lower count is the length of the contents
pub record IsOnlySeat {T : Type 0} (seat : SeatInfo (Mark T)) : Type 0 where
  pub only : IsOnly (λ (m : Mark T). m.seat) seat
  pub rest : count lower_raise seat.seen ≡ count lower_drop seat.seen + length (contents seat.seen)

-- the contents and whether the queue is shut stay
pub record Keeps {T : Type 0} (old new : SeatInfo (Mark T)) : Type 0 where
  pub only : IsOnlySeat new
  pub items : contents new.seen ≡ contents old.seen
  pub shut : has_close new.seen ≡ has_close old.seen

-- x is put after the others, in a queue that isn't shut
pub record Enters {T : Type 0} (x : T) (old new : SeatInfo (Mark T)) : Type 0 where
  pub only : IsOnlySeat new
  pub items : contents new.seen ≡ contents old.seen ++ x ∷ []
  pub shut : has_close new.seen ≡ has_close old.seen
  pub unshut : has_close old.seen ≡ false

-- the queue is shut
pub record Bounces {T : Type 0} (old new : SeatInfo (Mark T)) : Type 0 where
  pub keeps : Keeps old new
  pub closed : has_close old.seen ≡ true

-- x was the first
pub record TakesFirst {T : Type 0} (x : T) (old new : SeatInfo (Mark T)) : Type 0 where
  pub only : IsOnlySeat new
  pub items : contents old.seen ≡ x ∷ contents new.seen
  pub shut : has_close new.seen ≡ has_close old.seen

-- nothing was there
pub record FindsNone {T : Type 0} (old new : SeatInfo (Mark T)) : Type 0 where
  pub keeps : Keeps old new
  pub empty : contents old.seen ≡ []

-- the queue is shut from now on
pub record Shuts {T : Type 0} (old new : SeatInfo (Mark T)) : Type 0 where
  pub only : IsOnlySeat new
  pub items : contents new.seen ≡ contents old.seen
  pub closed : has_close new.seen ≡ true
