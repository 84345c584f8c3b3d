-- What opening a queue with bundles leaves in the handles.
use Rattle.std.specs.Prelude.{◌≡◌, ◌⊎◌, ℕ, ◌+◌, ◌*◌, ◌≤◌, ℤ, pos, List, [], length}
use Rattle.std.specs.Arc.{arc_value}
use Rattle.fak_model.specs.declared.queue.Mark.{Mark}
use Rattle.fak_model.specs.Calls.{SeatInfo, fresh_seats}
use Rattle.fak_model.specs.Limits.{IsInLargeRange}
use Rattle.fak_queue.specs.Bundling.{IsBundleOf}
use Rattle.fak_queue.specs.Queues.{QueueInfo}
use Rattle.fak_queue.specs.Refusals.{IsLargeSize}
use Rattle.fak_handles.specs.Openings.{AreEmpty, AreSeatedBelow, IsFreshQueue}
use Rattle.fak_handles.specs.declared.desk.Desk.{Desk}
use Rattle.fak_handles.specs.declared.desk.Desk.TheVariants.{Queue, Semaphore, Room, Credit, Files, Channel, Bundle}
use Rattle.fak_handles.specs.declared.padded_handle.PaddedHandle.{PaddedHandle}

-- a queue may have this many seats for single calls, and this many bundles of this width
abbrev pub AreNumbersOfSeats : ℕ → ℕ → ℕ → Type 0
AreNumbersOfSeats seats bundles width = (1 ≤ bundles) × (1 ≤ width) × (seats + bundles * width ≤ 1024)

-- the idle bundle of these seats of the queue
abbrev pub IsBundleDesk : QueueInfo → List (SeatInfo (Mark ℕ)) → Desk → Type 0
IsBundleDesk queue seats (Queue d) = ⊥
IsBundleDesk queue seats (Semaphore d) = ⊥
IsBundleDesk queue seats (Room d) = ⊥
IsBundleDesk queue seats (Credit d) = ⊥
IsBundleDesk queue seats (Files d) = ⊥
IsBundleDesk queue seats (Channel d) = ⊥
IsBundleDesk queue seats (Bundle d) = (arc_value d.value.queue ≡ queue) × (d.value.bundle.object ≡ queue.object) × (d.value.held.items ≡ []) × IsBundleOf queue.size seats d.value.bundle

-- the bundle with this index: from `first` on, each bundle has the next seats, as many as it is wide
abbrev pub IsFreshBundle : QueueInfo → ℕ → ℕ → ℕ → ℕ → Desk → Type 0
IsFreshBundle queue stint first width index desk = IsBundleDesk queue (fresh_seats queue.object stint (first + index * width) width) desk

-- the handles of both arrays have seats of one queue
pub record IsOpenedWithBundles (size stint width : ℕ) (seats bundles : List PaddedHandle) : Type 0 where
  pub queue : QueueInfo
  pub size_is : queue.size ≡ size
  pub seats_are : queue.object.seats ≡ length seats + length bundles * width
  pub seated : AreSeatedBelow (IsFreshQueue queue stint) (length seats) seats
  pub bundled : AreSeatedBelow (IsFreshBundle queue stint (length seats) width) (length bundles) bundles

-- the object was opened, or a number is out of range, or there was no memory; a failed call leaves all handles empty
abbrev pub OpensBundles : ℤ → ℕ → ℕ → ℕ → List PaddedHandle → List PaddedHandle → Type 0
OpensBundles code size stint width seats bundles =
    ((code ≡ pos 0) × IsInLargeRange (IsLargeSize size) (length seats + length bundles * width) stint × IsOpenedWithBundles size stint width seats bundles)
    ⊎ ((code ≡ pos 8) × ¬ IsInLargeRange (IsLargeSize size) (length seats + length bundles * width) stint × AreEmpty seats × AreEmpty bundles)
    ⊎ ((code ≡ pos 9) × IsInLargeRange (IsLargeSize size) (length seats + length bundles * width) stint × AreEmpty seats × AreEmpty bundles)

-- a queue may have these seats, and the call opens them or returns why not; or it may not, and the call keeps the handles
abbrev pub OpensOrKeepsBundles : ℤ → ℕ → List PaddedHandle → List PaddedHandle → List PaddedHandle → List PaddedHandle → Type 0 → Type 0
OpensOrKeepsBundles code width seats seats' bundles bundles' IsAnswered =
    (AreNumbersOfSeats (length seats) (length bundles) width → IsAnswered)
    × (¬ AreNumbersOfSeats (length seats) (length bundles) width → (code ≡ pos 8) × (seats' ≡ seats) × (bundles' ≡ bundles))
