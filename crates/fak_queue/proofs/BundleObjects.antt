-- From a bundle's token and its queue's to what contracts see of both.
use Rattle.fak_queue.specs.declared.bundle.BundleState.{BundleState}
use Rattle.fak_queue.specs.declared.bundle.BundleState.TheVariants.{Idle, Inserting, Deleting}
use Rattle.fak_queue.specs.Bundles.{IsLawful}
use Rattle.fak_queue.specs.BundleCalls.{BundleInfo, queue_bundle, StandsAs, AllRest, AreInserting, AreDeleting, IsQueueBundle}
use Rattle.fak_queue.proofs.Common.{QueueLimits, QueueHolder, QueueInfo, queue_info, IsQueue, ObjectId, object_id, TableId, Mark, ◌≡◌, ℕ, ◌≤◌, List, [], length, ap, sym, ◌∙◌, subst}

-- a state names one ticket and how far its burst got
pub one_insertion : {a b c x y z : ℕ} → Inserting a b c ≡ Inserting x y z → (a ≡ x) × (b ≡ y) × (c ≡ z)
one_insertion e = (cc, cc, cc)

pub one_deletion : {a b c x y z : ℕ} → Deleting a b c ≡ Deleting x y z → (a ≡ x) × (b ≡ y) × (c ≡ z)
one_deletion e = (cc, cc, cc)

module _ {T : Type 0} (key : QueueLimits) {size seats capacity left : ℕ} {names : List ℕ} {kept : List T} {state : BundleState} {table mine : TableId} {m : QueueHolder T} {old : BundleInfo (Mark T)} {queue : QueueInfo}
    (f : IsQueueBundle mine.slots seats names capacity kept state left m) (q : IsQueue size table) (bundle_is : queue_bundle (object_id mine seats) names left state m ≡ old) (queue_is : queue_info (object_id table key.seats) ≡ queue) (fits : old.object ≡ queue.object) where
  same_object : object_id mine seats ≡ object_id table key.seats
  same_object = ap (λ (b : BundleInfo (Mark T)). b.object) bundle_is ∙ (fits ∙ sym (ap (λ (c : QueueInfo). c.object) queue_is))

  pub same_table : mine ≡ table
  same_table = ap (λ (o : ObjectId). o.table) same_object

  pub same_seats : seats ≡ key.seats
  same_seats = ap (λ (o : ObjectId). o.seats) same_object

  pub state_now : old.state ≡ state
  state_now = sym (ap (λ (b : BundleInfo (Mark T)). b.state) bundle_is)

  pub lawful_here : IsLawful table.slots key.seats m.0
  lawful_here = subst (λ (o : ObjectId). IsLawful o.table.slots o.seats m.0) same_object f.lawful

  pub rests_now : old.state ≡ Idle → AllRest names kept m
  rests_now e = subst (λ s. StandsAs s names kept m) (sym state_now ∙ e) f.stands

  pub inserts_now : {k e g : ℕ} → state ≡ Inserting k e g → AreInserting names k e g kept m
  inserts_now is = subst (λ s. StandsAs s names kept m) is f.stands

  pub deletes_now : {k e g : ℕ} → state ≡ Deleting k e g → AreDeleting names k e g kept m
  deletes_now is = subst (λ s. StandsAs s names kept m) is f.stands

  module _ {now : TableId} (stays : now ≡ mine) (left' : ℕ) (state' : BundleState) (after : QueueHolder T) where
    -- what holds of the bundle over its own table holds of what contracts see
    pub called : (R : ℕ → BundleInfo (Mark T) → BundleInfo (Mark T) → Type 0) → R table.slots (queue_bundle (object_id table key.seats) names left state m) (queue_bundle (object_id table key.seats) names left' state' after)
        → R queue.size old (queue_bundle (object_id now seats) names left' state' after)
    called R holds =
        let size_is : table.slots ≡ queue.size = ap (λ (i : QueueInfo). i.size) queue_is in
        let there : object_id table key.seats ≡ object_id now seats = sym same_object ∙ ap (λ (t : TableId). object_id t seats) (sym stays) in
        let was : queue_bundle (object_id table key.seats) names left state m ≡ old = ap (λ (o : ObjectId). queue_bundle o names left state m) (sym same_object) ∙ bundle_is in
        subst (λ (z : ℕ × BundleInfo (Mark T) × ObjectId). R z.0 z.1 (queue_bundle z.2 names left' state' after)) (λ i. (size_is i, was i, there i)) holds

    -- what the bundle keeps then
    pub keeps : (capacity' : ℕ) (kept' : List T) → after.0.names ≡ names → after.0.left ≡ left' → after.1 ≡ [] → IsLawful table.slots key.seats after.0 → capacity' ≡ capacity → StandsAs state' names kept' after → IsQueueBundle now.slots seats names capacity' kept' state' left' after
    keeps capacity' kept' names_are left_is slots law room stands = record {
      names_are = names_are;
      apart = f.apart;
      below = f.below;
      some = f.some;
      few = f.few;
      few_seats = f.few_seats;
      left_is = left_is;
      slots = slots;
      lawful = subst (λ (o : ObjectId). IsLawful o.table.slots o.seats after.0) (sym same_object ∙ ap (λ (t : TableId). object_id t seats) (sym stays)) law;
      room = subst (λ (r : ℕ). length names ≤ r) (sym room) f.room;
      stands = stands;
    }
