-- What a bundle keeps, and what contracts see of it.
use Rattle.fak_queue.specs.declared.bundle.BundleState.{BundleState}
use Rattle.fak_queue.specs.declared.bundle.BundleState.TheVariants.{Idle, Inserting, Deleting}
use Rattle.fak_queue.specs.BundleCalls.{BundleInfo, IsBundleState, IsQueueBundle, StandsAs, queue_bundle}
use Rattle.fak_queue.proofs.Common.{AreIdle, Mark, ObjectId, QueueHolder, TableId, object_id, ◌≡◌, ℕ, List, subst}

stands_so : {T : Type 0} (o : ObjectId) (names : List ℕ) (left : ℕ) (kept : List T) (me : QueueHolder T) (s t : BundleState) → StandsAs t names kept me → IsBundleState (queue_bundle o names left s me) t
stands_so o names left kept me s Idle r = r.ended
stands_so o names left kept me s (Inserting k ended granted) a = record { some = a.some; most = a.stands.order.2; drew = a.drew; done = a.done }
stands_so o names left kept me s (Deleting k ended granted) a = record { some = a.some; most = a.stands.order.2; drew = a.drew; done = a.done }

module _ {T : Type 0} {size seats capacity left : ℕ} {names : List ℕ} {kept : List T} {state : BundleState} {me : QueueHolder T} {table : TableId} {bundle : BundleInfo (Mark T)}
    (f : IsQueueBundle size seats names capacity kept state left me) (bundle_is : queue_bundle (object_id table seats) names left state me ≡ bundle) where
  -- the calls of an idle bundle's seats are whole
  pub bundle_idle : state ≡ Idle → AreIdle bundle.names bundle.seen
  bundle_idle e = subst (λ (b : BundleInfo (Mark T)). AreIdle b.names b.seen) bundle_is (subst (λ s. StandsAs s names kept me) e f.stands).ended

  -- its open calls have drawn the tickets that its state names
  pub bundle_state : IsBundleState bundle state
  bundle_state = subst (λ (b : BundleInfo (Mark T)). IsBundleState b state) bundle_is (stands_so (object_id table seats) names left kept me state state f.stands)
