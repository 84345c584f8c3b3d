-- A refused burst, over the bundle's own object.
use Rattle.std.specs.Prelude.{min}
use Rattle.std.proofs.lemmas.List.{append-nil}
use Rattle.fak_model.specs.declared.queue.Kind.TheVariants as made
use Rattle.fak_model.specs.Queue.{WithdrawnIn, NotIn, ClosedIn, WithdrawnLate, NotOut, WithdrawnOut, WholeCall}
use Rattle.fak_queue.specs.declared.bundle.BundleState.{BundleState}
use Rattle.fak_queue.specs.declared.found.NoRoom.{NoRoom}
use Rattle.fak_queue.specs.declared.found.NoRoom.TheVariants.{Full, Shut}
use Rattle.fak_queue.specs.declared.fault.BurstFault.{BurstFault}
use Rattle.fak_queue.specs.declared.fault.DeleteFault.TheVariants.{Empty}
use Rattle.fak_queue.specs.Bundles.{IsLawful, AllMade, RefusesOn, RefusesOutOn}
use Rattle.fak_queue.specs.BundleCalls.{queue_bundle, tickets_of_all, drawn_by_all, AllRest}
use Rattle.fak_queue.specs.BurstCalls.{RefusesEach, RefusesBurst, RefusesBurstOut}
use Rattle.fak_queue.specs.Parts.{burst_fault_of}
use Rattle.fak_queue.proofs.BundleLists.{number_of}
use Rattle.fak_queue.proofs.BundleWords.{ended_then, owed_still, said_by, tickets_made}
use Rattle.fak_queue.proofs.BundleCalls.{asked, goes_on, no_tickets}
use Rattle.fak_queue.proofs.Common.{ObjectId, QueueHolder, Kind, seat_of, marks_of, made_by, tickets_in, words_of_call, ◌≡◌, ⊎_elim, ℕ, ◌+◌, ◌<◌, ℤ, List, [], ◌∷◌, length, reverse, refl, sym, ap, ◌∙◌, subst, inl, inr, arith, le_or_lt}

-- the bundle rests as before
pub record Stays {T : Type 0} (size seats : ℕ) (names : List ℕ) (kept : List T) (m after : QueueHolder T) : Type 0 where
  pub names_are : after.0.names ≡ m.0.names
  pub left : after.0.left ≡ m.0.left
  pub slots : after.1 ≡ m.1
  pub lawful : IsLawful size seats after.0
  pub tickets : tickets_of_all names (reverse after.0.seen) ≡ tickets_of_all names (reverse m.0.seen)
  pub rests : AllRest names kept after

module _ {T : Type 0} {size : ℕ} (o : ObjectId) (names : List ℕ) (d left : ℕ) (kinds : List (Kind T)) (m after : QueueHolder T) (c : AllMade size o.seats names d kinds m after) where
  stays : {kept : List T} (call : WholeCall) → ((n : ℕ) → said_by n kinds ≡ words_of_call call) → ((n : ℕ) → tickets_in (made_by n kinds) ≡ 0) → AllRest names kept m → Stays size o.seats names kept m after
  stays call whole none r = record {
    names_are = c.names_are;
    left = c.left;
    slots = c.slots;
    lawful = c.lawful;
    tickets = no_tickets names m after (λ i n e. elim (le_or_lt d i) [
      | inl high ↦ (let t = tickets_made n (reverse m.0.seen) (reverse after.0.seen) [] (c.others i n e high) in omega (arith, t))
      | inr low ↦ (let t = tickets_made n (reverse m.0.seen) (reverse after.0.seen) kinds (c.each i n e low) in let z = none n in omega (arith, t, z))
    ]);
    rests = record {
      phase = c.phase;
      none = r.none;
      ended = λ n i.
          let w = number_of names n i in
          elim (le_or_lt d w.0) [
            | inl high ↦ owed_still n (reverse m.0.seen) (reverse after.0.seen) [] (c.others w.0 n w.1 high ∙ append-nil (marks_of seat_of n (reverse m.0.seen))) (r.ended n i)
            | inr low ↦ ended_then call n (reverse m.0.seen) (reverse after.0.seen) kinds (whole n) (c.each w.0 n w.1 low) (r.ended n i)
          ];
    };
  }

  refuses_each : (asked : ℕ) → asked ≡ d → (s : BundleState) → tickets_of_all names (reverse after.0.seen) ≡ tickets_of_all names (reverse m.0.seen) → RefusesEach size asked kinds (queue_bundle o names left s m) (queue_bundle o names left s after)
  refuses_each asked is s same = record {
    goes_on = goes_on o names left left s s m after (ap (λ z. left + z) same) c.begins c.lawful;
    each = λ i n e low. c.each i n e (omega (arith, low, is));
    others = λ i n e high. c.others i n e (omega (arith, high, is));
    last = λ i n e last. c.last i n e (last ∙ is);
  }

-- a bundle with tickets left
within : {T : Type 0} (o : ObjectId) (names : List ℕ) (left : ℕ) (s : BundleState) (m : QueueHolder T) → 0 < left → drawn_by_all (queue_bundle o names left s m) < left + tickets_of_all names (reverse m.0.seen)
within o names left s m some = omega (arith, some)

module _ {T : Type 0} (size : ℕ) (o : ObjectId) (names : List ℕ) (most d left : ℕ) {kept : List T} (m after : QueueHolder T) (r : AllRest names kept m) where
  pub refused_stays : (why : NoRoom) → RefusesOn size o.seats names d why m after → Stays size o.seats names kept m after
  refused_stays (Full u) c = ⊎_elim (λ a. stays o names d left (made.NoRoom ∷ []) m after a NotIn (λ n. refl) (λ n. refl) r) (λ a. stays o names d left (made.OverIn ∷ made.BackIn ∷ []) m after a WithdrawnIn (λ n. refl) (λ n. refl) r) c.0
  refused_stays Shut c = ⊎_elim (λ a. stays o names d left (made.Closed ∷ []) m after a ClosedIn (λ n. refl) (λ n. refl) r) (λ a. stays o names d left (made.LateIn ∷ made.BackIn ∷ []) m after a WithdrawnLate (λ n. refl) (λ n. refl) r) c

  pub refused_out_stays : (l : ℤ) → RefusesOutOn size o.seats names d l m after → Stays size o.seats names kept m after
  refused_out_stays l c = ⊎_elim (λ a. stays o names d left (made.NoItem ∷ []) m after a NotOut (λ n. refl) (λ n. refl) r) (λ a. stays o names d left (made.OverOut ∷ made.BackOut ∷ []) m after a WithdrawnOut (λ n. refl) (λ n. refl) r) c.0

  module _ (s : BundleState) (some : 0 < left) (d_is : d ≡ min most (min (length names) left)) where
    refuses_for : (why : NoRoom) → RefusesOn size o.seats names d why m after → RefusesBurst size most (queue_bundle o names left s m) (queue_bundle o names left s after) (burst_fault_of why)
    refuses_for (Full u) c = (
      within o names left s m some,
      record {
        makes = let t = (refused_stays (Full u) c).tickets in ⊎_elim (λ a. inl (refuses_each o names d left (made.NoRoom ∷ []) m after a _ (asked o names most d left s m d_is) s t)) (λ a. inr (refuses_each o names d left (made.OverIn ∷ made.BackIn ∷ []) m after a _ (asked o names most d left s m d_is) s t)) c.0;
        upper_is = c.1;
      },
    )
    refuses_for Shut c = (within o names left s m some, (let t = (refused_stays Shut c).tickets in ⊎_elim (λ a. inl (refuses_each o names d left (made.Closed ∷ []) m after a _ (asked o names most d left s m d_is) s t)) (λ a. inr (refuses_each o names d left (made.LateIn ∷ made.BackIn ∷ []) m after a _ (asked o names most d left s m d_is) s t)) c))

    pub refuses_burst : (why : NoRoom) → RefusesOn size o.seats names d why m after → (fault : BurstFault) → fault ≡ burst_fault_of why → RefusesBurst size most (queue_bundle o names left s m) (queue_bundle o names left s after) fault
    refuses_burst why c fault is = subst (λ z. RefusesBurst size most (queue_bundle o names left s m) (queue_bundle o names left s after) z) (sym is) (refuses_for why c)

    pub refuses_burst_out : (l : ℤ) → RefusesOutOn size o.seats names d l m after → RefusesBurstOut size most (queue_bundle o names left s m) (queue_bundle o names left s after) (Empty l)
    refuses_burst_out l c = (
      within o names left s m some,
      record {
        makes = let t = (refused_out_stays l c).tickets in ⊎_elim (λ a. inl (refuses_each o names d left (made.NoItem ∷ []) m after a _ (asked o names most d left s m d_is) s t)) (λ a. inr (refuses_each o names d left (made.OverOut ∷ made.BackOut ∷ []) m after a _ (asked o names most d left s m d_is) s t)) c.0;
        lower_is = c.1;
      },
    )
