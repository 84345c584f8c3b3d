-- What calls add to the sums of a seat, and what the seats of a whole tally add up to, however many they are.
use Rattle.fak_queue.proofs.Common.{length-map, ◌≡◌, ℕ, Bool, List, [], ◌∷◌, length, length-append, ap, sym, ◌∙◌, subst, arith, sum_by, sum_by-cons, contents, IsQueueHistory, IsWhole, mine, ObjectId, SeatInfo, TallyInfo, put_of, got_of, Kind, Mark, ShutsAs, Inserts, Deletes, seat_of, RefusesDeletion, kinds_not_in, kinds_not_out, InsertsAfterFull, DeletesAfterEmpty, DeleteFault}
use Rattle.fak_model.proofs.QueueWeights.{queue_weighs}
use Rattle.std.proofs.lemmas.List.Sums.{sum_by-append}
use Rattle.fak_queue.specs.BundleCalls.{seat_in}
use Rattle.fak_queue.specs.Sums.{Adds, AreJoined, joined_bundle_first, joined_bundle_next, joined_first, joined_next, seats_in, Balances}
use Rattle.fak_queue.proofs.AfterRefusals.{at_once}
use Rattle.fak_queue.proofs.Weighing.{Weighs, weight_of, weight_in, insertion_weighs, deletion_weighs, refused_delete_weighs, shut_weighs, one_weighs, join_weighs, first_weighs, join_bundle_weighs, whole_weighs}
use Rattle.fak_queue.proofs.NameLists.{StandOnce, whole_once, front_once, last_is_new}

-- ---- calls

module _ {A : Type 0} (w : A → ℕ) {old new : SeatInfo (Mark A)} where
  adds : {put got : (A → ℕ) → ℕ} → Weighs put got old new → Adds w (put w) (got w) old new
  adds s = record { put_is = s.put_is w; got_is = s.got_is w }

  -- a granted insertion adds its item to what was put in
  pub inserted : {size k : ℕ} {x : A} → Inserts size k x old new → Adds w (w x) 0 old new
  inserted i = adds (insertion_weighs (at_once kinds_not_in i.makes))

  -- so does one that waited
  pub inserted_at_last : {size k : ℕ} {x : A} → InsertsAfterFull size k x old new → Adds w (w x) 0 old new
  inserted_at_last i = adds (insertion_weighs i.tries)

  -- a granted deletion adds its item to what was got out
  pub deleted : {size k : ℕ} {x : A} → Deletes size k x old new → Adds w 0 (w x) old new
  deleted d = adds (deletion_weighs (at_once kinds_not_out d.makes))

  -- so does one that waited
  pub deleted_at_last : {size k : ℕ} {x : A} → DeletesAfterEmpty size k x old new → Adds w 0 (w x) old new
  deleted_at_last d = adds (deletion_weighs d.tries)

  -- a refused deletion adds nothing
  pub refused : (size : ℕ) (fault : DeleteFault) → RefusesDeletion size old new fault → Adds w 0 0 old new
  refused size fault r = adds (refused_delete_weighs size fault r)

  -- nor does a shut
  pub shut : (size : ℕ) (first : Bool) → ShutsAs size first old new → Adds w 0 0 old new
  shut size first s = adds (shut_weighs size first s)

-- ---- tallies

-- a tally that is whole is so over the queue that it belongs to, as `close` asks
pub whole_over : {A : Type 0} (t : TallyInfo (Mark A)) {object : ObjectId} → t.object ≡ object → IsWhole t.object.seats t.names → IsWhole object.seats t.names
whole_over t same whole = subst (λ (o : ObjectId). IsWhole o.seats t.names) same whole

module _ {A : Type 0} {size : ℕ} where
  -- a tally has a name for each seat
  as_many_names : {seats : List (SeatInfo (Mark A))} {t : TallyInfo (Mark A)} → AreJoined size seats t → length t.names ≡ length seats
  as_many_names (joined_first s is) = ap (λ (t : TallyInfo (Mark A)). length t.names) is
  as_many_names (joined_next {s = s} {t = t} joined j) = omega (arith, ap length j.names, length-append t.names (s.name ∷ []), as_many_names joined)
  as_many_names (joined_bundle_first b is) = ap (λ (t : TallyInfo (Mark A)). length t.names) is ∙ sym (length-map b.names (seat_in b))
  as_many_names (joined_bundle_next {seats = seats} b {t = t} joined j) =
      omega (arith, ap length j.names, length-append t.names b.names, as_many_names joined, length-append (seats_in b) seats, length-map b.names (seat_in b))

  -- a tally weighs what its seats weigh
  joined_weigh : (v : Kind A → ℕ) {seats : List (SeatInfo (Mark A))} {t : TallyInfo (Mark A)} → AreJoined size seats t → StandOnce t.names → weight_in v t ≡ sum_by (weight_of v) seats
  joined_weigh v (joined_first s is) once = omega (arith, one_weighs v s is, sum_by-cons (weight_of v) s [])
  joined_weigh v (joined_next {seats = seats} {s = s} {t = t} joined j) once =
      let names = subst StandOnce j.names once in
      omega (arith, join_weighs v j (last_is_new t.names s.name names), joined_weigh v joined (front_once t.names (s.name ∷ []) names), sum_by-cons (weight_of v) s seats)
  joined_weigh v (joined_bundle_first b is) once = first_weighs v b is (subst StandOnce (ap (λ (t : TallyInfo (Mark A)). t.names) is) once)
  joined_weigh v (joined_bundle_next {seats = seats} b {t = t} joined j) once =
      let names = subst StandOnce j.names once in
      omega (arith, join_bundle_weighs v b j names, joined_weigh v joined (front_once t.names b.names names), sum_by-append (weight_of v) (seats_in b) seats)

  -- all seats of a queue, however many: what they put in they got out, or it is left
  pub seats_balance : (w : A → ℕ) {seats : List (SeatInfo (Mark A))} {t : TallyInfo (Mark A)} {object : ObjectId} {left : List A} → AreJoined size seats t → t.object ≡ object → object.seats ≡ length seats
      → IsWhole t.object.seats t.names → mine seat_of t.names t.seen ≡ t.seen → IsQueueHistory size t.seen → left ≡ contents t.seen → Balances w seats left
  seats_balance w {t = t} joined same all whole own lawful left =
      let once = whole_once t.names whole (omega (arith, ap (λ (o : ObjectId). o.seats) same, all, as_many_names joined)) in
      omega (arith, joined_weigh (put_of w) joined once, joined_weigh (got_of w) joined once, whole_weighs w t own (queue_weighs size w t.seen lawful), ap (sum_by w) left)
