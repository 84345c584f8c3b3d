-- What a seat knows of its own account after a step on the bits, and after a part of a call.
use Rattle.fak_model.specs.declared.note.Note.{Note}
use Rattle.fak_model.specs.declared.note.NoteKind.{NoteKind}
use Rattle.fak_model.specs.Seats.{In}
use Rattle.fak_model.specs.Views.{with_note}
use Rattle.fak_channel_core.specs.SleeperMoves.{Account, Marks, after_deed, after_note, free_account}
use Rattle.fak_queue.specs.Accounts.{account_of, after_kinds, kinds_by, AreWithin}
use Rattle.fak_queue.specs.BitSteps.{Notes, note_by}
use Rattle.fak_queue.specs.SeatAccounts.{HasAccount, KnowsAccount}
use Rattle.fak_queue.proofs.Accounts.{account_marked, account_marks, account_noted, kinds_after, kinds_foreign, kinds_own, within_all, within_more}
use Rattle.fak_queue.proofs.PartSteps.{names_kept, noted_kept, seen_is}
use Rattle.fak_queue.proofs.Common.{QueueHolder, queue_object, Leaves, IsPart, mark, ◌≡◌, ℕ, List, [], ◌∷◌, ◌++◌, length, refl, sym, ap, ◌∙◌, subst, inl, arith, reverse, reverse-reverse, Option, Some, Kind, Mark, Phase, ObjectId}

-- a new seat has noted nothing, and owes nothing
pub knows_new : {T : Type 0} (seats n : ℕ) (m : QueueHolder T) → m.0.noted ≡ Some [] → m.0.seen ≡ [] → KnowsAccount seats n free_account m
knows_new {T} seats n m none new = record { notes = []; known = none; within = tt; account = ap (λ (h : List (Mark T)). account_of seats [] (kinds_by n h)) new }

first_same : {a b : ℕ} → a ∷ [] ≡ b ∷ [] → a ≡ b
first_same e = cc

-- what it knows is what a step on the bits asks for
pub has_account : {T : Type 0} {seats n : ℕ} {g : Account} {m : QueueHolder T} → KnowsAccount seats n g m → m.0.names ≡ n ∷ [] → (is : Account → Type 0) → is g → HasAccount seats is m
has_account {T} {seats} {n} {g} {m} K one is holds = record {
  notes = K.notes;
  known = K.known;
  account = λ k other. subst (λ j. is (account_of seats K.notes (kinds_by j m.0.seen))) (first_same (sym one ∙ other)) (subst is (sym K.account) holds);
}

module _ {T : Type 0} {size all n : ℕ} {m after : QueueHolder T} (one : m.0.names ≡ n ∷ []) where
  kinds_past : {new : List (Mark T)} {p : Phase T} {left : ℕ} {carried : List (ℕ × Option T)} {tells : List (Mark T) → Type 0} (l : Leaves (queue_object size all) m new p left carried tells after) → kinds_by n l.past ≡ kinds_by n m.0.seen
  kinds_past l = ap (kinds_by n) l.sees.is ∙ kinds_foreign n m.0.names l.sees.between m.0.seen (subst (In n) (sym one) (inl refl)) l.sees.foreign

  -- a step that leaves no mark and no note
  pub knows_still : {seats : ℕ} {g : Account} {p : Phase T} {left : ℕ} {carried : List (ℕ × Option T)} {tells : List (Mark T) → Type 0} → KnowsAccount seats n g m → Leaves (queue_object size all) m [] p left carried tells after → KnowsAccount seats n g after
  knows_still {seats} K l =
      let same : kinds_by n after.0.seen ≡ kinds_by n m.0.seen = ap (kinds_by n) (seen_is l) ∙ kinds_past l in
      record {
        notes = K.notes;
        known = noted_kept l ∙ K.known;
        within = subst (λ kinds. AreWithin K.notes (length kinds)) (sym same) K.within;
        account = ap (account_of seats K.notes) same ∙ K.account;
      }

  -- a step that leaves a mark
  pub knows_mark : {seats : ℕ} {g : Account} {κ : Kind T} {p : Phase T} {left : ℕ} {carried : List (ℕ × Option T)} {tells : List (Mark T) → Type 0} → KnowsAccount seats n g m → Leaves (queue_object size all) m (mark n κ ∷ []) p left carried tells after
      → KnowsAccount seats n (after_deed seats (Marks κ) g) after
  knows_mark {seats} {g} {κ} K l =
      let same : kinds_by n after.0.seen ≡ κ ∷ kinds_by n m.0.seen = ap (kinds_by n) (seen_is l) ∙ (kinds_own n κ l.past ∙ ap (λ kinds. κ ∷ kinds) (kinds_past l)) in
      record {
        notes = K.notes;
        known = noted_kept l ∙ K.known;
        within = subst (λ kinds. AreWithin K.notes (length kinds)) (sym same) (within_more K.notes (length (kinds_by n m.0.seen)) K.within);
        account = ap (account_of seats K.notes) same ∙ (account_marked seats K.notes κ (kinds_by n m.0.seen) K.within ∙ ap (after_deed seats (Marks κ)) K.account);
      }

-- a step on the bits that adds a note
knows_noted : {T : Type 0} {size all seats n : ℕ} {m after : QueueHolder T} (k : NoteKind) (tells : List (Mark T) → Type 0) → m.0.names ≡ n ∷ [] → (notes : List Note) → m.0.noted ≡ Some notes → Notes size all n k tells m after
    → KnowsAccount seats n (after_note seats k (account_of seats notes (kinds_by n m.0.seen))) after
knows_noted {T} {size} {all} {seats} {n} {m} {after} k tells one notes known l =
    let bears : In n m.0.names = subst (In n) (sym one) (inl refl) in
    let same : kinds_by n after.0.seen ≡ kinds_by n m.0.seen = ap (kinds_by n) (seen_is l) ∙ (ap (kinds_by n) l.sees.is ∙ kinds_foreign n m.0.names l.sees.between m.0.seen bears l.sees.foreign) in
    record {
      notes = note_by n k m ∷ notes;
      known = noted_kept l ∙ ap (with_note (note_by n k m)) known;
      within = (let long = ap length same in omega (arith, long));
      account = ap (account_of seats (note_by n k m ∷ notes)) same ∙ account_noted seats k notes (kinds_by n m.0.seen);
    }

pub knows_note : {T : Type 0} {size all seats n : ℕ} {g : Account} {m after : QueueHolder T} (k : NoteKind) (tells : List (Mark T) → Type 0) → m.0.names ≡ n ∷ [] → KnowsAccount seats n g m → Notes size all n k tells m after
    → KnowsAccount seats n (after_note seats k g) after
knows_note {T} {seats = seats} {n = n} {after = after} k tells one K l = subst (λ a. KnowsAccount seats n (after_note seats k a) after) K.account (knows_noted k tells one K.notes K.known l)

-- the same of what a step asks for
module _ {T : Type 0} {size all seats n : ℕ} {m after : QueueHolder T} (one : m.0.names ≡ n ∷ []) (is : Account → Type 0) (A : HasAccount seats is m) where
  -- after a step on the bits that adds a note
  pub has_note : (k : NoteKind) (tells : List (Mark T) → Type 0) → Notes size all n k tells m after → (then : Account → Type 0) → ((g : Account) → is g → then (after_note seats k g)) → HasAccount seats then after
  has_note k tells l then goes =
      let K : KnowsAccount seats n (after_note seats k (account_of seats A.notes (kinds_by n m.0.seen))) after =
      knows_noted k tells one A.notes A.known l in
      has_account K (names_kept l ∙ one) then (goes (account_of seats A.notes (kinds_by n m.0.seen)) (A.account n one))

  -- after one that leaves no mark and no note
  pub has_still : {p : Phase T} {left : ℕ} {carried : List (ℕ × Option T)} {tells : List (Mark T) → Type 0} → Leaves (queue_object size all) m [] p left carried tells after → HasAccount seats is after
  has_still l = record {
    notes = A.notes;
    known = noted_kept l ∙ A.known;
    account = λ k other.
        let same : n ≡ k = first_same (sym one ∙ (sym (names_kept l) ∙ other)) in
        subst (λ j. is (account_of seats A.notes (kinds_by j after.0.seen))) same
        (subst (λ kinds. is (account_of seats A.notes kinds)) (sym (ap (kinds_by n) (seen_is l) ∙ kinds_past one l)) (A.account n one));
  }

-- a part of a call on the queue
pub knows_part : {T : Type 0} {size all seats n left : ℕ} {g : Account} {kinds : List (Kind T)} {p : Phase T} {tells : List (Mark T) → List (Mark T) → Type 0} {m after : QueueHolder T} (object : ObjectId) → object.seats ≡ all → KnowsAccount seats n g m
    → IsPart size all n kinds p left tells m after → KnowsAccount seats n (after_kinds seats (reverse kinds) g) after
knows_part {T} {size} {all} {seats} {n} {left} {g} {kinds} {p} {tells} {m} {after} object few K part =
    let back : (h : List (Mark T)) → kinds_by n (reverse (reverse h)) ≡ kinds_by n h = λ h. ap (kinds_by n) (reverse-reverse h) in
    let made = kinds_after size kinds _ _ (part.appends object 0 few) in
    let same : kinds_by n after.0.seen ≡ reverse kinds ++ kinds_by n m.0.seen = sym (back after.0.seen) ∙ (made ∙ ap (λ l. reverse kinds ++ l) (back m.0.seen)) in
    record {
      notes = K.notes;
      known = ap (λ (z : QueueHolder T). z.0.noted) part.after_is ∙ K.known;
      within = subst (λ l. AreWithin K.notes (length l)) (sym same) (within_all K.notes (reverse kinds) (kinds_by n m.0.seen) K.within);
      account = ap (account_of seats K.notes) same ∙ (account_marks seats K.notes (reverse kinds) (kinds_by n m.0.seen) K.within ∙ ap (after_kinds seats (reverse kinds)) K.account);
    }
