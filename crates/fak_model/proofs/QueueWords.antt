-- The order of words within the calls of a seat: each word has one place in a call.
use Rattle.fak_model.proofs.Common.{Kind, ClaimIn, OverIn, BackIn, NoRoom, Put, Fill, EndIn, ClaimOut, OverOut, BackOut, NoItem, Got, Take, EndOut, Close, Closed, LateIn, Owes, after, IsNext, Stage, Mark, ◌≡◌, ℕ, List, [], ◌∷◌, ◌++◌, refl, subst, Idle, Withdrawing, Claimed, Putting, Filled, WithdrawingOut, ClaimedOut, Getting, Taken}
use Rattle.fak_model.specs.Queue.{Word, word, WholeCall, NotIn, WithdrawnIn, Inserted, NotOut, WithdrawnOut, Deleted, Shut, ClosedIn, WithdrawnLate, words_of_call}
use Rattle.fak_model.proofs.Appending.{owed_comes, call_begins}
use Rattle.fak_model.proofs.Places.{CallsRun}

-- the place in a call that a word needs, and the one that it leads to
abbrev pub needs : Word → ℕ
needs BackIn = 1
needs (Put x) = 2
needs (Fill k) = 3
needs EndIn = 4
needs BackOut = 5
needs (Got x) = 6
needs (Take k) = 7
needs EndOut = 8
needs _ = 0

abbrev pub leads : Word → ℕ
leads OverIn = 1
leads LateIn = 1
leads ClaimIn = 2
leads (Put x) = 3
leads (Fill k) = 4
leads OverOut = 5
leads ClaimOut = 6
leads (Got x) = 7
leads (Take k) = 8
leads _ = 0

-- each call leads from place 0 back to place 0
pub call_runs : CallsRun needs leads words_of_call
call_runs NotIn = ((refl, tt), refl)
call_runs WithdrawnIn = ((refl, (refl, tt)), refl)
call_runs Inserted = ((refl, (refl, (refl, (refl, tt)))), refl)
call_runs NotOut = ((refl, tt), refl)
call_runs WithdrawnOut = ((refl, (refl, tt)), refl)
call_runs Deleted = ((refl, (refl, (refl, (refl, tt)))), refl)
call_runs Shut = ((refl, tt), refl)
call_runs ClosedIn = ((refl, tt), refl)
call_runs WithdrawnLate = ((refl, (refl, tt)), refl)

-- ---- the same for stages

abbrev pub place : {A : Type 0} → Stage A → ℕ
place Idle = 0
place Withdrawing = 1
place Claimed = 2
place (Putting k x) = 3
place (Filled k) = 4
place WithdrawingOut = 5
place ClaimedOut = 6
place (Getting k) = 7
place (Taken k) = 8

pub place_after : {A : Type 0} (h : List (Mark A)) (κ : Kind A) → place (after h κ) ≡ leads (word κ)
place_after h ClaimIn = refl
place_after h _ = refl

pub at_idle : {A : Type 0} (t : Stage A) → 0 ≡ place t → t ≡ Idle
at_idle Idle e = refl
at_idle _ e = absurd cc

pub at_over_in : {A : Type 0} (t : Stage A) → 1 ≡ place t → t ≡ Withdrawing
at_over_in Withdrawing e = refl
at_over_in _ e = absurd cc

pub at_claimed_in : {A : Type 0} (t : Stage A) → 2 ≡ place t → t ≡ Claimed
at_claimed_in Claimed e = refl
at_claimed_in _ e = absurd cc

pub at_filled : {A : Type 0} (t : Stage A) → 4 ≡ place t → (k : ℕ) × (t ≡ Filled k)
at_filled (Filled k) e = (k, refl)
at_filled _ e = absurd cc

pub at_over_out : {A : Type 0} (t : Stage A) → 5 ≡ place t → t ≡ WithdrawingOut
at_over_out WithdrawingOut e = refl
at_over_out _ e = absurd cc

pub at_claimed_out : {A : Type 0} (t : Stage A) → 6 ≡ place t → t ≡ ClaimedOut
at_claimed_out ClaimedOut e = refl
at_claimed_out _ e = absurd cc

pub at_taken : {A : Type 0} (t : Stage A) → 8 ≡ place t → (k : ℕ) × (t ≡ Taken k)
at_taken (Taken k) e = (k, refl)
at_taken _ e = absurd cc

-- what a seat at this stage still owes
abbrev pub owed_in : {A : Type 0} → Stage A → List Word
owed_in Idle = []
owed_in Withdrawing = BackIn ∷ []
owed_in Claimed = Put tt ∷ Fill 0 ∷ EndIn ∷ []
owed_in (Putting k x) = Fill 0 ∷ EndIn ∷ []
owed_in (Filled k) = EndIn ∷ []
owed_in WithdrawingOut = BackOut ∷ []
owed_in ClaimedOut = Got tt ∷ Take 0 ∷ EndOut ∷ []
owed_in (Getting k) = Take 0 ∷ EndOut ∷ []
owed_in (Taken k) = EndOut ∷ []

begins : (ws : List Word) (c : WholeCall) (w : Word) (owed : List Word) → words_of_call c ≡ w ∷ owed → Owes words_of_call ws [] → Owes words_of_call (ws ++ w ∷ []) owed
begins ws c w owed is o = owed_comes words_of_call ws w owed (subst (Owes words_of_call ws) is (call_begins words_of_call ws c o))

-- the next mark of a call removes the first word owed, or begins a call
pub owed_after : {A : Type 0} (h : List (Mark A)) (t : Stage A) (κ : Kind A) (ws : List Word) → IsNext t κ → Owes words_of_call ws (owed_in t) → Owes words_of_call (ws ++ word κ ∷ []) (owed_in (after h κ))
owed_after h t NoRoom ws n o = begins ws NotIn NoRoom [] refl (subst (λ u. Owes words_of_call ws (owed_in u)) n o)
owed_after h t OverIn ws n o = begins ws WithdrawnIn OverIn (BackIn ∷ []) refl (subst (λ u. Owes words_of_call ws (owed_in u)) n o)
owed_after h t ClaimIn ws n o = begins ws Inserted ClaimIn (Put tt ∷ Fill 0 ∷ EndIn ∷ []) refl (subst (λ u. Owes words_of_call ws (owed_in u)) n o)
owed_after h t NoItem ws n o = begins ws NotOut NoItem [] refl (subst (λ u. Owes words_of_call ws (owed_in u)) n o)
owed_after h t OverOut ws n o = begins ws WithdrawnOut OverOut (BackOut ∷ []) refl (subst (λ u. Owes words_of_call ws (owed_in u)) n o)
owed_after h t ClaimOut ws n o = begins ws Deleted ClaimOut (Got tt ∷ Take 0 ∷ EndOut ∷ []) refl (subst (λ u. Owes words_of_call ws (owed_in u)) n o)
owed_after h t Close ws n o = begins ws Shut Close [] refl (subst (λ u. Owes words_of_call ws (owed_in u)) n o)
owed_after h t Closed ws n o = begins ws ClosedIn Closed [] refl (subst (λ u. Owes words_of_call ws (owed_in u)) n o)
owed_after h t LateIn ws n o = begins ws WithdrawnLate LateIn (BackIn ∷ []) refl (subst (λ u. Owes words_of_call ws (owed_in u)) n o)
owed_after h t BackIn ws n o = owed_comes words_of_call ws BackIn [] (subst (λ u. Owes words_of_call ws (owed_in u)) n o)
owed_after h t (Put x) ws n o = owed_comes words_of_call ws (Put tt) (Fill 0 ∷ EndIn ∷ []) (subst (λ u. Owes words_of_call ws (owed_in u)) n o)
owed_after h t (Fill k) ws n o = owed_comes words_of_call ws (Fill 0) (EndIn ∷ []) (subst (λ u. Owes words_of_call ws (owed_in u)) n.1 o)
owed_after h t EndIn ws n o = owed_comes words_of_call ws EndIn [] (subst (λ u. Owes words_of_call ws (owed_in u)) n.1 o)
owed_after h t BackOut ws n o = owed_comes words_of_call ws BackOut [] (subst (λ u. Owes words_of_call ws (owed_in u)) n o)
owed_after h t (Got x) ws n o = owed_comes words_of_call ws (Got tt) (Take 0 ∷ EndOut ∷ []) (subst (λ u. Owes words_of_call ws (owed_in u)) n o)
owed_after h t (Take k) ws n o = owed_comes words_of_call ws (Take 0) (EndOut ∷ []) (subst (λ u. Owes words_of_call ws (owed_in u)) n o)
owed_after h t EndOut ws n o = owed_comes words_of_call ws EndOut [] (subst (λ u. Owes words_of_call ws (owed_in u)) n.1 o)
