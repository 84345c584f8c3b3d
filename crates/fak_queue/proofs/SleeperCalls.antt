-- A call on the queue adds marks of the seat, and takes none away.
use Rattle.fak_model.specs.declared.queue.Kind.TheVariants as made
use Rattle.fak_queue.specs.declared.fault.DeleteFault.{DeleteFault}
use Rattle.fak_queue.specs.declared.fault.DeleteFault.TheVariants as deletion
use Rattle.fak_queue.specs.declared.fault.InsertFault.{InsertFault}
use Rattle.fak_queue.specs.declared.fault.InsertFault.TheVariants as insertion
use Rattle.fak_queue.specs.SleeperRest.{marks_by}
use Rattle.std.specs.Prelude.{Result, MatchOption}
use Rattle.fak_queue.proofs.Accounts.{marks_grow}
use Rattle.fak_queue.proofs.Common.{◌≡◌, ℕ, ◌≤◌, List, [], ◌∷◌, Bool, true, false, sym, subst, arith, ⊎_elim, Option, Some, None, Ok, Err, MatchResult, Kind, Mark, SeatInfo, Makes, kinds_in, kinds_out, ClaimsIn, ClaimsOut, Inserts, Deletes, Fills, Takes, WaitsToFill, WaitsToTake, ShutsAs, IsWorn, RefusesInsertion, RefusesDeletion}

module _ {T : Type 0} (size : ℕ) (old new : SeatInfo (Mark T)) where
  grows : (kinds : List (Kind T)) → Makes size kinds old new → marks_by old ≤ marks_by new
  grows kinds makes = marks_grow size kinds old new makes

  worn : IsWorn old new → marks_by old ≤ marks_by new
  worn w = subst (λ (s : SeatInfo (Mark T)). marks_by old ≤ marks_by s) (sym w.unchanged) (let n : ℕ = marks_by old in let l : n ≤ n = omega arith in l)

  refused_in : (x : T) (fault : InsertFault T) → RefusesInsertion size x old new fault → marks_by old ≤ marks_by new
  refused_in x (insertion.Worn y) r = worn r.1
  refused_in x (insertion.Closed y) r = ⊎_elim (λ a. grows (made.Closed ∷ []) a) (λ b. grows (made.LateIn ∷ made.BackIn ∷ []) b) r.2
  refused_in x (insertion.Full u y) r = ⊎_elim (λ a. grows (made.NoRoom ∷ []) a) (λ b. grows (made.OverIn ∷ made.BackIn ∷ []) b) r.2.makes

  refused_out : (fault : DeleteFault) → RefusesDeletion size old new fault → marks_by old ≤ marks_by new
  refused_out deletion.Worn r = worn r
  refused_out (deletion.Empty l) r = ⊎_elim (λ a. grows (made.NoItem ∷ []) a) (λ b. grows (made.OverOut ∷ made.BackOut ∷ []) b) r.1.makes

  pub more_claimed_in : (x : T) (r : Result ℕ (InsertFault T)) → MatchResult r (λ k. ClaimsIn size k x old new) (RefusesInsertion size x old new) → marks_by old ≤ marks_by new
  more_claimed_in x (Ok k) r = grows (made.ClaimIn ∷ made.Put x ∷ []) r.makes
  more_claimed_in x (Err fault) r = refused_in x fault r

  pub more_inserted : (x : T) (r : Result ℕ (InsertFault T)) → MatchResult r (λ k. Inserts size k x old new) (RefusesInsertion size x old new) → marks_by old ≤ marks_by new
  more_inserted x (Ok k) r = grows (kinds_in k x) r.makes
  more_inserted x (Err fault) r = refused_in x fault r

  pub more_claimed_out : (r : Result ℕ DeleteFault) → MatchResult r (λ k. ClaimsOut size k old new) (RefusesDeletion size old new) → marks_by old ≤ marks_by new
  more_claimed_out (Ok k) r = grows (made.ClaimOut ∷ made.Got r.item ∷ []) r.makes
  more_claimed_out (Err fault) r = refused_out fault r

  pub more_deleted : (r : Result (ℕ × T) DeleteFault) → MatchResult r (λ z. Deletes size z.0 z.1 old new) (RefusesDeletion size old new) → marks_by old ≤ marks_by new
  more_deleted (Ok z) r = grows (kinds_out z.0 z.1) r.makes
  more_deleted (Err fault) r = refused_out fault r

  pub more_filled : (k : ℕ) (r : Option ℕ) → MatchOption r (WaitsToFill size k old new) (λ j. (j ≡ k) × Fills size k old new) → marks_by old ≤ marks_by new
  more_filled k None r = grows [] r.makes
  more_filled k (Some j) r = grows (made.Fill k ∷ made.EndIn ∷ []) r.1

  pub more_taken : (k : ℕ) (r : Option (ℕ × T)) → MatchOption r (WaitsToTake size k old new) (λ z. (z.0 ≡ k) × Takes size k z.1 old new) → marks_by old ≤ marks_by new
  more_taken k None r = grows [] r.makes
  more_taken k (Some z) r = grows (made.Take k ∷ made.EndOut ∷ []) r.1.makes

  pub more_shut : (b : Bool) → ShutsAs size b old new → marks_by old ≤ marks_by new
  more_shut true r = grows (made.Close ∷ []) r.0
  more_shut false r = grows (made.Close ∷ []) r.0

  pub more_observed : Makes size [] old new → marks_by old ≤ marks_by new
  more_observed makes = grows [] makes
