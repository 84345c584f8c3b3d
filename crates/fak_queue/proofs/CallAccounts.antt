-- How steps and calls of a seat that can sleep change its account.
use Rattle.std.specs.Prelude.{◌/◌, if◌then◌else◌, ◌||◌, ◌==◌}
use Rattle.fak_model.specs.declared.note.Sign.{Sign}
use Rattle.fak_model.specs.declared.note.Sign.TheVariants.{PassesWord}
use Rattle.fak_model.specs.declared.queue.Kind.TheVariants as made
use Rattle.fak_model.proofs.Deciding.{same_or_not}
use Rattle.fak_channel_core.specs.SleeperSides.{Duty, after_sign, has_passed}
use Rattle.fak_channel_core.specs.SleeperMoves.{Account, after_note}
use Rattle.fak_queue.specs.declared.role.Role.{Role}
use Rattle.fak_queue.specs.declared.role.Role.TheVariants.{Sender, Receiver}
use Rattle.fak_queue.specs.CallAccounts.{owes_check, owes_receiver, owes_sender, tries_in, tries_out}
use Rattle.fak_queue.specs.SleeperRest.{account_by}
use Rattle.fak_queue.specs.SleeperSeats.{KeepsNotes, SleeperInfo, account_of_seat}
use Rattle.fak_queue.specs.Sleepers.{as_role, duty_as}
use Rattle.fak_queue.proofs.SleeperNotes.{all_true}
use Rattle.fak_queue.proofs.Common.{IsWorn, ClaimsIn, ClaimsOut, Fills, Makes, RefusesClosed, RefusesEmpty, RefusesFull, ShutsAs, Takes, ◌≡◌, ◌≢◌, ◌⊎◌, ℕ, ℤ, ◌+◌, ◌*◌, ◌<◌, ◌≤◌, [], ◌∷◌, Bool, true, false, refl, ap, ◌∙◌, inl, inr, ⊎_elim, arith, true_or_false, common_steps}

-- ---- steps

pub own_duty : (n : ℕ) (role : Role) (v : Sign) (g : Account) → duty_as role (after_note n (as_role role v) g) ≡ after_sign n v (duty_as role g)
own_duty n Sender v g = refl
own_duty n Receiver v g = refl

pub other_duty : (n : ℕ) (role other : Role) (v : Sign) (g : Account) → role ≢ other → duty_as other (after_note n (as_role role v) g) ≡ duty_as other g
other_duty n Sender Sender v g ne = absurd (ne refl)
other_duty n Sender Receiver v g ne = refl
other_duty n Receiver Sender v g ne = refl
other_duty n Receiver Receiver v g ne = absurd (ne refl)

pub same_checks : (n : ℕ) (role : Role) (v : Sign) (g : Account) → (after_note n (as_role role v) g).checks ≡ g.checks
same_checks n Sender v g = refl
same_checks n Receiver v g = refl

-- ---- looks

same_number : (w : ℕ) → (w == w) ≡ true
same_number w = grind (arith, common_steps)

or_first : (a b : Bool) → a ≡ true → (a || b) ≡ true
or_first a b e = grind (arith, common_steps)

or_second : (a b : Bool) → b ≡ true → (a || b) ≡ true
or_second a b e = grind (arith, common_steps)

pub passed_now : (n w : ℕ) (g : Duty) → (after_sign n (PassesWord w) g).passed w ≡ true
passed_now n w g = or_first (w == w) (g.passed w) (same_number w)

pub passed_still : (n w v : ℕ) (g : Duty) → g.passed v ≡ true → (after_sign n (PassesWord w) g).passed v ≡ true
passed_still n w v g e = or_second (v == w) (g.passed v) e

-- the words up to this one were passed
passed_to : (n w : ℕ) (g : Duty) → ((v : ℕ) → v < w → g.passed v ≡ true) → (v : ℕ) → v < w + 1 → ((v == w) || g.passed v) ≡ true
passed_to n w g all v low = elim (same_or_not v w) [
  | inl same ↦ or_first (v == w) (g.passed v) (ap (λ z. z == w) same ∙ same_number w)
  | inr ne ↦ or_second (v == w) (g.passed v) (all v (omega (arith, low, ne)))
]

pub passes_them : (n w : ℕ) (g : Duty) → ((v : ℕ) → v < w → g.passed v ≡ true) → n ≤ 64 * (w + 1) → (after_sign n (PassesWord w) g).looks ≡ 0
passes_them n w g all few =
    let every : has_passed n (λ v. (v == w) || g.passed v) ≡ true = all_true (λ k. ((k / 64) == w) || g.passed (k / 64)) n (λ k l. passed_to n w g all (k / 64) (omega (arith, l, few))) in
    ap (λ b. if b then 0 else g.looks) every

pub pays_or_not : (n w : ℕ) (g : Duty) → ((after_sign n (PassesWord w) g).looks ≡ g.looks) ⊎ ((after_sign n (PassesWord w) g).looks ≡ 0)
pays_or_not n w g = elim (true_or_false (has_passed n (λ v. (v == w) || g.passed v))) [
  | inl every ↦ inr (ap (λ b. if b then 0 else g.looks) every)
  | inr part ↦ inl (ap (λ b. if b then 0 else g.looks) part)
]

-- ---- calls

module _ {T : Type 0} (size : ℕ) (old new : SleeperInfo T) (keeps : KeepsNotes size old new) where
  pub by_claim_in : (k : ℕ) (x : T) → ClaimsIn size k x old.seat new.seat → account_of_seat new ≡ tries_in (account_of_seat old)
  by_claim_in k x c = keeps.account (made.ClaimIn ∷ made.Put x ∷ []) c.makes

  pub by_full : (u : ℤ) → RefusesFull size u old.seat new.seat → (account_of_seat new ≡ tries_in (account_of_seat old)) ⊎ (account_of_seat new ≡ owes_check (owes_sender (tries_in (account_of_seat old))))
  by_full u r = ⊎_elim (λ a. inl (keeps.account (made.NoRoom ∷ []) a)) (λ b. inr (keeps.account (made.OverIn ∷ made.BackIn ∷ []) b)) r.makes

  pub by_closed : RefusesClosed size old.seat new.seat → (account_of_seat new ≡ owes_sender (tries_in (account_of_seat old))) ⊎ (account_of_seat new ≡ owes_check (owes_sender (tries_in (account_of_seat old))))
  by_closed r = ⊎_elim (λ a. inl (keeps.account (made.Closed ∷ []) a)) (λ b. inr (keeps.account (made.LateIn ∷ made.BackIn ∷ []) b)) r

  pub by_fill : (k : ℕ) → Fills size k old.seat new.seat → account_of_seat new ≡ owes_receiver (account_of_seat old)
  by_fill k f = keeps.account (made.Fill k ∷ made.EndIn ∷ []) f

  pub by_claim_out : (k : ℕ) → ClaimsOut size k old.seat new.seat → account_of_seat new ≡ tries_out (account_of_seat old)
  by_claim_out k c = keeps.account (made.ClaimOut ∷ made.Got c.item ∷ []) c.makes

  pub by_empty : (l : ℤ) → RefusesEmpty size l old.seat new.seat → (account_of_seat new ≡ owes_check (tries_out (account_of_seat old))) ⊎ (account_of_seat new ≡ owes_receiver (tries_out (account_of_seat old)))
  by_empty l r = ⊎_elim (λ a. inl (keeps.account (made.NoItem ∷ []) a)) (λ b. inr (keeps.account (made.OverOut ∷ made.BackOut ∷ []) b)) r.makes

  pub by_take : (k : ℕ) (x : T) → Takes size k x old.seat new.seat → account_of_seat new ≡ owes_check (owes_sender (account_of_seat old))
  by_take k x t = keeps.account (made.Take k ∷ made.EndOut ∷ []) t.makes

  pub by_shut : (b : Bool) → ShutsAs size b old.seat new.seat → account_of_seat new ≡ owes_check (owes_sender (account_of_seat old))
  by_shut true s = keeps.account (made.Close ∷ []) s.0
  by_shut false s = keeps.account (made.Close ∷ []) s.0

  pub by_look : Makes size [] old.seat new.seat → account_of_seat new ≡ account_of_seat old
  by_look makes = keeps.account [] makes

  pub by_worn : IsWorn old.seat new.seat → account_of_seat new ≡ account_of_seat old
  by_worn w = λ i. account_by (w.unchanged i).object.seats (keeps.notes i) (w.unchanged i)
