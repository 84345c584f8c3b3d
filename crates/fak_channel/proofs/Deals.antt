-- Seats as an opening deals them.
use Rattle.std.proofs.Common.{◌≡◌, ℕ, zero, suc, ◌+◌, ◌-◌, ◌*◌, ◌<◌, List, [], ◌∷◌, ◌++◌, length, true, false, refl, ap, sym, ◌∙◌, subst, arith}
use Rattle.std.specs.List.{All}
use Rattle.std.proofs.lemmas.List.Elements.{All-nil, All-cons}
use Rattle.fak_channel_core.specs.SleeperSides.{Duty}
use Rattle.fak_channel.specs.declared.channel.Channel.{Channel}
use Rattle.fak_channel.specs.declared.seat.ChannelSeat.{ChannelSeat}
use Rattle.fak_channel.specs.Looks.{Covers, fresh_looks, words_of}
use Rattle.fak_channel.specs.Standings.{IsSeatOf}
use Rattle.fak_channel.specs.Undealt.{dealt, fresh_channel_seat, fresh_channel_seats, IsFreshChannel}

pub length-dealt : {A : Type 0} (f : ℕ → A) (name n : ℕ) → length (dealt f name n) ≡ n
length-dealt f name zero = refl
length-dealt f name (suc n) = ap suc (length-dealt f (suc name) n)

-- the first element is that of this name, and the others follow it
pub record IsNext {A : Type 0} (f : ℕ → A) (name seats : ℕ) (x : A) (rest : List A) : Type 0 where
  pub first : x ≡ f name
  pub others : rest ≡ dealt f (name + 1) (seats - (name + 1))

pub next_dealt : {A : Type 0} (f : ℕ → A) {name seats : ℕ} {items rest : List A} {x : A} → name < seats → items ≡ dealt f name (seats - name) → items ≡ x ∷ rest → IsNext f name seats x rest
next_dealt {A} f {name} {seats} {items} {rest} {x} below are is =
    let count : seats - name ≡ suc (seats - (name + 1)) = omega (arith, below) in
    let up : suc name ≡ name + 1 = omega arith in
    let all : x ∷ rest ≡ f name ∷ dealt f (suc name) (seats - (name + 1)) = sym is ∙ (are ∙ ap (dealt f name) count) in
    record {
      first = cc;
      others = (let r : rest ≡ dealt f (suc name) (seats - (name + 1)) = cc in r ∙ ap (λ k. dealt f k (seats - (name + 1))) up);
    }

-- one more after those from the name a on
pub dealt_next : {A : Type 0} (f : ℕ → A) (a n : ℕ) (x : A) → x ≡ f (a + n) → dealt f a n ++ x ∷ [] ≡ dealt f a (n + 1)
dealt_next f a zero x is = ap (λ y. y ∷ []) (is ∙ ap f (let same : a + 0 ≡ a = omega arith in same))
dealt_next f a (suc n) x is =
    let same : a + suc n ≡ suc a + n = omega arith in
    let up : suc (n + 1) ≡ suc n + 1 = omega arith in
    ap (λ l. f a ∷ l) (dealt_next f (suc a) n x (is ∙ ap f same)) ∙ ap (dealt f a) up

-- the first of the elements that are left, and the others
pub record IsFirst {A : Type 0} (f : ℕ → A) (name left : ℕ) (x : A) (rest : List A) : Type 0 where
  pub some : 0 < left
  pub first : x ≡ f name
  pub others : rest ≡ dealt f (name + 1) (left - 1)

pub first_dealt : {A : Type 0} (f : ℕ → A) (name left : ℕ) {items rest : List A} {x : A} → items ≡ dealt f name left → items ≡ x ∷ rest → IsFirst f name left x rest
first_dealt {A} f name zero {items} {rest} {x} are is = absurd (let e : [] ≡ x ∷ rest = sym are ∙ is in cc)
first_dealt {A} f name (suc n) {items} {rest} {x} are is =
    let all : x ∷ rest ≡ f name ∷ dealt f (suc name) n = sym is ∙ are in
    let up : suc name ≡ name + 1 = omega arith in
    let down : n ≡ suc n - 1 = omega arith in
    record {
      some = omega arith;
      first = cc;
      others = (let r : rest ≡ dealt f (suc name) n = cc in r ∙ (ap (λ k. dealt f k n) up ∙ ap (dealt f (name + 1)) down));
    }

-- ---- the seats belong to the channel

some_words : (n : ℕ) → 0 < n → 0 < 64 * words_of n
some_words n some = omega (arith, some)

module _ {T : Type 0} (c : Channel T) (F : IsFreshChannel c) (stint : ℕ) where
  fresh_covers : (d : Duty) → d.looks ≡ 0 → Covers c.ends fresh_looks d
  fresh_covers d none = record {
    few = omega (arith, none);
    owed = λ e. none;
    from = some_words c.ends F.some;
    left = omega arith;
    found = tt;
    passed = λ owed. absurd (let f : false ≡ true = owed in cc);
  }

  pub fresh_is_of : (name : ℕ) → IsSeatOf c (fresh_channel_seat c stint name)
  fresh_is_of name = record {
    stands = record {
      object = refl;
      ends = F.ends;
      cells = F.cells;
      few = F.few;
      pays = record { senders = fresh_covers _ refl; receivers = fresh_covers _ refl };
      next = record { queue = refl; none = record { senders = refl; receivers = refl; checks = refl }; checks = λ e. refl; stages = record { sender = refl; receiver = refl } };
    };
    idle = refl;
  }

  fresh_are_of : (name n : ℕ) → All (λ (s : ChannelSeat T). IsSeatOf c s) (fresh_channel_seats c stint name n)
  fresh_are_of name zero = All-nil (λ (s : ChannelSeat T). IsSeatOf c s)
  fresh_are_of name (suc n) = All-cons (λ (s : ChannelSeat T). IsSeatOf c s) (fresh_channel_seat c stint name) (fresh_channel_seats c stint (suc name) n) (fresh_is_of name) (fresh_are_of (suc name) n)

  pub dealt_are_of : (n : ℕ) (seats : List (ChannelSeat T)) → seats ≡ fresh_channel_seats c stint 0 n → All (λ (s : ChannelSeat T). IsSeatOf c s) seats
  dealt_are_of n seats is = subst (All (λ (s : ChannelSeat T). IsSeatOf c s)) (sym is) (fresh_are_of 0 n)
