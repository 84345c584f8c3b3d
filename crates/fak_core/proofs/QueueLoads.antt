-- A deletion loads the item of the Put with its own ticket.
use Rattle.fak_core.proofs.Common.{◌≡◌, ℕ, List, [], ◌∷◌, ◌++◌, Some, reverse, sym, ap, ◌∙◌, subst, inl, inr, IsSome, reverse-reverse, gots, item_at, items_put, Drew, stage, item_of, MayFollow, IsLegalPast, Got, Mark, Getting, item_stays, LoadItem, TicketOut, LoadsItsItem, common_steps, arith, after_getting, item_same, last_of, drew}
use Rattle.fak_core.specs.QueueMoves.{QueueState, history_of}
use Rattle.fak_core.proofs.QueueKept.{IsKept, shown}
use Rattle.fak_core.proofs.QueueReached.{loads_put, draws_put}

-- the mark at this place may follow the marks before it
follows_there : {A : Type 0} (size : ℕ) (newer : List (Mark A)) (m : Mark A) (older : List (Mark A)) → IsLegalPast size (newer ++ m ∷ older) → MayFollow size older m.seat m.kind
follows_there size [] m older l = l.0
follows_there size (n ∷ newer) m older l = follows_there size newer m older l.1

-- an item that was put remains that of its ticket
item_remains : {A : Type 0} (newer older : List (Mark A)) (k : ℕ) (x : A) → item_of older k ≡ Some x → item_of (newer ++ older) k ≡ Some x
item_remains [] older k x e = e
item_remains (m ∷ newer) older k x e = item_stays m (newer ++ older) k x (item_remains newer older k x e)

-- the Got of a seat that is getting has the item of its ticket
getting_item : {A : Type 0} (size : ℕ) (h : List (Mark A)) (s k : ℕ) → IsLegalPast size (reverse h) → stage (reverse h) s ≡ Getting k
    → (x : A) × (item_of (reverse h) k ≡ Some x) × Drew h s (Got x) gots k
getting_item {A} size h s k legal at = elim (last_of (reverse h) s) [
  | inl none ↦ absurd (cc (none, at))
  | inr l ↦ (let w = after_getting l.older l.m.kind k (sym l.stands ∙ at) in
      let x : A = w.0.0 in
      let may = follows_there size l.newer l.m l.older (subst (IsLegalPast size) l.is legal) in
      let may' : MayFollow size l.older l.m.seat (Got x) = subst (MayFollow size l.older l.m.seat) w.0.1 may in
      let there = item_remains l.newer (l.m ∷ l.older) k x (item_stays l.m l.older k x (ap (item_of l.older) w.1 ∙ may'.oldest)) in
      (x, ap (λ p. item_of p k) l.is ∙ there, drew h s l (Got x) gots k w.0.1 w.1))
]

pub loads_own : {A : Type 0} (size : ℕ) (st : QueueState A) (s k : ℕ) → IsKept size st → st.phase s ≡ LoadItem k → LoadsItsItem size st s k
loads_own {A} size st s k K e =
    let back = reverse-reverse st.past in
    let legal : IsLegalPast size (reverse (history_of st)) = subst (IsLegalPast size) (sym back) K.legal in
    let at : stage (reverse (history_of st)) s ≡ Getting k = ap (λ p. stage p s) back ∙ (sym (K.phases s) ∙ ap shown e) in
    let g = getting_item size (history_of st) s k legal at in
    let item : item_of st.past k ≡ Some g.0 = ap (λ p. item_of p k) (sym back) ∙ g.1 in
    record { item = g.0; ticket = g.2; put = item_same k (history_of st) ∙ g.1; loaded = loads_put size st s k K e ∙ item }

-- a granted deletion draws a ticket under which an item was put
pub draws_item : {A : Type 0} (size : ℕ) (st : QueueState A) (s : ℕ) → IsKept size st → st.phase s ≡ TicketOut → IsSome (item_at (items_put (history_of st)) st.draws_out)
draws_item size st s K e = grind (arith, common_steps, draws_put, item_same, history_of, item_of, reverse-reverse)
