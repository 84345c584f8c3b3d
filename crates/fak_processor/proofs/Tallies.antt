-- What seats know of ledgers, call by call, and what tallies know of them, join by join.
use Rattle.fak_processor.proofs.Common.{◌≡◌, ℕ, ◌<◌, true, false, cond, nat_lt, List, [], ◌++◌, length, refl, ap, sym, ◌∙◌, subst, arith, inl, map, sum_by, map-append, sum_by-append, All-nil, Rules, is_in, marks_of, mine, ObjectId, SeatInfo, seat_info, TallyInfo, tally_of, mine_of, Appends, IsJoined, Owns, Weighs, history_none, sum_by-map, common_steps}
use Rattle.fak_model.proofs.SeatWeights.{mine_one, mine_push, mine_known}

-- ---- seats

-- a seat that was just opened
pub owns_fresh : {M W C K : Type 0} (rules : Rules M W C) (kind_of : M → K) (object : ObjectId) (name stint : ℕ) → Owns rules kind_of (seat_info object name stint []) []
owns_fresh {M} rules kind_of object name stint = record { kinds_are = refl; lawful = history_none rules; named = All-nil (λ (m : M). rules.seat_of m < object.seats) }

-- a call adds the kinds of its marks
pub owns_more : {M W C K : Type 0} {rules : Rules M W C} {kind_of : M → K} {old new : SeatInfo M} {marks : List M} {before : List K} (kinds : List K)
    → Appends rules marks old new → map kind_of marks ≡ kinds → Owns rules kind_of old before → Owns rules kind_of new (before ++ kinds)
owns_more {rules = rules} {kind_of = kind_of} {old = old} {marks = marks} {before = before} kinds a are o = grind (arith, common_steps, map, map-append, mine_of)

-- ---- tallies

owned_weighs : {M W C K : Type 0} {rules : Rules M W C} {kind_of : M → K} {s : SeatInfo M} {kinds : List K} → Owns rules kind_of s kinds → (w : K → ℕ) → sum_by (λ (m : M). w (kind_of m)) (marks_of rules.seat_of s.name s.seen) ≡ sum_by w kinds
owned_weighs {rules = rules} {kind_of = kind_of} {s = s} o w = sym (sum_by-map w kind_of (marks_of rules.seat_of s.name s.seen)) ∙ ap (sum_by w) o.kinds_are

pub weighs_one : {M W C K : Type 0} {rules : Rules M W C} {kind_of : M → K} {s : SeatInfo M} {kinds : List K} → Owns rules kind_of s kinds → Weighs rules kind_of (tally_of s) kinds
weighs_one {M} {rules = rules} {kind_of = kind_of} {s = s} o = grind (arith, common_steps, sum_by, mine_one, owned_weighs)

pub weighs_joined : {M W C K : Type 0} {rules : Rules M W C} {kind_of : M → K} {t both : TallyInfo M} {s : SeatInfo M} (a b : List K)
    → IsJoined rules t s both → is_in s.name t.names ≡ false → Weighs rules kind_of t a → Owns rules kind_of s b → Weighs rules kind_of both (a ++ b)
weighs_joined {M} {K = K} {rules = rules} {kind_of = kind_of} {t = t} {both = both} {s = s} a b j new has o = record {
  weigh = λ w. weigh w;
  lawful = j.lawful;
  named = j.named;
}
  where
    weigh : (w : K → ℕ) → sum_by (λ (m : M). w (kind_of m)) (mine rules.seat_of both.names both.seen) ≡ sum_by w (a ++ b)
    weigh w =
        let v : M → ℕ = λ (m : M). w (kind_of m) in
        let names = ap (λ ns. sum_by (λ (m : M). w (kind_of m)) (mine rules.seat_of ns both.seen)) j.names in
        let parts = mine_push rules.seat_of (λ (m : M). w (kind_of m)) t.names s.name new both.seen in
        let old = ap (sum_by (λ (m : M). w (kind_of m))) (mine_known rules.seat_of t.names t.seen both.seen j.of_tally) in
        let his = ap (sum_by (λ (m : M). w (kind_of m))) (j.of_seat.own s.name (inl refl)) in
        omega (arith, names, parts, old, his, has.weigh w, owned_weighs o w, sum_by-append w a b)

-- what is true of both seens is true of the longer
pub joined_either : {M W C : Type 0} {rules : Rules M W C} {t both : TallyInfo M} {s : SeatInfo M} (P : List M → Type 0) → IsJoined rules t s both → P t.seen → P s.seen → P both.seen
joined_either {t = t} {s = s} P j a b = subst P (sym j.seen) (elim (nat_lt (length t.seen) (length s.seen)) as (λ c. P (cond c s.seen t.seen)) [ true ↦ b | false ↦ a ])
