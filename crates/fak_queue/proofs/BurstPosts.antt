-- The names of a bundle, and their posts.
use Rattle.atomic_table.specs.Table.{rest}
use Rattle.fak_model.proofs.Deciding.{same_or_not}
use Rattle.fak_model.proofs.RunningBlocks.{AreAmong, among_append}
use Rattle.fak_core.specs.declared.queue.phase.Phase.TheVariants.{Idle}
use Rattle.fak_core.specs.QueueBlocks.{Posts, names_of, Stand, all_at, turns_from, marks_back, turns_out_from}
use Rattle.fak_queue.specs.Bursts.{AllIn, PostsAreIdle, SaysAfter, post_to, posts_to}
use Rattle.std.specs.Prelude.{cond}
use Rattle.fak_queue.proofs.Common.{IsPost, StandsIn, ◌≡◌, ◌≢◌, ◌⊎◌, ℕ, ◌+◌, List, [], ◌∷◌, ◌++◌, refl, sym, ap, ◌∙◌, subst, inl, inr, arith, Bool, true, false, ◌==◌, nat_tests, Phases, In, Mark, Phase, QueueState, InCell}

-- ---- names

pub in_or_not : (n : ℕ) (names : List ℕ) → In n names ⊎ (In n names → ⊥)
in_or_not n [] = inr (λ i. i)
in_or_not n (k ∷ names) = elim (same_or_not n k) [
  | inl e ↦ inl (inl e)
  | inr ne ↦ elim (in_or_not n names) [
    | inl i ↦ inl (inr i)
    | inr out ↦ inr (λ i. elim i [ inl e ↦ ne e | inr j ↦ out j ])
  ]
]

pub all_left : (a b names : List ℕ) → AllIn (a ++ b) names → AllIn a names
all_left [] b names all = tt
all_left (n ∷ a) b names all = (all.0, all_left a b names all.1)

pub all_right : (a b names : List ℕ) → AllIn (a ++ b) names → AllIn b names
all_right [] b names all = all
all_right (n ∷ a) b names all = all_right a b names all.1

pub in_all : (a names : List ℕ) → AllIn a names → (n : ℕ) → In n a → In n names
in_all [] names all n i = absurd i
in_all (k ∷ a) names all n (inl e) = subst (λ (z : ℕ). In z names) (sym e) all.0
in_all (k ∷ a) names all n (inr i) = in_all a names all.1 n i

-- the marks of a block belong to its names
pub among_back : {T B : Type 0} (f : B → _) (ss : List (ℕ × B)) (names : List ℕ) → AllIn (names_of ss) names → AreAmong (λ (m : Mark T). m.seat) names (marks_back f ss)
among_back f [] names all = tt
among_back {T} f (s ∷ ss) names all = among_append (λ (m : Mark T). m.seat) names (marks_back f ss) ((record { seat = s.0; kind = f s.1 }) ∷ []) (among_back f ss names all.1) (all.0, tt)

-- ---- posts

pub stand_at : {T : Type 0} (c : QueueState T) (ps : Posts T) (n : ℕ) (p : Phase T) → IsPost n p ps → Stand c ps → c.phase n ≡ p
stand_at c [] n p i all = absurd i
stand_at c (s ∷ ps) n p (inl e) all = subst (λ (z : ℕ × Phase _). c.phase z.0 ≡ z.1) (λ j. (e.0 j, e.1 j)) all.0
stand_at c (s ∷ ps) n p (inr i) all = stand_at c ps n p i all.1

pub post_left : {T : Type 0} (a b : Posts T) (n : ℕ) (p : Phase T) → IsPost n p a → IsPost n p (a ++ b)
post_left [] b n p i = absurd i
post_left (s ∷ a) b n p (inl e) = inl e
post_left (s ∷ a) b n p (inr i) = inr (post_left a b n p i)

pub post_right : {T : Type 0} (a b : Posts T) (n : ℕ) (p : Phase T) → IsPost n p b → IsPost n p (a ++ b)
post_right [] b n p i = i
post_right (s ∷ a) b n p i = inr (post_right a b n p i)

pub idle_all : (T : Type 0) {B : Type 0} (ss : List (ℕ × B)) → PostsAreIdle (all_at {A = T} (λ (x : B). Idle) ss)
idle_all T [] = tt
idle_all T (s ∷ ss) = (refl, idle_all T ss)

pub idle_both : {T : Type 0} (p q : Posts T) → PostsAreIdle p → PostsAreIdle q → PostsAreIdle (p ++ q)
idle_both [] q a b = b
idle_both (s ∷ p) q a b = (a.0, idle_both p q a.1 b)

pub idle_at : {T : Type 0} (c : QueueState T) (ps : Posts T) → Stand c ps → PostsAreIdle ps → (n : ℕ) → In n (names_of ps) → c.phase n ≡ Idle
idle_at c [] all idle n i = absurd i
idle_at c (s ∷ ps) all idle n (inl e) = ap c.phase e ∙ (all.0 ∙ idle.0)
idle_at c (s ∷ ps) all idle n (inr i) = idle_at c ps all.1 idle.1 n i

-- the posts that the view states are true
pub says_of : {T : Type 0} (c : QueueState T) (ps : Posts T) (names : List ℕ) (then : Phases T) → SaysAfter names ps then → Stand c ps → (n : ℕ) → In n names → StandsIn c n then
says_of c ps names then (inl e) all n i = subst (StandsIn c n) (sym e) (λ p j. stand_at c ps n p j all)
says_of c ps names then (inr rest) all n i = subst (StandsIn c n) (sym rest.0) (idle_at c ps all rest.1 n (in_all names (names_of ps) rest.2 n i))

-- at each of these phases a name is outside all cells
abbrev pub AreOut : {T : Type 0} → ℕ → Posts T → Type 0
AreOut size [] = Unit {0}
AreOut size (s ∷ ps) = ((i : ℕ) → InCell size s.1 i → ⊥) × AreOut size ps

pub out_at : {A B : Type 0} (size : ℕ) (f : B → Phase A) (ss : List (ℕ × B)) → ((x : B) (i : ℕ) → InCell size (f x) i → ⊥) → AreOut size (all_at f ss)
out_at size f [] out = tt
out_at size f (s ∷ ss) out = (out s.1, out_at size f ss out)

pub out_turns : {A : Type 0} (size k : ℕ) (ss : List (ℕ × A)) → AreOut size (turns_from k ss)
out_turns size k [] = tt
out_turns size k (s ∷ ss) = ((λ i j. j), out_turns size (k + 1) ss)

pub out_turns_out : (A : Type 0) {B : Type 0} (size k : ℕ) (ss : List (ℕ × B)) → AreOut size (turns_out_from {A = A} k ss)
out_turns_out A size k [] = tt
out_turns_out A size k (s ∷ ss) = ((λ i j. j), out_turns_out A size (k + 1) ss)

pub out_both : {T : Type 0} (size : ℕ) (p q : Posts T) → AreOut size p → AreOut size q → AreOut size (p ++ q)
out_both size [] q a b = b
out_both size (s ∷ p) q a b = (a.0, out_both size p q a.1 b)

pub nowhere : {T : Type 0} (size : ℕ) (c : QueueState T) (ps : Posts T) → Stand c ps → AreOut size ps → (n : ℕ) → In n (names_of ps) → (i : ℕ) → InCell size (c.phase n) i → ⊥
nowhere size c [] all out n z i inside = z
nowhere size c (s ∷ ps) all out n (inl e) i inside = out.0 i (subst (λ p. InCell size p i) (ap c.phase e ∙ all.0) inside)
nowhere size c (s ∷ ps) all out n (inr j) i inside = nowhere size c ps all.1 out.1 n j i inside

-- ---- one name moves

cond_so : {A : Type 0} (b c : Bool) (x y : A) → b ≡ c → cond b x y ≡ cond c x y
cond_so b c x y e = ap (λ z. cond z x y) e

pub moved_post : {T : Type 0} (n : ℕ) (q : Phase T) (all : Posts T) (t : ℕ) (w : Phase T) → IsPost t w (post_to n q all) → ((t ≡ n) × (w ≡ q)) ⊎ ((t ≢ n) × IsPost t w all)
moved_post n q [] t w o = absurd o
moved_post n q (s ∷ all) t w (inl e) = elim (same_or_not s.0 n) [
  | inl z ↦ inl (sym e.0 ∙ z, sym e.1 ∙ cond_so (s.0 == n) true q s.1 (let b : (s.0 == n) ≡ true = grind (arith, nat_tests) in b))
  | inr ne ↦ inr ((λ u. ne (e.0 ∙ u)), inl (e.0, sym (cond_so (s.0 == n) false q s.1 (let b : (s.0 == n) ≡ false = grind (arith, nat_tests) in b)) ∙ e.1))
]
moved_post n q (s ∷ all) t w (inr o) = elim (moved_post n q all t w o) [ inl e ↦ inl e | inr e ↦ inr (e.0, inr e.1) ]

-- the name has this post, and the others have the same as before
pub post_here : {T : Type 0} (n : ℕ) (p q : Phase T) (all : Posts T) → IsPost n p all → IsPost n q (post_to n q all)
post_here n p q [] o = absurd o
post_here n p q (s ∷ all) (inl e) = inl (e.0, cond_so (s.0 == n) true q s.1 (let z = e.0 in let b : (s.0 == n) ≡ true = grind (arith, nat_tests) in b))
post_here n p q (s ∷ all) (inr o) = inr (post_here n p q all o)

pub post_else : {T : Type 0} (n : ℕ) (q : Phase T) (all : Posts T) (t : ℕ) (w : Phase T) → t ≢ n → IsPost t w all → IsPost t w (post_to n q all)
post_else n q [] t w ne o = absurd o
post_else n q (s ∷ all) t w ne (inl e) = inl (e.0, cond_so (s.0 == n) false q s.1 (let z = e.0 in let b : (s.0 == n) ≡ false = grind (arith, nat_tests) in b) ∙ e.1)
post_else n q (s ∷ all) t w ne (inr o) = inr (post_else n q all t w ne o)

-- ---- several names move

pub moved_posts : {T : Type 0} (ns : List ℕ) (q : Phase T) (all : Posts T) (t : ℕ) (w : Phase T) → IsPost t w (posts_to ns q all) → (In t ns × (w ≡ q)) ⊎ ((In t ns → ⊥) × IsPost t w all)
moved_posts [] q all t w o = inr ((λ i. i), o)
moved_posts (n ∷ ns) q all t w o = elim (moved_posts ns q (post_to n q all) t w o) [
  | inl e ↦ inl (inr e.0, e.1)
  | inr e ↦ elim (moved_post n q all t w e.1) [
    | inl f ↦ inl (inl f.0, f.1)
    | inr f ↦ inr ((λ i. elim i [ inl z ↦ f.0 z | inr z ↦ e.0 z ]), f.1)
  ]
]

pub posts_else : {T : Type 0} (ns : List ℕ) (q : Phase T) (all : Posts T) (t : ℕ) (w : Phase T) → (In t ns → ⊥) → IsPost t w all → IsPost t w (posts_to ns q all)
posts_else [] q all t w out o = o
posts_else (n ∷ ns) q all t w out o = posts_else ns q (post_to n q all) t w (λ i. out (inr i)) (post_else n q all t w (λ e. out (inl e)) o)

pub posts_here : {T : Type 0} (ns : List ℕ) (p q : Phase T) (all : Posts T) (t : ℕ) → In t ns → IsPost t p all → IsPost t q (posts_to ns q all)
posts_here [] p q all t i o = absurd i
posts_here (n ∷ ns) p q all t i o = elim (in_or_not t ns) [
  | inl k ↦ elim (same_or_not t n) [
    | inl e ↦ posts_here ns q q (post_to n q all) t k (subst (λ z. IsPost z q (post_to n q all)) (sym e) (post_here n p q all (subst (λ z. IsPost z p all) e o)))
    | inr ne ↦ posts_here ns p q (post_to n q all) t k (post_else n q all t p ne o)
  ]
  | inr out ↦ elim i [
    | inl e ↦ posts_else ns q (post_to n q all) t q out (subst (λ z. IsPost z q (post_to n q all)) (sym e) (post_here n p q all (subst (λ z. IsPost z p all) e o)))
    | inr k ↦ absurd (out k)
  ]
]
