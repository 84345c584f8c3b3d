-- A walk through a history, mark by mark, which takes the line of each hold at its Take.
use Rattle.fak_run.proofs.Common.{◌≡◌, ◌≢◌, ◌⊎◌, ℕ, ◌<◌, ◌≤◌, ◌==◌, Bool, true, false, cond, List, [], ◌∷◌, ◌++◌, refl, ap, sym, ◌∙◌, subst, arith, inl, inr, append_assoc, true≢false, map, All, flat_map, append-nil, nat_tests, All-nil, All-cons, All-head, All-tail, AreNamed, Setting, set_mark, amount_held, hold_after, field_after, IsFair, file_rules, IsFileHistory, IsPermutation-trans, IsPermutation-cons, FileEntry, FileField, FileKind, Take, Over, Back, No, Set, Give, FileMark, same_or_not, cond_here, cond_else, history_prefix, last_fair, set_in, set_all, FileHold, IsFitHold, is_of_hold, held_kinds, kinds_of_hold, reads_from, read_of, AreHolds, gather_from, common_steps, Steps}
use Rattle.fak_files.proofs.Common.{is_take, entries_after}
use Rattle.fak_files.proofs.HoldReads.{alone, held_own, held_other}
use Rattle.fak_run.specs.Merging.{AreMerged}
use Rattle.fak_run.proofs.Entries.{entries-same, entries-set}
use Rattle.fak_run.proofs.GatheredHolds.{gather_none, gather_first}

-- ---- the marks of a seat, from its first one on

module _ (s : ℕ) (m : FileMark) (r : List FileMark) where
  held-own : m.seat ≡ s → is_of_hold m.kind ≡ true → held_kinds s (m ∷ r) ≡ m.kind ∷ held_kinds s r
  held-own own is = let t : (m.seat == s) ≡ true = grind (arith, nat_tests) in rw (t, is) refl

  held-none : m.seat ≡ s → is_of_hold m.kind ≡ false → held_kinds s (m ∷ r) ≡ held_kinds s r
  held-none own is = let t : (m.seat == s) ≡ true = grind (arith, nat_tests) in rw (t, is) refl

  held-other : m.seat ≢ s → held_kinds s (m ∷ r) ≡ held_kinds s r
  held-other other = let t : (m.seat == s) ≡ false = grind (arith, nat_tests) in rw t refl

  module _ (n : ℕ) (p : List FileMark) where
    reads-take : m.seat ≡ s → is_take m.kind ≡ true → reads_from n s p (m ∷ r) ≡ entries_after p 0 n ∷ reads_from n s (p ++ m ∷ []) r
    reads-take own is = let t : (m.seat == s) ≡ true = grind (arith, nat_tests) in rw (t, is) refl

    reads-none : m.seat ≡ s → is_take m.kind ≡ false → reads_from n s p (m ∷ r) ≡ reads_from n s (p ++ m ∷ []) r
    reads-none own is = let t : (m.seat == s) ≡ true = grind (arith, nat_tests) in rw (t, is) refl

    reads-other : m.seat ≢ s → reads_from n s p (m ∷ r) ≡ reads_from n s (p ++ m ∷ []) r
    reads-other other = let t : (m.seat == s) ≡ false = grind (arith, nat_tests) in rw t refl

-- ---- the first of a seat's remaining marks

-- the kinds of a seat's remaining marks: those of its open hold, in which these fields are still set, and those of its
-- later holds
abbrev rest_kinds : Bool → List Setting → List FileHold → List FileKind
rest_kinds false sets holds = flat_map kinds_of_hold holds
rest_kinds true sets holds = map set_mark sets ++ Give ∷ flat_map kinds_of_hold holds

record NextTake (inside : Bool) (holds : List FileHold) (a : ℕ) (ks : List FileKind) : Type 0 where
  pub is_idle : inside ≡ false
  pub hold : FileHold
  pub later : List FileHold
  pub holds_are : holds ≡ hold ∷ later
  pub amount : hold.amount ≡ a
  pub rest : ks ≡ rest_kinds true hold.sets later

next_take : (inside : Bool) (sets : List Setting) (holds : List FileHold) (a : ℕ) (ks : List FileKind) → Take a ∷ ks ≡ rest_kinds inside sets holds → NextTake inside holds a ks
next_take true [] holds a ks e = absurd cc
next_take true (s ∷ sets) holds a ks e = absurd cc
next_take false sets [] a ks e = absurd cc
next_take false sets (x ∷ later) a ks e = grind (arith, common_steps, map, set_mark, flat_map, kinds_of_hold, later, append_assoc)

record NextSet (inside : Bool) (sets : List Setting) (holds : List FileHold) (i : ℕ) (f : FileField) (v : ℕ) (ks : List FileKind) : Type 0 where
  pub is_open : inside ≡ true
  pub setting : Setting
  pub later : List Setting
  pub sets_are : sets ≡ setting ∷ later
  pub entry : setting.entry ≡ i
  pub field : setting.field ≡ f
  pub to : setting.to ≡ v
  pub rest : ks ≡ rest_kinds true later holds

next_set : (inside : Bool) (sets : List Setting) (holds : List FileHold) (i : ℕ) (f : FileField) (v : ℕ) (ks : List FileKind) → Set i f v ∷ ks ≡ rest_kinds inside sets holds → NextSet inside sets holds i f v ks
next_set true [] holds i f v ks e = absurd cc
next_set true (s ∷ sets) holds i f v ks e = record { is_open = refl; setting = s; later = sets; sets_are = refl; entry = cc; field = cc; to = cc; rest = cc }
next_set false sets [] i f v ks e = absurd cc
next_set false sets (x ∷ later) i f v ks e = absurd cc

record NextGive (inside : Bool) (sets : List Setting) (holds : List FileHold) (ks : List FileKind) : Type 0 where
  pub is_open : inside ≡ true
  pub none : sets ≡ []
  pub rest : ks ≡ flat_map kinds_of_hold holds

next_give : (inside : Bool) (sets : List Setting) (holds : List FileHold) (ks : List FileKind) → Give ∷ ks ≡ rest_kinds inside sets holds → NextGive inside sets holds ks
next_give true [] holds ks e = record { is_open = refl; none = refl; rest = cc }
next_give true (s ∷ sets) holds ks e = absurd cc
next_give false sets [] ks e = absurd cc
next_give false sets (x ∷ later) ks e = absurd cc

record NextNone (inside : Bool) (holds : List FileHold) : Type 0 where
  pub is_idle : inside ≡ false
  pub none : holds ≡ []

next_none : (inside : Bool) (sets : List Setting) (holds : List FileHold) → [] ≡ rest_kinds inside sets holds → NextNone inside holds
next_none true [] holds e = absurd cc
next_none true (s ∷ sets) holds e = absurd cc
next_none false sets [] e = record { is_idle = refl; none = refl }
next_none false sets (x ∷ later) e = absurd cc

-- ---- the state of the walk

-- no open hold will set a field
record IsQuiet (n seats : ℕ) (p : List FileMark) (sets : ℕ → List Setting) (entries : List FileEntry) : Type 0 where
  pub none : (s : ℕ) → s < seats → sets s ≡ []
  pub entries_are : entries ≡ entries_after p 0 n

-- only one seat may set fields, and it holds the whole amount
record IsWriting (n k seats : ℕ) (p : List FileMark) (inside : ℕ → Bool) (sets : ℕ → List Setting) (entries : List FileEntry) : Type 0 where
  pub writer : ℕ
  pub below : writer < seats
  pub is_open : inside writer ≡ true
  pub all : amount_held writer p ≡ k
  pub others : (s : ℕ) → s < seats → s ≢ writer → sets s ≡ []
  pub entries_are : entries ≡ set_all (entries_after p 0 n) (sets writer)

-- the walk before the marks of r: each seat's remaining holds, which seats are in a hold, what these will still set,
-- and the entries after the lines that were taken
record Stands (n k seats : ℕ) (p r : List FileMark) (holds : ℕ → List FileHold) (inside : ℕ → Bool) (sets : ℕ → List Setting) (entries : List FileEntry) : Type 0 where
  pub kinds : (s : ℕ) → s < seats → held_kinds s r ≡ rest_kinds (inside s) (sets s) (holds s)
  pub reads : (s : ℕ) → s < seats → reads_from n s p r ≡ map read_of (holds s)
  pub fit : (s : ℕ) → s < seats → All (IsFitHold k) (holds s)
  pub now : IsQuiet n seats p sets entries ⊎ IsWriting n k seats p inside sets entries

-- a function with another value at one place
abbrev at : {A : Type 0} → (ℕ → A) → ℕ → A → ℕ → A
at f s x t = cond (t == s) x (f t)

at-here : {A : Type 0} (f : ℕ → A) (s : ℕ) (x : A) → at f s x s ≡ x
at-here f s x = cond_here s x (f s)

at-other : {A : Type 0} (f : ℕ → A) (s : ℕ) (x : A) (t : ℕ) → t ≢ s → at f s x t ≡ f t
at-other f s x t ne = cond_else t s x (f t) ne

-- ---- one mark

module _ (n k seats : ℕ) (some : 1 ≤ k) (p : List FileMark) (m : FileMark) (r : List FileMark) (law : IsFileHistory k (p ++ m ∷ [])) (named : AreNamed (file_rules k) seats (p ++ m ∷ [])) (low : m.seat < seats)
    (holds : ℕ → List FileHold) (inside : ℕ → Bool) (sets : ℕ → List Setting) (entries : List FileEntry) (st : Stands n k seats p (m ∷ r) holds inside sets entries) (end : List FileEntry) where
  -- the walk goes on if only the seat of the mark has changed
  goes : (holds' : ℕ → List FileHold) (inside' : ℕ → Bool) (sets' : ℕ → List Setting) (entries' : List FileEntry)
      → ((t : ℕ) → t ≢ m.seat → holds' t ≡ holds t) → ((t : ℕ) → t ≢ m.seat → inside' t ≡ inside t) → ((t : ℕ) → t ≢ m.seat → sets' t ≡ sets t)
      → held_kinds m.seat r ≡ rest_kinds (inside' m.seat) (sets' m.seat) (holds' m.seat)
      → reads_from n m.seat (p ++ m ∷ []) r ≡ map read_of (holds' m.seat)
      → All (IsFitHold k) (holds' m.seat)
      → IsQuiet n seats (p ++ m ∷ []) sets' entries' ⊎ IsWriting n k seats (p ++ m ∷ []) inside' sets' entries'
      → Stands n k seats (p ++ m ∷ []) r holds' inside' sets' entries'
  goes holds' inside' sets' entries' h o s kinds reads fit now = record {
    kinds = λ t below. elim (same_or_not t m.seat) [
      | inl e ↦ subst (λ (x : ℕ). held_kinds x r ≡ rest_kinds (inside' x) (sets' x) (holds' x)) (sym e) kinds
      | inr ne ↦ sym (held-other t m r (λ e. ne (sym e))) ∙ (st.kinds t below ∙ sym (λ i. rest_kinds (o t ne i) (s t ne i) (h t ne i)))
    ];
    reads = λ t below. elim (same_or_not t m.seat) [
      | inl e ↦ subst (λ (x : ℕ). reads_from n x (p ++ m ∷ []) r ≡ map read_of (holds' x)) (sym e) reads
      | inr ne ↦ sym (reads-other t m r n p (λ e. ne (sym e))) ∙ (st.reads t below ∙ sym (ap (map read_of) (h t ne)))
    ];
    fit = λ t below. elim (same_or_not t m.seat) [
      | inl e ↦ subst (λ (x : ℕ). All (IsFitHold k) (holds' x)) (sym e) fit
      | inr ne ↦ subst (λ (l : List FileHold). All (IsFitHold k) l) (sym (h t ne)) (st.fit t below)
    ];
    now = now;
  }

  -- ---- a Take

  took : (a : ℕ) → m.kind ≡ Take a → NextTake (inside m.seat) (holds m.seat) a (held_kinds m.seat r)
  took a is =
      let own = held-own m.seat m r refl (ap is_of_hold is) in
      next_take (inside m.seat) (sets m.seat) (holds m.seat) a (held_kinds m.seat r) (λ i. (ap (λ (x : FileKind). x ∷ held_kinds m.seat r) (sym is) ∙ (sym own ∙ st.kinds m.seat low)) i)

  module _ (a : ℕ) (is : m.kind ≡ Take a) where
    held_now : amount_held m.seat (p ++ m ∷ []) ≡ a
    held_now = held_own k p m m.seat refl ∙ ap (hold_after (amount_held m.seat p)) is

    some_amount : 0 < a
    some_amount = elim (subst (IsFair k p m.seat) is (last_fair (file_rules k) p m law)).0 [ inl e ↦ omega (arith, e) | inr e ↦ omega (arith, e, some) ]

    entries-kept : entries_after (p ++ m ∷ []) 0 n ≡ entries_after p 0 n
    entries-kept = entries-same p m (λ i f v. ap (field_after i f v) is) 0 n

    -- no other hold will set fields at the same time
    quiet : inside m.seat ≡ false → IsQuiet n seats p sets entries
    quiet idle = elim st.now [
      | inl q ↦ q
      | inr w ↦ absurd (elim (same_or_not w.writer m.seat) [
        | inl e ↦ true≢false (sym w.is_open ∙ (ap inside e ∙ idle))
        | inr ne ↦ omega (arith, some_amount, held_now, alone k seats (p ++ m ∷ []) law named w.writer m.seat w.below low ne (held_other k p m w.writer (λ e. ne (sym e)) ∙ w.all))
      ])
    ]

    at_take : (x : NextTake (inside m.seat) (holds m.seat) a (held_kinds m.seat r)) → IsQuiet n seats p sets entries
        → ((holds' : ℕ → List FileHold) (inside' : ℕ → Bool) (sets' : ℕ → List Setting) (entries' : List FileEntry) → Stands n k seats (p ++ m ∷ []) r holds' inside' sets' entries' → AreMerged seats holds' entries' end)
        → AreMerged seats holds entries end
    at_take x q next =
        let holds' : ℕ → List FileHold = at holds m.seat x.later in
        let inside' : ℕ → Bool = at inside m.seat true in
        let sets' : ℕ → List Setting = at sets m.seat x.hold.sets in
        let entries' : List FileEntry = set_all x.hold.read x.hold.sets in
        let reads : entries_after p 0 n ∷ reads_from n m.seat (p ++ m ∷ []) r ≡ x.hold.read ∷ map read_of x.later = sym (reads-take m.seat m r n p refl (ap is_take is)) ∙ (st.reads m.seat low ∙ ap (map read_of) x.holds_are) in
        let read : x.hold.read ≡ entries_after p 0 n = cc in
        let fits : All (IsFitHold k) (x.hold ∷ x.later) = subst (All (IsFitHold k)) x.holds_are (st.fit m.seat low) in
        let fit : IsFitHold k x.hold = All-head (IsFitHold k) x.hold x.later fits in
        let now : IsQuiet n seats (p ++ m ∷ []) sets' entries' ⊎ IsWriting n k seats (p ++ m ∷ []) inside' sets' entries' = elim fit.alone [
          | inl none ↦ inl (record {
            none = λ t below. elim (same_or_not t m.seat) [
              | inl e ↦ subst (λ (y : ℕ). sets' y ≡ []) (sym e) (at-here sets m.seat x.hold.sets ∙ none)
              | inr ne ↦ at-other sets m.seat x.hold.sets t ne ∙ q.none t below
            ];
            entries_are = ap (set_all x.hold.read) none ∙ (read ∙ sym entries-kept);
          })
          | inr all ↦ inr (record {
            writer = m.seat;
            below = low;
            is_open = at-here inside m.seat true;
            all = held_now ∙ (sym x.amount ∙ all);
            others = λ t below ne. at-other sets m.seat x.hold.sets t ne ∙ q.none t below;
            entries_are = λ i. set_all ((read ∙ sym entries-kept) i) (sym (at-here sets m.seat x.hold.sets) i);
          })
        ] in
        let after : Stands n k seats (p ++ m ∷ []) r holds' inside' sets' entries' = goes holds' inside' sets' entries'
        (at-other holds m.seat x.later) (at-other inside m.seat true) (at-other sets m.seat x.hold.sets)
        (x.rest ∙ sym (λ i. rest_kinds (at-here inside m.seat true i) (at-here sets m.seat x.hold.sets i) (at-here holds m.seat x.later i)))
        (let tail : reads_from n m.seat (p ++ m ∷ []) r ≡ map read_of x.later = cc in tail ∙ sym (ap (map read_of) (at-here holds m.seat x.later)))
        (subst (λ (l : List FileHold). All (IsFitHold k) l) (sym (at-here holds m.seat x.later)) (All-tail (IsFitHold k) x.hold x.later fits))
        now in
        let rest : AreMerged seats holds' entries' end = next holds' inside' sets' entries' after in
        record {
          list = x.hold ∷ rest.list;
          permutation = IsPermutation-trans (gather_from holds 0 seats) (x.hold ∷ gather_from holds' 0 seats) (x.hold ∷ rest.list)
              (gather_first holds holds' x.hold m.seat 0 seats (omega arith) (omega (arith, low)) (x.holds_are ∙ ap (λ (l : List FileHold). x.hold ∷ l) (sym (at-here holds m.seat x.later))) (λ t ne. sym (at-other holds m.seat x.later t ne)))
              (IsPermutation-cons x.hold (gather_from holds' 0 seats) rest.list rest.permutation);
          replays = (entries', subst (λ (l : List FileEntry). Steps l x.hold.line entries') (read ∙ sym q.entries_are) fit.steps, rest.replays);
        }

  -- ---- a Set

  module _ (i : ℕ) (f : FileField) (v : ℕ) (is : m.kind ≡ Set i f v) where
    was_set : NextSet (inside m.seat) (sets m.seat) (holds m.seat) i f v (held_kinds m.seat r)
    was_set = next_set (inside m.seat) (sets m.seat) (holds m.seat) i f v (held_kinds m.seat r) (ap (λ (x : FileKind). x ∷ held_kinds m.seat r) (sym is) ∙ (sym (held-own m.seat m r refl (ap is_of_hold is)) ∙ st.kinds m.seat low))

    at_set : (x : NextSet (inside m.seat) (sets m.seat) (holds m.seat) i f v (held_kinds m.seat r)) → Stands n k seats (p ++ m ∷ []) r holds inside (at sets m.seat x.later) entries
    at_set x =
        let sets' : ℕ → List Setting = at sets m.seat x.later in
        goes holds inside sets' entries (λ t ne. refl) (λ t ne. refl) (at-other sets m.seat x.later)
        (x.rest ∙ sym (λ j. rest_kinds (x.is_open j) (at-here sets m.seat x.later j) (holds m.seat)))
        (sym (reads-none m.seat m r n p refl (ap is_take is)) ∙ st.reads m.seat low)
        (st.fit m.seat low)
        (elim st.now [
          | inl q ↦ absurd (let none : x.setting ∷ x.later ≡ [] = sym x.sets_are ∙ q.none m.seat low in cc)
          | inr w ↦ elim (same_or_not m.seat w.writer) [
            | inr ne ↦ absurd (let none : x.setting ∷ x.later ≡ [] = sym x.sets_are ∙ w.others m.seat low ne in cc)
            | inl e ↦
                let held : amount_held m.seat (p ++ m ∷ []) ≡ k = held_own k p m m.seat refl ∙ (ap (hold_after (amount_held m.seat p)) is ∙ (ap (λ (s : ℕ). amount_held s p) e ∙ w.all)) in
                let one : set_in (entries_after p 0 n) x.setting.entry x.setting.field x.setting.to ≡ entries_after (p ++ m ∷ []) 0 n = (λ j. set_in (entries_after p 0 n) (x.entry j) (x.field j) (x.to j)) ∙ sym (entries-set p m i f v is 0 n i (omega arith)) in
                inr (record {
                  writer = m.seat;
                  below = low;
                  is_open = x.is_open;
                  all = held;
                  others = λ t below ne. at-other sets m.seat x.later t ne ∙ w.others t below (λ d. ne (d ∙ sym e));
                  entries_are = w.entries_are ∙ (ap (set_all (entries_after p 0 n)) (ap sets (sym e) ∙ x.sets_are) ∙ (λ j. set_all (one j) (sym (at-here sets m.seat x.later) j)));
                })
          ]
        ])

  -- ---- a Give

  module _ (is : m.kind ≡ Give) where
    gave : NextGive (inside m.seat) (sets m.seat) (holds m.seat) (held_kinds m.seat r)
    gave = next_give (inside m.seat) (sets m.seat) (holds m.seat) (held_kinds m.seat r) (ap (λ (x : FileKind). x ∷ held_kinds m.seat r) (sym is) ∙ (sym (held-own m.seat m r refl (ap is_of_hold is)) ∙ st.kinds m.seat low))

    give_keeps : entries_after (p ++ m ∷ []) 0 n ≡ entries_after p 0 n
    give_keeps = entries-same p m (λ i f v. ap (field_after i f v) is) 0 n

    at_give : (x : NextGive (inside m.seat) (sets m.seat) (holds m.seat) (held_kinds m.seat r)) → Stands n k seats (p ++ m ∷ []) r holds (at inside m.seat false) sets entries
    at_give x =
        let inside' : ℕ → Bool = at inside m.seat false in
        goes holds inside' sets entries (λ t ne. refl) (at-other inside m.seat false) (λ t ne. refl)
        (x.rest ∙ sym (λ j. rest_kinds (at-here inside m.seat false j) (sets m.seat) (holds m.seat)))
        (sym (reads-none m.seat m r n p refl (ap is_take is)) ∙ st.reads m.seat low)
        (st.fit m.seat low)
        (elim st.now [
          | inl q ↦ inl (record { none = q.none; entries_are = q.entries_are ∙ sym give_keeps })
          | inr w ↦ elim (same_or_not m.seat w.writer) [
            | inl e ↦ inl (record {
              none = λ t below. elim (same_or_not t m.seat) [
                | inl d ↦ ap sets d ∙ x.none
                | inr ne ↦ w.others t below (λ d. ne (d ∙ sym e))
              ];
              entries_are = w.entries_are ∙ (ap (set_all (entries_after p 0 n)) (ap sets (sym e) ∙ x.none) ∙ sym give_keeps);
            })
            | inr ne ↦ inr (record {
              writer = w.writer;
              below = w.below;
              is_open = at-other inside m.seat false w.writer (λ d. ne (sym d)) ∙ w.is_open;
              all = held_other k p m w.writer ne ∙ w.all;
              others = w.others;
              entries_are = w.entries_are ∙ ap (λ (l : List FileEntry). set_all l (sets w.writer)) (sym give_keeps);
            })
          ]
        ])

  -- ---- a mark of a refused call

  at_refusal : is_of_hold m.kind ≡ false → is_take m.kind ≡ false → ((i : ℕ) (f : FileField) (v : ℕ) → field_after i f v m.kind ≡ v) → ((a : ℕ) → hold_after a m.kind ≡ a) → Stands n k seats (p ++ m ∷ []) r holds inside sets entries
  at_refusal out no_take none same = grind (arith, common_steps, entries_after, entries-same, none, goes, held-none, same_or_not, held_own, amount_held, held_other, set_all)

  -- ---- each mark

  at_mark : ((holds' : ℕ → List FileHold) (inside' : ℕ → Bool) (sets' : ℕ → List Setting) (entries' : List FileEntry) → Stands n k seats (p ++ m ∷ []) r holds' inside' sets' entries' → AreMerged seats holds' entries' end)
      → (kind : FileKind) → m.kind ≡ kind → AreMerged seats holds entries end
  at_mark next (Take a) is = let x = took a is in at_take a is x (quiet a is x.is_idle) next
  at_mark next (Set i f v) is = let x = was_set i f v is in next holds inside (at sets m.seat x.later) entries (at_set i f v is x)
  at_mark next Give is = next holds (at inside m.seat false) sets entries (at_give is (gave is))
  at_mark next (Over a) is = next holds inside sets entries (at_refusal (ap is_of_hold is) (ap is_take is) (λ i f v. ap (field_after i f v) is) (λ b. ap (hold_after b) is))
  at_mark next (Back a) is = next holds inside sets entries (at_refusal (ap is_of_hold is) (ap is_take is) (λ i f v. ap (field_after i f v) is) (λ b. ap (hold_after b) is))
  at_mark next (No a) is = next holds inside sets entries (at_refusal (ap is_of_hold is) (ap is_take is) (λ i f v. ap (field_after i f v) is) (λ b. ap (hold_after b) is))

-- ---- all marks

all_front : {A : Type 0} (F : A → Type 0) (l k : List A) → All F (l ++ k) → All F l
all_front F [] k all = All-nil F
all_front F (x ∷ l) k all = All-cons F x l (All-head F x (l ++ k) all) (all_front F l k (All-tail F x (l ++ k) all))

walk : (n k seats : ℕ) → 1 ≤ k → (r p : List FileMark) → IsFileHistory k (p ++ r) → AreNamed (file_rules k) seats (p ++ r) → (holds : ℕ → List FileHold) (inside : ℕ → Bool) (sets : ℕ → List Setting) (entries : List FileEntry)
    → Stands n k seats p r holds inside sets entries → AreMerged seats holds entries (entries_after (p ++ r) 0 n)
walk n k seats some [] p law named holds inside sets entries st = grind (arith, common_steps, gather_none, next_none, entries_after, append-nil)
walk n k seats some (m ∷ r) p law named holds inside sets entries st =
    let whole : (p ++ m ∷ []) ++ r ≡ p ++ m ∷ r = append_assoc p (m ∷ []) r in
    let law' : IsFileHistory k ((p ++ m ∷ []) ++ r) = subst (IsFileHistory k) (sym whole) law in
    let named' : AreNamed (file_rules k) seats ((p ++ m ∷ []) ++ r) = subst (AreNamed (file_rules k) seats) (sym whole) named in
    subst (λ (h : List FileMark). AreMerged seats holds entries (entries_after h 0 n)) whole
    (at_mark n k seats some p m r (history_prefix (file_rules k) (p ++ m ∷ []) r law') (all_front (λ (w : FileMark). w.seat < seats) (p ++ m ∷ []) r named') (All-head (λ (w : FileMark). w.seat < seats) m r (all_back p (m ∷ r) named)) holds inside sets entries st (entries_after ((p ++ m ∷ []) ++ r) 0 n)
    (λ holds' inside' sets' entries' after. walk n k seats some r (p ++ m ∷ []) law' named' holds' inside' sets' entries' after) m.kind refl)
  where
    all_back : (l r : List FileMark) → All (λ (w : FileMark). w.seat < seats) (l ++ r) → All (λ (w : FileMark). w.seat < seats) r
    all_back [] r all = all
    all_back (x ∷ l) r all = all_back l r (All-tail (λ (w : FileMark). w.seat < seats) x (l ++ r) all)

-- ---- the whole history

-- the lines of the holds of all seats, in the order of their Takes, replay
pub holds_replay : (n k seats : ℕ) → 1 ≤ k → (h : List FileMark) → IsFileHistory k h → AreNamed (file_rules k) seats h → (holds : ℕ → List FileHold) → ((s : ℕ) → s < seats → AreHolds n k s (holds s) h)
    → AreMerged seats holds (entries_after [] 0 n) (entries_after h 0 n)
holds_replay n k seats some h law named holds are = walk n k seats some h [] law named holds (λ s. false) (λ s. []) (entries_after [] 0 n) record {
  kinds = λ s below. (are s below).kinds;
  reads = λ s below. (are s below).reads;
  fit = λ s below. (are s below).fit;
  now = inl (record { none = λ s below. refl; entries_are = refl });
}
