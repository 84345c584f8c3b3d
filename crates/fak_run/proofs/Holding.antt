-- What a seat knows of its hold: from the calls of one hold to the line of that hold.
use Rattle.fak_run.proofs.Common.{◌≡◌, ◌⊎◌, ℕ, ◌==◌, Bool, true, false, cond, List, [], ◌∷◌, ◌++◌, Some, refl, ap, sym, ◌∙◌, subst, arith, inl, inr, append_assoc, map, filter, flat_map, nat_tests, All-head, All-tail, All-push, filter-append, flat_map-append, AreNamed, words_by, Setting, set_mark, WholeCall, Refused, Withdrawn, kinds_of_call, seat_of, kind_of, file_rules, IsFileHistory, ObjectId, SeatInfo, seat_info, last_of, Begins, marks_of, FileEntry, FileKind, Take, Over, Back, No, Give, FileMark, history_none, FileSeatInfo, LeavesMarks, amount_for, AreRefused, IsWaitedFor, IsGot, entries_after, set_all, IsFitHold, is_of_hold, held_kinds, kinds_of_hold, reads_from, reads_of, hold_line, read_of, AreHolds, common_steps, Access, mark, entry_of, is_take, is_take_of, prefix_through_take, marks_since_take, Steps, Left, HasJustTaken, HasMade, AreLines}
use Rattle.std.proofs.lemmas.List.{append-nil, map-append}
use Rattle.fak_model.proofs.Seats.{marks_of_append}
use Rattle.fak_files.specs.declared.phase.Access.TheVariants.{Write}
use Rattle.fak_files.proofs.HoldLaws.{reads_stay, take_reads}
use Rattle.fak_text.specs.Journal.{NoteOf}
use Rattle.fak_run.proofs.Entries.{entries-same}

-- ---- lists

same_rest : {A : Type 0} (xs ys zs : List A) → xs ++ ys ≡ xs ++ zs → ys ≡ zs
same_rest [] ys zs e = e
same_rest (x ∷ xs) ys zs e = same_rest xs ys zs cc

same_front : {A : Type 0} (xs ys : List A) (x y : A) → xs ++ x ∷ [] ≡ ys ++ y ∷ [] → xs ≡ ys
same_front [] [] x y e = refl
same_front [] (z ∷ []) x y e = absurd cc
same_front [] (z ∷ w ∷ ys) x y e = absurd cc
same_front (z ∷ []) [] x y e = absurd cc
same_front (z ∷ w ∷ xs) [] x y e = absurd cc
same_front (z ∷ xs) (w ∷ ys) x y e = let head : z ≡ w = cc in let tail : xs ≡ ys = same_front xs ys x y cc in cc

last_push : {A : Type 0} (h : List A) (m : A) → last_of (h ++ m ∷ []) ≡ Some m
last_push [] m = refl
last_push (x ∷ []) m = refl
last_push (x ∷ y ∷ h) m = last_push (y ∷ h) m

last_append : {A : Type 0} (f : List A) (m : A) (g : List A) → last_of (f ++ m ∷ g) ≡ last_of (m ∷ g)
last_append [] m g = refl
last_append (x ∷ []) m g = refl
last_append (x ∷ y ∷ f) m g = last_append (y ∷ f) m g

-- a list, split at its last item
last_split : {A : Type 0} (h : List A) (m : A) → last_of h ≡ Some m → (front : List A) × (h ≡ front ++ m ∷ [])
last_split [] m e = absurd cc
last_split (x ∷ []) m e = let is : x ≡ m = cc in ([], λ i. is i ∷ [])
last_split (x ∷ y ∷ h) m e = let w = last_split (y ∷ h) m e in (x ∷ w.0, ap (λ l. x ∷ l) w.1)

-- ---- what a name reads at its Takes

reads-append : (n name : ℕ) (p a b : List FileMark) → reads_from n name p (a ++ b) ≡ reads_from n name p a ++ reads_from n name (p ++ a) b
reads-append n name p [] b = ap (λ q. reads_from n name q b) (sym (append-nil p))
reads-append n name p (m ∷ a) b = by (is_take_of name m) refl (reads-append n name (p ++ m ∷ []) a b ∙ ap (λ q. reads_from n name (p ++ m ∷ []) a ++ reads_from n name q b) (append_assoc p (m ∷ []) a))
  where
    by : (t : Bool) → is_take_of name m ≡ t → reads_from n name (p ++ m ∷ []) (a ++ b) ≡ reads_from n name (p ++ m ∷ []) a ++ reads_from n name (p ++ m ∷ a) b
        → cond (is_take_of name m) (entries_after p 0 n ∷ reads_from n name (p ++ m ∷ []) (a ++ b)) (reads_from n name (p ++ m ∷ []) (a ++ b))
        ≡ cond (is_take_of name m) (entries_after p 0 n ∷ reads_from n name (p ++ m ∷ []) a) (reads_from n name (p ++ m ∷ []) a) ++ reads_from n name (p ++ m ∷ a) b
    by true e rest = rw e (ap (λ l. entries_after p 0 n ∷ l) rest)
    by false e rest = rw e rest

-- the Takes of a name
abbrev takes_of : ℕ → List FileMark → List FileKind
takes_of name h = filter is_take (words_by seat_of kind_of name h)

reads-none : (n name : ℕ) (p h : List FileMark) → takes_of name h ≡ [] → reads_from n name p h ≡ []
reads-none n name p [] none = refl
reads-none n name p (m ∷ h) none = by (m.seat == name) refl (is_take m.kind) refl (reads-none n name (p ++ m ∷ []) h)
  where
    by : (a : Bool) → (m.seat == name) ≡ a → (b : Bool) → is_take m.kind ≡ b → (takes_of name h ≡ [] → reads_from n name (p ++ m ∷ []) h ≡ []) → reads_from n name p (m ∷ h) ≡ []
    by true a true b rest = absurd (let e : m.kind ∷ takes_of name h ≡ [] = rw (a, b) at none in cc)
    by true a false b rest = rw (a, b) (rest (rw (a, b) at none))
    by false a b e rest = rw a (rest (rw a at none))

-- ---- marks that a seat left

kinds-marks : (name : ℕ) (ks : List FileKind) → map kind_of (map (mark name) ks) ≡ ks
kinds-marks name [] = refl
kinds-marks name (k ∷ ks) = ap (λ l. k ∷ l) (kinds-marks name ks)

words-left : (ks : List FileKind) (a b : SeatInfo FileMark) → Left ks a b → words_by seat_of kind_of a.name b.seen ≡ words_by seat_of kind_of a.name a.seen ++ ks
words-left ks a b l =
    ap (map kind_of) l.mine ∙ (map-append kind_of (marks_of seat_of a.name a.seen) (map (mark a.name) ks) ∙ ap (λ w. words_by seat_of kind_of a.name a.seen ++ w) (kinds-marks a.name ks))

pub held-left : (ks : List FileKind) (a b : SeatInfo FileMark) → Left ks a b → held_kinds a.name b.seen ≡ held_kinds a.name a.seen ++ filter is_of_hold ks
held-left ks a b l = ap (filter is_of_hold) (words-left ks a b l) ∙ filter-append is_of_hold (words_by seat_of kind_of a.name a.seen) ks

-- the seat's own marks among those that it has seen since
rest_marks : (ks : List FileKind) (a b : SeatInfo FileMark) → (l : Left ks a b) → marks_of seat_of a.name l.begins.0 ≡ map (mark a.name) ks
rest_marks ks a b l = same_rest (marks_of seat_of a.name a.seen) (marks_of seat_of a.name l.begins.0) (map (mark a.name) ks) (sym (marks_of_append seat_of a.name a.seen l.begins.0) ∙ (ap (marks_of seat_of a.name) l.begins.1 ∙ l.mine))

pub reads-left : (n : ℕ) (ks : List FileKind) (a b : SeatInfo FileMark) → Left ks a b → filter is_take ks ≡ [] → reads_of n a.name b.seen ≡ reads_of n a.name a.seen
reads-left n ks a b l none =
    let takes : takes_of a.name l.begins.0 ≡ [] = ap (λ (ms : List FileMark). filter is_take (map kind_of ms)) (rest_marks ks a b l) ∙ (ap (filter is_take) (kinds-marks a.name ks) ∙ none) in
    ap (reads_of n a.name) (sym l.begins.1) ∙ (reads-append n a.name [] a.seen l.begins.0 ∙ (ap (λ r. reads_of n a.name a.seen ++ r) (reads-none n a.name a.seen l.begins.0 takes) ∙ append-nil (reads_of n a.name a.seen)))

pub left_of : (ks : List FileKind) (a b : SeatInfo FileMark) → LeavesMarks ks a b → Left ks a b
left_of ks a b l = grind (arith, common_steps, marks_of, seat_of, map, mark)

pub begins_then : (f g h : List FileMark) → Begins f g → Begins g h → Begins f h
begins_then f g h a b = (a.0 ++ b.0, sym (append_assoc f a.0 b.0) ∙ (ap (λ l. l ++ b.0) a.1 ∙ b.1))

-- one part of a hold, and then another
pub left_then : (ks js : List FileKind) (a b c : SeatInfo FileMark) → Left ks a b → Left js b c → Left (ks ++ js) a c
left_then ks js a b c x y = grind (arith, common_steps, marks_of, seat_of, map, mark, begins_then, append_assoc, map-append)

-- ---- a hold that was granted

refused-none : (test : FileKind → Bool) → ((a : ℕ) → test (No a) ≡ false) → ((a : ℕ) → test (Over a) ≡ false) → ((a : ℕ) → test (Back a) ≡ false) → (n : ℕ) (tries : List WholeCall) → AreRefused n tries → filter test (flat_map kinds_of_call tries) ≡ []
refused-none test nos over back n [] are = refl
refused-none test nos over back n (c ∷ tries) are =
    let IsRefusal : WholeCall → Type 0 = λ (call : WholeCall). (call ≡ Refused n) ⊎ (call ≡ Withdrawn n) in
    let rest = refused-none test nos over back n tries (All-tail (λ (call : WholeCall). (call ≡ Refused n) ⊎ (call ≡ Withdrawn n)) c tries are) in
    filter-append test (kinds_of_call c) (flat_map kinds_of_call tries) ∙ (ap (λ l. l ++ filter test (flat_map kinds_of_call tries)) (one c (All-head (λ (call : WholeCall). (call ≡ Refused n) ⊎ (call ≡ Withdrawn n)) c tries are)) ∙ rest)
  where
    one : (c : WholeCall) → (c ≡ Refused n) ⊎ (c ≡ Withdrawn n) → filter test (kinds_of_call c) ≡ []
    one c f = grind (arith, common_steps, filter, kinds_of_call)

-- a seat that has just taken its hold, after any number of refused tries
pub record IsTaken (n a : ℕ) (old now : SeatInfo FileMark) : Type 0 where
  pub same_seat : now ≡ record old { seen = now.seen }
  pub kinds : held_kinds old.name now.seen ≡ held_kinds old.name old.seen ++ Take a ∷ []
  pub reads : reads_of n old.name now.seen ≡ reads_of n old.name old.seen ++ entries_after now.seen 0 n ∷ []
  pub just : HasJustTaken now

pub taken_of : (n : ℕ) (access : Access) (old now : FileSeatInfo) → IsWaitedFor access old now → IsTaken n (amount_for access old.seat) old.seat now.seat
taken_of n access old now w =
    let s : SeatInfo FileMark = old.seat in
    let t : SeatInfo FileMark = now.seat in
    let tries : List FileKind = flat_map kinds_of_call w.tries in
    let l : Left (tries ++ Take (amount_for access old.seat) ∷ []) old.seat now.seat = left_of (tries ++ Take (amount_for access old.seat) ∷ []) old.seat now.seat w.leaves in
    taken tries (amount_for access old.seat) (refused-none is_take (λ i. refl) (λ i. refl) (λ i. refl) (amount_for access old.seat) w.tries w.refused)
    (refused-none is_of_hold (λ i. refl) (λ i. refl) (λ i. refl) (amount_for access old.seat) w.tries w.refused) l
    (w.leaves.last (mark old.seat.name (Take (amount_for access old.seat))) (ap last_of (map-append (mark old.seat.name) tries (Take (amount_for access old.seat) ∷ [])) ∙ last_push (map (mark old.seat.name) tries) (mark old.seat.name (Take (amount_for access old.seat)))))
  where
    taken : (tries : List FileKind) (a : ℕ) → filter is_take tries ≡ [] → filter is_of_hold tries ≡ [] → (l : Left (tries ++ Take a ∷ []) old.seat now.seat) → last_of now.seat.seen ≡ Some (mark old.seat.name (Take a)) → IsTaken n a old.seat now.seat
    taken tries a no_takes no_holds l last =
        let name : ℕ = old.seat.name in
        let m : FileMark = mark old.seat.name (Take a) in
        let marks : marks_of seat_of old.seat.name l.begins.0 ≡ map (mark old.seat.name) tries ++ mark old.seat.name (Take a) ∷ [] = rest_marks (tries ++ Take a ∷ []) old.seat now.seat l ∙ map-append (mark old.seat.name) tries (Take a ∷ []) in
        by tries a no_takes no_holds l l.begins.0 l.begins.1 marks (rest_last l.begins.0 tries a marks (ap last_of l.begins.1 ∙ last))
      where
        rest_last : (rest : List FileMark) (tries : List FileKind) (a : ℕ) → marks_of seat_of old.seat.name rest ≡ map (mark old.seat.name) tries ++ mark old.seat.name (Take a) ∷ [] → last_of (old.seat.seen ++ rest) ≡ Some (mark old.seat.name (Take a)) → last_of rest ≡ Some (mark old.seat.name (Take a))
        rest_last [] tries a marks last = absurd (nothing (map (mark old.seat.name) tries) (mark old.seat.name (Take a)) marks)
          where
            nothing : {A : Type 0} (xs : List A) (x : A) → [] ≡ xs ++ x ∷ [] → ⊥
            nothing xs x e = grind (arith, common_steps)
        rest_last (x ∷ rest) tries a marks last = sym (last_append old.seat.seen x rest) ∙ last

        by : (tries : List FileKind) (a : ℕ) → filter is_take tries ≡ [] → filter is_of_hold tries ≡ [] → (l : Left (tries ++ Take a ∷ []) old.seat now.seat) → (rest : List FileMark) → old.seat.seen ++ rest ≡ now.seat.seen
            → marks_of seat_of old.seat.name rest ≡ map (mark old.seat.name) tries ++ mark old.seat.name (Take a) ∷ [] → last_of rest ≡ Some (mark old.seat.name (Take a)) → IsTaken n a old.seat now.seat
        by tries a no_takes no_holds l rest is marks last =
            let name : ℕ = old.seat.name in
            let m : FileMark = mark old.seat.name (Take a) in
            let front = last_split rest (mark old.seat.name (Take a)) last in
            let own : (m.seat == name) ≡ true = grind (arith, nat_tests) in
            let single : marks_of seat_of name (m ∷ []) ≡ m ∷ [] = rw own refl in
            let marks' : marks_of seat_of name front.0 ++ m ∷ [] ≡ map (mark name) tries ++ m ∷ [] =
            ap (λ l. marks_of seat_of name front.0 ++ l) (sym single) ∙ (sym (marks_of_append seat_of name front.0 (m ∷ [])) ∙ (ap (marks_of seat_of name) (sym front.1) ∙ marks)) in
            let before : marks_of seat_of name front.0 ≡ map (mark name) tries = same_front (marks_of seat_of name front.0) (map (mark name) tries) m m marks' in
            let takes : takes_of name front.0 ≡ [] = ap (λ (ms : List FileMark). filter is_take (map kind_of ms)) before ∙ (ap (filter is_take) (kinds-marks name tries) ∙ no_takes) in
            let seen : (old.seat.seen ++ front.0) ++ m ∷ [] ≡ now.seat.seen = append_assoc old.seat.seen front.0 (m ∷ []) ∙ (ap (λ l. old.seat.seen ++ l) (sym front.1) ∙ is) in
            let same_name : now.seat.name ≡ name = ap (λ (s : SeatInfo FileMark). s.name) l.same_seat in
            let entries : entries_after (old.seat.seen ++ front.0) 0 n ≡ entries_after now.seat.seen 0 n = sym (entries-same (old.seat.seen ++ front.0) m (λ i f v. refl) 0 n) ∙ ap (λ (h : List FileMark). entries_after h 0 n) seen in
            let one : reads_from n name (old.seat.seen ++ front.0) (m ∷ []) ≡ entries_after (old.seat.seen ++ front.0) 0 n ∷ [] = rw own refl in
            let just = take_reads (old.seat.seen ++ front.0) m refl in
            record {
              same_seat = l.same_seat;
              kinds = held-left (tries ++ Take a ∷ []) old.seat now.seat l ∙ ap (λ ks. held_kinds name old.seat.seen ++ ks) (filter-append is_of_hold tries (Take a ∷ []) ∙ ap (λ ks. ks ++ Take a ∷ []) no_holds);
              reads = ap (reads_of n name) (sym seen) ∙ (reads-append n name [] (old.seat.seen ++ front.0) (m ∷ [])
                  ∙ ((λ i. (reads-append n name [] old.seat.seen front.0 ∙ (ap (λ r. reads_of n name old.seat.seen ++ r) (reads-none n name old.seat.seen front.0 takes) ∙ append-nil (reads_of n name old.seat.seen))) i ++ one i)
                  ∙ ap (λ (e : List FileEntry). reads_of n name old.seat.seen ++ e ∷ []) entries));
              just = record {
                through = subst (λ (x : ℕ × List FileMark). prefix_through_take x.0 x.1 ≡ x.1) (λ i. (sym same_name i, seen i)) just.0;
                since = subst (λ (x : ℕ × List FileMark). marks_since_take x.0 x.1 ≡ []) (λ i. (sym same_name i, seen i)) just.1;
              };
            }

-- ---- what is read in the hold

-- an entry that is read before the seat sets a field
pub got_of : (i : ℕ) (old now next : FileSeatInfo) (answer : FileEntry) → HasJustTaken old.seat → Left [] old.seat now.seat → IsGot i now next answer → (answer ≡ entry_of old.seat.seen i) × Left [] old.seat next.seat
got_of i old now next answer just l got =
    let name : now.seat.name ≡ old.seat.name = ap (λ (s : SeatInfo FileMark). s.name) l.same_seat in
    let both : Left [] old.seat next.seat = left_then [] [] old.seat now.seat next.seat l (left_of [] now.seat next.seat got.leaves) in
    let stays = reads_stay old.seat.name old.seat.seen both.begins.0 (rest_marks [] old.seat next.seat both) in
    let through : prefix_through_take old.seat.name next.seat.seen ≡ old.seat.seen = ap (prefix_through_take old.seat.name) (sym both.begins.1) ∙ (stays.0 ∙ just.through) in
    let since : marks_since_take old.seat.name next.seat.seen ≡ [] = ap (marks_since_take old.seat.name) (sym both.begins.1) ∙ (stays.1 ∙ just.since) in
    let holding : answer ≡ entry_of (prefix_through_take old.seat.name next.seat.seen ++ marks_since_take old.seat.name next.seat.seen) i = subst (λ (w : ℕ). answer ≡ entry_of (prefix_through_take w next.seat.seen ++ marks_since_take w next.seat.seen) i) name got.holding in
    (holding ∙ ap (λ (h : List FileMark). entry_of h i) ((λ j. through j ++ since j) ∙ append-nil old.seat.seen), both)

-- ---- the whole hold

sets-held : (sets : List Setting) → filter is_of_hold (map set_mark sets) ≡ map set_mark sets
sets-held [] = refl
sets-held (s ∷ sets) = ap (λ l. set_mark s ∷ l) (sets-held sets)

sets-no_take : (sets : List Setting) → filter is_take (map set_mark sets) ≡ []
sets-no_take [] = refl
sets-no_take (s ∷ sets) = sets-no_take sets

pub made_of : (n : ℕ) (access : Access) (line : NoteOf) (sets : List Setting) (old mid now next : SeatInfo FileMark) → IsTaken n (amount_for access old) old mid → Left (map set_mark sets) mid now → LeavesMarks (Give ∷ []) now next
    → Steps (entries_after mid.seen 0 n) line (set_all (entries_after mid.seen 0 n) sets) → (sets ≡ []) ⊎ (access ≡ Write) → HasMade n line old next
made_of n access line sets old mid now next t l g' steps alone =
    let g : Left (Give ∷ []) now next = left_of (Give ∷ []) now next g' in
    let object : now.object ≡ old.object = ap (λ (s : SeatInfo FileMark). s.object) l.same_seat ∙ ap (λ (s : SeatInfo FileMark). s.object) t.same_seat in
    let object' : next.object ≡ old.object = ap (λ (s : SeatInfo FileMark). s.object) g.same_seat ∙ object in
    let name : mid.name ≡ old.name = ap (λ (s : SeatInfo FileMark). s.name) t.same_seat in
    let both : Left (map set_mark sets ++ Give ∷ []) mid next = left_then (map set_mark sets) (Give ∷ []) mid now next l g in
    let no_take : filter is_take (map set_mark sets ++ Give ∷ []) ≡ [] = filter-append is_take (map set_mark sets) (Give ∷ []) ∙ (ap (λ ks. ks ++ []) (sets-no_take sets)) in
    let kinds : held_kinds mid.name next.seen ≡ held_kinds mid.name mid.seen ++ (map set_mark sets ++ Give ∷ []) =
    held-left (map set_mark sets ++ Give ∷ []) mid next both ∙ ap (λ ks. held_kinds mid.name mid.seen ++ ks) (filter-append is_of_hold (map set_mark sets) (Give ∷ []) ∙ ap (λ ks. ks ++ Give ∷ []) (sets-held sets)) in
    let kinds' : held_kinds old.name next.seen ≡ held_kinds old.name mid.seen ++ (map set_mark sets ++ Give ∷ []) = subst (λ (w : ℕ). held_kinds w next.seen ≡ held_kinds w mid.seen ++ (map set_mark sets ++ Give ∷ [])) name kinds in
    let reads : reads_of n old.name next.seen ≡ reads_of n old.name mid.seen = subst (λ (w : ℕ). reads_of n w next.seen ≡ reads_of n w mid.seen) name (reads-left n (map set_mark sets ++ Give ∷ []) mid next both no_take) in
    record {
      hold = record { line = line; amount = amount_for access old; read = entries_after mid.seen 0 n; sets = sets };
      line_is = refl;
      fit = record { steps = steps; alone = elim alone [ inl none ↦ inl none | inr write ↦ inr (ap (λ (x : Access). amount_for x old) write) ] };
      same_seat = both.same_seat ∙ ap (λ (s : SeatInfo FileMark). record s { seen = next.seen }) t.same_seat;
      kinds = kinds' ∙ (ap (λ ks. ks ++ (map set_mark sets ++ Give ∷ [])) t.kinds ∙ append_assoc (held_kinds old.name old.seen) (Take (amount_for access old) ∷ []) (map set_mark sets ++ Give ∷ []));
      reads = reads ∙ t.reads;
      lawful = subst (λ (o : ObjectId). IsFileHistory o.seats next.seen) object g'.lawful;
      named = subst (λ (o : ObjectId × ObjectId). AreNamed (file_rules o.0.seats) o.1.seats next.seen) (λ i. (object i, object' i)) g'.named;
    }

pub made_by_sets : (n : ℕ) (access : Access) (line : NoteOf) (sets : List Setting) (old mid read now next : SeatInfo FileMark) → IsTaken n (amount_for access old) old mid → Left [] mid read → Left (map set_mark sets) read now → LeavesMarks (Give ∷ []) now next
    → Steps (entries_after mid.seen 0 n) line (set_all (entries_after mid.seen 0 n) sets) → (sets ≡ []) ⊎ (access ≡ Write) → HasMade n line old next
made_by_sets n access line sets old mid read now next t r l g steps alone = made_of n access line sets old mid now next t (left_then [] (map set_mark sets) mid read now r l) g steps alone

pub left_none : (a : SeatInfo FileMark) → Left [] a a
left_none a = record { same_seat = refl; begins = ([], append-nil a.seen); mine = sym (append-nil (marks_of seat_of a.name a.seen)) }

-- ---- the lines of a seat

-- one more line
pub lines_more : (n : ℕ) (lines : List NoteOf) (line : NoteOf) (a b : SeatInfo FileMark) → AreLines n lines a → HasMade n line a b → AreLines n (lines ++ line ∷ []) b
lines_more n lines line a b x y =
    let seat : b ≡ record a { seen = b.seen } = y.same_seat in
    let are : AreHolds n a.object.seats a.name (x.holds ++ y.hold ∷ []) b.seen = record {
      kinds = y.kinds ∙ ((λ i. x.are.kinds i ++ sym (append-nil (kinds_of_hold y.hold)) i) ∙ sym (flat_map-append kinds_of_hold x.holds (y.hold ∷ [])));
      reads = y.reads ∙ (ap (λ l. l ++ y.hold.read ∷ []) x.are.reads ∙ sym (map-append read_of x.holds (y.hold ∷ [])));
      fit = All-push (IsFitHold a.object.seats) x.holds y.hold x.are.fit y.fit;
    } in
    record {
      holds = x.holds ++ y.hold ∷ [];
      lines_are = map-append hold_line x.holds (y.hold ∷ []) ∙ (λ i. x.lines_are i ++ y.line_is i ∷ []);
      are = subst (λ (s : SeatInfo FileMark). AreHolds n s.object.seats s.name (x.holds ++ y.hold ∷ []) b.seen) (sym seat) are;
      lawful = subst (λ (s : SeatInfo FileMark). IsFileHistory s.object.seats b.seen) (sym seat) y.lawful;
      named = subst (λ (s : SeatInfo FileMark). AreNamed (file_rules s.object.seats) s.object.seats b.seen) (sym seat) y.named;
    }

-- a new seat has no lines
pub lines_none : (n : ℕ) (object : ObjectId) (name stint : ℕ) → AreLines n [] (seat_info object name stint [])
lines_none n object name stint = grind (arith, common_steps, history_none, file_rules)
