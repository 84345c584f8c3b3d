use Rattle.std.proofs.Common.{◌≡◌, List, ℕ, codes, Option, Some, subst, sym, option_and_then, unwrap_or, []}
use Rattle.serde_json.specs.Data.{Data, string}
use Rattle.serde_json.specs.Find.{as_str, get}
use Rattle.fak_places.specs.Keys.{AgreeAt, keys_of_object}
use Rattle.fak_callers.proofs.keys.inputs_with_the_same_keys_are_read_alike.Goals as goal

pub returns-clause-histories : goal.returns-clause-histories
returns-clause-histories c d e size marks = c.an_ignored_key_has_no_effect.ensures.histories d e (size, (marks, tt))

pub returns-clause-scripts : goal.returns-clause-scripts
returns-clause-scripts c d e version slots births quantum stint semaphores files programs start =
    c.an_ignored_key_has_no_effect.ensures.scripts d e (version, (slots, (births, (quantum, (stint, (semaphores, (files, (programs, (start, tt)))))))))

-- the keys of a schedule whose object has this name
by_name : (d e : Data) (name : List ℕ) → get (codes "object") d ≡ Some (string name) → AgreeAt (keys_of_object name) d e
    → AgreeAt (keys_of_object (unwrap_or (option_and_then as_str (get (codes "object") d)) [])) d e
by_name d e name is agree = subst (λ (o : Option Data). AgreeAt (keys_of_object (unwrap_or (option_and_then as_str o) [])) d e) (sym is) agree

of_queue : (d e : Data) → get (codes "object") d ≡ get (codes "object") e → get (codes "size") d ≡ get (codes "size") e
    → get (codes "seats") d ≡ get (codes "seats") e → get (codes "events") d ≡ get (codes "events") e → AgreeAt (keys_of_object (codes "queue")) d e
unfolding keys_of_object
of_queue d e object size seats events = (object, (size, (seats, (events, tt))))

of_room : (d e : Data) → get (codes "object") d ≡ get (codes "object") e → get (codes "bound") d ≡ get (codes "bound") e
    → get (codes "seats") d ≡ get (codes "seats") e → get (codes "events") d ≡ get (codes "events") e → AgreeAt (keys_of_object (codes "room")) d e
unfolding keys_of_object
of_room d e object bound seats events = (object, (bound, (seats, (events, tt))))

pub returns-clause-queues : goal.returns-clause-queues
returns-clause-queues c d e is object size seats events =
    c.an_ignored_key_has_no_effect.ensures.schedules d e (by_name d e (codes "queue") is (of_queue d e object size seats events))

pub returns-clause-rooms : goal.returns-clause-rooms
returns-clause-rooms c d e is object bound seats events =
    c.an_ignored_key_has_no_effect.ensures.schedules d e (by_name d e (codes "room") is (of_room d e object bound seats events))
