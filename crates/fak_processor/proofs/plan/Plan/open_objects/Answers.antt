use Rattle.fak_text.specs.Script.{ScriptOf}
use Rattle.fak_processor.proofs.Common.{ℕ, AreFor, ObjectsOf, ids_of, map, ◌≡◌, ◌∙◌, length, ap, sym, arith, length-map, common_steps}
use Rattle.fak_processor.specs.Opened.{fresh_all, zipped, AreSemaphoresFor}
use Rattle.fak_processor.proofs.Dealing.{length-new, length-rows, length-seats, zips}
use Rattle.fak_processor.proofs.plan.Plan.open_objects.Goals as goal

pub zip_seats-requires : goal.zip_seats-requires
zip_seats-requires g c =
    let n = c.args.self.now.processors in
    let stint = c.args.self.now.script.now.stint in
    let ready = length-seats c.in_ok-ready.ready_seats.items c.in_ok-ready.ready.object stint 0 n c.in_ok-ready.ensures.opened.2 in
    let free = length-seats c.in_ok-free.free_seats.items c.in_ok-free.free.object stint 0 n c.in_ok-free.ensures.opened.2 in
    let births = length-seats c.in_ok-births.birth_seats.items c.in_ok-births.births.object stint 0 n c.in_ok-births.ensures.opened.2 in
    let busy = length-seats c.in_ok-busy.busy_seats.items c.in_ok-busy.busy.object stint 0 n c.in_ok-busy.ensures.opened.2 in
    let dealt = ap length c.in_ok-semaphores.ensures.dealt in
    let rows = length-rows (ids_of c.in_ok-semaphores.semaphores.items) stint 0 n in
    let mapped = length-map c.in_ok-semaphores.rows.items (λ row. row.items) in
    let files = ap length c.in_ok-files.ensures.opened.2 in
    let new = length-new c.in_ok-files.files.object stint 0 n in
    record { len = (omega (arith, ready, free), omega (arith, ready, births), omega (arith, ready, busy), omega (arith, ready, dealt, rows, mapped), omega (arith, ready, files, new)) }

-- new objects are for the script that they were opened by
for_script : {script now : ScriptOf} {processors : ℕ} (o : ObjectsOf) → now ≡ script → o.ready.size ≡ now.slots → o.free.size ≡ now.slots → o.births.bound ≡ now.births → o.busy.start ≡ length now.start → o.files.entries ≡ now.files
    → AreSemaphoresFor now processors now.semaphores o.semaphores → AreFor script o
for_script o same ready free births busy files s = grind (arith, common_steps, length-map, length)

pub invariant_of-objects : goal.invariant_of-objects
invariant_of-objects g c =
    let o : ObjectsOf = record { ready = c.in_ok-ready.ready; free = c.in_ok-free.free; births = c.in_ok-births.births; busy = c.in_ok-busy.busy; semaphores = c.in_ok-semaphores.semaphores.items; files = c.in_ok-files.files } in
    (c.new.ensures ∙ sym c.in_ok-ready.ensures.opened.1, for_script o c.args.self.now.script_is c.in_ok-ready.ensures.opened.0 c.in_ok-free.ensures.opened.0 c.in_ok-births.ensures.opened.0 c.in_ok-busy.ensures.opened.0 c.in_ok-files.ensures.opened.0 c.in_ok-semaphores.ensures.opened)

pub returns-clause-made : goal.returns-clause-made
returns-clause-made g c =
    let o : ObjectsOf = record { ready = c.in_ok-ready.ready; free = c.in_ok-free.free; births = c.in_ok-births.births; busy = c.in_ok-busy.busy; semaphores = c.in_ok-semaphores.semaphores.items; files = c.in_ok-files.files } in
    for_script o c.args.self.now.script_is c.in_ok-ready.ensures.opened.0 c.in_ok-free.ensures.opened.0 c.in_ok-births.ensures.opened.0 c.in_ok-busy.ensures.opened.0 c.in_ok-files.ensures.opened.0 c.in_ok-semaphores.ensures.opened

pub returns-clause-seated : goal.returns-clause-seated
returns-clause-seated g c =
    let s = c.in_ok-semaphores.ensures.opened in
    record {
      ready = c.in_ok-ready.ensures.opened.1;
      free = c.in_ok-free.ensures.opened.1;
      births = c.in_ok-births.ensures.opened.1;
      busy = c.in_ok-busy.ensures.opened.1;
      credits = λ k d below. (s.each k d below).seats;
      waits = λ k d below. (s.each k d below).waits;
      files = c.in_ok-files.ensures.opened.1;
    }

pub returns-clause-fresh : goal.returns-clause-fresh
returns-clause-fresh g c =
    let r = c.in_ok-ready.ensures.opened.2 in
    let f = c.into_iter.ensures.rest ∙ c.in_ok-free.ensures.opened.2 in
    let b = c.into_iter-2.ensures.rest ∙ c.in_ok-births.ensures.opened.2 in
    let u = c.into_iter-3.ensures.rest ∙ c.in_ok-busy.ensures.opened.2 in
    let s = ap (map (λ row. row.items)) c.into_iter-4.ensures.rest ∙ c.in_ok-semaphores.ensures.dealt in
    let x = c.into_iter-5.ensures.rest ∙ c.in_ok-files.ensures.opened.2 in
    let o : ObjectsOf = record { ready = c.in_ok-ready.ready; free = c.in_ok-free.free; births = c.in_ok-births.births; busy = c.in_ok-busy.busy; semaphores = c.in_ok-semaphores.semaphores.items; files = c.in_ok-files.files } in
    let entries : c.files-entries.result ≡ o.files.entries = c.files-entries.ensures.value ∙ sym c.in_ok-files.ensures.opened.0 in
    c.in_ok-dealt.ensures.zipped
    ∙ ((λ i. zipped (entries i) (r i) (f i) (b i) (u i) (s i) (x i))
    ∙ (zips o c.args.self.now.script.now.stint 0 c.args.self.now.processors ∙ ap (λ (script : ScriptOf). fresh_all o script.stint 0 c.args.self.now.processors) c.args.self.now.script_is))
