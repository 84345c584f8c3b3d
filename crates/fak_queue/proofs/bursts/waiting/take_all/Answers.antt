use Rattle.fak_queue.specs.Bundles.{EmptiedOn}
use Rattle.fak_queue.proofs.Common.{arith, nat_tests, ◌∙◌, ◌≡◌, ◌<◌, refl, subst, sym}
use Rattle.fak_queue.proofs.BundleWaiting.{emptied_start, emptied_then}
use Rattle.fak_queue.proofs.bursts.waiting.take_all.Goals as goal

pub loop-init : goal.loop-init
loop-init g c = (refl, omega arith, c.args.at.now.some_left, emptied_start c.args.at.now.names.now c.args.at.now.ticket c.args.at.now.done c.args.at.now.granted c.args.out.now.items c.args.token.now.me c.requires.token.lawful c.requires.token.phase c.requires.token.slots c.args.at.now.some_left, c.requires.room, refl)

pub returns-then-ended-at-clause-told : goal.returns-then-ended-at-clause-told
returns-then-ended-at-clause-told g c =
    record {
      same = c.take_ready-ended.ensures.told.same ∙ c.loop.invariant.0;
      told = let i = c.loop.invariant in
          let e : c.take_ready-ended.result ≡ c.args.at.now.granted = grind (arith, nat_tests) in
          let r = c.take_ready-ended.ensures.range in
          subst (λ h. EmptiedOn c.args.words.now.table_id.slots c.args.words.now.key.seats c.args.at.now.names.now c.args.at.now.ticket c.args.at.now.done h c.args.at.now.granted c.args.out.now.items c.take_ready-ended.new.out.items c.args.token.now.me c.take_ready-ended.new.token.me) e
          (emptied_then c.args.at.now.names.now c.args.at.now.ticket c.args.at.now.done c.loop.done c.take_ready-ended.result c.args.at.now.granted c.args.out.now.items c.loop.out.items c.take_ready-ended.new.out.items c.args.token.now.me c.loop.token.me c.take_ready-ended.new.token.me i.1 r.0 i.3
          c.take_ready-ended.ensures.told.told);
    }

-- the last turn of the loop ended at least one
pub returns-then-ended-at-clause-last : goal.returns-then-ended-at-clause-last
returns-then-ended-at-clause-last g c = λ i n e above last.
    let less = c.loop.invariant.2 in
    let all : c.take_ready-ended.result ≡ c.args.at.now.granted = grind (arith, nat_tests) in
    c.take_ready-ended.ensures.last i n e (omega (arith, less, last)) (last ∙ sym all)

pub loop-preserved : goal.loop-preserved
loop-preserved g c =
    let i = c.loop.invariant in
    let ne = c.if-ended-at.false in
    let r = c.take_ready-ended.ensures.range in
    let less : c.take_ready-ended.result < c.args.at.now.granted = grind (arith, nat_tests, ne, r, i) in
    let low = i.1 in
    let first = r.0 in (
      c.take_ready-ended.ensures.told.same ∙ i.0,
      omega (arith, low, first),
      less,
      emptied_then c.args.at.now.names.now c.args.at.now.ticket c.args.at.now.done c.loop.done c.take_ready-ended.result c.args.at.now.granted c.args.out.now.items c.loop.out.items c.take_ready-ended.new.out.items c.args.token.now.me c.loop.token.me c.take_ready-ended.new.token.me i.1 r.0 i.3
          c.take_ready-ended.ensures.told.told,
      (let len = c.take_ready-ended.ensures.len in let cap = c.take_ready-ended.ensures.capacity in let room = i.4 in omega (arith, len, cap, room, first, less)),
      c.take_ready-ended.ensures.capacity ∙ i.5,
    )
