use Rattle.fak_queue.specs.Bundles.{FilledOn}
use Rattle.fak_queue.proofs.Common.{arith, nat_tests, ◌∙◌, ◌≡◌, ◌<◌, refl, subst, sym}
use Rattle.fak_queue.proofs.BundleWaiting.{filled_start, filled_then}
use Rattle.fak_queue.proofs.bursts.waiting.fill_all.Goals as goal

pub loop-init : goal.loop-init
loop-init g c = (refl, omega arith, c.args.at.now.some_left, filled_start c.args.at.now.names.now c.args.at.now.ticket c.args.at.now.done c.args.at.now.granted c.args.kept.now.items c.args.token.now.me c.requires.token.lawful c.requires.token.phase c.requires.token.slots c.args.at.now.some_left, refl)

pub returns-then-ended-at-clause-told : goal.returns-then-ended-at-clause-told
returns-then-ended-at-clause-told g c =
    record {
      same = c.fill_ready-ended.ensures.told.same ∙ c.loop.invariant.0;
      told = let i = c.loop.invariant in
          let e : c.fill_ready-ended.result ≡ c.args.at.now.granted = grind (arith, nat_tests) in
          let r = c.fill_ready-ended.ensures.range in
          subst (λ h. FilledOn c.args.words.now.table_id.slots c.args.words.now.key.seats c.args.at.now.names.now c.args.at.now.ticket c.args.at.now.done h c.args.at.now.granted c.args.kept.now.items c.fill_ready-ended.new.kept.items c.args.token.now.me c.fill_ready-ended.new.token.me) e
          (filled_then c.args.at.now.names.now c.args.at.now.ticket c.args.at.now.done c.loop.done c.fill_ready-ended.result c.args.at.now.granted c.args.kept.now.items c.loop.kept.items c.fill_ready-ended.new.kept.items c.args.token.now.me c.loop.token.me c.fill_ready-ended.new.token.me i.1 r.0 i.3
          c.fill_ready-ended.ensures.told.told);
    }

-- the last turn of the loop ended at least one
pub returns-then-ended-at-clause-last : goal.returns-then-ended-at-clause-last
returns-then-ended-at-clause-last g c = λ i n e above last.
    let less = c.loop.invariant.2 in
    let all : c.fill_ready-ended.result ≡ c.args.at.now.granted = grind (arith, nat_tests) in
    c.fill_ready-ended.ensures.last i n e (omega (arith, less, last)) (last ∙ sym all)

pub loop-preserved : goal.loop-preserved
loop-preserved g c =
    let i = c.loop.invariant in
    let ne = c.if-ended-at.false in
    let r = c.fill_ready-ended.ensures.range in
    let less : c.fill_ready-ended.result < c.args.at.now.granted = grind (arith, nat_tests, ne, r, i) in
    let low = i.1 in
    let first = r.0 in (
      c.fill_ready-ended.ensures.told.same ∙ i.0,
      omega (arith, low, first),
      less,
      filled_then c.args.at.now.names.now c.args.at.now.ticket c.args.at.now.done c.loop.done c.fill_ready-ended.result c.args.at.now.granted c.args.kept.now.items c.loop.kept.items c.fill_ready-ended.new.kept.items c.args.token.now.me c.loop.token.me c.fill_ready-ended.new.token.me i.1 r.0 i.3
          c.fill_ready-ended.ensures.told.told,
      c.fill_ready-ended.ensures.capacity ∙ i.4,
    )
