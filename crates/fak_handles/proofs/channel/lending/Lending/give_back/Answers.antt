use Rattle.std.proofs.Common.{◌<◌, ◌/◌, ap, sym, ◌∙◌, subst, length, rules}
use Rattle.fak_handles.specs.declared.channel.lending.Lending.{Lending}
use Rattle.fak_handles.specs.channel.Lending.{bit_of}
use Rattle.fak_handles.proofs.EndBits.{set_here, set_else}
use Rattle.fak_handles.proofs.channel.lending.Lending.give_back.Goals as goal

pub returns-clause-back : goal.returns-clause-back
returns-clause-back c =
    let k = c.args.number in
    let words = c.args.self.now.idle in
    let lent = c.if-not-is_lent.ensures in
    let inside : k / 64 < length words = search rules in
    let same = c.wakes.ensures.same in (
      lent,
      (
        record {
          was_lent = lent;
          is_idle = (
            subst (λ n. k < n) (sym (ap (λ (l : Lending). l.count) same)) lent.one,
            ap (λ ws. bit_of ws k) (ap (λ (l : Lending). l.idle) same) ∙ set_here words k inside,
          );
          others = λ j apart. ap (λ ws. bit_of ws j) (ap (λ (l : Lending). l.idle) same) ∙ set_else words k inside j apart;
          same = record { count = ap (λ (l : Lending). l.count) same; worn = ap (λ (l : Lending). l.worn) same };
          waiting = ap (λ (l : Lending). l.waiting) same;
        },
        c.wakes.ensures.wakes,
      ),
    )
