use Rattle.fak_callers.proofs.sleepers.one_look_pays_for_an_insertion.Goals as goal

pub returns : goal.returns
returns g c = record {
  wakes = λ seats size ticket other x notes old new within none makes. (c.an_insertion_and_its_look_owe_nothing.ensures.wakes seats size ticket other x notes old new within none makes).for_receivers;
  passes = λ seats size ticket x notes old new few within none makes. (c.an_insertion_and_its_look_owe_nothing.ensures.passes seats size ticket x notes old new few within none makes).for_receivers;
}
