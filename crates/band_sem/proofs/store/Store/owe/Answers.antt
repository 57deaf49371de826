use Rattle.std.proofs.Common.{◌≡◌, ◌-ℤ◌, pos, arith}
use Rattle.std.proofs.lemmas.Int.{ints, to_z-of_z}
use Rattle.band_sem.specs.Semaphore.{reduced}
use Rattle.band_sem.specs.Kept.Store.{state_of}
use Rattle.band_sem.proofs.Bridge.{Becomes, owes}
use Rattle.band_sem.proofs.store.Store.owe.Given.{Over}
use Rattle.band_sem.proofs.store.Store.owe.Goals as goal

module _ (g : Over) (c : goal.After-self-1 g) where
  less : c.of-self.result ≡ c.args.self.now.free -ℤ pos c.args.count
  less = grind (arith, ints, to_z-of_z)

  after : Becomes (reduced c.args.count (state_of c.args.self.now)) (record { free = c.of-self.result; number = c.args.self.now.number; held = c.args.self.now.held; row = c.owe.new.self; closed = c.args.self.now.closed })
  after = owes c.args.self.now c.requires.sound c.owe.new.self c.in_ok-owe.ensures.row c.in_ok-owe.ensures.ended c.in_ok-owe.field-0 c.args.count c.of-self.result c.requires.more c.requires.debt c.in_ok-owe.ensures.owes less

pub returns-clause-ok : goal.returns-clause-ok
returns-clause-ok g c = (after g c).is

pub returns-clause-sound : goal.returns-clause-sound
returns-clause-sound g c = (after g c).sound
