use Rattle.std.proofs.Common.{◌≡◌, ◌≤◌, ◌-ℤ◌, pos, arith, subst}
use Rattle.std.proofs.lemmas.Int.{ints, to_z-of_z}
use Rattle.band_partial.proofs.Follows.{available-shown}
use Rattle.band_row.specs.Row.{part}
use Rattle.band_sem.specs.Semaphore.{reduced}
use Rattle.band_sem.specs.Kept.Store.{state_of}
use Rattle.band_sem.proofs.Bridge.{Becomes, draws}
use Rattle.band_sem.proofs.store.Store.take.Goals as goal

pub draw-requires : goal.draw-requires
draw-requires c = subst (λ n. c.args.count ≤ n) (available-shown (part c.args.self.now.row) c.requires.sound.settled) c.requires.there

module _ (c : goal.After-self-1) where
  there : c.args.count ≤ c.args.self.now.row.word
  there = subst (λ n. c.args.count ≤ n) (available-shown (part c.args.self.now.row) c.requires.sound.settled) c.requires.there

  less : c.of-self.result ≡ c.args.self.now.free -ℤ pos c.args.count
  less = search (arith, ints, to_z-of_z, c.of-self.ensures)

  after : Becomes (reduced c.args.count (state_of c.args.self.now)) (record { free = c.of-self.result; number = c.args.self.now.number; held = c.args.self.now.held; row = c.draw.new.self; closed = c.args.self.now.closed })
  after = draws c.args.self.now c.requires.sound c.draw.new.self c.draw.ensures.row c.draw.ensures.ended c.args.count c.of-self.result there c.draw.ensures.part less

pub returns-clause-state : goal.returns-clause-state
returns-clause-state c = (after c).is

pub returns-clause-sound : goal.returns-clause-sound
returns-clause-sound c = (after c).sound
