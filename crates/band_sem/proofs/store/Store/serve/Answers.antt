use Rattle.std.proofs.Common.{◌≡◌, ◌≤◌, ◌+◌, ◌-ℤ◌, pos, arith, sym, ◌∙◌}
use Rattle.std.proofs.lemmas.Bool.{leb-true}
use Rattle.std.proofs.lemmas.Int.{ints, to_z-of_z}
use Rattle.band_partial.proofs.Follows.{served-shown}
use Rattle.band_row.specs.Row.{part}
use Rattle.band_sem.specs.Semaphore.{taken}
use Rattle.band_sem.specs.Kept.Store.{state_of}
use Rattle.band_sem.proofs.Bridge.{Becomes, serves}
use Rattle.band_sem.proofs.store.Store.serve.Goals as goal

pub draw-requires : goal.draw-requires
draw-requires c = leb-true c.args.size c.args.self.now.row.word (sym (served-shown (part c.args.self.now.row) c.requires.sound.settled c.args.size) ∙ c.requires.served)

module _ (c : goal.After-self-2-1) where
  there : c.args.size ≤ c.args.self.now.row.word
  there = leb-true c.args.size c.args.self.now.row.word (sym (served-shown (part c.args.self.now.row) c.requires.sound.settled c.args.size) ∙ c.requires.served)

  less : c.of-self.result ≡ c.args.self.now.free -ℤ pos c.args.size
  less = grind (arith, ints, to_z-of_z)

  after : Becomes (taken c.args.size (state_of c.args.self.now)) (record { free = c.of-self.result; number = c.args.self.now.number; held = c.args.self.now.held + c.args.size; row = c.draw.new.self; closed = c.args.self.now.closed })
  after = serves c.args.self.now c.requires.sound c.draw.new.self c.draw.ensures.row c.draw.ensures.ended c.args.size c.of-self.result there c.draw.ensures.part less

pub returns-clause-state : goal.returns-clause-state
returns-clause-state c = (after c).is

pub returns-clause-sound : goal.returns-clause-sound
returns-clause-sound c = (after c).sound
