use Rattle.std.proofs.Common.{◌≡◌, None, IsSome, arith, get_or, map, set, ◌-◌, Some, length-set}
use Rattle.band_line.specs.Arena.{removed}
use Rattle.band_line.specs.Slots.{node_of, state_of}
use Rattle.band_line.specs.declared.store.Slot.TheVariants.{Vacant}
use Rattle.band_line.proofs.ArenaLemmas.{Leaves, vacates, some_value, occupied_within, node-set_same}
use Rattle.band_line.proofs.SoundArena.{sound_arena}
use Rattle.band_line.proofs.store.Store.remove.Given.{Over}
use Rattle.band_line.proofs.store.Store.remove.Goals as goal

pub overflow_sub-self : goal.overflow_sub-self
overflow_sub-self g c = some_value c.args.id c.self.invariant (rw (← c.self.view_is) at c.requires)

module _ (g : Over) (c : goal.In-Occupied g) where
  here : IsSome (get_or (map node_of c.self.inside.slots.items) c.args.id None)
  here = rw (← c.self.view_is) at c.requires

  put : c.replace.new.dest ≡ Vacant c.self.inside.vacant
  put = rw c.replace-before.ensures.value at c.replace.ensures.after

  left :
      Leaves c.self.inside.slots.items (set c.self.inside.slots.items c.args.id (Vacant c.self.inside.vacant)) c.self.inside.slots.cap
      (c.self.inside.len - 1) (Some c.args.id)
      (removed c.args.id (state_of c.self.inside.slots.items c.self.inside.slots.cap c.self.inside.len c.self.inside.vacant)) c.args.id
  left = vacates c.args.id (omega arith) c.self.invariant here

pub invariant_of-self : goal.invariant_of-self
invariant_of-self g c = rw (put g c, c.replace-before.ensures.after, c.to.ensures, c.index.ensures) (left g c).sound

pub returns-clause-state : goal.returns-clause-state
returns-clause-state g c = rw (put g c, c.replace-before.ensures.after, c.to.ensures, c.index.ensures, ← c.self.view_is) (left g c).state

pub returns-clause-vacant : goal.returns-clause-vacant
returns-clause-vacant g c =
    rw (put g c, c.index.ensures)
    (node-set_same c.self.inside.slots.items c.args.id (Vacant c.self.inside.vacant) (occupied_within c.self.inside.slots.items c.args.id (here g c)))

pub returns-clause-others : goal.returns-clause-others
returns-clause-others g c = λ other differs. rw (put g c, c.index.ensures, ← c.self.view_is) ((left g c).others other differs)

pub returns-clause-len : goal.returns-clause-len
returns-clause-len g c =
    rw (put g c, c.index.ensures, ← c.self.view_is) (omega (arith, (left g c).sound.counted, c.self.invariant.counted, some_value c.args.id c.self.invariant (here g c)))

pub returns-clause-sound : goal.returns-clause-sound
returns-clause-sound g c =
    rw (put g c, c.replace-before.ensures.after, c.to.ensures, c.index.ensures)
    (sound_arena (omega (arith, length-set c.self.inside.slots.items c.args.id (Vacant c.self.inside.vacant))) (left g c).sound)
