use Rattle.std.proofs.Common.{◌≡◌, ℕ, ◌-◌, ◌<◌, List, length, map, get_or, arith, ap, sym, ◌∙◌, Option, Some, None, length-set}
use Rattle.std.proofs.lemmas.List.{get_or-map, length_push}
use Rattle.band_line.specs.Slots.{node_of, next_of, next_at, IsStore}
use Rattle.band_line.specs.declared.store.Slot.{Slot}
use Rattle.band_line.specs.declared.store.Slot.TheVariants.{Occupied}
use Rattle.band_line.proofs.ArenaLemmas.{fills, pushes, first_vacant, first_within, all_occupied, vacant_at, differs, node-set_same}
use Rattle.band_line.proofs.SoundArena.{sound_arena}
use Rattle.band_line.proofs.store.Store.insert.Given.{Over}
use Rattle.band_line.proofs.store.Store.insert.Goals as goal

-- the slot that was vacated last tells what is found in it
reads : {K T : Type 0} {slots : List (Slot K T)} {capacity len id : ℕ} {first : Option ℕ} {d : Slot K T} → IsStore slots capacity len first
    → first ≡ Some id → d ≡ get_or slots id d → next_at slots id ≡ next_of d
reads {K} {T} {slots} {capacity} {len} {id} {first} {d} sound begins found =
    get_or-map next_of slots id d None (first_within sound begins) ∙ ap next_of (sym found)

module _ (g : Over) (c : goal.After-next-in-Vacant-1 g) where
  begins : c.self.inside.vacant ≡ Some c.index.result
  begins = sym c.get.ensures ∙ c.in-Some.is ∙ ap Some (sym c.index.ensures)

  tells : next_at c.self.inside.slots.items c.index.result ≡ Some c.in-Vacant.next
  tells = reads c.self.invariant begins c.index_mut.ensures.value ∙ ap next_of (sym c.replace.ensures.value ∙ c.in-Vacant.is)

vacant_has_none : {K T : Type 0} {slots : List (Slot K T)} {capacity len id : ℕ} {first : Option ℕ} → IsStore slots capacity len first → first ≡ Some id → next_at slots id ≡ None → ⊥
vacant_has_none sound begins none = let vacant = first_vacant sound begins in absurd (cc)

pub unreachable-requires : goal.unreachable-requires
unreachable-requires g c =
    let begins : c.self.inside.vacant ≡ Some c.index.result = sym c.get.ensures ∙ c.in-Some.is ∙ ap Some (sym c.index.ensures) in
    vacant_has_none c.self.invariant begins (reads c.self.invariant begins c.index_mut.ensures.value ∙ ap next_of (sym c.replace.ensures.value ∙ c.in-Occupied.is))

pub invariant_of-self : goal.invariant_of-self
invariant_of-self g c = rw c.replace.ensures.after (fills c.args.node c.self.invariant (begins g c) (tells g c)).sound

-- where no slot is vacant, room is behind them all
room_behind : {K T : Type 0} {slots : List (Slot K T)} {capacity len : ℕ} {first : Option ℕ} → IsStore slots capacity len first → first ≡ None → 0 < capacity - len → length slots < capacity
room_behind sound none room = omega (arith, (all_occupied sound none).1)

pub at-id-requires : goal.at-id-requires
at-id-requires g c = omega (arith, room_behind c.self.invariant (sym c.get.ensures ∙ c.in-None.is) (rw (← c.self.view_is) at c.requires), c.len.ensures, c.self.invariant.numbered)

pub push_reserved-requires : goal.push_reserved-requires
push_reserved-requires g c = omega (arith, room_behind c.self.invariant (sym c.get.ensures ∙ c.in-None.is) (rw (← c.self.view_is) at c.requires))

pub invariant_of-self-in-None : goal.invariant_of-self-in-None
invariant_of-self-in-None g c =
    rw (c.push_reserved.ensures.items, c.push_reserved.ensures.capacity) (pushes c.args.node c.self.invariant (sym c.get.ensures ∙ c.in-None.is)).sound

pub returns-in-Vacant-clause-state : goal.returns-in-Vacant-clause-state
returns-in-Vacant-clause-state g c = rw (c.replace.ensures.after, ← c.self.view_is) (fills c.args.node c.self.invariant (begins g c) (tells g c)).state

pub returns-in-Vacant-clause-here : goal.returns-in-Vacant-clause-here
returns-in-Vacant-clause-here g c =
    rw (← c.index.ensures, c.replace.ensures.after)
    (node-set_same c.self.inside.slots.items c.index.result (Occupied c.args.node.links c.args.node.value) (first_within c.self.invariant (begins g c)))

pub returns-in-Vacant-clause-keeps : goal.returns-in-Vacant-clause-keeps
returns-in-Vacant-clause-keeps g c = λ other here.
    let slots = c.self.inside.slots.items in
    let vacant = vacant_at slots c.index.result (first_vacant c.self.invariant (begins g c)) in
    rw (c.replace.ensures.after, ← c.self.view_is)
    ((fills c.args.node c.self.invariant (begins g c) (tells g c)).others other
    (differs (map node_of slots) c.index.result other vacant (rw (← c.self.view_is) at here)))

pub returns-in-Vacant-clause-len : goal.returns-in-Vacant-clause-len
returns-in-Vacant-clause-len g c =
    rw (c.replace.ensures.after, ← c.self.view_is) (omega (arith, (fills c.args.node c.self.invariant (begins g c) (tells g c)).sound.counted, c.self.invariant.counted))

pub returns-in-None-clause-len : goal.returns-in-None-clause-len
returns-in-None-clause-len g c =
    rw (c.push_reserved.ensures.items, ← c.self.view_is) (omega (arith, (pushes c.args.node c.self.invariant (sym c.get.ensures ∙ c.in-None.is)).sound.counted, c.self.invariant.counted))

pub returns-in-Vacant-clause-others : goal.returns-in-Vacant-clause-others
returns-in-Vacant-clause-others g c = λ other differs.
    rw (c.replace.ensures.after, ← c.self.view_is)
    ((fills c.args.node c.self.invariant (begins g c) (tells g c)).others other (λ e. differs (e ∙ c.index.ensures)))

pub returns-in-Vacant-clause-sound : goal.returns-in-Vacant-clause-sound
returns-in-Vacant-clause-sound g c =
    rw c.replace.ensures.after
    (sound_arena (omega (arith, length-set c.self.inside.slots.items c.index.result (Occupied c.args.node.links c.args.node.value))) (fills c.args.node c.self.invariant (begins g c) (tells g c)).sound)

pub returns-in-None-clause-sound : goal.returns-in-None-clause-sound
returns-in-None-clause-sound g c =
    let none = sym c.get.ensures ∙ c.in-None.is in
    let room = room_behind c.self.invariant none (rw (← c.self.view_is) at c.requires) in
    rw (c.push_reserved.ensures.items, c.push_reserved.ensures.capacity)
    (sound_arena (omega (arith, length_push c.self.inside.slots.items (Occupied c.args.node.links c.args.node.value), room)) (pushes c.args.node c.self.invariant none).sound)
