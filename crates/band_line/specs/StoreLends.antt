-- What a store ends as, once a reference into it ends.
use Rattle.std.specs.Prelude.{ℕ}
use Rattle.std.specs.Borrow.{Lends, Fml, RattleType, MutBor}
use Rattle.band_line.specs.Arena.{ArenaState}
use Rattle.band_line.specs.Slots.{with_slot_value, with_slot_links}
use Rattle.band_line.specs.Store.{changed_at, with_node_value, with_node_links}
use Rattle.band_line.specs.declared.store.Node.{Node}
use Rattle.band_line.specs.declared.store.Slot.{Slot}
use Rattle.band_line.specs.contracts.store.Slot.{the_row as slot_row}
use Rattle.band_line.specs.contracts.store.Store.{the_row as store_row}

module _ (K T : RattleType) where
  abbrev pub lends_slot_value : MutBor (Slot K.Denot T.Denot) → MutBor T.Denot → Fml
  lends_slot_value slot value = Lends (slot_row K T) T slot value (λ last. with_slot_value last slot.now)

  abbrev pub lends_slot_links : MutBor (Slot K.Denot T.Denot) → MutBor K.Denot → Fml
  lends_slot_links slot links = Lends (slot_row K T) K slot links (λ last. with_slot_links last slot.now)

  abbrev pub lends_value : MutBor (ArenaState (Node K.Denot T.Denot)) → ℕ → MutBor T.Denot → Fml
  lends_value store id value =
      Lends (store_row K T) T store value (λ last. changed_at id (with_node_value last) store.now)

  abbrev pub lends_links : MutBor (ArenaState (Node K.Denot T.Denot)) → ℕ → MutBor K.Denot → Fml
  lends_links store id links =
      Lends (store_row K T) K store links (λ last. changed_at id (with_node_links last) store.now)
