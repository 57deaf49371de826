-- The objects of a sound table know each thing in it.
use Rattle.std.proofs.Common.{◌≡◌, ℕ, ◌+◌, false, ◌≤◌, List, Option, Some, None, Ok, refl, sym, ap, ◌∙◌, subst, arith}
use Rattle.std.proofs.Math.Logic.{∥∥₁_elim}
use Rattle.std.proofs.Props.{props}
use Rattle.std.specs.List.{slice_get}
use Rattle.std.specs.Str.{bytes_eq}
use Rattle.std.proofs.lemmas.Option.{slice_get_within, slice_get_read}
use Rattle.band_balance.specs.Line.{u64_max, entry_named, without}
use Rattle.band_balance.specs.Object.{Kind, Mode, Permit, Lock, tag, asked}
use Rattle.band_balance.specs.Rule.{Fits, has_name as is_tag}
use Rattle.band_balance.proofs.Held.{names_apart, other_way}
use Rattle.band_balance.proofs.Requests.{all-found, entry_named-without_other}
use Rattle.band_balance.proofs.Rules.{bytes_told}
use Rattle.band_balance.proofs.Settle.{total-without}
use Rattle.band_rules.specs.Order.{Sound}
use Rattle.band_rules.specs.State.{State, Named, Tag}
use Rattle.band_sem.specs.Request.{Stage, Joined}
use Rattle.band_sem.specs.Semaphore.{IsOwn}
use Rattle.band_player.specs.Kept.{StandsForSome, Offered, offering_at}
use Rattle.band_player.specs.Moves.{IsFit, FitsRequest, FitsHolding, IsJoined, IsNumbered, CanGrow, held_as, mergeable}
use Rattle.band_player.specs.Apart.{at as at_name}
use Rattle.band_player.specs.Names.{thing_at, Updated}
use Rattle.band_player.specs.Objects.{ObjectState, RequestState, HoldingState, asked_in, shares_of}
use Rattle.band_player.specs.Table.{shown, HasSlotAt, StandsAt, StandsUnder}
use Rattle.band_player.specs.Thing.{Thing, place_at}
use Rattle.band_player.specs.Thing as things
use Rattle.band_player.specs.Token.{TokenState, thing_of}
use Rattle.band_player.specs.Token as tokens
use Rattle.band_player.specs.declared.table.Table.{Table}
use Rattle.band_player.proofs.Lists.{also_at, all_at_place, some_at}
use Rattle.band_player.proofs.Named.{can_merge, held_from, offered, same_holding}
use Rattle.band_player.proofs.Polled.{Reads, reads}
use Rattle.band_player.proofs.Stood.{shown_here}
use Rattle.band_player.proofs.Updates.{token_there}

fits-prop : (kind : Kind) (mode : Mode) (size : ℕ) → IsProp (Fits kind mode size)
fits-prop kind Lock size = hlevel props
fits-prop kind mode size = hlevel props

fits_request-prop : (o : Option ObjectState) (request : RequestState) → IsProp (FitsRequest o request)
fits_request-prop None request = hlevel props
fits_request-prop (Some object) request = at_stage request.stage
  where
    fit : IsProp (Fits object.kind request.mode request.size)
    fit = fits-prop object.kind request.mode request.size

    at_stage : (stage : Stage) → IsProp (IsJoined stage × (request.of ≡ object.number) × IsOwn stage request.size (shares_of object) × Fits object.kind request.mode request.size)
    at_stage (Joined slot) = hlevel (fit, props)
    at_stage stage = hlevel (fit, props)

fits_holding-prop : (o : Option ObjectState) (holding : HoldingState) → IsProp (FitsHolding o holding)
fits_holding-prop None holding = hlevel props
fits_holding-prop (Some object) holding = hlevel (fits-prop object.kind holding.mode holding.count, props)

fit-prop : (kept : List ObjectState) (thing : Thing) → IsProp (IsFit kept thing)
fit-prop kept (things.Object place) = hlevel props
fit-prop kept (things.Request place request) = fits_request-prop (slice_get kept place) request
fit-prop kept (things.Holding holding) = fits_holding-prop (slice_get kept holding.of) holding

module _ (tags : ℕ → ℕ → Tag) (table : List ℕ → Option Thing) (kept : List ObjectState) (state : State) (stands : StandsUnder tags table kept state) where
  numbered : (place : ℕ) → IsNumbered kept place
  numbered place object there =
      let other = also_at state kept place object (sym stands.size) there in
      (stands.each place object other.0 there other.1).number

  pub fits_at : (name : List ℕ) (thing : Thing) → table name ≡ Some thing → IsFit kept thing
  fits_at name thing is =
      let object = some_at kept (place_at thing) (stands.there name thing is) in
      let named = also_at state kept (place_at thing) object.0 (sym stands.size) object.1 in
      go thing object.0 object.1 named.0 (stands.each (place_at thing) object.0 named.0 object.1 named.1) (all_at_place Sound state (place_at thing) named.0 stands.order.sound named.1) is
    where
      go : (thing : Thing) (object : ObjectState) → slice_get kept (place_at thing) ≡ Some object → (named : Named) → StandsAt (tags (place_at thing)) table (place_at thing) object named → Sound named
          → table name ≡ Some thing → IsFit kept thing
      go (things.Object place) object there named at sound is = slice_get_within kept place object there
      go (things.Request place request) object there named at sound is =
          let has = subst (HasSlotAt (tags place) place (asked_in object) name) is (at.slots name) refl in
          let seen = ap (λ s. s.request) (at.every name ∙ ap (shown place name) is ∙ shown_here place name (things.Request place request) refl) in
          subst (λ o. FitsRequest o request) (sym there) (
            subst IsJoined (sym has.joined) tt,
            has.of ∙ sym at.number,
            subst (λ stage. IsOwn stage request.size (shares_of object)) (sym has.joined) has.own,
            subst (λ k. Fits k request.mode request.size) at.kind (all-found _ (is_tag bytes_eq name) (asked named.object) _ sound.each_request seen),
          )
      go (things.Holding holding) object there named at sound is =
          let seen = ap (λ s. s.holding) (at.every name ∙ ap (shown holding.of name) is ∙ shown_here holding.of name (things.Holding holding) refl) in
          let whole = total-without (is_tag bytes_eq name) named.object.held _ seen in
          let enough : holding.count ≤ object.held = omega (arith, at.held) in
          subst (λ o. FitsHolding o holding) (sym there)
          (sym at.number, enough, subst (λ k. Fits k holding.mode holding.count) at.kind (all-found _ (is_tag bytes_eq name) named.object.held _ sound.each_held seen))

pub fits_in : (table : Table) (name : List ℕ) (thing : Thing) → StandsForSome table → thing_at table.names name ≡ Some thing → IsFit table.objects.items thing
fits_in table name thing sound is =
    ∥∥₁_elim sound (fit-prop table.objects.items thing)
    (λ it. fits_at it.1.tags (thing_at table.names) table.objects.items it.0 it.1.under name thing is)

-- two permits of one object are no more than it has lent
module _ (tags : ℕ → ℕ → Tag) (table : List ℕ → Option Thing) (kept : List ObjectState) (state : State) (stands : StandsUnder tags table kept state) where
  both_fit : (name other : List ℕ) (first second : HoldingState) → table name ≡ Some (things.Holding first) → table other ≡ Some (things.Holding second) → first.of ≡ second.of
      → bytes_eq name other ≡ false
      → first.count + second.count ≤ u64_max
  both_fit name other first second is also one apart =
      let object = some_at kept first.of (stands.there name (things.Holding first) is) in
      let named = also_at state kept first.of object.0 (sym stands.size) object.1 in
      let at = stands.each first.of object.0 named.0 object.1 named.1 in
      let held = named.0.object.held in
      let first_there : entry_named (is_tag bytes_eq name) held ≡ Some (record { name = tag first.mode name; size = first.count })
      = ap (λ s. s.holding) (at.every name ∙ ap (shown first.of name) is ∙ shown_here first.of name (things.Holding first) refl) in
      let second_there : entry_named (is_tag bytes_eq other) held ≡ Some (record { name = tag second.mode other; size = second.count })
      = ap (λ s. s.holding) (at.every other ∙ ap (shown first.of other) also ∙ shown_here first.of other (things.Holding second) (sym one)) in
      let whole = total-without (is_tag bytes_eq name) held _ first_there in
      let rest = total-without (is_tag bytes_eq other) (without (is_tag bytes_eq name) held) _
      (entry_named-without_other (is_tag bytes_eq name) (is_tag bytes_eq other) held (names_apart bytes_eq bytes_told name other apart held) ∙ second_there) in
      let law = at.steady.0.in_hand in
      omega (arith, at.held)

pub can_grow : (table : Table) → StandsForSome table → (kept spent : List ℕ) (place : ℕ) → mergeable kept spent (thing_at table.names kept) (thing_at table.names spent) ≡ Ok place → (more : HoldingState)
    → held_as Permit (thing_at table.names spent) ≡ Ok more → (mid : List ℕ → Option Thing) → Updated (thing_at table.names) mid spent None → CanGrow (mid kept) (tokens.Holding more)
can_grow table sound kept spent place is more spent_is mid ended =
    let two = can_merge kept spent (thing_at table.names kept) (thing_at table.names spent) place is in
    let second : two.second ≡ more = same_holding Permit (thing_at table.names spent) two.second more two.second_is spent_is in
    let one : two.first.of ≡ more.of = two.one ∙ ap (λ (h : HoldingState). h.of) second in
    let spent_there = held_from Permit (thing_at table.names spent) more spent_is in
    record {
      whole = two.first;
      is = ap (held_as Permit) (ended.others kept (other_way bytes_eq bytes_told kept spent two.apart)) ∙ two.first_is;
      mode = spent_there.1;
      same = one;
      fits = ∥∥₁_elim sound (hlevel props) (λ it.
          both_fit it.1.tags (thing_at table.names) table.objects.items it.0 it.1.under kept spent two.first more
          (held_from Permit (thing_at table.names kept) two.first two.first_is).0 spent_there.0 one two.apart);
    }

pub numbered_in : (table : Table) (place : ℕ) → StandsForSome table → IsNumbered table.objects.items place
numbered_in table place sound = ∥∥₁_elim sound (hlevel props) (λ it. numbered it.1.tags (thing_at table.names) table.objects.items it.0 it.1.under place)

-- the object that was asked of by name, and read at its place
pub offered_in : (table : Table) → StandsForSome table → (mode : Mode) (of : List ℕ) (place : ℕ) → offering_at mode table of ≡ Ok place → Offered mode table of place
offered_in table sound mode of place is =
    let within = fits_in table of (things.Object place) sound (offered mode table.objects.items (thing_at table.names of) place is).0 in
    record { is = is; within = within; there = λ object read. slice_get_read table.objects.items _ place object refl within read }

-- the object of a name that is a token
pub known : (table : Table) (name : List ℕ) (token : TokenState) (place : ℕ) → StandsForSome table → thing_at table.names name ≡ Some (thing_of token) → place ≡ place_at (thing_of token)
    → Reads table.objects.items token place
known table name token place sound is at = reads table.objects.items token place at (fits_in table name (thing_of token) sound is)

pub known_token : (table : Table) (name : List ℕ) (token : TokenState) (place : ℕ) → StandsForSome table → at_name table.names.tokens name ≡ Some token → place ≡ place_at (thing_of token)
    → Reads table.objects.items token place
known_token table name token place sound is = known table name token place sound (token_there table.names name token is)
