-- What each rule makes of an object, and what is kept for it then.
use Rattle.std.proofs.Common.{◌≡◌, ℕ, ◌+◌, ◌-◌, ◌<◌, ◌≤◌, ◌==◌, Bool, true, false, List, [], ◌∷◌, ◌++◌, map, Option, Some, None, refl, sym, ap, ap₂, ◌∙◌, subst, arith, eq-eqb, ne_eqb}
use Rattle.std.specs.List.{AllByRecursion}
use Rattle.std.specs.Option.{option_map}
use Rattle.std.specs.Str.{bytes_eq}
use Rattle.std.proofs.lemmas.Bool.{cond-true, cond-false, false≢true, le-leb}
use Rattle.std.specs.List.Sorted.{IsPermutation}
use Rattle.std.specs.Prelude.{IsSome}
use Rattle.std.proofs.lemmas.List.{map-append}
use Rattle.std.proofs.lemmas.List.Sorted.{IsPermutation-refl, IsPermutation-sym, IsPermutation-trans, IsPermutation-append, IsPermutation-map}
use Rattle.std.proofs.lemmas.Option.{none-some}
use Rattle.band_balance.specs.Line.{Entry, Waiting, Line, AreAlike, end_waiting, entry_of, requests, total, rename, renamed, entry_named, without, is_served, take_permits, give_back, join, poll_granted, poll_waiting, cancel}
use Rattle.band_balance.specs.Object.{Kind, Semaphore, Mutex, ReaderWriter, Mode, Permit, Read, Write, Answer, Done, Ready, Pending, Closed, tag, size_of, turn, hold, change, size_in, asked}
use Rattle.band_balance.proofs.Turns.{poll_of, poll_ended, drop_of, split_by, merge_by}
use Rattle.band_balance.specs.Rule.{Rule, act, has_name as is_tag}
use Rattle.band_balance.specs.Rule as rules
use Rattle.band_balance.proofs.Alike.{alike_is, alike_back, alike_then, with_granted, requests-alike, take_permits-alike, give_back-alike, join-alike, granted-alike, poll_granted-alike, poll_waiting-alike, cancel-alike, rename-alike, named_once, FindsTheSame, finds_the_same}
use Rattle.band_balance.proofs.AnyOrder.{pairwise-order, pairwise_front, pairwise_back, ended_in_order}
use Rattle.band_balance.proofs.Distinct.{once, named_at, named_at_itself, named_at_other, rename-join_named_at, stays-without, stays-cancel, stays-poll_granted}
use Rattle.band_balance.proofs.Held.{by_bool, other_way, names_apart, total-push, total-change, found-change, all-change, other-change}
use Rattle.band_balance.proofs.Orderly.{pairwise-without}
use Rattle.band_balance.proofs.Rename.{all_of_first, all_of_second, give_back-rename, poll_granted-rename, poll_waiting-rename, cancel-rename_requests, entry_named-rename, requests-rename, entries-rename, wakers-rename, without-rename}
use Rattle.band_balance.proofs.Requests.{not_in_front, not_behind, found_behind, in_parts, count_named, all-without, requests-give_back, requests-poll_waiting, requests-poll_granted, requests-cancel, entry_named-push_other, entry_named-push_itself, entry_named-without_other, entry_named-poll_granted_other, entry_named-cancel_other, entry_named-join_other, entry_named-join_itself}
use Rattle.band_balance.proofs.Rules.{bytes_told}
use Rattle.band_balance.proofs.Settle.{total-without}
use Rattle.band_rules.specs.State.{Named, Tag}
use Rattle.band_sem.specs.Request.{Joined}
use Rattle.band_sem.specs.Semaphore.{EndsAs, is_slot, taken, joined, received, with_waker, told, shut, without_request}
use Rattle.band_sem.proofs.Like.{found-like, IsLawful-like, IsWhole-like}
use Rattle.band_player.specs.Moves.{downgraded}
use Rattle.band_player.specs.Names.{Updated}
use Rattle.band_player.specs.Objects.{ObjectState, RequestState, HoldingState, IsLockOf, IsSteady, IsLikeObject, shares_of, on_semaphore, asked_in}
use Rattle.band_player.specs.Table.{Seen, seen, unseen, shown_of, shown, quiet, HasSlot, HasSlotAt, StandsAt}
use Rattle.band_player.specs.Thing.{Thing, place_at}
use Rattle.band_player.specs.Thing as things
use Rattle.band_player.proofs.Acting.{Lands, updated_same}
use Rattle.band_player.proofs.Slots.{NamedOnce, once_push, gone_without, nowhere_behind, agrees}
use Rattle.band_player.proofs.Stood.{shown_here}

-- what is held changes under its name
once-change : (name : List ℕ) (to : Entry Tag → Entry Tag) → ((e : Entry Tag) → bytes_eq name e.name.name ≡ true → (to e).name.name ≡ e.name.name) → (es : List (Entry Tag)) → NamedOnce es
    → NamedOnce (change (is_tag bytes_eq name) to es)
once-change name to keeps [] once = tt
once-change name to keeps (e ∷ es) once =
    by_bool (bytes_eq name e.name.name)
    (λ h.
    subst NamedOnce (sym (cond-true (bytes_eq name e.name.name) (to e ∷ es) _ h))
    (subst (λ n. AllByRecursion (λ (other : Entry Tag). bytes_eq n other.name.name ≡ false) es) (sym (keeps e h)) once.0, once.1))
    (λ h.
    let Apart : Entry Tag → Type 0 = λ other. bytes_eq e.name.name other.name.name ≡ false in
    subst NamedOnce (sym (cond-false (bytes_eq name e.name.name) _ (e ∷ change (is_tag bytes_eq name) to es) h)) (
      all-change (is_tag bytes_eq name) to Apart Apart es (λ other apart means. ap (bytes_eq e.name.name) (keeps other means) ∙ apart) once.0
          (all-without Apart (is_tag bytes_eq name) es once.0),
      once-change name to keeps es once.1,
    ))

seen_as : (s t : Seen) → s.named ≡ t.named → s.request ≡ t.request → s.holding ≡ t.holding → s ≡ t
seen_as s t e f g =
    ap (λ b. record { named = b; request = s.request; holding = s.holding }) e ∙ ap₂ (λ (r h : Option (Entry Tag)). record { named = t.named; request = r; holding = h }) f g

-- What each name is afterwards, where one has changed.
module _ (place : ℕ) (table table' : List ℕ → Option Thing) (it : List ℕ) (now : Option Thing) (updated : Updated table table' it now) where
  every_one : (before after : Named) → after.name ≡ before.name → ((name : List ℕ) → seen name before ≡ shown place name (table name))
      → ((name : List ℕ) → bytes_eq it name ≡ false → (seen name after).request ≡ (seen name before).request)
      → ((name : List ℕ) → bytes_eq it name ≡ false → (seen name after).holding ≡ (seen name before).holding)
      → seen it after ≡ shown place it now → (name : List ℕ) → seen name after ≡ shown place name (table' name)
  every_one before after names every asked holds own name =
      by_bool (bytes_eq it name)
      (λ h. subst (λ m. seen m after ≡ shown place m (table' name)) (bytes_told.equal it name h) (own ∙ ap (shown place it) (sym (updated.here name h))))
      (λ h.
      seen_as (seen name after) (seen name before) (ap (bytes_eq name) names) (asked name h) (holds name h)
      ∙ every name ∙ ap (shown place name) (sym (updated.others name h)))

  slots_one : (tags tags' : ℕ → Tag) (asks asks' : List (Entry ℕ)) → ((name : List ℕ) → HasSlotAt tags place asks name (table name))
      → ((name : List ℕ) (request : RequestState) → bytes_eq it name ≡ false → HasSlot tags place asks name request → HasSlot tags' place asks' name request)
      → HasSlotAt tags' place asks' it now → (name : List ℕ) → HasSlotAt tags' place asks' name (table' name)
  slots_one tags tags' asks asks' slots keeps own name =
      by_bool (bytes_eq it name)
      (λ h. subst (λ m. HasSlotAt tags' place asks' m (table' name)) (bytes_told.equal it name h) (subst (HasSlotAt tags' place asks' it) (sym (updated.here name h)) own))
      (λ h. subst (HasSlotAt tags' place asks' name) (sym (updated.others name h)) (go (table name) (slots name) h))
    where
      go : (thing : Option Thing) → HasSlotAt tags place asks name thing → bytes_eq it name ≡ false → HasSlotAt tags' place asks' name thing
      go (Some (things.Request other request)) has h = λ here. keeps name request h (has here)
      go thing has h = tt

-- a slot stays where its request does
module _ (tags tags' : ℕ → Tag) (place : ℕ) (asks asks' : List (Entry ℕ)) (name : List ℕ) (request : RequestState) (has : HasSlot tags place asks name request) where
  slot_kept : tags' has.slot ≡ tags has.slot → entry_named (is_slot has.slot) asks' ≡ entry_named (is_slot has.slot) asks → HasSlot tags' place asks' name request
  slot_kept named stays = record { slot = has.slot; joined = has.joined; of = has.of; own = stays ∙ has.own; tagged = named ∙ has.tagged }

-- each slot stays where each is found that was
pub slots_kept : (tags : ℕ → Tag) (place : ℕ) (asks asks' : List (Entry ℕ)) → ((slot : ℕ) → entry_named (is_slot slot) asks' ≡ entry_named (is_slot slot) asks)
    → (name : List ℕ) (thing : Option Thing)
    → HasSlotAt tags place asks name thing → HasSlotAt tags place asks' name thing
slots_kept tags place asks asks' is name (Some (things.Request other request)) has =
    λ here. slot_kept tags tags place asks asks' name request (has here) refl (is (has here).slot)
slots_kept tags place asks asks' is name thing has = tt

-- What is kept for an object may have those granted in another order.
module _ (one other : ObjectState) (like : IsLikeObject one other) (steady : IsSteady other) where
  pub steady_before : IsSteady one
  steady_before = (IsLawful-like (shares_of one) (shares_of other) like.shares steady.0, lock one.kind (subst (λ (k : Kind). IsLockOf k (shares_of other)) like.kind steady.1))
    where
      lock : (kind : Kind) → IsLockOf kind (shares_of other) → IsLockOf kind (shares_of one)
      lock Semaphore is = tt
      lock Mutex is = IsWhole-like (shares_of one) (shares_of other) like.shares 1 is
      lock (ReaderWriter max) is = record { some = is.some; shares = IsWhole-like (shares_of one) (shares_of other) like.shares max is.shares }

  line_back : AreAlike other.line one.line
  line_back = alike_back one.line other.line like.shares.line

  pub lands_like : (named : Named) (place : ℕ) (rule : Rule (List ℕ)) (answer : Answer) (tags : ℕ → Tag) (table : List ℕ → Option Thing)
      → Lands named place rule answer tags table one → Lands named place rule answer tags table other
  lands_like named place rule answer tags table landed =
      let back = rename-alike tags (quiet other.line) (quiet one.line) (record { free = line_back.free; waiting = line_back.waiting; granted = line_back.granted; wakes = refl }) in
      record {
        line = landed.line;
        line_is = alike_then (rename tags other.line) (rename tags one.line) landed.line (rename-alike tags other.line one.line line_back) landed.line_is;
        left = landed.left;
        turns = landed.turns;
        at = record {
          kind = landed.at.kind ∙ sym like.kind;
          number = like.shares.number ∙ landed.at.number;
          line = alike_then (rename tags (quiet other.line)) (rename tags (quiet one.line)) landed.left.line back landed.at.line;
          closed = landed.at.closed ∙ sym like.shares.closed;
          ended = IsPermutation-trans _ _ _ (IsPermutation-map (renamed tags) other.ended one.ended (IsPermutation-sym _ _ like.shares.ended)) landed.at.ended;
          held = landed.at.held ∙ sym like.shares.held;
          held_once = landed.at.held_once;
          steady = steady;
          every = landed.at.every;
          slots = λ name.
              slots_kept tags place (asked_in one) (asked_in other) (λ slot. sym (found-like slot (shares_of one) (shares_of other) like.shares steady.0)) name (table name) (landed.at.slots name);
        };
      }

-- an object that stands for one of the state while nobody is woken
pub record Spot (tags : ℕ → Tag) (table : List ℕ → Option Thing) (place : ℕ) (object : ObjectState) (named : Named) : Type 0 where
  pub at : StandsAt tags table place object named
  pub none_woken : object.line.wakes ≡ []
  pub once : NamedOnce (asked named.object)

module _ {tags : ℕ → Tag} {table : List ℕ → Option Thing} {place : ℕ} {object : ObjectState} {named : Named} (spot : Spot tags table place object named) where
  pub line_is : AreAlike (rename tags object.line) named.object.line
  line_is = record { free = spot.at.line.free; waiting = spot.at.line.waiting; granted = spot.at.line.granted; wakes = spot.at.line.wakes ∙ sym spot.none_woken }

  -- it is the line kept, with its own granted ones
  pub line_as : named.object.line ≡ with_granted (rename tags object.line) named.object.line.granted
  line_as = sym (alike_is (rename tags object.line) named.object.line line_is)

  abbrev line : Line Tag
  line = named.object.line

  abbrev held : List (Entry Tag)
  held = named.object.held

  abbrev gone : List (Entry Tag)
  gone = named.object.ended

  abbrev with_all : Line Tag → List (Entry Tag) → Bool → List (Entry Tag) → Named
  with_all line' held' closed' gone' = record named { object = record named.object { line = quiet line'; held = held'; closed = closed'; ended = gone' } }

  abbrev with_this : Line Tag → List (Entry Tag) → Named
  with_this line' held' = with_all line' held' named.object.closed gone

  -- who is in the line, and who was ended, has one name each
  once_in_line : NamedOnce (requests line)
  once_in_line = pairwise_back _ gone (requests line) spot.once

  once_gone : NamedOnce gone
  once_gone = pairwise_front _ gone (requests line) spot.once

  was_seen : (name : List ℕ) (thing : Thing) → table name ≡ Some thing → place_at thing ≡ place → seen name named ≡ shown_of name thing
  was_seen name thing is here = spot.at.every name ∙ ap (shown place name) is ∙ shown_here place name thing here

  was_unseen : (name : List ℕ) → table name ≡ None → seen name named ≡ unseen
  was_unseen name none = spot.at.every name ∙ ap (shown place name) none

  pub given_back_is : (n : ℕ) → AreAlike (rename tags (give_back n object.line)) (give_back n line)
  given_back_is n =
      subst (λ (l : Line Tag). AreAlike l (give_back n line)) (give_back-rename tags n object.line) (give_back-alike n (rename tags object.line) line line_is)

  -- a rule lands where its line, what is held, and who was ended do
  lands_all : (rule : Rule (List ℕ)) (answer : Answer) (tags' : ℕ → Tag) (table' : List ℕ → Option Thing) (object' : ObjectState) (line' : Line Tag) (held' : List (Entry Tag)) (gone' : List (Entry Tag))
      → act bytes_eq rule named.object ≡ turn answer (record named.object { line = line'; held = held'; closed = object'.closed; ended = gone' })
      → AreAlike (rename tags' object'.line) line' → IsPermutation (map (renamed tags') object'.ended) gone' → object'.kind ≡ object.kind → object'.number ≡ object.number → total held' ≡ object'.held
      → NamedOnce held' → IsSteady object' → ((name : List ℕ) → seen name (with_all line' held' object'.closed gone') ≡ shown place name (table' name))
      → ((name : List ℕ) → HasSlotAt tags' place (asked_in object') name (table' name)) → Lands named place rule answer tags' table' object'
  lands_all rule answer tags' table' object' line' held' gone' turns is ended kind number sum held_once steady every slots = record {
    line = line';
    line_is = is;
    left = record named.object { line = quiet line'; held = held'; closed = object'.closed; ended = gone' };
    turns = turns;
    at = record {
      kind = spot.at.kind ∙ sym kind;
      number = number ∙ spot.at.number;
      line = record { free = is.free; waiting = is.waiting; granted = is.granted; wakes = refl };
      closed = refl;
      ended = ended;
      held = sum;
      held_once = held_once;
      steady = steady;
      every = every;
      slots = slots;
    };
  }

  -- the same where nobody is ended, and nobody who was leaves
  lands : (rule : Rule (List ℕ)) (answer : Answer) (tags' : ℕ → Tag) (table' : List ℕ → Option Thing) (object' : ObjectState) (line' : Line Tag) (held' : List (Entry Tag))
      → act bytes_eq rule named.object ≡ turn answer (record named.object { line = line'; held = held' })
      → AreAlike (rename tags' object'.line) line' → map (renamed tags') object'.ended ≡ map (renamed tags) object.ended → object'.closed ≡ object.closed → object'.kind ≡ object.kind
      → object'.number ≡ object.number → total held' ≡ object'.held → NamedOnce held' → IsSteady object' → ((name : List ℕ) → seen name (with_this line' held') ≡ shown place name (table' name))
      → ((name : List ℕ) → HasSlotAt tags' place (asked_in object') name (table' name)) → Lands named place rule answer tags' table' object'
  lands rule answer tags' table' object' line' held' turns is same_gone same_closed kind number sum held_once steady every slots =
      let closed : named.object.closed ≡ object'.closed = spot.at.closed ∙ sym same_closed in
      lands_all rule answer tags' table' object' line' held' gone (turns ∙ ap (λ c. turn answer (record named.object { line = line'; held = held'; closed = c })) closed) is
      (subst (λ (es : List (Entry Tag)). IsPermutation es gone) (sym same_gone) spot.at.ended) kind number sum held_once steady every slots

  -- Served at once: n are held under a new name.
  module _ (made : Tag) (size : ℕ) (table' : List ℕ → Option Thing) (free : table made.name ≡ None)
      (updated : Updated table table' made.name (Some (things.Holding (record { mode = made.mode; of = place; count = size })))) (steady : IsSteady (on_semaphore (taken size) object)) where
    pub takes : (rule : Rule (List ℕ)) (answer : Answer)
        → act bytes_eq rule named.object ≡ turn answer (record named.object { line = take_permits size line; held = hold made size held })
        → Lands named place rule answer tags table' (on_semaphore (taken size) object)
    takes rule answer turns =
        let new : Entry Tag = record { name = made; size = size } in
        let none : entry_named (is_tag bytes_eq made.name) held ≡ None = ap (λ s. s.holding) (was_unseen made.name free) in
        lands rule answer tags table' (on_semaphore (taken size) object) (take_permits size line) (hold made size held) turns (take_permits-alike size (rename tags object.line) line line_is) refl refl refl refl
        (total-push held new ∙ ap (λ n. n + size) spot.at.held)
        (once_push held new spot.at.held_once none) steady
        (every_one place table table' made.name _ updated named (with_this (take_permits size line) (hold made size held)) refl spot.at.every (λ name apart. refl)
        (λ name apart. entry_named-push_other (is_tag bytes_eq name) held new (other_way bytes_eq bytes_told made.name name apart))
        (seen_as _ _ (ap (λ s. s.named) (was_unseen made.name free)) (ap (λ s. s.request) (was_unseen made.name free))
        (entry_named-push_itself (is_tag bytes_eq made.name) held new (bytes_told.itself made.name) none)
        ∙ sym (shown_here place made.name (things.Holding (record { mode = made.mode; of = place; count = size })) refl)))
        (slots_one place table table' made.name _ updated tags tags (asked_in object) (asked_in object) spot.at.slots (λ name request apart has. has) tt)

  -- It joins the line under a new slot.
  module _ (made : Tag) (size waker slot : ℕ) (table' : List ℕ → Option Thing) (free : table made.name ≡ None) (is_open : object.closed ≡ false) (unused : entry_named (is_slot slot) (asked_in object) ≡ None)
      (updated : Updated table table' made.name (Some (things.Request place (record { mode = made.mode; of = place; size = size; stage = Joined slot }))))
      (steady : IsSteady (on_semaphore (joined slot size waker) object)) where
    abbrev pub joining : ℕ → Tag
    joining = named_at slot made tags

    other_slot : (other found : ℕ) → entry_named (is_slot other) (asked_in object) ≡ Some (record { name = other; size = found }) → other ≡ slot → ⊥
    other_slot other found own same = none-some _ (sym (ap (λ k. entry_named (is_slot k) (asked_in object)) same ∙ unused) ∙ own)

    unused_in_line : entry_named (is_slot slot) (requests object.line) ≡ None
    unused_in_line = not_behind (is_slot slot) object.ended (requests object.line) unused

    -- nobody was ended, so nobody's name changes
    none_ended : object.ended ≡ []
    none_ended = subst (λ c. EndsAs c object.ended object.line.waiting) is_open spot.at.steady.0.closing

    name_free : entry_named (is_tag bytes_eq made.name) (asked named.object) ≡ None
    name_free = ap (λ s. s.request) (was_unseen made.name free)

    pub joins : is_served size line ≡ false → Lands named place (rules.Ask made size waker) Pending joining table' (on_semaphore (joined slot size waker) object)
    joins waits =
        lands (rules.Ask made size waker) Pending joining table' (on_semaphore (joined slot size waker) object) (join made size waker line) held (cond-false _ _ _ waits)
        (subst (λ (l : Line Tag). AreAlike l (join made size waker line)) (sym (rename-join_named_at slot made tags size waker object.line unused_in_line))
        (join-alike made size waker (rename tags object.line) line line_is)) (ap (map (renamed joining)) none_ended ∙ sym (ap (map (renamed tags)) none_ended)) refl refl refl spot.at.held spot.at.held_once steady
        (every_one place table table' made.name _ updated named (with_this (join made size waker line) held) refl spot.at.every
        (λ name apart.
        in_parts (is_tag bytes_eq name) gone (requests line) gone (requests (join made size waker line)) refl
        (entry_named-join_other (is_tag bytes_eq name) made size waker line (other_way bytes_eq bytes_told made.name name apart))) (λ name apart. refl)
        (seen_as _ _ (ap (λ s. s.named) (was_unseen made.name free))
        (found_behind (is_tag bytes_eq made.name) gone (requests (join made size waker line)) (not_in_front (is_tag bytes_eq made.name) gone (requests line) name_free)
        ∙ entry_named-join_itself (is_tag bytes_eq made.name) made size waker line (bytes_told.itself made.name) (not_behind (is_tag bytes_eq made.name) gone (requests line) name_free))
        (ap (λ s. s.holding) (was_unseen made.name free))
        ∙ sym (shown_here place made.name (things.Request place (record { mode = made.mode; of = place; size = size; stage = Joined slot })) refl)))
        (slots_one place table table' made.name _ updated tags joining (asked_in object) (asked_in (on_semaphore (joined slot size waker) object)) spot.at.slots
        (λ name request apart has.
        let differs = other_slot has.slot request.size has.own in
        slot_kept tags joining place (asked_in object) (asked_in (on_semaphore (joined slot size waker) object)) name request has
        (named_at_other slot made tags has.slot (ne_eqb slot has.slot (λ k. differs (sym k))))
        (in_parts (is_slot has.slot) object.ended (requests object.line) object.ended (requests (join slot size waker object.line)) refl
        (entry_named-join_other (is_slot has.slot) slot size waker object.line (ne_eqb has.slot slot differs))))
        (λ here. record {
          slot = slot;
          joined = refl;
          of = refl;
          own = found_behind (is_slot slot) object.ended (requests (join slot size waker object.line)) (not_in_front (is_slot slot) object.ended (requests object.line) unused)
              ∙ entry_named-join_itself (is_slot slot) slot size waker object.line (eq-eqb slot slot refl) unused_in_line;
          tagged = named_at_itself slot made tags;
        }))

  -- What is in the table stays, and who is in the line, and what is held.
  module _ (table' : List ℕ → Option Thing) (same_table : (name : List ℕ) → table' name ≡ table name) where
    pub stays : (rule : Rule (List ℕ)) (answer : Answer) (object' : ObjectState) (line' : Line Tag) → act bytes_eq rule named.object ≡ turn answer (record named.object { line = line' })
        → AreAlike (rename tags object'.line) line' → object'.ended ≡ object.ended → object'.closed ≡ object.closed → object'.kind ≡ object.kind → object'.number ≡ object.number
        → object'.held ≡ object.held → IsSteady object' → requests line' ≡ requests line → requests object'.line ≡ requests object.line → Lands named place rule answer tags table' object'
    stays rule answer object' line' turns is same_gone same_closed kind number sum steady same_line same_kept =
        lands rule answer tags table' object' line' held turns is (ap (map (renamed tags)) same_gone) same_closed kind number (spot.at.held ∙ sym sum) spot.at.held_once steady
        (λ name.
        seen_as (seen name (with_this line' held)) (seen name named) refl (ap (λ (es : List (Entry Tag)). entry_named (is_tag bytes_eq name) (gone ++ es)) same_line) refl
        ∙ spot.at.every name ∙ ap (shown place name) (sym (same_table name)))
        (λ name. subst (HasSlotAt tags place (asked_in object') name) (sym (same_table name))
        (slots_kept tags place (asked_in object) (asked_in object') (λ slot. ap₂ (λ (es fs : List (Entry ℕ)). entry_named (is_slot slot) (es ++ fs)) same_gone same_kept) name (table name)
        (spot.at.slots name)))

  -- A request of the table.
  module _ (name : List ℕ) (request : RequestState) (is : table name ≡ Some (things.Request place request)) where
    abbrev pub slot_of : HasSlot tags place (asked_in object) name request
    slot_of = subst (HasSlotAt tags place (asked_in object) name) is (spot.at.slots name) refl

    abbrev own_slot : ℕ
    own_slot = slot_of.slot

    meant : bytes_eq name (tags own_slot).name ≡ true
    meant = ap (λ (t : Tag). bytes_eq name t.name) slot_of.tagged ∙ bytes_told.itself name

    abbrev gone_kept : List (Entry Tag)
    gone_kept = map (renamed tags) object.ended

    once_kept : NamedOnce (gone_kept ++ requests (rename tags object.line))
    once_kept =
        pairwise-order _ (λ a b apart. other_way bytes_eq bytes_told a.name.name b.name.name apart) (asked named.object) (gone_kept ++ requests (rename tags object.line))
        (IsPermutation-append gone gone_kept (requests line) (requests (rename tags object.line)) (IsPermutation-sym _ _ spot.at.ended)
        (IsPermutation-sym _ _ (requests-alike (rename tags object.line) line line_is))) spot.once

    once_renamed : NamedOnce (map (renamed tags) (asked_in object))
    once_renamed =
        subst NamedOnce (ap (λ (es : List (Entry Tag)). gone_kept ++ es) (requests-rename tags object.line) ∙ sym (map-append (renamed tags) object.ended (requests object.line))) once_kept

    -- the name is granted once at most
    granted_once : count_named (is_tag bytes_eq name) (rename tags object.line).granted ≤ 1
    granted_once =
        named_once bytes_eq bytes_told name (rename tags object.line).granted
        (pairwise_front _ (rename tags object.line).granted (map entry_of (rename tags object.line).waiting) (pairwise_back _ gone_kept (requests (rename tags object.line)) once_kept))

    all_asked_agree : AllByRecursion (λ (e : Entry ℕ). is_tag bytes_eq name (tags e.name) ≡ (own_slot == e.name)) (asked_in object)
    all_asked_agree = agrees tags own_slot request.size name meant (asked_in object) once_renamed slot_of.own

    all_agree : AllByRecursion (λ (e : Entry ℕ). is_tag bytes_eq name (tags e.name) ≡ (own_slot == e.name)) (requests object.line)
    all_agree = all_of_second _ object.ended (requests object.line) all_asked_agree

    gone_agree : AllByRecursion (λ (e : Entry ℕ). is_tag bytes_eq name (tags e.name) ≡ (own_slot == e.name)) object.ended
    gone_agree = all_of_first _ object.ended (requests object.line) all_asked_agree

    -- the name is ended once at most
    gone_same : FindsTheSame (is_tag bytes_eq name) gone_kept gone
    gone_same = finds_the_same (is_tag bytes_eq name) gone_kept gone spot.at.ended

    gone_once : count_named (is_tag bytes_eq name) gone_kept ≤ 1
    gone_once = named_once bytes_eq bytes_told name gone_kept (pairwise_front _ gone_kept (requests (rename tags object.line)) once_kept)

    -- who is ended under the name
    gone_as : entry_named (is_tag bytes_eq name) gone ≡ option_map (renamed tags) (entry_named (is_slot own_slot) object.ended)
    gone_as = gone_same.found gone_once ∙ entry_named-rename tags (is_slot own_slot) (is_tag bytes_eq name) object.ended gone_agree

    -- the others that were ended, once it left
    gone_without_it : IsPermutation (map (renamed tags) (without (is_slot own_slot) object.ended)) (without (is_tag bytes_eq name) gone)
    gone_without_it =
        subst (λ (es : List (Entry Tag)). IsPermutation es (without (is_tag bytes_eq name) gone)) (without-rename tags (is_slot own_slot) (is_tag bytes_eq name) object.ended gone_agree)
        (gone_same.left gone_once)

    granted_agree : AllByRecursion (λ (e : Entry ℕ). is_tag bytes_eq name (tags e.name) ≡ (own_slot == e.name)) object.line.granted
    granted_agree = all_of_first _ object.line.granted (map entry_of object.line.waiting) all_agree

    asked_for : seen name named ≡ shown_of name (things.Request place request)
    asked_for = was_seen name (things.Request place request) is refl

    -- who is granted under the name
    granted_as : entry_named (is_tag bytes_eq name) line.granted ≡ option_map (renamed tags) (entry_named (is_slot own_slot) object.line.granted)
    granted_as = granted-alike (is_tag bytes_eq name) (rename tags object.line) line line_is granted_once
        ∙ entry_named-rename tags (is_slot own_slot) (is_tag bytes_eq name) object.line.granted granted_agree

    -- another name has another slot
    another : (other : List ℕ) (wants : RequestState) → bytes_eq name other ≡ false → (has : HasSlot tags place (asked_in object) other wants) → has.slot ≡ own_slot → ⊥
    another other wants apart has same =
        false≢true (sym apart ∙ ap (bytes_eq name) (ap (λ (t : Tag). t.name) (sym has.tagged ∙ ap tags same ∙ slot_of.tagged)) ∙ bytes_told.itself name)

    abbrev the_entry : Entry Tag
    the_entry = record { name = tag request.mode name; size = request.size }

    module _ (table' : List ℕ → Option Thing) where
      pub receives : (waker : ℕ) → entry_named (is_slot own_slot) object.ended ≡ None → entry_named (is_slot own_slot) object.line.granted ≡ Some (record { name = own_slot; size = request.size })
          → Updated table table' name (Some (things.Holding (record { mode = request.mode; of = place; count = request.size }))) → IsSteady (on_semaphore (received own_slot request.size) object)
          → Lands named place (rules.Poll name waker) Ready tags table' (on_semaphore (received own_slot request.size) object)
      receives waker live granted updated steady =
          let there : entry_named (is_tag bytes_eq name) line.granted ≡ Some the_entry =
          granted_as ∙ ap (option_map (renamed tags)) granted ∙ ap (λ (t : Tag). Some (record { name = t; size = request.size })) slot_of.tagged in
          let none : entry_named (is_tag bytes_eq name) held ≡ None = ap (λ s. s.holding) asked_for in
          let not_gone : entry_named (is_tag bytes_eq name) gone ≡ None = gone_as ∙ ap (option_map (renamed tags)) live in
          lands (rules.Poll name waker) Ready tags table' (on_semaphore (received own_slot request.size) object) (poll_granted (is_tag bytes_eq name) line) (held ++ the_entry ∷ [])
          (ap (λ o. poll_ended o (is_tag bytes_eq name) waker named.object) not_gone ∙ ap (λ o. poll_of o (is_tag bytes_eq name) waker named.object) there)
          (subst (λ (l : Line Tag). AreAlike l (poll_granted (is_tag bytes_eq name) line)) (poll_granted-rename tags (is_slot own_slot) (is_tag bytes_eq name) object.line granted_agree)
          (poll_granted-alike (is_tag bytes_eq name) (rename tags object.line) line line_is granted_once)) refl refl refl refl
          (total-push held the_entry ∙ ap (λ n. n + request.size) spot.at.held) (once_push held the_entry spot.at.held_once none) steady
          (every_one place table table' name _ updated named (with_this (poll_granted (is_tag bytes_eq name) line) (held ++ the_entry ∷ [])) refl spot.at.every
          (λ other apart.
          in_parts (is_tag bytes_eq other) gone (requests line) gone (requests (poll_granted (is_tag bytes_eq name) line)) refl
          (entry_named-poll_granted_other (is_tag bytes_eq name) (is_tag bytes_eq other) line (names_apart bytes_eq bytes_told name other apart (requests line))))
          (λ other apart. entry_named-push_other (is_tag bytes_eq other) held the_entry (other_way bytes_eq bytes_told name other apart))
          (seen_as _ _ (ap (λ s. s.named) asked_for)
          (found_behind (is_tag bytes_eq name) gone (requests (poll_granted (is_tag bytes_eq name) line)) not_gone
          ∙ ap (entry_named (is_tag bytes_eq name)) (requests-poll_granted (is_tag bytes_eq name) line the_entry there) ∙ gone_without name (requests line) once_in_line)
          (entry_named-push_itself (is_tag bytes_eq name) held the_entry (bytes_told.itself name) none)
          ∙ sym (shown_here place name (things.Holding (record { mode = request.mode; of = place; count = request.size })) refl)))
          (slots_one place table table' name _ updated tags tags (asked_in object) (asked_in (on_semaphore (received own_slot request.size) object)) spot.at.slots
          (λ other wants apart has.
          slot_kept tags tags place (asked_in object) (asked_in (on_semaphore (received own_slot request.size) object)) other wants has refl
          (in_parts (is_slot has.slot) object.ended (requests object.line) object.ended (requests (poll_granted (is_slot own_slot) object.line)) refl
          (stays-poll_granted own_slot has.slot object.line (another other wants apart has)))) tt)

      pub rewakes : (waker : ℕ) → entry_named (is_slot own_slot) object.ended ≡ None → entry_named (is_slot own_slot) object.line.granted ≡ None → Updated table table' name (Some (things.Request place request))
          → IsSteady (on_semaphore (with_waker own_slot waker) object)
          → Lands named place (rules.Poll name waker) Pending tags table' (on_semaphore (with_waker own_slot waker) object)
      rewakes waker live waits updated steady =
          stays table' (updated_same table table' name (Some (things.Request place request)) updated is)
          (rules.Poll name waker) Pending (on_semaphore (with_waker own_slot waker) object) (poll_waiting (is_tag bytes_eq name) waker line)
          (ap (λ o. poll_ended o (is_tag bytes_eq name) waker named.object) (gone_as ∙ ap (option_map (renamed tags)) live)
          ∙ ap (λ o. poll_of o (is_tag bytes_eq name) waker named.object) (granted_as ∙ ap (option_map (renamed tags)) waits))
          (subst (λ (l : Line Tag). AreAlike l (poll_waiting (is_tag bytes_eq name) waker line))
          (poll_waiting-rename tags (is_slot own_slot) (is_tag bytes_eq name) waker object.line (all_of_second _ object.line.granted (map entry_of object.line.waiting) all_agree))
          (poll_waiting-alike (is_tag bytes_eq name) waker (rename tags object.line) line line_is))
          refl refl refl refl refl steady (requests-poll_waiting (is_tag bytes_eq name) waker line) (requests-poll_waiting (is_slot own_slot) waker object.line)

      -- it leaves, wherever it stands
      abbrev left_gone : List (Entry Tag)
      left_gone = without (is_tag bytes_eq name) gone

      pub ends : Updated table table' name None → IsSteady (on_semaphore (without_request own_slot) object)
          → Lands named place (rules.Drop name) Done tags table' (on_semaphore (without_request own_slot) object)
      ends updated steady =
          let left_line = cancel (is_tag bytes_eq name) line in
          let left_kept = cancel (is_slot own_slot) object.line in
          lands_all (rules.Drop name) Done tags table' (on_semaphore (without_request own_slot) object) left_line held left_gone
          (ap (λ o. drop_of o (is_tag bytes_eq name) named.object) (ap (λ s. s.holding) asked_for)
          ∙ ap (λ c. turn Done (record named.object { line = left_line; closed = c; ended = left_gone })) spot.at.closed)
          (subst (λ (l : Line Tag). AreAlike l left_line) (cancel-rename_requests tags (is_slot own_slot) (is_tag bytes_eq name) object.line all_agree)
          (cancel-alike (is_tag bytes_eq name) (rename tags object.line) line line_is granted_once)) gone_without_it refl refl spot.at.held spot.at.held_once steady
          (every_one place table table' name None updated named (with_all left_line held object.closed left_gone) refl spot.at.every
          (λ other apart.
          in_parts (is_tag bytes_eq other) gone (requests line) left_gone (requests left_line)
          (entry_named-without_other (is_tag bytes_eq name) (is_tag bytes_eq other) gone (names_apart bytes_eq bytes_told name other apart gone))
          (entry_named-cancel_other (is_tag bytes_eq name) (is_tag bytes_eq other) line (names_apart bytes_eq bytes_told name other apart (requests line)))) (λ other apart. refl)
          (seen_as _ unseen (ap (λ s. s.named) asked_for)
          (found_behind (is_tag bytes_eq name) left_gone (requests left_line) (gone_without name gone once_gone)
          ∙ ap (entry_named (is_tag bytes_eq name)) (requests-cancel (is_tag bytes_eq name) line) ∙ gone_without name (requests line) once_in_line) (ap (λ s. s.holding) asked_for)))
          (slots_one place table table' name None updated tags tags (asked_in object) (asked_in (on_semaphore (without_request own_slot) object)) spot.at.slots
          (λ other wants apart has.
          slot_kept tags tags place (asked_in object) (asked_in (on_semaphore (without_request own_slot) object)) other wants has refl
          (in_parts (is_slot has.slot) object.ended (requests object.line) (without (is_slot own_slot) object.ended) (requests left_kept)
          (stays-without own_slot has.slot object.ended (another other wants apart has)) (stays-cancel own_slot has.slot object.line (another other wants apart has)))) tt)

      -- one that was ended hears of it
      pub hears : (waker : ℕ) → IsSome (entry_named (is_slot own_slot) object.ended) → Updated table table' name None → IsSteady (on_semaphore (told own_slot) object)
          → Lands named place (rules.Poll name waker) Closed tags table' (on_semaphore (told own_slot) object)
      hears waker there updated steady = at (entry_named (is_slot own_slot) object.ended) refl there
        where
          at : (found : Option (Entry ℕ)) → entry_named (is_slot own_slot) object.ended ≡ found → IsSome found
              → Lands named place (rules.Poll name waker) Closed tags table' (on_semaphore (told own_slot) object)
          at None is_none some = cc
          at (Some found) is_some some =
              let found_gone : entry_named (is_tag bytes_eq name) gone ≡ Some (renamed tags found) = gone_as ∙ ap (option_map (renamed tags)) is_some in
              lands_all (rules.Poll name waker) Closed tags table' (on_semaphore (told own_slot) object) line held left_gone
              (ap (λ o. poll_ended o (is_tag bytes_eq name) waker named.object) found_gone
              ∙ ap (λ c. turn Closed (record named.object { closed = c; ended = left_gone })) spot.at.closed)
              line_is gone_without_it refl refl spot.at.held spot.at.held_once steady
              (every_one place table table' name None updated named (with_all line held object.closed left_gone) refl spot.at.every
              (λ other apart.
              in_parts (is_tag bytes_eq other) gone (requests line) left_gone (requests line)
              (entry_named-without_other (is_tag bytes_eq name) (is_tag bytes_eq other) gone (names_apart bytes_eq bytes_told name other apart gone)) refl) (λ other apart. refl)
              (seen_as _ unseen (ap (λ s. s.named) asked_for)
              (found_behind (is_tag bytes_eq name) left_gone (requests line) (gone_without name gone once_gone) ∙ nowhere_behind name gone (requests line) spot.once (renamed tags found) found_gone)
              (ap (λ s. s.holding) asked_for)))
              (slots_one place table table' name None updated tags tags (asked_in object) (asked_in (on_semaphore (told own_slot) object)) spot.at.slots
              (λ other wants apart has.
              slot_kept tags tags place (asked_in object) (asked_in (on_semaphore (told own_slot) object)) other wants has refl
              (in_parts (is_slot has.slot) object.ended (requests object.line) (without (is_slot own_slot) object.ended) (requests object.line)
              (stays-without own_slot has.slot object.ended (another other wants apart has)) refl)) tt)

  -- All that wait are ended.
  module _ (table' : List ℕ → Option Thing) (same_table : (name : List ℕ) → table' name ≡ table name) (steady : IsSteady (on_semaphore shut object)) where
    ended_line : AreAlike (rename tags (end_waiting object.line)) (end_waiting line)
    ended_line = record {
      free = line_is.free;
      waiting = refl;
      granted = line_is.granted;
      wakes = ap₂ (λ (ns ms : List ℕ). ns ++ ms) line_is.wakes (ap (map (λ (w : Waiting Tag). w.waker)) line_is.waiting ∙ wakers-rename tags object.line.waiting);
    }

    told_kept : IsPermutation (map (renamed tags) (object.ended ++ map entry_of object.line.waiting)) (gone ++ map entry_of line.waiting)
    told_kept =
        subst (λ (es : List (Entry Tag)). IsPermutation es (gone ++ map entry_of line.waiting)) (sym (map-append (renamed tags) object.ended (map entry_of object.line.waiting)))
        (IsPermutation-append (map (renamed tags) object.ended) gone (map (renamed tags) (map entry_of object.line.waiting)) (map entry_of line.waiting) spot.at.ended
        (subst (IsPermutation (map (renamed tags) (map entry_of object.line.waiting))) (sym (entries-rename tags object.line.waiting) ∙ sym (ap (map entry_of) line_is.waiting))
        (IsPermutation-refl (map (renamed tags) (map entry_of object.line.waiting)))))

    pub shuts : Lands named place rules.Close Done tags table' (on_semaphore shut object)
    shuts =
        lands_all rules.Close Done tags table' (on_semaphore shut object) (end_waiting line) held (gone ++ map entry_of line.waiting) refl ended_line told_kept refl refl spot.at.held spot.at.held_once steady
        (λ name.
        seen_as (seen name (with_all (end_waiting line) held true (gone ++ map entry_of line.waiting))) (seen name named) refl
        ((finds_the_same (is_tag bytes_eq name) (asked named.object) _ (ended_in_order gone line.granted (map entry_of line.waiting))).found (named_once bytes_eq bytes_told name (asked named.object) spot.once)) refl
        ∙ spot.at.every name ∙ ap (shown place name) (sym (same_table name)))
        (λ name. subst (HasSlotAt tags place (asked_in (on_semaphore shut object)) name) (sym (same_table name))
        (slots_kept tags place (asked_in object) (asked_in (on_semaphore shut object))
        (λ slot. (finds_the_same (is_slot slot) (asked_in object) _ (ended_in_order object.ended object.line.granted (map entry_of object.line.waiting))).found (once slot (asked_in object) spot.at.steady.0.one_each))
        name (table name) (spot.at.slots name)))

  -- What is held by the table.
  module _ (name : List ℕ) (holding : HoldingState) (here : holding.of ≡ place) (is : table name ≡ Some (things.Holding holding)) where
    abbrev pub entry_held : Entry Tag
    entry_held = record { name = tag holding.mode name; size = holding.count }

    has_it : seen name named ≡ shown_of name (things.Holding holding)
    has_it = was_seen name (things.Holding holding) is here

    pub held_there : entry_named (is_tag bytes_eq name) held ≡ Some entry_held
    held_there = ap (λ s. s.holding) has_it

    -- it ends, and the line may settle
    pub lets_go : (rule : Rule (List ℕ)) (table' : List ℕ → Option Thing) (object' : ObjectState) (line' : Line Tag)
        → act bytes_eq rule named.object ≡ turn Done (record named.object { line = line'; held = without (is_tag bytes_eq name) held })
        → AreAlike (rename tags object'.line) line' → object'.ended ≡ object.ended → object'.closed ≡ object.closed → object'.kind ≡ object.kind → object'.number ≡ object.number
        → object'.held ≡ object.held - holding.count → IsSteady object' → requests line' ≡ requests line → requests object'.line ≡ requests object.line → Updated table table' name None → Lands named place rule Done tags table' object'
    lets_go rule table' object' line' turns is_line same_gone same_closed kind number sum steady same_line same_kept updated =
        let whole = total-without (is_tag bytes_eq name) held entry_held held_there in
        lands rule Done tags table' object' line' (without (is_tag bytes_eq name) held) turns is_line (ap (map (renamed tags)) same_gone) same_closed kind number (omega (arith, spot.at.held))
        (pairwise-without _ (is_tag bytes_eq name) held spot.at.held_once) steady
        (every_one place table table' name None updated named (with_this line' (without (is_tag bytes_eq name) held)) refl spot.at.every
        (λ other apart. ap (λ (es : List (Entry Tag)). entry_named (is_tag bytes_eq other) (gone ++ es)) same_line)
        (λ other apart. entry_named-without_other (is_tag bytes_eq name) (is_tag bytes_eq other) held (names_apart bytes_eq bytes_told name other apart held))
        (seen_as _ unseen (ap (λ s. s.named) has_it) (ap (λ (es : List (Entry Tag)). entry_named (is_tag bytes_eq name) (gone ++ es)) same_line ∙ ap (λ s. s.request) has_it)
        (gone_without name held spot.at.held_once)))
        (slots_one place table table' name None updated tags tags (asked_in object) (asked_in object') spot.at.slots
        (λ other wants apart has.
        slot_kept tags tags place (asked_in object) (asked_in object') other wants has refl
        (ap₂ (λ (es fs : List (Entry ℕ)). entry_named (is_slot has.slot) (es ++ fs)) same_gone same_kept)) tt)

    -- it becomes another
    module _ (to : Entry Tag → Entry Tag) (keeps : (e : Entry Tag) → bytes_eq name e.name.name ≡ true → (to e).name.name ≡ e.name.name)
        (others : (e : Entry Tag) (other : List ℕ) → bytes_eq name other ≡ false → bytes_eq other e.name.name ≡ false → bytes_eq other (to e).name.name ≡ false)
        (mode : Mode) (count : ℕ) (becomes : to entry_held ≡ record { name = tag mode name; size = count }) where
      abbrev pub changed_held : List (Entry Tag)
      changed_held = change (is_tag bytes_eq name) to held

      pub changed_there : entry_named (is_tag bytes_eq name) changed_held ≡ Some (record { name = tag mode name; size = count })
      changed_there =
          found-change (is_tag bytes_eq name) to held entry_held (ap (λ (e : Entry Tag). bytes_eq name e.name.name) becomes ∙ bytes_told.itself name) held_there ∙ ap Some becomes

      pub changed_once : NamedOnce changed_held
      changed_once = once-change name to keeps held spot.at.held_once

      pub changed_total : holding.count + total changed_held ≡ count + total held
      changed_total = total-change (is_tag bytes_eq name) to held entry_held held_there ∙ ap (λ (e : Entry Tag). e.size + total held) becomes

      changed_other : (other : List ℕ) → bytes_eq name other ≡ false → entry_named (is_tag bytes_eq other) changed_held ≡ entry_named (is_tag bytes_eq other) held
      changed_other other apart =
          other-change (is_tag bytes_eq name) (is_tag bytes_eq other) to held (names_apart bytes_eq bytes_told name other apart held) (λ e differs. others e other apart differs)

      -- what each name is after that alone
      pub every_changed : (table' : List ℕ → Option Thing) (line' : Line Tag) → requests line' ≡ requests line
          → Updated table table' name (Some (things.Holding (record { mode = mode; of = place; count = count })))
          → (other : List ℕ) → seen other (with_this line' changed_held) ≡ shown place other (table' other)
      every_changed table' line' same_line updated =
          every_one place table table' name _ updated named (with_this line' changed_held) refl spot.at.every
          (λ other apart. ap (λ (es : List (Entry Tag)). entry_named (is_tag bytes_eq other) (gone ++ es)) same_line) changed_other
          (seen_as _ _ (ap (λ s. s.named) has_it) (ap (λ (es : List (Entry Tag)). entry_named (is_tag bytes_eq name) (gone ++ es)) same_line ∙ ap (λ s. s.request) has_it) changed_there
          ∙ sym (shown_here place name (things.Holding (record { mode = mode; of = place; count = count })) refl))

      pub slots_changed : (table' : List ℕ → Option Thing) (line' : Line ℕ) → requests line' ≡ requests object.line
          → Updated table table' name (Some (things.Holding (record { mode = mode; of = place; count = count })))
          → (other : List ℕ) → HasSlotAt tags place (object.ended ++ requests line') other (table' other)
      slots_changed table' line' same_kept updated =
          slots_one place table table' name _ updated tags tags (asked_in object) (object.ended ++ requests line') spot.at.slots
          (λ other wants apart has.
          slot_kept tags tags place (asked_in object) (object.ended ++ requests line') other wants has refl
          (ap (λ (es : List (Entry ℕ)). entry_named (is_slot has.slot) (object.ended ++ es)) same_kept)) tt

  unseen_there : (made : List ℕ) → table made ≡ None → (es : List (Entry Tag)) → entry_named (is_tag bytes_eq made) es ≡ entry_named (is_tag bytes_eq made) held
      → entry_named (is_tag bytes_eq made) es ≡ None
  unseen_there made free es is = is ∙ ap (λ s. s.holding) (was_unseen made free)

  -- Permits of a new name.
  module _ (name made : List ℕ) (whole : HoldingState) (here : whole.of ≡ place) (mode : whole.mode ≡ Permit) (is : table name ≡ Some (things.Holding whole)) (free : table made ≡ None) (n : ℕ)
      (apart : bytes_eq name made ≡ false) where
    abbrev less : Entry Tag → Entry Tag
    less e = record e { size = whole.count - n }

    abbrev part : Entry Tag
    part = record { name = tag Permit made; size = n }

    abbrev left_held : List (Entry Tag)
    left_held = change (is_tag bytes_eq name) less held

    found_it : entry_named (is_tag bytes_eq name) held ≡ Some (record { name = tag whole.mode name; size = whole.count })
    found_it = held_there name whole here is

    pub splits : n ≤ whole.count → (mid table' : List ℕ → Option Thing) → IsSteady object
        → Updated table mid name (Some (things.Holding (record { mode = whole.mode; of = place; count = whole.count - n })))
        → Updated mid table' made (Some (things.Holding (record { mode = Permit; of = place; count = n }))) → Lands named place (rules.Split name made n) Done tags table' object
    splits enough mid table' steady parted added =
        let same : (e : Entry Tag) → bytes_eq name e.name.name ≡ true → (less e).name.name ≡ e.name.name = λ e means. refl in
        let others : (e : Entry Tag) (other : List ℕ) → bytes_eq name other ≡ false → bytes_eq other e.name.name ≡ false → bytes_eq other (less e).name.name ≡ false = λ e other differs still. still in
        let none : entry_named (is_tag bytes_eq made) left_held ≡ None =
        unseen_there made free left_held (changed_other name whole here is less same others whole.mode (whole.count - n) refl made apart) in
        let sum = changed_total name whole here is less same others whole.mode (whole.count - n) refl in
        lands (rules.Split name made n) Done tags table' object line (hold (tag Permit made) n left_held)
        (ap (λ o. split_by (size_in o) (is_tag bytes_eq name) (tag Permit made) n named.object) found_it ∙ cond-true _ _ _ (le-leb n whole.count enough)) line_is refl refl refl refl
        (total-push left_held part ∙ omega (arith, spot.at.held))
        (once_push left_held part (changed_once name whole here is less same others whole.mode (whole.count - n) refl) none) steady
        (every_one place mid table' made _ added (with_this line left_held) (with_this line (hold (tag Permit made) n left_held)) refl
        (every_changed name whole here is less same others whole.mode (whole.count - n) refl mid line refl parted) (λ other differs. refl)
        (λ other differs. entry_named-push_other (is_tag bytes_eq other) left_held part (other_way bytes_eq bytes_told made other differs))
        (seen_as _ _ (ap (λ s. s.named) (was_unseen made free)) (ap (λ s. s.request) (was_unseen made free))
        (entry_named-push_itself (is_tag bytes_eq made) left_held part (bytes_told.itself made) none)
        ∙ sym (shown_here place made (things.Holding (record { mode = Permit; of = place; count = n })) refl)))
        (slots_one place mid table' made _ added tags tags (asked_in object) (asked_in object)
        (slots_changed name whole here is less same others whole.mode (whole.count - n) refl mid object.line refl parted) (λ other wants differs has. has) tt)

  -- The permits of two names.
  module _ (kept spent : List ℕ) (first second : HoldingState) (first_here : first.of ≡ place) (second_here : second.of ≡ place)
      (first_is : table kept ≡ Some (things.Holding first)) (second_is : table spent ≡ Some (things.Holding second)) (apart : bytes_eq kept spent ≡ false) where
    abbrev more : Entry Tag → Entry Tag
    more e = record e { size = first.count + second.count }

    abbrev grown : List (Entry Tag)
    grown = change (is_tag bytes_eq kept) more held

    abbrev rest_held : List (Entry Tag)
    rest_held = without (is_tag bytes_eq spent) grown

    pub merges : (mid table' : List ℕ → Option Thing) → IsSteady object → Updated table mid spent None
        → Updated mid table' kept (Some (things.Holding (record { mode = first.mode; of = place; count = first.count + second.count })))
        → Lands named place (rules.Merge kept spent) Done tags table' object
    merges mid table' steady ended grew =
        let same : (e : Entry Tag) → bytes_eq kept e.name.name ≡ true → (more e).name.name ≡ e.name.name = λ e means. refl in
        let others : (e : Entry Tag) (other : List ℕ) → bytes_eq kept other ≡ false → bytes_eq other e.name.name ≡ false → bytes_eq other (more e).name.name ≡ false = λ e other differs still. still in
        let sum = changed_total kept first first_here first_is more same others first.mode (first.count + second.count) refl in
        let once_grown = changed_once kept first first_here first_is more same others first.mode (first.count + second.count) refl in
        let unchanged = changed_other kept first first_here first_is more same others first.mode (first.count + second.count) refl in
        let found_spent = unchanged spent apart ∙ held_there spent second second_here second_is in
        let less = total-without (is_tag bytes_eq spent) grown (entry_held spent second second_here second_is) found_spent in
        let before = without (is_tag bytes_eq spent) held in
        lands (rules.Merge kept spent) Done tags table' object line rest_held
        (ap₂ (λ o p. merge_by (size_in o + size_in p) (is_tag bytes_eq kept) (is_tag bytes_eq spent) named.object) (held_there kept first first_here first_is)
        (held_there spent second second_here second_is))
        line_is refl refl refl refl (omega (arith, spot.at.held)) (pairwise-without _ (is_tag bytes_eq spent) grown once_grown) steady
        (every_one place mid table' kept _ grew (with_this line before) (with_this line rest_held) refl
        (every_one place table mid spent None ended named (with_this line before) refl spot.at.every (λ other differs. refl)
        (λ other differs. entry_named-without_other (is_tag bytes_eq spent) (is_tag bytes_eq other) held (names_apart bytes_eq bytes_told spent other differs held))
        (seen_as _ unseen (ap (λ s. s.named) (has_it spent second second_here second_is)) (ap (λ s. s.request) (has_it spent second second_here second_is))
        (gone_without spent held spot.at.held_once)))
        (λ other differs. refl)
        (λ other differs.
        by_bool (bytes_eq spent other)
        (λ h. let same_name = bytes_told.equal spent other h in
        subst (λ m. entry_named (is_tag bytes_eq m) rest_held ≡ entry_named (is_tag bytes_eq m) before) same_name
        (gone_without spent grown once_grown ∙ sym (gone_without spent held spot.at.held_once)))
        (λ h.
        entry_named-without_other (is_tag bytes_eq spent) (is_tag bytes_eq other) grown (names_apart bytes_eq bytes_told spent other h grown) ∙ unchanged other differs
        ∙ sym (entry_named-without_other (is_tag bytes_eq spent) (is_tag bytes_eq other) held (names_apart bytes_eq bytes_told spent other h held))))
        (seen_as _ _ (ap (λ s. s.named) (has_it kept first first_here first_is)) (ap (λ s. s.request) (has_it kept first first_here first_is))
        (entry_named-without_other (is_tag bytes_eq spent) (is_tag bytes_eq kept) grown (names_apart bytes_eq bytes_told spent kept (other_way bytes_eq bytes_told kept spent apart) grown)
        ∙ changed_there kept first first_here first_is more same others first.mode (first.count + second.count) refl)
        ∙ sym (shown_here place kept (things.Holding (record { mode = first.mode; of = place; count = first.count + second.count })) refl)))
        (slots_one place mid table' kept _ grew tags tags (asked_in object) (asked_in object)
        (slots_one place table mid spent None ended tags tags (asked_in object) (asked_in object) spot.at.slots (λ other wants differs has. has) tt) (λ other wants differs has. has) tt)

  -- What is held for writing is held for reading.
  module _ (name : List ℕ) (writer : HoldingState) (here : writer.of ≡ place) (is : table name ≡ Some (things.Holding writer)) (max : ℕ) (kind : named.object.kind ≡ ReaderWriter max)
      (all : writer.count ≡ max) where
    pub lowers : 0 < writer.count → (table' : List ℕ → Option Thing) → IsSteady (downgraded writer.count object)
        → Updated table table' name (Some (things.Holding (record { mode = Read; of = place; count = 1 })))
        → Lands named place (rules.Downgrade name) Done tags table' (downgraded writer.count object)
    lowers some table' steady updated =
        let reads : Entry Tag → Entry Tag = λ e. record { name = tag Read name; size = 1 } in
        let same : (e : Entry Tag) → bytes_eq name e.name.name ≡ true → (reads e).name.name ≡ e.name.name = λ e means. bytes_told.equal name e.name.name means in
        let others : (e : Entry Tag) (other : List ℕ) → bytes_eq name other ≡ false → bytes_eq other e.name.name ≡ false → bytes_eq other (reads e).name.name ≡ false
        = λ e other differs still. other_way bytes_eq bytes_told name other differs in
        let sum = changed_total name writer here is reads same others Read 1 refl in
        let line' = give_back (writer.count - 1) line in
        lands (rules.Downgrade name) Done tags table' (downgraded writer.count object) line' (change (is_tag bytes_eq name) reads held)
        (ap (λ k. turn Done (record named.object { line = give_back (size_of k Write - 1) line; held = change (is_tag bytes_eq name) reads held })) kind
        ∙ ap (λ m. turn Done (record named.object { line = give_back (m - 1) line; held = change (is_tag bytes_eq name) reads held })) (sym all))
        (given_back_is (writer.count - 1)) refl refl refl refl (omega (arith, spot.at.held))
        (changed_once name writer here is reads same others Read 1 refl) steady
        (every_changed name writer here is reads same others Read 1 refl table' line' (requests-give_back (writer.count - 1) line) updated)
        (slots_changed name writer here is reads same others Read 1 refl table' (give_back (writer.count - 1) object.line) (requests-give_back (writer.count - 1) object.line) updated)
