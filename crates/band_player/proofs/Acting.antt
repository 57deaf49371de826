-- A rule to one object of a state that the table stands for: what the table has to come to for the state afterwards.
use Rattle.std.proofs.Common.{◌≡◌, ℕ, ◌<◌, zero, suc, List, [], ◌∷◌, length, Option, Some, None, refl, sym, ap, ◌∙◌, subst, arith, ne_eqb}
use Rattle.std.specs.List.{slice_get, slice_set}
use Rattle.std.specs.Str.{bytes_eq}
use Rattle.std.proofs.lemmas.List.{length-set}
use Rattle.std.proofs.lemmas.Option.{none-some, same_Some, slice_get_within}
use Rattle.band_balance.specs.Line.{Entry, Line, AreAlike, rename}
use Rattle.band_balance.specs.Object.{Object, Answer}
use Rattle.band_balance.specs.Rule.{Rule, act}
use Rattle.band_balance.proofs.Distinct.{named_at, named_at_itself, named_at_other}
use Rattle.band_balance.proofs.Held.{by_bool, other_way}
use Rattle.band_balance.proofs.Rules.{bytes_told}
use Rattle.band_rules.specs.Order.{NamesDiffer}
use Rattle.band_rules.specs.Plan.{Act, plan}
use Rattle.band_rules.specs.State.{State, Named, Tag}
use Rattle.band_rules.specs.Step.{Effect, reply_of, perform, with_object, step}
use Rattle.band_rules.proofs.Runs.{in_order-step}
use Rattle.band_rules.proofs.States.{with_object_here, with_object_later}
use Rattle.band_script.specs.declared.call.Call.{Call}
use Rattle.band_player.specs.Names.{Updated}
use Rattle.band_player.specs.Objects.{ObjectState, asked_in}
use Rattle.band_player.specs.Table.{unseen, shown, HasSlotAt, StandsAt, StandsUnder}
use Rattle.band_player.specs.Thing.{Thing, place_at}
use Rattle.band_player.specs.Thing as things
use Rattle.band_player.proofs.Lists.{all_at_place, at_set_same, at_set_other, each_replaced}
use Rattle.band_player.proofs.Stood.{shown_elsewhere}

-- the object of a name is the one at its place
pub with_object_at : (state : State) → NamesDiffer state → (place : ℕ) (named : Named) (object : Object Tag) → slice_get state place ≡ Some named
    → with_object named.name object state ≡ slice_set state place (record named { object = object })
with_object_at [] differ place named object at = absurd (none-some named at)
with_object_at (first ∷ rest) differ zero named object at =
    ap (λ (n : Named). with_object n.name object (first ∷ rest)) (sym (same_Some first named at))
    ∙ with_object_here first object rest
    ∙ ap (λ (n : Named). record n { object = object } ∷ rest) (same_Some first named at)
with_object_at (first ∷ rest) differ (suc place) named object at =
    with_object_later named first object rest (other_way bytes_eq bytes_told first.name named.name (all_at_place _ rest place named differ.0 at))
    ∙ ap (λ (s : State). first ∷ s) (with_object_at rest differ.1 place named object at)

-- a name is of no place, or of this one
abbrev pub IsOf : ℕ → Option Thing → Type 0
IsOf place None = Unit {0}
IsOf place (Some thing) = place_at thing ≡ place

-- what a name is stays, or was of a place and is
pub data Touched (place : ℕ) : Option Thing → Option Thing → Type 0 where
  same : {thing : Option Thing} → Touched place thing thing
  here : {before after : Option Thing} → IsOf place before → IsOf place after → Touched place before after

pub touched_twice : {place : ℕ} {a b c : Option Thing} → Touched place a b → Touched place b c → Touched place a c
touched_twice same second = second
touched_twice (here was is) same = here was is
touched_twice (here was is) (here still now) = here was now

module _ (place other : ℕ) (apart : other ≡ place → ⊥) where
  shown_of_other : (name : List ℕ) (thing : Option Thing) → IsOf place thing → shown other name thing ≡ unseen
  shown_of_other name None is = refl
  shown_of_other name (Some thing) is = shown_elsewhere other name thing (λ k. apart (k ∙ is))

  pub shown_there : (name : List ℕ) {before after : Option Thing} → Touched place before after → shown other name before ≡ shown other name after
  shown_there name same = refl
  shown_there name (here {before} {after} was is) = shown_of_other name before was ∙ sym (shown_of_other name after is)

  pub slot_there : (tags : ℕ → Tag) (asks : List (Entry ℕ)) (name : List ℕ) {before after : Option Thing} → Touched place before after → HasSlotAt tags other asks name before
      → HasSlotAt tags other asks name after
  slot_there tags asks name same has = has
  slot_there tags asks name (here {before} {after} was is) has = go after is
    where
      go : (thing : Option Thing) → IsOf place thing → HasSlotAt tags other asks name thing
      go (Some (things.Request at request)) is = λ k. absurd (apart (sym k ∙ is))
      go thing is = tt

-- where one name changes
pub touched_one : (place : ℕ) (table table' : List ℕ → Option Thing) (it : List ℕ) (now : Option Thing) → Updated table table' it now → IsOf place (table it) → IsOf place now
    → (name : List ℕ) → Touched place (table name) (table' name)
touched_one place table table' it now updated was is name =
    by_bool (bytes_eq it name)
    (λ h. here (subst (λ n. IsOf place (table n)) (bytes_told.equal it name h) was) (subst (IsOf place) (sym (updated.here name h)) is))
    (λ h. subst (Touched place (table name)) (sym (updated.others name h)) same)

-- a name that becomes what it is
pub updated_same : (table table' : List ℕ → Option Thing) (it : List ℕ) (now : Option Thing) → Updated table table' it now → table it ≡ now → (name : List ℕ) → table' name ≡ table name
updated_same table table' it now updated is name =
    by_bool (bytes_eq it name) (λ h. updated.here name h ∙ sym is ∙ ap table (bytes_told.equal it name h)) (updated.others name)

-- another table that shows the same of an object
pub stands_by : (tags : ℕ → Tag) (table table' : List ℕ → Option Thing) (place : ℕ) (object : ObjectState) (named : Named)
    → ((name : List ℕ) → shown place name (table name) ≡ shown place name (table' name))
    → ((name : List ℕ) → HasSlotAt tags place (asked_in object) name (table name) → HasSlotAt tags place (asked_in object) name (table' name)) → StandsAt tags table place object named
    → StandsAt tags table' place object named
stands_by tags table table' place object named shows slots at = record {
  kind = at.kind;
  number = at.number;
  line = at.line;
  closed = at.closed;
  ended = at.ended;
  held = at.held;
  held_once = at.held_once;
  steady = at.steady;
  every = λ name. at.every name ∙ shows name;
  slots = λ name. slots name (at.slots name);
}

-- where no name changes
pub stands_same : (tags : ℕ → ℕ → Tag) (table table' : List ℕ → Option Thing) (kept : List ObjectState) (state : State) → ((name : List ℕ) → table' name ≡ table name)
    → StandsUnder tags table kept state → StandsUnder tags table' kept state
stands_same tags table table' kept state names stands = record {
  order = stands.order;
  size = stands.size;
  each = λ place object named kept_there there.
      stands_by (tags place) table table' place object named (λ name. ap (shown place name) (sym (names name)))
      (λ name has. subst (HasSlotAt (tags place) place (asked_in object) name) (sym (names name)) has) (stands.each place object named kept_there there);
  there = λ name thing is. stands.there name thing (sym (names name) ∙ is);
}

-- a place that a name is of is there
pub there_still : {place : ℕ} (count : ℕ) → place < count → {before after : Option Thing} → Touched place before after
    → ((thing : Thing) → before ≡ Some thing → place_at thing < count) → (thing : Thing) → after ≡ Some thing → place_at thing < count
there_still count within same there thing is = there thing is
there_still {place} count within (here {before} {after} was now) there thing is =
    let at : place_at thing ≡ place = subst (IsOf place) is now in
    omega arith

-- what a rule makes of an object, and what is kept for it
pub record Lands (named : Named) (place : ℕ) (rule : Rule (List ℕ)) (answer : Answer) (tags : ℕ → Tag) (table : List ℕ → Option Thing) (object : ObjectState) : Type 0 where
  pub line : Line Tag
  pub line_is : AreAlike (rename tags object.line) line
  pub left : Object Tag
  pub turns : act bytes_eq rule named.object ≡ record { answer = answer; woken = line.wakes; object = left }
  pub at : StandsAt tags table place object (record named { object = left })

-- the step's reply and wakers, and the state that it leaves
pub record Does (effect : Effect) (answer : Answer) (object : ObjectState) (tags : ℕ → ℕ → Tag) (table : List ℕ → Option Thing) (kept : List ObjectState) : Type 0 where
  pub replied : reply_of answer ≡ effect.reply
  pub woken : object.line.wakes ≡ effect.woken
  pub stands : StandsUnder tags table kept effect.state

module _ (tags : ℕ → ℕ → Tag) (table : List ℕ → Option Thing) (kept : List ObjectState) (state : State) (stands : StandsUnder tags table kept state)
    (place : ℕ) (before : ObjectState) (named : Named) (kept_there : slice_get kept place ≡ Some before) (there : slice_get state place ≡ Some named)
    (tags' : ℕ → Tag) (table' : List ℕ → Option Thing) (object : ObjectState) (touched : (name : List ℕ) → Touched place (table name) (table' name)) where
  abbrev pub retagged : ℕ → ℕ → Tag
  retagged = named_at place tags' tags

  -- an object at another place
  stays_at : (other : ℕ) → (other ≡ place → ⊥) → (kept_other : ObjectState) (another : Named) → StandsAt (tags other) table other kept_other another
      → StandsAt (retagged other) table' other kept_other another
  stays_at other apart kept_other another at =
      subst (λ (t : ℕ → Tag). StandsAt t table' other kept_other another) (sym (named_at_other place tags' tags other (ne_eqb place other (λ k. apart (sym k)))))
      (stands_by (tags other) table table' other kept_other another (λ name. shown_there place other apart name (touched name))
      (λ name has. slot_there place other apart (tags other) (asked_in kept_other) name (touched name) has) at)

  module _ (left : Object Tag) (at : StandsAt tags' table' place object (record named { object = left })) where
    abbrev after : Named
    after = record named { object = left }

    each_after : (other : ℕ) (kept_other : ObjectState) (another : Named) → slice_get (slice_set kept place object) other ≡ Some kept_other
        → slice_get (slice_set state place after) other ≡ Some another
        → StandsAt (retagged other) table' other kept_other another
    each_after other kept_other another kept_at at_other =
        each_replaced (λ p o. (n : Named) → slice_get (slice_set state place after) p ≡ Some n → StandsAt (retagged p) table' p o n) kept place before object kept_there
        (λ n is.
        subst (StandsAt (retagged place) table' place object) (same_Some after n (sym (at_set_same state place named after there) ∙ is))
        (subst (λ (t : ℕ → Tag). StandsAt t table' place object after) (sym (named_at_itself place tags' tags)) at))
        (λ p o apart kept_is n is. stays_at p apart o n (stands.each p o n kept_is (sym (at_set_other state place p after apart) ∙ is)))
        other kept_other kept_at another at_other

  pub acts : (call : Call) (rule : Rule (List ℕ)) (answer : Answer) → plan call state ≡ Act named rule → Lands named place rule answer tags' table' object
      → Does (step call state) answer object retagged table' (slice_set kept place object)
  acts call rule answer planned lands =
      let turned : step call state ≡ record { reply = reply_of answer; woken = lands.line.wakes; state = slice_set state place (record named { object = lands.left }) } =
      ap (λ p. perform p state) planned
      ∙ ap (λ t. record { reply = reply_of t.answer; woken = t.woken; state = with_object named.name t.object state }) lands.turns
      ∙ ap (λ (s : State). record { reply = reply_of answer; woken = lands.line.wakes; state = s }) (with_object_at state stands.order.differ place named lands.left there) in
      record {
        replied = sym (ap (λ (e : Effect). e.reply) turned);
        woken = sym (ap (λ (e : Effect). e.woken) turned ∙ lands.line_is.wakes);
        stands = record {
          order = in_order-step state stands.order call;
          size = length-set kept place object ∙ stands.size ∙ sym (ap (λ (e : Effect). length e.state) turned ∙ length-set state place (record named { object = lands.left }));
          each = λ other kept_other another kept_at at_other.
              each_after lands.left lands.at other kept_other another kept_at (ap (λ (e : Effect). slice_get e.state other) (sym turned) ∙ at_other);
          there = λ name thing is.
              there_still (length (slice_set kept place object)) (within (sym (length-set kept place object))) (touched name)
              (λ other was. subst (λ n. place_at other < n) (sym (length-set kept place object)) (stands.there name other was)) thing is;
        };
      }
    where
      within : length kept ≡ length (slice_set kept place object) → place < length (slice_set kept place object)
      within counted = omega (arith, slice_get_within kept place before kept_there)
