-- A new object, under a name that isn't live, in a state that the table stands for.
use Rattle.std.proofs.Common.{◌≡◌, ℕ, ◌+◌, zero, suc, cond, List, [], ◌∷◌, ◌++◌, length, Option, Some, None, IsSome, Result, Ok, is_ok, ◌⊎◌, inl, inr, refl, sym, ap, ◌∙◌, subst, arith, length-append}
use Rattle.std.specs.List.{slice_get}
use Rattle.std.specs.Str.{bytes_eq}
use Rattle.std.proofs.lemmas.Option.{none-some, same_Some, slice_get_within}
use Rattle.band_base.specs.declared.refusal.Refusal.TheVariants as refusals
use Rattle.band_balance.specs.Laws.{HasAShare}
use Rattle.band_balance.specs.Object.{Object, new_object}
use Rattle.band_balance.specs.Line.{open_line}
use Rattle.band_balance.proofs.Alike.{alike_itself}
use Rattle.band_balance.proofs.Held.{by_bool, other_way}
use Rattle.band_balance.proofs.Rules.{bytes_told}
use Rattle.band_rules.specs.Order.{IsInOrder}
use Rattle.band_rules.specs.Plan.{Make, ◌>>=◌, plan}
use Rattle.band_rules.specs.State.{State, Named, Tag, standing}
use Rattle.band_rules.specs.Step.{Effect, perform, step}
use Rattle.band_rules.specs.declared.reply.Reply.TheVariants as replies
use Rattle.band_rules.proofs.Planned.{some_readers, if_unused}
use Rattle.band_rules.proofs.Runs.{in_order-step}
use Rattle.band_script.specs.Call.{ForReaders}
use Rattle.std.proofs.lemmas.List.Sorted.{IsPermutation-refl}
use Rattle.band_sem.specs.Semaphore.{new_state, asked}
use Rattle.band_player.specs.Kept.{wakes_of, wakes_left, TableStandsFor, FollowsFrom, DidWork}
use Rattle.band_player.specs.Moves.{kind_made, count_made, make_call}
use Rattle.band_player.specs.Names.{thing_at, Updated}
use Rattle.band_player.specs.Objects.{ObjectState, IsSteady, of_kind, asked_in}
use Rattle.band_player.specs.Table.{unseen, shown, HasSlotAt, StandsAt, StandsUnder}
use Rattle.band_player.specs.Thing.{Thing}
use Rattle.band_player.specs.Thing as things
use Rattle.band_player.specs.declared.object.New.{New}
use Rattle.band_player.specs.declared.object.New.TheVariants as news
use Rattle.band_player.specs.declared.table.Table.{Table}
use Rattle.band_player.proofs.Acting.{IsOf, shown_there, slot_there, stands_by, there_still, Touched, touched_one}
use Rattle.band_player.proofs.Follow.{none_woken, refused}
use Rattle.band_player.proofs.Lookups.{taken_name, unused}
use Rattle.band_player.proofs.Stood.{shown_here, shown_elsewhere}

-- what stands at a place once one more came last
at_push : {A : Type 0} (xs : List A) (new : A) (k : ℕ) (x : A) → slice_get (xs ++ new ∷ []) k ≡ Some x → (slice_get xs k ≡ Some x) ⊎ ((k ≡ length xs) × (new ≡ x))
at_push [] new zero x at = inr (refl, same_Some new x at)
at_push [] new (suc k) x at = absurd (none-some x at)
at_push (y ∷ ys) new zero x at = inl at
at_push (y ∷ ys) new (suc k) x at = go (at_push ys new k x at)
  where
    go : (slice_get ys k ≡ Some x) ⊎ ((k ≡ length ys) × (new ≡ x)) → (slice_get (y ∷ ys) (suc k) ≡ Some x) ⊎ ((suc k ≡ length (y ∷ ys)) × (new ≡ x))
    go (inl here) = inl here
    go (inr last) = inr (ap suc last.0, last.1)

abbrev pub object_made : New → Object Tag
object_made new = new_object (kind_made new) (count_made new)

plan_makes : (new : New) (made : List ℕ) (state : State) → plan (make_call new made) state ≡ (if_unused (standing made state) >>= λ found. Make made (object_made new))
plan_makes news.Mutex made state = refl
plan_makes new made state = refl

-- so the object has readers
pub lets_in : (new : New) (made : List ℕ) → ForReaders (make_call new made) → HasAShare (kind_made new)
lets_in (news.Semaphore n) made for = tt
lets_in news.Mutex made for = omega arith
lets_in (news.ReaderWriter n) made for = some_readers n made for

-- it is seen by its name alone
module _ (new : New) (made : List ℕ) where
  abbrev new_named : Named
  new_named = record { name = made; object = object_made new }

  new_stands : (tags : ℕ → Tag) (table : List ℕ → Option Thing) (place : ℕ) → IsSteady (of_kind (kind_made new) (new_state place (count_made new)))
      → ((name : List ℕ) → record unseen { named = bytes_eq name made } ≡ shown place name (table name))
      → ((name : List ℕ) → HasSlotAt tags place (asked (new_state place (count_made new))) name (table name))
      → StandsAt tags table place (of_kind (kind_made new) (new_state place (count_made new))) new_named
  new_stands tags table place steady every slots =
      record { kind = refl; number = refl; line = alike_itself (open_line _); closed = refl; ended = IsPermutation-refl []; held = refl; held_once = tt; steady = steady; every = every; slots = slots }

-- a name that is taken
pub make_taken : (old : Table) (none : wakes_left old ≡ []) (state : State) (stands : TableStandsFor old state) (new : New) (made : List ℕ) → IsSome (thing_at old.names made)
    → FollowsFrom (make_call new made) (replies.Refused refusals.Taken) old state
make_taken old none state stands new made live_name =
    refused old none state stands old (λ n. refl) refl (make_call new made) refusals.Taken
    (plan_makes new made state ∙ ap (λ found. found >>= λ unused. Make made (object_made new)) (taken_name old none state stands made live_name))

-- an object is pushed
pub pushed : {A E : Type 0} (old room new : List ObjectState) (result : Result A E) (x : A) (object : ObjectState) → new ≡ cond (is_ok result) (room ++ object ∷ []) room → result ≡ Ok x → room ≡ old
    → new ≡ old ++ object ∷ []
pushed old room new result x object items ok same = items ∙ ap (λ r. cond (is_ok r) (room ++ object ∷ []) room) ok ∙ ap (λ (xs : List ObjectState). xs ++ object ∷ []) same

module _ (old : Table) (none : wakes_left old ≡ []) (state : State) (stands : TableStandsFor old state) (new : New) (made : List ℕ) (free : thing_at old.names made ≡ None) where
  abbrev table : List ℕ → Option Thing
  table = thing_at old.names

  abbrev kept : List ObjectState
  kept = old.objects.items

  abbrev place : ℕ
  place = length kept

  plan_make : plan (make_call new made) state ≡ Make made (object_made new)
  plan_make = plan_makes new made state ∙ ap (λ found. found >>= λ unused. Make made (object_made new)) (unused old none state stands made free)

  effect : step (make_call new made) state ≡ record { reply = replies.Done; woken = []; state = state ++ record { name = made; object = object_made new } ∷ [] }
  effect = ap (λ p. perform p state) plan_make

  pub works_make : DidWork (step (make_call new made) state).reply
  works_make = subst (λ (e : Effect). DidWork e.reply) (sym effect) tt

  -- no name was of the new place
  nowhere : (name : List ℕ) → shown place name (table name) ≡ unseen
  nowhere name = go (table name) refl
    where
      go : (o : Option Thing) → table name ≡ o → shown place name o ≡ unseen
      go None is = refl
      go (Some thing) is = shown_elsewhere place name thing (λ k. absurd (omega (arith, stands.under.there name thing is)))

  module _ (after : Table) (object : ObjectState) (object_is : object ≡ of_kind (kind_made new) (new_state place (count_made new))) (steady : IsSteady object)
      (updated : Updated table (thing_at after.names) made (Some (things.Object place))) (items : after.objects.items ≡ kept ++ object ∷ []) where
    abbrev table' : List ℕ → Option Thing
    table' = thing_at after.names

    touched : (name : List ℕ) → Touched place (table name) (table' name)
    touched = touched_one place table table' made (Some (things.Object place)) updated (subst (IsOf place) (sym free) tt) refl

    stands_new : StandsAt (stands.tags place) table' place object (new_named new made)
    stands_new =
        subst (λ (o : ObjectState). StandsAt (stands.tags place) table' place o (new_named new made)) (sym object_is)
        (new_stands new made (stands.tags place) table' place (subst (λ (o : ObjectState). IsSteady o) object_is steady)
        (λ name.
        by_bool (bytes_eq made name)
        (λ h.
        let same_name = bytes_told.equal made name h in
        ap (λ b. record unseen { named = b }) (ap (λ n. bytes_eq n made) (sym same_name) ∙ bytes_told.itself made)
        ∙ sym (shown_here place name (things.Object place) refl) ∙ ap (shown place name) (sym (updated.here name h)))
        (λ h. ap (λ b. record unseen { named = b }) (other_way bytes_eq bytes_told made name h) ∙ sym (nowhere name) ∙ ap (shown place name) (sym (updated.others name h))))
        (λ name.
        by_bool (bytes_eq made name)
        (λ h. subst (HasSlotAt (stands.tags place) place (asked (new_state place (count_made new))) name) (sym (updated.here name h)) tt)
        (λ h. subst (HasSlotAt (stands.tags place) place (asked (new_state place (count_made new))) name) (sym (updated.others name h)) (no_slot name (table name) refl))))
      where
        no_slot : (name : List ℕ) (o : Option Thing) → table name ≡ o → HasSlotAt (stands.tags place) place (asked (new_state place (count_made new))) name o
        no_slot name (Some (things.Request other request)) is = λ here. absurd (omega (arith, stands.under.there name (things.Request other request) is))
        no_slot name thing is = tt

    each_stands : (other : ℕ) (kept_other : ObjectState) (another : Named) → slice_get (kept ++ object ∷ []) other ≡ Some kept_other → slice_get (state ++ new_named new made ∷ []) other ≡ Some another
        → StandsAt (stands.tags other) table' other kept_other another
    each_stands other kept_other another kept_at at = go (at_push kept object other kept_other kept_at) (at_push state (new_named new made) other another at)
      where
        go : (slice_get kept other ≡ Some kept_other) ⊎ ((other ≡ length kept) × (object ≡ kept_other))
            → (slice_get state other ≡ Some another) ⊎ ((other ≡ length state) × (new_named new made ≡ another))
            → StandsAt (stands.tags other) table' other kept_other another
        go (inl here) (inl there) =
            let within = slice_get_within kept other kept_other here in
            let apart : other ≡ place → ⊥ = λ k. omega arith in
            stands_by (stands.tags other) table table' other kept_other another (λ name. shown_there place other apart name (touched name))
            (λ name has. slot_there place other apart (stands.tags other) (asked_in kept_other) name (touched name) has) (stands.under.each other kept_other another here there)
        go (inl here) (inr last) = absurd (omega (arith, slice_get_within kept other kept_other here, stands.under.size, last.0))
        go (inr last) (inl there) = absurd (omega (arith, slice_get_within state other another there, stands.under.size, last.0))
        go (inr last) (inr end) =
            subst (λ (o : ObjectState). StandsAt (stands.tags other) table' other o another) last.1
            (subst (λ (n : Named). StandsAt (stands.tags other) table' other object n) end.1
            (subst (λ (p : ℕ). StandsAt (stands.tags p) table' p object (new_named new made)) (sym last.0) stands_new))

    quiet : (other : ℕ) (kept_other : ObjectState) → slice_get (kept ++ object ∷ []) other ≡ Some kept_other → kept_other.line.wakes ≡ []
    quiet other kept_other at = go (at_push kept object other kept_other at)
      where
        go : (slice_get kept other ≡ Some kept_other) ⊎ ((other ≡ length kept) × (object ≡ kept_other)) → kept_other.line.wakes ≡ []
        go (inl here) = none_woken old.last kept stands.others none other kept_other here
        go (inr end) = ap (λ (o : ObjectState). o.line.wakes) (sym end.1 ∙ object_is)

    pub makes : FollowsFrom (make_call new made) replies.Done after state
    makes = record {
      replied = sym (ap (λ (e : Effect). e.reply) effect);
      woken = none_left (slice_get (kept ++ object ∷ []) after.last) refl ∙ sym (ap (λ (e : Effect). e.woken) effect);
      stands = record {
        tags = stands.tags;
        under =
            subst (λ (objects : List ObjectState). StandsUnder stands.tags table' objects (step (make_call new made) state).state) (sym items)
            (subst (λ (s : State). StandsUnder stands.tags table' (kept ++ object ∷ []) s) (sym (ap (λ (e : Effect). e.state) effect))
            (record {
              order = subst IsInOrder (ap (λ (e : Effect). e.state) effect) (in_order-step state stands.under.order (make_call new made));
              size = length-append kept (object ∷ []) ∙ ap (λ n. n + 1) stands.under.size ∙ sym (length-append state (new_named new made ∷ []));
              each = each_stands;
              there = λ name thing is.
                  there_still (length (kept ++ object ∷ [])) (omega (arith, length-append kept (object ∷ []))) (touched name)
                  (λ other was. omega (arith, length-append kept (object ∷ []), stands.under.there name other was)) thing is;
            }));
        others = λ other kept_other apart at. quiet other kept_other (ap (λ (objects : List ObjectState). slice_get objects other) (sym items) ∙ at);
      };
    }
      where
        none_left : (o : Option ObjectState) → slice_get (kept ++ object ∷ []) after.last ≡ o → wakes_left after ≡ []
        none_left o is = ap (λ (objects : List ObjectState). wakes_of (slice_get objects after.last)) items ∙ ap wakes_of is ∙ go o is
          where
            go : (o : Option ObjectState) → slice_get (kept ++ object ∷ []) after.last ≡ o → wakes_of o ≡ []
            go None is = refl
            go (Some kept_other) is = quiet after.last kept_other is
