-- What each call comes to in a state that the table stands for, by what the names and the objects say.
use Rattle.std.proofs.Common.{◌≡◌, ℕ, ◌+◌, ◌-◌, ◌<◌, ◌≤◌, ◌==◌, Bool, true, false, not, cond, List, [], map, length, Option, Some, None, IsSome, Result, Ok, Err, ℤ, pos, ◌+ℤ◌, int_lt, refl, sym, ap, ap₂, ◌∙◌, subst, eqb-true, eq-eqb}
use Rattle.std.specs.List.{slice_get, slice_set}
use Rattle.std.specs.Str.{bytes_eq}
use Rattle.std.proofs.lemmas.Bool.{cond-true, cond-false, cond_both, true≢false, le-leb, lt-leb}
use Rattle.std.proofs.lemmas.List.{length-map}
use Rattle.std.proofs.lemmas.Option.{same_Some}
use Rattle.band_base.specs.declared.poll.Poll.{Poll}
use Rattle.band_base.specs.declared.poll.Poll.TheVariants as polls
use Rattle.band_base.specs.declared.poll.PollError.{PollError}
use Rattle.band_base.specs.declared.poll.PollError.TheVariants as errors
use Rattle.band_sem.specs.Permit.{Permit as Held}
use Rattle.band_base.specs.declared.refusal.Refusal.{Refusal}
use Rattle.band_base.specs.declared.refusal.Refusal.TheVariants as refusals
use Rattle.band_balance.specs.Line.{Line, AreAlike, requests, total, rename, renamed_waiting, u64_max, is_served, take_permits, give_back, drained, overflows, owes_too_much, available}
use Rattle.band_balance.specs.Object.{Object, Kind, Mode, Permit, Read, Write, Answer, Done, Ready, Pending, Nothing, Closed, Drained, Figures, Turn, is_of, size_of, tag, turn, hold, size_in}
use Rattle.band_balance.specs.Rule.{Rule, Fits, act, has_name as is_tag}
use Rattle.band_balance.specs.Rule as rules
use Rattle.band_balance.proofs.Alike.{with_granted, total-alike, take_permits-alike}
use Rattle.band_balance.proofs.Held.{other_way}
use Rattle.band_balance.proofs.Rename.{is_served-rename, available-rename, drained-rename, total-renamed}
use Rattle.band_balance.proofs.Requests.{requests-give_back}
use Rattle.band_balance.proofs.Rules.{bytes_told}
use Rattle.band_balance.proofs.Turns.{split_by, drop_of, write_of}
use Rattle.band_rules.proofs.Planned.{if_live}
use Rattle.band_rules.specs.declared.reply.Reply.{Reply}
use Rattle.band_rules.specs.declared.reply.Reply.TheVariants as replies
use Rattle.band_rules.specs.Plan.{Plan, Refuse, Act, ◌>>=◌, object_for, asked_object, owner, lender, refuse_if, naming, plan}
use Rattle.band_rules.specs.State.{State, Named, Tag, Standing, AnObject, standing}
use Rattle.band_rules.specs.Step.{reply_of, step}
use Rattle.band_script.specs.declared.call.Call.{Call}
use Rattle.band_script.specs.declared.call.Call.TheVariants as calls
use Rattle.band_sem.specs.Request.{Request as Asked, NotPolled, Joined}
use Rattle.band_sem.specs.Semaphore.{taken, given_back, released, reduced, joined, received, forgotten, with_waker, without_request, told, shut, finished, cancelled, LaterPoll, Polls, PollsAt}
use Rattle.band_player.specs.Kept.{wakes_left, TableStandsFor, FollowsFrom, DidWork}
use Rattle.band_player.specs.Moves.{object_place, offering, held_as, mode_of, size_for, ask_call, try_call, AsksName, SplitsTo, Grows, Changes, FitsHolding, mergeable, mergeable_held, dropped, downgraded, PollsRequest, PollsToken, answer_of, left_of, mode_in, IsReply, left_by}
use Rattle.band_player.specs.Names.{thing_at, Updated, is_object}
use Rattle.band_player.specs.Objects.{ObjectState, RequestState, HoldingState, IsLikeObject, IsSteady, of_kind, shares_of, on_semaphore, in_mode, asked_in, asked_of, held_in, permit_in}
use Rattle.band_player.specs.Table.{HasSlot}
use Rattle.band_player.specs.Thing.{Thing, place_at}
use Rattle.band_player.specs.Thing as things
use Rattle.band_player.specs.Token.{TokenState, thing_of}
use Rattle.band_player.specs.Token as tokens
use Rattle.band_player.specs.declared.object.Want.{Want}
use Rattle.band_player.specs.declared.object.Want.TheVariants as wants
use Rattle.band_player.specs.declared.table.Table.{Table}
use Rattle.band_player.proofs.Acting.{IsOf, Touched, same, touched_one, touched_twice, updated_same}
use Rattle.band_player.proofs.Fitting.{fits_at}
use Rattle.band_player.proofs.Follow.{Target, target, absent, standing_as, refused, shows, acted, works}
use Rattle.band_player.proofs.Landing.{line_is, line_as, given_back_is, steady_before, lands_like, takes, joining, joins, stays, slot_of, receives, rewakes, hears, shuts, ends, lets_go, held_there, splits, merges, lowers}
use Rattle.band_player.proofs.Lists.{set_itself}
use Rattle.band_player.proofs.Lookups.{plain_found, object_refused, held_refused, FoundAs, place_held, refuses, held_found, apart_by_place, is_live, taken_name, held_by, Live, live, standing_live, object_there, unused}
use Rattle.band_player.proofs.Named.{can_merge, two_names, held_from, object_from, object_is, same_holding}

-- what asks for something of an object, and what tries
pub plan_asks : (want : Want) (made of : List ℕ) (waker : ℕ) (state : State)
    → plan (ask_call want made of waker) state ≡ naming (mode_of want) (size_for want) made of (λ n. rules.Ask (tag (mode_of want) made) n waker) state
plan_asks wants.Lock made of waker state = refl
plan_asks want made of waker state = refl

pub plan_tries : (want : Want) (made of : List ℕ) (state : State) → plan (try_call want made of) state ≡ naming (mode_of want) (size_for want) made of (rules.Try (tag (mode_of want) made)) state
plan_tries wants.Lock made of state = refl
plan_tries want made of state = refl

pub same_figures : (a a' : ℕ) (f f' : ℤ) (w w' g g' h h' : ℕ) → a ≡ a' → f ≡ f' → w ≡ w' → g ≡ g' → h ≡ h' → replies.Figures a f w g h ≡ replies.Figures a' f' w' g' h'
same_figures a a' f f' w w' g g' h h' e1 e2 e3 e4 e5 = cc

module _ (old : Table) (none : wakes_left old ≡ []) (state : State) (stands : TableStandsFor old state) (new : Table) where
  abbrev table : List ℕ → Option Thing
  table = thing_at old.names

  abbrev table' : List ℕ → Option Thing
  table' = thing_at new.names

  abbrev kept : List ObjectState
  kept = old.objects.items

  module _ (want : Want) (made of : List ℕ) (place : ℕ) (is : offering (mode_of want) kept (object_place (table of)) ≡ Ok place) (free : table made ≡ None)
      (object : ObjectState) (there : slice_get kept place ≡ Some object) (is_open : object.closed ≡ false) where
    abbrev it : Target old none state stands place object
    it = target old none state stands place object there

    -- what is served of the one kept is served of the one that it stands for
    served_too : (n : ℕ) → is_served n it.named.object.line ≡ is_served n object.line
    served_too n =
        ap (is_served n) (line_as it.spot)
        ∙ is_served-rename (stands.tags place) n object.line

    named_act : (rule : ℕ → Rule (List ℕ)) (n : ℕ) → n ≡ size_for want object.kind → naming (mode_of want) (size_for want) made of rule state ≡ Act it.named (rule n)
    named_act rule n size =
        ap₂ (λ one unused. one >>= λ named. unused >>= λ found. refuse_if named.object.closed refusals.Closed >>= λ open_one. Act named (rule (size_for want named.object.kind)))
        (object_there old none state stands (mode_of want) of place it.named is it.there) (unused old none state stands made free)
        ∙ ap (λ c. refuse_if c refusals.Closed >>= λ open_one. Act it.named (rule (size_for want it.named.object.kind))) (it.spot.at.closed ∙ is_open)
        ∙ ap (λ m. Act it.named (rule m)) (ap (size_for want) it.spot.at.kind ∙ sym size)

    asks : (waker : ℕ) (n : ℕ) → n ≡ size_for want object.kind → plan (ask_call want made of waker) state ≡ Act it.named (rules.Ask (tag (mode_of want) made) n waker)
    asks waker n size = plan_asks want made of waker state ∙ named_act (λ m. rules.Ask (tag (mode_of want) made) m waker) n size

    tries : (n : ℕ) → n ≡ size_for want object.kind → plan (try_call want made of) state ≡ Act it.named (rules.Try (tag (mode_of want) made) n)
    tries n size = plan_tries want made of state ∙ named_act (rules.Try (tag (mode_of want) made)) n size

    -- n are had at once, under the new name
    had : (n : ℕ) (object' : ObjectState) (thing : Thing) (call : Call) (rule : Rule (List ℕ)) (answer : Answer) (reply : Reply) → plan call state ≡ Act it.named rule
        → act bytes_eq rule it.named.object ≡ turn answer (record it.named.object { line = take_permits n it.named.object.line; held = hold (tag (mode_of want) made) n it.named.object.held })
        → object' ≡ on_semaphore (taken n) object → IsSteady object' → thing ≡ things.Holding (record { mode = mode_of want; of = place; count = n }) → Updated table table' made (Some thing)
        → new.objects.items ≡ slice_set kept place object' → new.last ≡ place → reply ≡ reply_of answer → FollowsFrom call reply new state
    had n object' thing call rule answer reply planned turns object_is steady thing_is updated items last replied =
        acted old none state stands call rule answer reply new place object (on_semaphore (taken n) object) (stands.tags place) it there planned
        (takes it.spot (tag (mode_of want) made) n table' free
        (subst (λ t. Updated table table' made (Some t)) thing_is updated) (subst (λ (o : ObjectState). IsSteady o) object_is steady) rule answer turns)
        (touched_one place table table' made (Some thing) updated (subst (IsOf place) (sym free) tt) (subst (λ t. IsOf place (Some t)) (sym thing_is) refl))
        (items ∙ ap (slice_set kept place) object_is) last replied

    pub tried : (n : ℕ) (object' : ObjectState) → n ≡ size_for want object.kind → is_served n object.line ≡ true → object' ≡ on_semaphore (taken n) object → IsSteady object'
        → Updated table table' made (Some (things.Holding (record { mode = mode_of want; of = place; count = n }))) → new.objects.items ≡ slice_set kept place object' → new.last ≡ place
        → FollowsFrom (try_call want made of) replies.Done new state
    tried n object' size served object_is steady updated items last =
        had n object' (things.Holding (record { mode = mode_of want; of = place; count = n })) (try_call want made of) (rules.Try (tag (mode_of want) made) n) Done replies.Done (tries n size)
        (cond-true _ _ _ (served_too n ∙ served)) object_is steady refl updated items last refl

    pub works_try : (n : ℕ) → n ≡ size_for want object.kind → is_served n object.line ≡ true → DidWork (step (try_call want made of) state).reply
    works_try n size served =
        works old none state stands (try_call want made of) (rules.Try (tag (mode_of want) made) n) it.named (tries n size)
        (subst (λ (t : Turn Tag). DidWork (reply_of t.answer)) (sym (cond-true _ _ _ (served_too n ∙ served))) tt)

    pub works_ask : (waker : ℕ) → DidWork (step (ask_call want made of waker) state).reply
    works_ask waker =
        works old none state stands (ask_call want made of waker) (rules.Ask (tag (mode_of want) made) (size_for want object.kind) waker) it.named (asks waker (size_for want object.kind) refl)
        (cond_both (is_served (size_for want object.kind) it.named.object.line) _ _ (λ (t : Turn Tag). DidWork (reply_of t.answer)) (λ h. tt) (λ h. tt))

    pub asked : (waker : ℕ) (n : ℕ) (reply : Reply) (left : TokenState) (object' : ObjectState) → n ≡ size_for want object.kind
        → PollsRequest (record { mode = mode_of want; of = place; size = n; stage = NotPolled }) waker object left reply object'
        → Updated table table' made (Some (thing_of left)) → new.objects.items ≡ slice_set kept place object' → new.last ≡ place → FollowsFrom (ask_call want made of waker) reply new state
    asked waker n reply (tokens.Holding holding) object' size p updated items last =
        had n object' (things.Holding holding) (ask_call want made of waker) (rules.Ask (tag (mode_of want) made) n waker) Ready reply (asks waker n size) (cond-true _ _ _ (served_too n ∙ p.polled.1))
        (ap₂ of_kind p.kind p.polled.3) p.lawful (ap things.Holding (ap₂ held_in p.mode p.polled.2)) updated items last p.replied
    asked waker n reply (tokens.Request left) object' size p updated items last = by_reply reply refl p.polled p.replied
      where
        waits : Polls (record { of = place; size = n; stage = NotPolled }) waker (shares_of object) (Ok polls.Pending) (asked_of left) (shares_of object') → reply ≡ replies.Pending
            → FollowsFrom (ask_call want made of waker) reply new state
        waits polled replied =
            let entered = polled.2 in
            let slot = entered.0 in
            let object_is : object' ≡ on_semaphore (joined slot n waker) object = ap₂ of_kind p.kind entered.2 in
            let left_is : left ≡ record { mode = mode_of want; of = place; size = n; stage = Joined slot } = ap₂ in_mode p.mode entered.3 in
            let updated_as = subst (λ (r : RequestState). Updated table table' made (Some (things.Request r.of r))) left_is updated in
            let steady = subst (λ (o : ObjectState). IsSteady o) object_is p.lawful in
            acted old none state stands (ask_call want made of waker) (rules.Ask (tag (mode_of want) made) n waker) Pending reply new place object (on_semaphore (joined slot n waker) object)
            (joining it.spot (tag (mode_of want) made) n waker slot table' free is_open entered.1 updated_as steady)
            it there (asks waker n size)
            (joins it.spot (tag (mode_of want) made) n waker slot table' free is_open entered.1 updated_as steady (served_too n ∙ polled.1))
            (touched_one place table table' made _ updated_as (subst (IsOf place) (sym free) tt) refl)
            (items ∙ ap (slice_set kept place) object_is) last replied

        by_reply : (said : Reply) → reply ≡ said → Polls (record { of = place; size = n; stage = NotPolled }) waker (shares_of object) (answer_of (tokens.Request left) said) (asked_of left) (shares_of object')
            → IsReply (tokens.Request left) said → FollowsFrom (ask_call want made of waker) reply new state
        by_reply replies.Closed is polled replied = let never : true ≡ false = sym polled.0 ∙ is_open in cc
        by_reply said is polled replied = waits polled (is ∙ replied)

  -- the name is taken
  pub name_taken : (names : (n : List ℕ) → table' n ≡ table n) (items : new.objects.items ≡ kept) (mode : Mode) (made of : List ℕ) (place : ℕ)
      → offering mode kept (object_place (table of)) ≡ Ok place → (object : ObjectState) → slice_get kept place ≡ Some object → IsSome (table made)
      → (call : Call) (size : Kind → ℕ) (rule : ℕ → Rule (List ℕ)) → plan call state ≡ naming mode size made of rule state → FollowsFrom call (replies.Refused refusals.Taken) new state
  name_taken names items mode made of place is object there live_name call size rule planned =
      let it = target old none state stands place object there in
      refused old none state stands new names items call refusals.Taken
      (planned ∙ ap₂ (λ one unused. one >>= λ named. unused >>= λ found. refuse_if named.object.closed refusals.Closed >>= λ open_one. Act named (rule (size named.object.kind)))
      (object_there old none state stands mode of place it.named is it.there) (taken_name old none state stands made live_name))

  -- the object is closed
  pub closed_refused : (names : (n : List ℕ) → table' n ≡ table n) (items : new.objects.items ≡ kept) (mode : Mode) (made of : List ℕ) (place : ℕ)
      → offering mode kept (object_place (table of)) ≡ Ok place → (object : ObjectState) → slice_get kept place ≡ Some object → table made ≡ None → object.closed ≡ true
      → (call : Call) (size : Kind → ℕ) (rule : ℕ → Rule (List ℕ)) → plan call state ≡ naming mode size made of rule state → FollowsFrom call (replies.Refused refusals.Closed) new state
  closed_refused names items mode made of place is object there free shut_one call size rule planned =
      let it = target old none state stands place object there in
      refused old none state stands new names items call refusals.Closed
      (planned ∙ ap₂ (λ one unused. one >>= λ named. unused >>= λ found. refuse_if named.object.closed refusals.Closed >>= λ open_one. Act named (rule (size named.object.kind)))
      (object_there old none state stands mode of place it.named is it.there) (unused old none state stands made free)
      ∙ ap (λ c. refuse_if c refusals.Closed >>= λ open_one. Act it.named (rule (size it.named.object.kind))) (it.spot.at.closed ∙ shut_one))

  -- a new name is asked for
  pub asks_name : (want : Want) (made of : List ℕ) (waker place : ℕ) (reply : Reply) → offering (mode_of want) kept (object_place (table of)) ≡ Ok place → table made ≡ None
      → (object object' : ObjectState) → slice_get kept place ≡ Some object → object.closed ≡ false → object.number ≡ place → AsksName made want waker table table' object object' reply
      → new.objects.items ≡ slice_set kept place object' → new.last ≡ place → FollowsFrom (ask_call want made of waker) reply new state
  asks_name want made of waker place reply is free object object' there is_open number a items last =
      asked want made of place is free object there is_open waker (size_for want object.kind) reply a.left object' refl
      (subst (λ k. PollsRequest (record { mode = mode_of want; of = k; size = size_for want object.kind; stage = NotPolled }) waker object a.left reply object') number a.polled)
      a.updated items last

  -- A later poll.
  polls_again : (name : List ℕ) (waker : ℕ) (request : RequestState) → table name ≡ Some (things.Request request.of request) → (object : ObjectState) (there : slice_get kept request.of ≡ Some object)
      → (reply : Reply) (left : TokenState) (object' : ObjectState) → PollsRequest request waker object left reply object'
      → Updated table table' name (left_by reply (Some (thing_of left))) → new.objects.items ≡ slice_set kept request.of object' → new.last ≡ request.of
      → FollowsFrom (calls.Poll name waker) reply new state
  polls_again name waker request is object there reply left object' p updated items last = go left reply refl p.polled p.mode p.replied updated
    where
      it : Target old none state stands request.of object
      it = target old none state stands request.of object there

      has : HasSlot (stands.tags request.of) request.of (asked_in object) name request
      has = slot_of it.spot name request is

      planned : plan (calls.Poll name waker) state ≡ Act it.named (rules.Poll name waker)
      planned = ap (λ s. asked_object s >>= λ of. Act of (rules.Poll name waker)) (standing_as old none state stands name (things.Request request.of request) object it is)

      later : (answer : Result (Poll Held) PollError) (asked_left : Asked) → Polls (asked_of request) waker (shares_of object) answer asked_left (shares_of object')
          → LaterPoll has.slot (asked_of request) waker (shares_of object) answer asked_left (shares_of object')
      later answer asked_left polled = subst (λ stage. PollsAt stage (asked_of request) waker (shares_of object) answer asked_left (shares_of object')) has.joined polled

      waits : (left : RequestState) → Polls (asked_of request) waker (shares_of object) (Ok polls.Pending) (asked_of left) (shares_of object') → left.mode ≡ request.mode → reply ≡ replies.Pending
          → Updated table table' name (Some (things.Request left.of left)) → FollowsFrom (calls.Poll name waker) reply new state
      waits left polled mode replied updated =
          let l = later (Ok polls.Pending) (asked_of left) polled in
          let object_is : object' ≡ on_semaphore (with_waker has.slot waker) object = ap₂ of_kind p.kind l.2 in
          let left_is : left ≡ request = ap₂ in_mode mode l.3 in
          acted old none state stands (calls.Poll name waker) (rules.Poll name waker) Pending reply new request.of object (on_semaphore (with_waker has.slot waker) object)
          (stands.tags request.of) it there planned
          (rewakes it.spot name request is table' waker l.0 l.1
          (subst (λ (r : RequestState). Updated table table' name (Some (things.Request r.of r))) left_is updated) (subst (λ (o : ObjectState). IsSteady o) object_is p.lawful))
          (touched_one request.of table table' name (Some (things.Request left.of left)) updated (subst (IsOf request.of) (sym is) refl) (ap (λ (r : RequestState). r.of) left_is))
          (items ∙ ap (slice_set kept request.of) object_is) last replied

      hears_of_it : (left : RequestState) → Polls (asked_of request) waker (shares_of object) (Err errors.Closed) (asked_of left) (shares_of object') → reply ≡ replies.Closed
          → Updated table table' name None → FollowsFrom (calls.Poll name waker) reply new state
      hears_of_it left polled replied updated =
          let l = later (Err errors.Closed) (asked_of left) polled in
          let object_is : object' ≡ on_semaphore (told has.slot) object = ap₂ of_kind p.kind l.1 in
          acted old none state stands (calls.Poll name waker) (rules.Poll name waker) Closed reply new request.of object (on_semaphore (told has.slot) object)
          (stands.tags request.of) it there planned
          (hears it.spot name request is table' waker l.0 updated (subst (λ (o : ObjectState). IsSteady o) object_is p.lawful))
          (touched_one request.of table table' name None updated (subst (IsOf request.of) (sym is) refl) tt)
          (items ∙ ap (slice_set kept request.of) object_is) last replied

      go : (left : TokenState) (said : Reply) → reply ≡ said → Polls (asked_of request) waker (shares_of object) (answer_of left said) (left_of request left) (shares_of object')
          → mode_in left ≡ request.mode → IsReply left said → Updated table table' name (left_by said (Some (thing_of left))) → FollowsFrom (calls.Poll name waker) reply new state
      go (tokens.Holding holding) replies.Ready said polled mode replied updated =
          let l = later (Ok (polls.Ready (permit_in holding))) (finished (asked_of request)) polled in
          let object_is : object' ≡ on_semaphore (received has.slot request.size) object = ap₂ of_kind p.kind l.3 in
          let holding_is : holding ≡ record { mode = request.mode; of = request.of; count = request.size } = ap₂ held_in mode l.2 in
          acted old none state stands (calls.Poll name waker) (rules.Poll name waker) Ready reply new request.of object (on_semaphore (received has.slot request.size) object)
          (stands.tags request.of) it there planned
          (receives it.spot name request is table' waker l.0 l.1
          (subst (λ h. Updated table table' name (Some (things.Holding h))) holding_is updated) (subst (λ (o : ObjectState). IsSteady o) object_is p.lawful))
          (touched_one request.of table table' name (Some (things.Holding holding)) updated (subst (IsOf request.of) (sym is) refl) (ap (λ (h : HoldingState). h.of) holding_is))
          (items ∙ ap (slice_set kept request.of) object_is) last said
      go (tokens.Holding holding) other said polled mode replied updated = cc
      go (tokens.Request left) replies.Closed said polled mode replied updated = hears_of_it left polled said updated
      go (tokens.Request left) replies.Pending said polled mode replied updated = waits left polled mode said updated
      go (tokens.Request left) other said polled mode replied updated = cc

  pub polls_token : (name : List ℕ) (waker : ℕ) (reply : Reply) (found left : TokenState) (object object' : ObjectState) → table name ≡ Some (thing_of found)
      → slice_get kept (place_at (thing_of found)) ≡ Some object → PollsToken found waker object left reply object' → Updated table table' name (left_by reply (Some (thing_of left)))
      → new.objects.items ≡ slice_set kept (place_at (thing_of found)) object' → new.last ≡ place_at (thing_of found) → FollowsFrom (calls.Poll name waker) reply new state
  polls_token name waker reply (tokens.Request request) left object object' was there polled updated items last =
      polls_again name waker request was object there reply left object' polled updated items last
  polls_token name waker reply (tokens.Holding holding) left object object' was there (left_is, replied, object_is) updated items last =
      subst (λ r. FollowsFrom (calls.Poll name waker) r new state) (sym replied)
      (refused old none state stands new (updated_same table table' name (Some (thing_of left)) (subst (λ r. Updated table table' name (left_by r (Some (thing_of left)))) replied updated) (was ∙ ap (λ t. Some (thing_of t)) (sym left_is)))
      (items ∙ ap (slice_set kept holding.of) object_is ∙ set_itself kept holding.of object there) (calls.Poll name waker) refusals.Finished
      (ap (λ s. asked_object s >>= λ of. Act of (rules.Poll name waker)) (standing_live old none state stands name (things.Holding holding) was)))

  -- An object is neither polled nor dropped.
  module _ (name : List ℕ) (is : is_object (table name) ≡ true) (names : (n : List ℕ) → table' n ≡ table n) (items : new.objects.items ≡ kept) where
    kind_refused : (call : Call) (then : Standing → Plan) → plan call state ≡ then (standing name state) → ((named : Named) → then (AnObject named) ≡ Refuse refusals.Kind)
        → FollowsFrom call (replies.Refused refusals.Kind) new state
    kind_refused call then planned refuses =
        let it = object_is (table name) is in
        refused old none state stands new names items call refusals.Kind
        (planned ∙ ap then (standing_live old none state stands name (things.Object it.0) it.1) ∙ refuses (live old none state stands name (things.Object it.0) it.1).it.named)

    pub polls_object : (waker : ℕ) → FollowsFrom (calls.Poll name waker) (replies.Refused refusals.Kind) new state
    polls_object waker = kind_refused (calls.Poll name waker) (λ s. asked_object s >>= λ of. Act of (rules.Poll name waker)) refl (λ named. refl)

    pub drops_object : FollowsFrom (calls.Drop name) (replies.Refused refusals.Kind) new state
    drops_object = kind_refused (calls.Drop name) (λ s. owner s >>= λ of. Act of (rules.Drop name)) refl (λ named. refl)

  pub polls_nothing : (name : List ℕ) (waker : ℕ) (refusal : Refusal) → refusal ≡ refusals.Unknown → table name ≡ None → ((n : List ℕ) → table' n ≡ table n) → new.objects.items ≡ kept
      → FollowsFrom (calls.Poll name waker) (replies.Refused refusal) new state
  polls_nothing name waker refusal is free names items =
      refused old none state stands new names items (calls.Poll name waker) refusal
      (ap (λ s. asked_object s >>= λ of. Act of (rules.Poll name waker)) (absent old none state stands name free) ∙ ap Refuse (sym is))

  -- A name that is no object ends.
  pub drops_name : (name : List ℕ) (token : TokenState) → table name ≡ Some (thing_of token) → Changes (place_at (thing_of token)) kept new.objects.items (dropped token)
      → Updated table table' name None → new.last ≡ place_at (thing_of token) → FollowsFrom (calls.Drop name) replies.Done new state
  drops_name name (tokens.Holding holding) is c updated last =
      let it = target old none state stands holding.of c.before c.there in
      let given = on_semaphore (given_back holding.count) c.before in
      acted old none state stands (calls.Drop name) (rules.Drop name) Done replies.Done new holding.of c.before c.after (stands.tags holding.of) it c.there
      (ap (λ s. owner s >>= λ of. Act of (rules.Drop name)) (standing_as old none state stands name (things.Holding holding) c.before it is))
      (lands_like given c.after c.like c.lawful it.named holding.of (rules.Drop name) Done (stands.tags holding.of) table'
      (lets_go it.spot name holding refl is (rules.Drop name) table' given
      (give_back holding.count it.named.object.line)
      (ap (λ o. drop_of o (is_tag bytes_eq name) it.named.object) (held_there it.spot name holding refl is))
      (given_back_is it.spot holding.count)
      refl refl refl refl refl (steady_before given c.after c.like c.lawful)
      (requests-give_back holding.count it.named.object.line) (requests-give_back holding.count c.before.line) updated))
      (touched_one holding.of table table' name None updated (subst (IsOf holding.of) (sym is) refl) tt) c.set last refl
  drops_name name (tokens.Request request) is c updated last =
      let it = target old none state stands request.of c.before c.there in
      let has = slot_of it.spot name request is in
      let ended = on_semaphore (without_request has.slot) c.before in
      let like : IsLikeObject ended c.after = subst (λ stage. IsLikeObject (on_semaphore (cancelled stage) c.before) c.after) has.joined c.like in
      acted old none state stands (calls.Drop name) (rules.Drop name) Done replies.Done new request.of c.before c.after (stands.tags request.of) it c.there
      (ap (λ s. owner s >>= λ of. Act of (rules.Drop name)) (standing_as old none state stands name (things.Request request.of request) c.before it is))
      (lands_like ended c.after like c.lawful it.named request.of (rules.Drop name) Done (stands.tags request.of) table'
      (ends it.spot name request is table' updated (steady_before ended c.after like c.lawful)))
      (touched_one request.of table table' name None updated (subst (IsOf request.of) (sym is) refl) tt) c.set last refl

  pub drops_nothing : (name : List ℕ) → table name ≡ None → ((n : List ℕ) → table' n ≡ table n) → new.objects.items ≡ kept → FollowsFrom (calls.Drop name) (replies.Refused refusals.Unknown) new state
  drops_nothing name free names items =
      refused old none state stands new names items (calls.Drop name) refusals.Unknown (ap (λ s. owner s >>= λ of. Act of (rules.Drop name)) (absent old none state stands name free))

  -- A call of an object of which something is asked is refused where there is none.
  module _ (names : (n : List ℕ) → table' n ≡ table n) (items : new.objects.items ≡ kept) where
    pub refused_for : (call : Call) (mode : Mode) (of : List ℕ) (refusal : Refusal) → offering mode kept (object_place (table of)) ≡ Err refusal
        → (then : Named → Plan) → plan call state ≡ (object_for (λ kind. is_of kind mode) (standing of state) >>= then) → FollowsFrom call (replies.Refused refusal) new state
    refused_for call mode of refusal is then planned =
        refused old none state stands new names items call refusal (planned ∙ ap (λ one. one >>= then) (object_refused old none state stands mode of refusal is))

    pub refused_holding : (call : Call) (mode : Mode) (name : List ℕ) (refusal : Refusal) → held_as mode (table name) ≡ Err refusal
        → (then : Named → Plan) → plan call state ≡ (lender mode (standing name state) >>= then) → FollowsFrom call (replies.Refused refusal) new state
    refused_holding call mode name refusal is then planned =
        refused old none state stands new names items call refusal (planned ∙ ap (λ one. one >>= then) (held_refused old none state stands mode name refusal is))

    pub refused_plain : (of : List ℕ) (refusal : Refusal) → object_place (table of) ≡ Err refusal → FollowsFrom (calls.Status of) (replies.Refused refusal) new state
    refused_plain of refusal is =
        refused old none state stands new names items (calls.Status of) refusal
        (ap (λ one. one >>= λ it. Act it rules.Status)
        (refuses state refusal _ (subst (λ r. FoundAs state r (object_for (λ kind. true) (standing of state))) is (plain_found old none state stands of))))

  -- A call of an object by its name, where no name changes.
  module _ (names : (n : List ℕ) → table' n ≡ table n) (of : List ℕ) (place : ℕ) (object : ObjectState) (there : slice_get kept place ≡ Some object) where
    abbrev target_there : Target old none state stands place object
    target_there = target old none state stands place object there

    abbrev object_of_it : Object Tag
    object_of_it = target_there.named.object

    same_line : object_of_it.line ≡ with_granted (rename (stands.tags place) object.line) object_of_it.line.granted
    same_line = line_as target_there.spot

    alike : AreAlike (rename (stands.tags place) object.line) object_of_it.line
    alike = line_is target_there.spot

    granted_same : total object_of_it.line.granted ≡ total object.line.granted
    granted_same = total-alike (rename (stands.tags place) object.line) object_of_it.line alike ∙ total-renamed (stands.tags place) object.line.granted

    does : (call : Call) (rule : Rule (List ℕ)) (answer : Answer) (object' : ObjectState) (line' : Line Tag) → plan call state ≡ Act target_there.named rule
        → act bytes_eq rule object_of_it ≡ turn answer (record object_of_it { line = line' }) → AreAlike (rename (stands.tags place) object'.line) line'
        → object'.ended ≡ object.ended → object'.closed ≡ object.closed → object'.kind ≡ object.kind → object'.number ≡ object.number → object'.held ≡ object.held → IsSteady object'
        → requests line' ≡ requests object_of_it.line
        → requests object'.line ≡ requests object.line
        → new.objects.items ≡ slice_set kept place object' → new.last ≡ place → FollowsFrom call (reply_of answer) new state
    does call rule answer object' line' planned turns is same_gone same_closed kind number held steady same_asked same_kept items last =
        acted old none state stands call rule answer (reply_of answer) new place object object' (stands.tags place) target_there there planned
        (stays target_there.spot table' names rule answer object' line' turns is same_gone same_closed kind number held steady same_asked same_kept)
        (λ n. subst (Touched place (table n)) (sym (names n)) same) items last refl

    module _ (is : offering Permit kept (object_place (table of)) ≡ Ok place) where
      for_permits : object_for (λ kind. is_of kind Permit) (standing of state) ≡ Ok target_there.named
      for_permits = object_there old none state stands Permit of place target_there.named is target_there.there

      overflows_too : (n : ℕ) → overflows n object_of_it.line (total object_of_it.held) ≡ overflows n object.line object.held
      overflows_too n =
          ap₂ (λ (l : Line Tag) held. overflows n l held) same_line target_there.spot.at.held
          ∙ ap (λ granted. int_lt (pos u64_max) (object.line.free +ℤ pos (granted + object.held + n))) granted_same

      plan_release : (n : ℕ) → plan (calls.Release of n) state ≡ (refuse_if (overflows n object.line object.held) refusals.Overflow >>= λ found. Act target_there.named (rules.Release n))
      plan_release n =
          ap (λ one. one >>= λ named. refuse_if (overflows n named.object.line (total named.object.held)) refusals.Overflow >>= λ found. Act named (rules.Release n)) for_permits
          ∙ ap (λ b. refuse_if b refusals.Overflow >>= λ found. Act target_there.named (rules.Release n)) (overflows_too n)

      pub releases : (n : ℕ) (object' : ObjectState) → overflows n object.line object.held ≡ false → IsLikeObject (on_semaphore (released n) object) object' → IsSteady object'
          → new.objects.items ≡ slice_set kept place object' → new.last ≡ place → FollowsFrom (calls.Release of n) replies.Done new state
      releases n object' fits like steady items last =
          let given = on_semaphore (released n) object in
          acted old none state stands (calls.Release of n) (rules.Release n) Done replies.Done new place object object' (stands.tags place) target_there there
          (plan_release n ∙ ap (λ b. refuse_if b refusals.Overflow >>= λ found. Act target_there.named (rules.Release n)) fits)
          (lands_like given object' like steady target_there.named place (rules.Release n) Done (stands.tags place) table'
          (stays target_there.spot table' names (rules.Release n) Done given (give_back n object_of_it.line) refl (given_back_is target_there.spot n) refl refl refl refl refl
          (steady_before given object' like steady) (requests-give_back n object_of_it.line) (requests-give_back n object.line)))
          (λ m. subst (Touched place (table m)) (sym (names m)) same) items last refl

      pub overflow_refused : (n : ℕ) → overflows n object.line object.held ≡ true → new.objects.items ≡ kept → FollowsFrom (calls.Release of n) (replies.Refused refusals.Overflow) new state
      overflow_refused n over items =
          refused old none state stands new names items (calls.Release of n) refusals.Overflow
          (plan_release n ∙ ap (λ b. refuse_if b refusals.Overflow >>= λ found. Act target_there.named (rules.Release n)) over)

      plan_reduce : (n : ℕ) → plan (calls.Reduce of n) state ≡ (refuse_if (owes_too_much n object.line) refusals.Debt >>= λ found. Act target_there.named (rules.Reduce n))
      plan_reduce n =
          ap (λ one. one >>= λ named. refuse_if (owes_too_much n named.object.line) refusals.Debt >>= λ found. Act named (rules.Reduce n)) for_permits
          ∙ ap (λ (l : Line Tag). refuse_if (owes_too_much n l) refusals.Debt >>= λ found. Act target_there.named (rules.Reduce n)) same_line

      may_reduce : (n : ℕ) → owes_too_much n object.line ≡ false → plan (calls.Reduce of n) state ≡ Act target_there.named (rules.Reduce n)
      may_reduce n fits = plan_reduce n ∙ ap (λ b. refuse_if b refusals.Debt >>= λ found. Act target_there.named (rules.Reduce n)) fits

      pub reduces : (n : ℕ) (object' : ObjectState) → owes_too_much n object.line ≡ false → object' ≡ on_semaphore (reduced n) object → IsSteady object'
          → new.objects.items ≡ slice_set kept place object' → new.last ≡ place → FollowsFrom (calls.Reduce of n) replies.Done new state
      reduces n object' fits object_is steady items last =
          does (calls.Reduce of n) (rules.Reduce n) Done (on_semaphore (reduced n) object) (take_permits n object_of_it.line) (may_reduce n fits) refl
          (take_permits-alike n (rename (stands.tags place) object.line) object_of_it.line alike) refl refl refl refl refl (subst (λ (o : ObjectState). IsSteady o) object_is steady) refl refl
          (items ∙ ap (slice_set kept place) object_is) last

      pub debt_refused : (n : ℕ) → owes_too_much n object.line ≡ true → new.objects.items ≡ kept → FollowsFrom (calls.Reduce of n) (replies.Refused refusals.Debt) new state
      debt_refused n over items =
          refused old none state stands new names items (calls.Reduce of n) refusals.Debt
          (plan_reduce n ∙ ap (λ b. refuse_if b refusals.Debt >>= λ found. Act target_there.named (rules.Reduce n)) over)

      pub works_reduce : (n : ℕ) → owes_too_much n object.line ≡ false → DidWork (step (calls.Reduce of n) state).reply
      works_reduce n fits = works old none state stands (calls.Reduce of n) (rules.Reduce n) target_there.named (may_reduce n fits) tt

      pub drains : (n count : ℕ) (object' : ObjectState) → count ≡ drained n object.line → object' ≡ on_semaphore (reduced count) object → IsSteady object'
          → new.objects.items ≡ slice_set kept place object' → new.last ≡ place → FollowsFrom (calls.Drain of n) (replies.Drained count) new state
      drains n count object' count_is object_is steady items last =
          let drained_too : drained n object_of_it.line ≡ count = ap (drained n) same_line ∙ drained-rename (stands.tags place) n object.line ∙ sym count_is in
          does (calls.Drain of n) (rules.Drain n) (Drained count) (on_semaphore (reduced count) object) (take_permits count object_of_it.line)
          (ap (λ one. one >>= λ named. Act named (rules.Drain n)) for_permits)
          (ap (λ m. turn (Drained m) (record object_of_it { line = take_permits m object_of_it.line })) drained_too)
          (take_permits-alike count (rename (stands.tags place) object.line) object_of_it.line alike) refl refl refl refl refl (subst (λ (o : ObjectState). IsSteady o) object_is steady) refl refl
          (items ∙ ap (slice_set kept place) object_is) last

      pub closes : (object' : ObjectState) → IsLikeObject (on_semaphore shut object) object' → IsSteady object' → new.objects.items ≡ slice_set kept place object' → new.last ≡ place
          → FollowsFrom (calls.Close of) replies.Done new state
      closes object' like steady items last =
          let shut_one = on_semaphore shut object in
          acted old none state stands (calls.Close of) rules.Close Done replies.Done new place object object' (stands.tags place) target_there there
          (ap (λ one. one >>= λ named. Act named rules.Close) for_permits)
          (lands_like shut_one object' like steady target_there.named place rules.Close Done (stands.tags place) table'
          (shuts target_there.spot table' names (steady_before shut_one object' like steady)))
          (λ m. subst (Touched place (table m)) (sym (names m)) same) items last refl

    pub figures : object_place (table of) ≡ Ok place → new.objects.items ≡ kept
        → FollowsFrom (calls.Status of) (replies.Figures (available object.line) object.line.free (length object.line.waiting) (total object.line.granted) object.held) new state
    figures is items =
        shows old none state stands new names items (calls.Status of) rules.Status
        (Figures (available object.line) object.line.free (length object.line.waiting) (total object.line.granted) object.held)
        place object target_there
        (ap (λ s. object_for (λ kind. true) s >>= λ it. Act it rules.Status) (standing_as old none state stands of (things.Object place) object target_there (object_from (table of) place is)))
        (ap₂ (λ (l : Line Tag) held. turn (Figures (available l) l.free (length l.waiting) (total l.granted) held) object_of_it) same_line target_there.spot.at.held
        ∙ ap₂ (λ a granted. turn (Figures a object.line.free (length (map (renamed_waiting (stands.tags place)) object.line.waiting)) granted object.held) object_of_it)
        (available-rename (stands.tags place) object.line) granted_same
        ∙ ap (λ w. turn (Figures (available object.line) object.line.free w (total object.line.granted) object.held) object_of_it)
        (length-map object.line.waiting (renamed_waiting (stands.tags place))))

    -- what is tried for isn't there
    pub tried_nothing : (want : Want) (made : List ℕ) (is : offering (mode_of want) kept (object_place (table of)) ≡ Ok place) (free : table made ≡ None) (is_open : object.closed ≡ false)
        → is_served (size_for want object.kind) object.line ≡ false
        → new.objects.items ≡ kept → FollowsFrom (try_call want made of) replies.Nothing new state
    tried_nothing want made is free is_open waits items =
        shows old none state stands new names items (try_call want made of) (rules.Try (tag (mode_of want) made) (size_for want object.kind)) Nothing place object target_there
        (tries want made of place is free object there is_open (size_for want object.kind) refl)
        (cond-false _ _ _ (served_too want made of place is free object there is_open (size_for want object.kind) ∙ waits))

  -- What a permit of a name comes to.
  module _ (mode : Mode) (name : List ℕ) (holding : HoldingState) (is : held_as mode (table name) ≡ Ok holding) (object : ObjectState) (there : slice_get kept holding.of ≡ Some object) where
    abbrev lender_there : Target old none state stands holding.of object
    lender_there = target old none state stands holding.of object there

    thing_is : table name ≡ Some (things.Holding holding)
    thing_is = (held_from mode (table name) holding is).0

    mode_is : holding.mode ≡ mode
    mode_is = (held_from mode (table name) holding is).1

    lends : lender mode (standing name state) ≡ Ok lender_there.named
    lends = held_by old none state stands mode name holding lender_there.named is lender_there.there

  pub forgets : (name : List ℕ) (permit : HoldingState) (is : held_as Permit (table name) ≡ Ok permit) (object object' : ObjectState) (there : slice_get kept permit.of ≡ Some object)
      → object' ≡ on_semaphore (forgotten permit.count) object → IsSteady object' → Updated table table' name None → new.objects.items ≡ slice_set kept permit.of object' → new.last ≡ permit.of
      → FollowsFrom (calls.Forget name) replies.Done new state
  forgets name permit is object object' there object_is steady updated items last =
      let it = target old none state stands permit.of object there in
      let was = thing_is Permit name permit is object there in
      acted old none state stands (calls.Forget name) (rules.Forget name) Done replies.Done new permit.of object (on_semaphore (forgotten permit.count) object) (stands.tags permit.of) it there
      (ap (λ one. one >>= λ of. Act of (rules.Forget name)) (lends Permit name permit is object there))
      (lets_go it.spot name permit refl was (rules.Forget name) table' (on_semaphore (forgotten permit.count) object) it.named.object.line refl (line_is it.spot) refl refl refl refl refl
      (subst (λ (o : ObjectState). IsSteady o) object_is steady) refl refl updated)
      (touched_one permit.of table table' name None updated (subst (IsOf permit.of) (sym was) refl) tt) (items ∙ ap (slice_set kept permit.of) object_is) last refl

  pub split_taken : (name made : List ℕ) (n : ℕ) (whole : HoldingState) (is : held_as Permit (table name) ≡ Ok whole) → IsSome (table made)
      → ((m : List ℕ) → table' m ≡ table m) → new.objects.items ≡ kept → FollowsFrom (calls.Split name made n) (replies.Refused refusals.Taken) new state
  split_taken name made n whole is live_name names items =
      let l = live old none state stands name (things.Holding whole) (held_from Permit (table name) whole is).0 in
      refused old none state stands new names items (calls.Split name made n) refusals.Taken
      (ap₂ (λ one unused. one >>= λ of. unused >>= λ found. Act of (rules.Split name made n)) (lends Permit name whole is l.object l.kept_there) (taken_name old none state stands made live_name))

  module _ (name made : List ℕ) (n : ℕ) (whole : HoldingState) (is : held_as Permit (table name) ≡ Ok whole) (free : table made ≡ None) where
    abbrev spot_of_whole : Live old none state stands whole.of
    spot_of_whole = live old none state stands name (things.Holding whole) (held_from Permit (table name) whole is).0

    abbrev object : ObjectState
    object = spot_of_whole.object

    abbrev there : slice_get kept whole.of ≡ Some object
    there = spot_of_whole.kept_there

    abbrev splitter : Target old none state stands whole.of object
    splitter = target old none state stands whole.of object there

    split_apart : bytes_eq name made ≡ false
    split_apart = two_names table name made (things.Holding whole) (thing_is Permit name whole is object there) free

    plan_split : plan (calls.Split name made n) state ≡ Act splitter.named (rules.Split name made n)
    plan_split = ap₂ (λ one unused. one >>= λ of. unused >>= λ found. Act of (rules.Split name made n)) (lends Permit name whole is object there) (unused old none state stands made free)

    pub splits_off : n ≤ whole.count → SplitsTo name made n table table' new.last → new.objects.items ≡ kept → FollowsFrom (calls.Split name made n) replies.Done new state
    splits_off enough split items =
        let was = thing_is Permit name whole is object there in
        let one : split.whole ≡ whole = same_holding Permit (table name) split.whole whole split.was is in
        let parted : Updated table split.mid name (Some (things.Holding (record whole { count = whole.count - n }))) =
        subst (λ (h : HoldingState). Updated table split.mid name (Some (things.Holding (record h { count = h.count - n })))) one split.parted in
        let added : Updated split.mid table' made (Some (things.Holding (record { mode = Permit; of = whole.of; count = n }))) =
        subst (λ (h : HoldingState). Updated split.mid table' made (Some (things.Holding h)))
        (ap (λ (h : HoldingState). record h { count = n }) one ∙ ap (λ m. record { mode = m; of = whole.of; count = n }) (mode_is Permit name whole is object there)) split.added in
        acted old none state stands (calls.Split name made n) (rules.Split name made n) Done replies.Done new whole.of object object (stands.tags whole.of) splitter there plan_split
        (splits splitter.spot name made whole refl (mode_is Permit name whole is object there) was free n split_apart enough split.mid table' splitter.spot.at.steady parted added)
        (λ other. touched_twice (touched_one whole.of table split.mid name (Some (things.Holding (record whole { count = whole.count - n }))) parted (subst (IsOf whole.of) (sym was) refl) refl other)
        (touched_one whole.of split.mid table' made (Some (things.Holding (record { mode = Permit; of = whole.of; count = n }))) added
        (subst (IsOf whole.of) (sym (parted.others made split_apart ∙ free)) tt) refl other))
        (items ∙ sym (set_itself kept whole.of object there)) (split.at ∙ ap (λ (h : HoldingState). h.of) one) refl

    pub splits_none : whole.count < n → ((m : List ℕ) → table' m ≡ table m) → new.objects.items ≡ kept → FollowsFrom (calls.Split name made n) replies.Nothing new state
    splits_none beyond names items =
        shows old none state stands new names items (calls.Split name made n) (rules.Split name made n) Nothing whole.of object splitter plan_split
        (ap (λ o. split_by (size_in o) (is_tag bytes_eq name) (tag Permit made) n splitter.named.object) (held_there splitter.spot name whole refl (thing_is Permit name whole is object there))
        ∙ cond-false _ _ _ (lt-leb n whole.count beyond))

    pub works_split : n ≤ whole.count → DidWork (step (calls.Split name made n) state).reply
    works_split enough =
        works old none state stands (calls.Split name made n) (rules.Split name made n) splitter.named plan_split
        (subst (λ (t : Turn Tag). DidWork (reply_of t.answer))
        (sym (ap (λ o. split_by (size_in o) (is_tag bytes_eq name) (tag Permit made) n splitter.named.object) (held_there splitter.spot name whole refl (thing_is Permit name whole is object there))
        ∙ cond-true _ _ _ (le-leb n whole.count enough))) tt)

  -- What is held for writing is held for reading.
  pub downgrades : (name : List ℕ) (writer : HoldingState) → held_as Write (table name) ≡ Ok writer → 0 < writer.count → Changes writer.of kept new.objects.items (downgraded writer.count)
      → Updated table table' name (Some (things.Holding (record { mode = Read; of = writer.of; count = 1 }))) → new.last ≡ writer.of → FollowsFrom (calls.Downgrade name) replies.Done new state
  downgrades name writer is some c updated last =
      let object = c.before in
      let it = target old none state stands writer.of object c.there in
      let was = thing_is Write name writer is object c.there in
      let known : FitsHolding (Some object) writer = subst (λ o. FitsHolding o writer) c.there (fits_at stands.tags table kept state stands.under name (things.Holding writer) was) in
      let fits : Fits object.kind Write writer.count = subst (λ m. Fits object.kind m writer.count) (mode_is Write name writer is object c.there) known.2 in
      let lock = write_of object.kind fits.0 in
      acted old none state stands (calls.Downgrade name) (rules.Downgrade name) Done replies.Done new writer.of object c.after (stands.tags writer.of) it c.there
      (ap (λ one. one >>= λ of. Act of (rules.Downgrade name)) (lends Write name writer is object c.there))
      (lands_like (downgraded writer.count object) c.after c.like c.lawful it.named writer.of (rules.Downgrade name) Done (stands.tags writer.of) table'
      (lowers it.spot name writer refl was lock.0 (it.spot.at.kind ∙ lock.1) (fits.1 ∙ ap (λ k. size_of k Write) lock.1) some table'
      (steady_before (downgraded writer.count object) c.after c.like c.lawful) updated))
      (touched_one writer.of table table' name (Some (things.Holding (record { mode = Read; of = writer.of; count = 1 }))) updated (subst (IsOf writer.of) (sym was) refl) refl)
      c.set last refl

  -- Two permits.
  module _ (first_name second_name : List ℕ) where
    abbrev merge_plan : Result (Unit {0}) Refusal → Result (Unit {0}) Refusal → Result Named Refusal → Result Named Refusal → Plan
    merge_plan first_live second_live one other =
        first_live >>= λ found. second_live >>= λ found. one >>= λ a. other >>= λ b.
        refuse_if (bytes_eq first_name second_name) refusals.Same >>= λ found. refuse_if (not (bytes_eq a.name b.name)) refusals.Other >>= λ found. Act a (rules.Merge first_name second_name)

    -- the plan is to merge at the place that was found, or the refusal is one
    abbrev pub MergeAs : Result ℕ Refusal → Plan → Type 0
    MergeAs (Ok place) plan = (named : Named) → slice_get state place ≡ Some named → plan ≡ Act named (rules.Merge first_name second_name)
    MergeAs (Err refusal) plan = plan ≡ Refuse refusal

    merge_held : (h1 h2 : Result HoldingState Refusal) (l1 l2 : Result Named Refusal) → FoundAs state (place_held h1) l1 → FoundAs state (place_held h2) l2
        → MergeAs (mergeable_held first_name second_name h1 h2) (merge_plan (Ok tt) (Ok tt) l1 l2)
    merge_held (Err refusal) h2 l1 l2 one other = ap (λ l. merge_plan (Ok tt) (Ok tt) l l2) (refuses state refusal l1 one)
    merge_held (Ok first) (Err refusal) (Ok a) l2 one other = ap (λ l. merge_plan (Ok tt) (Ok tt) (Ok a) l) (refuses state refusal l2 other)
    merge_held (Ok first) (Err refusal) (Err reason) l2 one other = absurd one
    merge_held (Ok first) (Ok second) (Err reason) l2 one other = absurd one
    merge_held (Ok first) (Ok second) (Ok a) (Err reason) one other = absurd other
    merge_held (Ok first) (Ok second) (Ok a) (Ok b) one other = by_name (bytes_eq first_name second_name) (first.of == second.of) refl
      where
        after : Bool → Bool → Plan
        after is_same names_same = refuse_if is_same refusals.Same >>= λ found. refuse_if (not names_same) refusals.Other >>= λ found. Act a (rules.Merge first_name second_name)

        by_name : (is_same places : Bool) → (first.of == second.of) ≡ places
            → MergeAs (cond is_same (Err refusals.Same) (cond places (Ok first.of) (Err refusals.Other))) (after is_same (bytes_eq a.name b.name))
        by_name true places is = refl
        by_name false true is = λ named there.
            let one_object : a ≡ b = same_Some a b (sym one ∙ ap (slice_get state) (eqb-true first.of second.of is) ∙ other) in
            ap (after false) (ap (λ (n : Named). bytes_eq a.name n.name) (sym one_object) ∙ bytes_told.itself a.name)
            ∙ ap (λ n. Act n (rules.Merge first_name second_name)) (same_Some a named (sym one ∙ there))
        by_name false false is = ap (after false) (apart_by_place old none state stands first.of second.of a b one other (λ k. true≢false (sym (eq-eqb first.of second.of k) ∙ is)))

    merge_as : MergeAs (mergeable first_name second_name (table first_name) (table second_name)) (plan (calls.Merge first_name second_name) state)
    merge_as = go (table first_name) (table second_name) refl refl
      where
        go : (o p : Option Thing) → table first_name ≡ o → table second_name ≡ p → MergeAs (mergeable first_name second_name o p) (plan (calls.Merge first_name second_name) state)
        go None p is also =
            ap (λ l. merge_plan l (if_live (standing second_name state)) (lender Permit (standing first_name state)) (lender Permit (standing second_name state)))
            (ap if_live (absent old none state stands first_name is))
        go (Some thing) None is also =
            ap₂ (λ l m. merge_plan l m (lender Permit (standing first_name state)) (lender Permit (standing second_name state)))
            (is_live old none state stands first_name thing is) (ap if_live (absent old none state stands second_name also))
        go (Some thing) (Some other) is also =
            subst (MergeAs (mergeable_held first_name second_name (held_as Permit (Some thing)) (held_as Permit (Some other))))
            (sym (ap₂ (λ l m. merge_plan l m (lender Permit (standing first_name state)) (lender Permit (standing second_name state)))
            (is_live old none state stands first_name thing is) (is_live old none state stands second_name other also)))
            (merge_held (held_as Permit (Some thing)) (held_as Permit (Some other)) (lender Permit (standing first_name state)) (lender Permit (standing second_name state))
            (subst (λ o. FoundAs state (place_held (held_as Permit o)) (lender Permit (standing first_name state))) is (held_found old none state stands Permit first_name))
            (subst (λ o. FoundAs state (place_held (held_as Permit o)) (lender Permit (standing second_name state))) also (held_found old none state stands Permit second_name)))

    pub merge_refused : (refusal : Refusal) → mergeable first_name second_name (table first_name) (table second_name) ≡ Err refusal → ((n : List ℕ) → table' n ≡ table n) → new.objects.items ≡ kept
        → FollowsFrom (calls.Merge first_name second_name) (replies.Refused refusal) new state
    merge_refused refusal is names items =
        refused old none state stands new names items (calls.Merge first_name second_name) refusal (subst (λ r. MergeAs r (plan (calls.Merge first_name second_name) state)) is merge_as)

    pub merges_two : (place : ℕ) (is : mergeable first_name second_name (table first_name) (table second_name) ≡ Ok place) (more : HoldingState) → held_as Permit (table second_name) ≡ Ok more
        → (mid : List ℕ → Option Thing) → Updated table mid second_name None → Grows first_name mid table' (tokens.Holding more) → new.objects.items ≡ kept → new.last ≡ place
        → FollowsFrom (calls.Merge first_name second_name) replies.Done new state
    merges_two place is more spent mid ended grown items last =
        let two = can_merge first_name second_name (table first_name) (table second_name) place is in
        let first = two.first in
        let was = (held_from Permit (table first_name) first two.first_is).0 in
        let spent_is = (held_from Permit (table second_name) more spent).0 in
        let here : more.of ≡ first.of = ap (λ (h : HoldingState). h.of) (same_holding Permit (table second_name) more two.second spent two.second_is) ∙ sym two.one in
        let whole : grown.whole ≡ first =
        same_holding Permit (table first_name) grown.whole first (ap (held_as Permit) (sym (ended.others first_name (other_way bytes_eq bytes_told first_name second_name two.apart)))
        ∙ grown.was) two.first_is in
        let object = live old none state stands first_name (things.Holding first) was in
        let grew : Updated mid table' first_name (Some (things.Holding (record { mode = first.mode; of = first.of; count = first.count + more.count }))) =
        subst (λ (h : HoldingState). Updated mid table' first_name (Some (things.Holding (record h { count = h.count + more.count })))) whole grown.updated in
        acted old none state stands (calls.Merge first_name second_name) (rules.Merge first_name second_name) Done replies.Done new first.of object.object object.object
        (stands.tags first.of) object.it object.kept_there
        (subst (λ r. MergeAs r (plan (calls.Merge first_name second_name) state)) (is ∙ ap (λ p. Ok p) two.at) merge_as object.it.named object.it.there)
        (merges object.it.spot first_name second_name first more refl here was spent_is two.apart mid table' object.it.spot.at.steady ended grew)
        (λ n. touched_twice (touched_one first.of table mid second_name None ended (subst (IsOf first.of) (sym spent_is) here) tt n)
        (touched_one first.of mid table' first_name (Some (things.Holding (record { mode = first.mode; of = first.of; count = first.count + more.count }))) grew
        (subst (IsOf first.of) (sym (ended.others first_name (other_way bytes_eq bytes_told first_name second_name two.apart) ∙ was)) refl) refl n))
        (items ∙ sym (set_itself kept first.of object.object object.kept_there)) (last ∙ two.at) refl
