-- What the player's table comes to by a call, from each state that it stands for.
use Rattle.std.proofs.Common.{◌≡◌, ℕ, ◌==◌, List, [], Option, Some, None, Result, Ok, Err, IfOk, OnErr, refl, sym, ap, ap₂, ◌∙◌, subst, eqb-true, eq-eqb}
use Rattle.std.proofs.Math.Logic.{∥∥₁_elim, ∥∥₁_map}
use Rattle.std.proofs.Props.{props}
use Rattle.std.specs.List.{slice_get, slice_set}
use Rattle.std.specs.Str.{bytes_eq}
use Rattle.std.proofs.lemmas.Bool.{false≢true}
use Rattle.band_base.specs.declared.refusal.Refusal.{Refusal}
use Rattle.band_balance.specs.Object.{Answer, turn}
use Rattle.band_balance.specs.Rule.{Rule, act}
use Rattle.band_balance.proofs.Distinct.{named_at}
use Rattle.band_balance.proofs.Held.{by_bool}
use Rattle.band_rules.specs.declared.reply.Reply.{Reply}
use Rattle.band_rules.specs.declared.reply.Reply.TheVariants as replies
use Rattle.band_rules.specs.Order.{Sound}
use Rattle.band_rules.specs.Plan.{Refuse, Act, plan}
use Rattle.band_rules.specs.State.{State, Named, Tag, Absent, standing}
use Rattle.band_rules.specs.Step.{Effect, reply_of, perform, with_object, step}
use Rattle.band_script.specs.declared.call.Call.{Call}
use Rattle.band_player.specs.Kept.{wakes_of, wakes_left, OthersQuiet, TableStandsFor, StandsForSome, FollowsFrom, TableFollows, DidWork, TableWorks, TableStays, Answered, Wanting}
use Rattle.band_player.specs.Names.{thing_at}
use Rattle.band_player.specs.Objects.{ObjectState}
use Rattle.band_player.specs.Table.{shown_of, StandsUnder}
use Rattle.band_player.specs.Thing.{Thing, place_at}
use Rattle.band_player.specs.declared.table.Table.{Table}
use Rattle.band_player.proofs.Acting.{Lands, Touched, acts, stands_same, with_object_at}
use Rattle.band_player.proofs.Landing.{Spot}
use Rattle.band_player.proofs.Lists.{also_at, all_at_place, at_set_same, at_set_other, set_itself}
use Rattle.band_player.proofs.Stood.{stands_as, standing_there, absent_there}

-- a table that stands for a state, or did
pub answered : (old new : Table) (call : Call) (reply : Reply) → StandsForSome old → TableFollows call old reply new → Answered call old reply new
answered old new call reply sound follows = record { follows = follows; sound = ∥∥₁_map sound (λ it. ((step call it.0).state, (follows it.0 it.1).stands)) }

pub sound_either : {E : Type 0} (old new : Table) (call : Call) (result : Result Reply E) → IfOk result (λ reply. Answered call old reply new) → OnErr result (Wanting call old new) → StandsForSome new
sound_either old new call (Ok reply) ok err = ok.sound
sound_either old new call (Err error) ok err = err.sound

pub sound_still : (old new : Table) → StandsForSome old → TableStays old new → StandsForSome new
sound_still old new sound stays = ∥∥₁_map sound (λ it. (it.0, stays it.0 it.1))

-- no waker is left in a table
pub none_woken : (last : ℕ) (kept : List ObjectState) → OthersQuiet last kept → wakes_of (slice_get kept last) ≡ [] → (place : ℕ) (object : ObjectState) → slice_get kept place ≡ Some object
    → object.line.wakes ≡ []
none_woken last kept others none place object there =
    by_bool (place == last)
    (λ h. ap wakes_of (sym there ∙ ap (slice_get kept) (eqb-true place last h)) ∙ none)
    (λ h. others place object (λ k. false≢true (sym h ∙ eq-eqb place last k)) there)

module _ (old : Table) (none : wakes_left old ≡ []) (state : State) (stands : TableStandsFor old state) where
  abbrev table : List ℕ → Option Thing
  table = thing_at old.names

  abbrev kept : List ObjectState
  kept = old.objects.items

  quiet : (place : ℕ) (object : ObjectState) → slice_get kept place ≡ Some object → object.line.wakes ≡ []
  quiet = none_woken old.last kept stands.others none

  -- what an object at a place is kept for
  pub record Target (place : ℕ) (object : ObjectState) : Type 0 where
    pub named : Named
    pub there : slice_get state place ≡ Some named
    pub spot : Spot (stands.tags place) table place object named

  pub target : (place : ℕ) (object : ObjectState) → slice_get kept place ≡ Some object → Target place object
  target place object at =
      let other = also_at state kept place object (sym stands.under.size) at in
      record {
        named = other.0;
        there = other.1;
        spot = record {
          at = stands.under.each place object other.0 at other.1;
          none_woken = quiet place object at;
          once = (all_at_place Sound state place other.0 stands.under.order.sound other.1).once;
        };
      }

  pub absent : (name : List ℕ) → table name ≡ None → standing name state ≡ Absent
  absent = absent_there stands.tags table kept state stands.under

  pub standing_as : (name : List ℕ) (thing : Thing) (object : ObjectState) (it : Target (place_at thing) object) → table name ≡ Some thing
      → standing name state ≡ stands_as it.named (shown_of name thing) Absent
  standing_as name thing object it is = standing_there stands.tags table kept state stands.under name thing it.named is it.there

  -- Nothing changes, whichever object was called last.
  module _ (new : Table) (names : (name : List ℕ) → thing_at new.names name ≡ table name) (items : new.objects.items ≡ kept) where
    none_of : (o : Option ObjectState) → slice_get kept new.last ≡ o → wakes_of o ≡ []
    none_of None is = refl
    none_of (Some object) is = quiet new.last object is

    pub none_still : wakes_left new ≡ []
    none_still = ap (λ (objects : List ObjectState). wakes_of (slice_get objects new.last)) items ∙ none_of (slice_get kept new.last) refl

    pub same_stands : TableStandsFor new state
    same_stands = record {
      tags = stands.tags;
      under = subst (λ (objects : List ObjectState). StandsUnder stands.tags (thing_at new.names) objects state) (sym items)
          (stands_same stands.tags table (thing_at new.names) kept state names stands.under);
      others = λ place object apart there. quiet place object (ap (λ (objects : List ObjectState). slice_get objects place) (sym items) ∙ there);
    }

    pub refused : (call : Call) (refusal : Refusal) → plan call state ≡ Refuse refusal → FollowsFrom call (replies.Refused refusal) new state
    refused call refusal is =
        let effect = ap (λ p. perform p state) is in
        record {
          replied = sym (ap (λ (e : Effect). e.reply) effect);
          woken = none_still ∙ sym (ap (λ (e : Effect). e.woken) effect);
          stands = subst (TableStandsFor new) (sym (ap (λ (e : Effect). e.state) effect)) same_stands;
        }

    -- a rule that leaves its object as it was
    pub shows : (call : Call) (rule : Rule (List ℕ)) (answer : Answer) (place : ℕ) (object : ObjectState) (it : Target place object) → plan call state ≡ Act it.named rule
        → act bytes_eq rule it.named.object ≡ turn answer it.named.object → FollowsFrom call (reply_of answer) new state
    shows call rule answer place object it planned turns =
        let quiet_line : it.named.object.line.wakes ≡ [] = it.spot.at.line.wakes in
        let effect : step call state ≡ record { reply = reply_of answer; woken = []; state = state } =
        ap (λ p. perform p state) planned
        ∙ ap (λ t. record { reply = reply_of t.answer; woken = t.woken; state = with_object it.named.name t.object state }) turns
        ∙ ap₂ (λ woken wakes. record {
          reply = reply_of answer;
          woken = woken;
          state = with_object it.named.name (record it.named.object { line = record it.named.object.line { wakes = wakes } }) state;
        }) quiet_line (sym quiet_line)
        ∙ ap (λ (s : State). record { reply = reply_of answer; woken = []; state = s })
        (with_object_at state stands.under.order.differ place it.named it.named.object it.there ∙ set_itself state place it.named it.there) in
        record {
          replied = sym (ap (λ (e : Effect). e.reply) effect);
          woken = none_still ∙ sym (ap (λ (e : Effect). e.woken) effect);
          stands = subst (TableStandsFor new) (sym (ap (λ (e : Effect). e.state) effect)) same_stands;
        }

  -- A rule was done to an object.
  pub acted : (call : Call) (rule : Rule (List ℕ)) (answer : Answer) (reply : Reply) (new : Table) (place : ℕ) (object object' : ObjectState) (tags : ℕ → Tag) (it : Target place object)
      → slice_get kept place ≡ Some object → plan call state ≡ Act it.named rule → Lands it.named place rule answer tags (thing_at new.names) object'
      → ((name : List ℕ) → Touched place (table name) (thing_at new.names name)) → new.objects.items ≡ slice_set kept place object' → new.last ≡ place → reply ≡ reply_of answer
      → FollowsFrom call reply new state
  acted call rule answer reply new place object object' tags it there planned lands touched items last is =
      let does = acts stands.tags table kept state stands.under place object it.named there it.there tags (thing_at new.names) object' touched call rule answer planned lands in
      record {
        replied = is ∙ does.replied;
        woken = ap₂ (λ (objects : List ObjectState) k. wakes_of (slice_get objects k)) items last ∙ ap wakes_of (at_set_same kept place object object' there) ∙ does.woken;
        stands = record {
          tags = named_at place tags stands.tags;
          under = subst (λ (objects : List ObjectState). StandsUnder (named_at place tags stands.tags) (thing_at new.names) objects (step call state).state) (sym items) does.stands;
          others = λ other another apart at.
              let differs : other ≡ place → ⊥ = λ k. apart (k ∙ sym last) in
              quiet other another (sym (at_set_other kept place other object' differs) ∙ ap (λ (objects : List ObjectState). slice_get objects other) (sym items) ∙ at);
        };
      }

  -- a rule does its work
  pub works : (call : Call) (rule : Rule (List ℕ)) (named : Named) → plan call state ≡ Act named rule → DidWork (reply_of (act bytes_eq rule named.object).answer) → DidWork (step call state).reply
  works call rule named planned did = subst (λ p. DidWork (perform p state).reply) (sym planned) did

-- a table with the same names and objects stands for the same, whichever object was called last
pub wanting : (old : Table) → StandsForSome old → wakes_left old ≡ [] → (new : Table) → ((name : List ℕ) → thing_at new.names name ≡ thing_at old.names name) → new.objects.items ≡ old.objects.items
    → (call : Call) → TableWorks call old → Wanting call old new
wanting old sound none new names items call works =
    let stays : TableStays old new = λ state stands. same_stands old none state stands new names items in
    let quiet : wakes_left new ≡ [] = ∥∥₁_elim sound (hlevel props) (λ it. none_still old none it.0 it.1 new names items) in
    record { stays = stays; quiet = quiet; works = works; sound = sound_still old new sound stays }
