-- A waker that is taken changes nothing else.
use Rattle.std.proofs.Common.{◌≡◌, ℕ, ◌<◌, List, ◌++◌, map, Option, Some, None, sym, ap, ap₂, ◌∙◌, subst}
use Rattle.std.specs.List.Sorted.{IsPermutation}
use Rattle.std.specs.List.{slice_get, slice_set}
use Rattle.std.proofs.lemmas.List.{length-set}
use Rattle.band_balance.specs.Line.{Entry, Line, AreAlike, entry_named, requests, rename, renamed}
use Rattle.band_base.specs.declared.waker.Waker.{Waker}
use Rattle.band_rules.specs.State.{State, Named}
use Rattle.band_sem.specs.Semaphore.{is_slot}
use Rattle.band_player.specs.Kept.{TableStandsFor}
use Rattle.band_player.specs.Names.{thing_at}
use Rattle.band_player.specs.Objects.{ObjectState, IsSteady, TakesWakeOf, asked_in}
use Rattle.band_player.specs.Table.{quiet, StandsAt}
use Rattle.band_player.specs.Thing.{place_at}
use Rattle.band_player.specs.declared.table.Table.{Table}
use Rattle.band_player.proofs.Landing.{slots_kept}
use Rattle.band_player.proofs.Lists.{each_replaced, at_set_other}

-- the same but for the wakes
record SameQuiet (old new : ObjectState) : Type 0 where
  kind : new.kind ≡ old.kind
  number : new.number ≡ old.number
  line : quiet new.line ≡ quiet old.line
  held : new.held ≡ old.held
  closed : new.closed ≡ old.closed
  ended : new.ended ≡ old.ended

same_quiet : (old new : ObjectState) (result : Option Waker) → TakesWakeOf old result new → SameQuiet old new
same_quiet old new None takes = record { kind = takes.kind; number = ap (λ s. s.number) takes.woken.1; line = ap (λ s. quiet s.line) takes.woken.1; held = ap (λ s. s.held) takes.woken.1; closed = ap (λ s. s.closed) takes.woken.1; ended = ap (λ s. s.ended) takes.woken.1 }
same_quiet old new (Some waker) takes = record { kind = takes.kind; number = ap (λ s. s.number) takes.woken.1; line = ap (λ s. quiet s.line) takes.woken.1; held = ap (λ s. s.held) takes.woken.1; closed = ap (λ s. s.closed) takes.woken.1; ended = ap (λ s. s.ended) takes.woken.1 }

module _ (old new : Table) (object object' : ObjectState) (result : Option Waker) (there : slice_get old.objects.items old.last ≡ Some object) (takes : TakesWakeOf object result object')
    (steady : IsSteady object')
    (names : new.names ≡ old.names) (items : new.objects.items ≡ slice_set old.objects.items old.last object') (last : new.last ≡ old.last) (state : State) (stands : TableStandsFor old state) where
  stands_at : (named : Named) → StandsAt (stands.tags old.last) (thing_at old.names) old.last object named → StandsAt (stands.tags old.last) (thing_at old.names) old.last object' named
  stands_at named at =
      let same = same_quiet object object' result takes in
      record {
        kind = at.kind ∙ sym same.kind;
        number = same.number ∙ at.number;
        line = subst (λ (l : Line ℕ). AreAlike (rename (stands.tags old.last) l) named.object.line) (sym same.line) at.line;
        closed = at.closed ∙ sym same.closed;
        ended = subst (λ (es : List (Entry ℕ)). IsPermutation (map (renamed (stands.tags old.last)) es) named.object.ended) (sym same.ended) at.ended;
        held = at.held ∙ sym same.held;
        held_once = at.held_once;
        steady = steady;
        every = at.every;
        slots = λ name. slots_kept (stands.tags old.last) old.last (asked_in object) (asked_in object')
            (λ slot. ap₂ (λ (es : List (Entry ℕ)) (l : Line ℕ). entry_named (is_slot slot) (es ++ requests l)) same.ended same.line) name
            (thing_at old.names name) (at.slots name);
      }

  each_after : (place : ℕ) (kept : ObjectState) (named : Named) → slice_get (slice_set old.objects.items old.last object') place ≡ Some kept → slice_get state place ≡ Some named
      → StandsAt (stands.tags place) (thing_at old.names) place kept named
  each_after place kept named at there_named =
      each_replaced (λ p o. (n : Named) → slice_get state p ≡ Some n → StandsAt (stands.tags p) (thing_at old.names) p o n) old.objects.items old.last object object' there
      (λ n is. stands_at n (stands.under.each old.last object n there is)) (λ p o apart at_other n is. stands.under.each p o n at_other is) place kept at named there_named

  pub still_stands : TableStandsFor new state
  still_stands = record {
    tags = stands.tags;
    under = rw (names, items) (record {
      order = stands.under.order;
      size = length-set old.objects.items old.last object' ∙ stands.under.size;
      each = each_after;
      there = λ name thing is. subst (λ n. place_at thing < n) (sym (length-set old.objects.items old.last object')) (stands.under.there name thing is);
    });
    others = λ place kept apart at.
        let differs : place ≡ old.last → ⊥ = λ k. apart (k ∙ sym last) in
        stands.others place kept differs (sym (at_set_other old.objects.items old.last place object' differs) ∙ ap (λ (objects : List ObjectState). slice_get objects place) (sym items) ∙ at);
  }
