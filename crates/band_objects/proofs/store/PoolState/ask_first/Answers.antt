use Rattle.std.proofs.Common.{refl, sym, ap, ◌∙◌, true, false}
use Rattle.band_objects.specs.Store.{Store}
use Rattle.band_objects.proofs.store.PoolState.ask_first.Goals as goal

pub returns-then-f-clause-asks : goal.returns-then-f-clause-asks
returns-then-f-clause-asks g c =
    let called = c.if-f.ensures in
    record {
      object = c.in-Some.object;
      others = c.pop_front.new.self.items;
      first = ap (λ (s : Store g.row.T.Denot). s.idle) (sym c.self.view_is) ∙ c.in-Some.ensures.items;
      sorted = (
        true,
        c.f.new.arg2,
        record { shown = _; shows = refl; left = _; called = called; leaves = refl },
        c.push_back_reserved.ensures.items,
        refl,
      );
    }

pub returns-else-f-clause-asks : goal.returns-else-f-clause-asks
returns-else-f-clause-asks g c =
    let called = c.if-f.ensures in
    record {
      object = c.in-Some.object;
      others = c.pop_front.new.self.items;
      first = ap (λ (s : Store g.row.T.Denot). s.idle) (sym c.self.view_is) ∙ c.in-Some.ensures.items;
      sorted = (
        false,
        c.f.new.arg2,
        record { shown = _; shows = refl; left = _; called = called; leaves = refl },
        refl,
        c.push_reserved.ensures.items,
      );
    }
