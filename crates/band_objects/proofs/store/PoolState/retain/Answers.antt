use Rattle.std.proofs.Common.{◌≡◌, ◌+◌, ◌-◌, length, refl, sym, ap, ◌∙◌, arith, rules}
use Rattle.band_objects.specs.Store.{Store}
use Rattle.band_objects.proofs.Retain.{Asking, Asking-start, Asking-next, Asking-end}
use Rattle.band_objects.proofs.store.PoolState.retain.Goals as goal

pub loop-init : goal.loop-init
loop-init g c =
    let none = c.in_ok-removed.ensures in
    let all : length c.args.self.now.idle ≡ c.len-count.result - 0 = search rules in
    record {
      callable = c.requires.callable;
      asking = Asking-start _ c.args.f c.args.self.now.idle c.in_ok-removed.removed.items (c.len-count.result - 0) none.items all;
      away = refl;
      fits = search rules;
    }

pub loop-preserved : goal.loop-preserved
loop-preserved g c =
    let before = c.loop.invariant in
    let one_more : c.len-count.result - c.loop.counter ≡ (c.len-count.result - (c.loop.counter + 1)) + 1 = omega (arith, c.loop-test.true) in
    record {
      callable = c.ask_first.ensures.callable;
      asking = Asking-next _ c.args.f c.args.self.now.idle c.loop.f c.loop.self.idle c.loop.removed.items _ _ _ before.asking one_more c.ask_first.ensures.asks;
      away = c.ask_first.ensures.away ∙ before.away;
      fits = omega (arith, c.ask_first.ensures.no_more, c.ask_first.ensures.capacity, before.fits, c.loop-test.true);
    }

pub returns-clause-sorted : goal.returns-clause-sorted
returns-clause-sorted g c =
    let after = c.loop.invariant in
    let nobody : c.len-count.result - c.loop.counter ≡ 0 = omega (arith, c.loop-test.false) in
    (_, Asking-end _ c.args.f c.args.self.now.idle c.loop.f c.loop.self.idle c.loop.removed.items _ after.asking nobody, refl, search rules, refl)
