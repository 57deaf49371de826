use Rattle.std.proofs.Common.{refl, sym}
use Rattle.band_line.proofs.ArenaMaps.{rewritten}
use Rattle.band_line.proofs.arena.Arena.get_mut.Goals as goal

pub returns-then-is_some : goal.returns-then-is_some
returns-then-is_some g c = (
  refl,
  record {
    writes_back = tt;
    value = sym c.value_mut.ensures.value;
    written = λ here last. rewritten c.args.self.now c.args.id last here;
    visits = c.get.ensures.visits;
  },
)
