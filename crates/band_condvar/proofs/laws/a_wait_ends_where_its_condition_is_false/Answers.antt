use Rattle.band_condvar.proofs.While.{ends-at-false, goes-on-at-true, refused-unasked}
use Rattle.band_condvar.proofs.laws.a_wait_ends_where_its_condition_is_false.Goals as goal

pub returns : goal.returns
returns g c = record {
  ends = ends-at-false g.F.FnMut;
  goes_on = goes-on-at-true g.F.FnMut;
  refused = refused-unasked g.F.FnMut;
}
