use Rattle.band_condvar.proofs.While.{no-memory, in-line}
use Rattle.band_condvar.proofs.laws.waiting_takes_no_memory.Goals as goal

pub returns : goal.returns
returns g c = record { no_memory = no-memory g.F.FnMut; in_line = in-line g.F.FnMut }
