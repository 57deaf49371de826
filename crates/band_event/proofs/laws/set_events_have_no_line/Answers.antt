use Rattle.band_event.proofs.Queues.{queued-unset}
use Rattle.band_event.proofs.laws.set_events_have_no_line.Goals as goal

pub returns-clause-queued : goal.returns-clause-queued
returns-clause-queued c = queued-unset
