use Rattle.band_signal.proofs.Generations.{has-ended, stay_ended, polled-ended}
use Rattle.band_signal.proofs.laws.ended_waits_leave_the_set.Goals as goal

pub returns : goal.returns
returns c = record { ended = has-ended; cancel = stay_ended; poll = polled-ended }
