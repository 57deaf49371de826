use Rattle.band_oneshot.proofs.Moving.{added_message}
use Rattle.band_oneshot.proofs.laws.an_added_message_is_known.Goals as goal

pub returns : goal.returns
returns c = added_message
