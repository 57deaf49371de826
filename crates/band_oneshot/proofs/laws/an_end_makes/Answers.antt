use Rattle.band_oneshot.proofs.Moving.{sender_makes-after_all, receiver_makes-after_all}
use Rattle.band_oneshot.proofs.laws.an_end_makes.Goals as goal

pub returns-clause-sender : goal.returns-clause-sender
returns-clause-sender c = sender_makes-after_all

pub returns-clause-receiver : goal.returns-clause-receiver
returns-clause-receiver c = receiver_makes-after_all
