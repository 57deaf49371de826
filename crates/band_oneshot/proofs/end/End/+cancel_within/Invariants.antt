use Rattle.band_oneshot.proofs.end.End.+cancel_within.Given as goal

abbrev pub decreases-cancel_within : goal.decreases-cancel_within
decreases-cancel_within g l = l.turns
