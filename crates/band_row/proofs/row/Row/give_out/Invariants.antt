use Rattle.band_row.specs.Row.{SameEnded, part, Holds}
use Rattle.band_row.specs.Kept.Serves.{Serves}
use Rattle.band_row.proofs.row.Row.give_out.Given as goal

abbrev pub invariant-loop-first : goal.invariant-loop-first
invariant-loop-first g l = record {
  serves : Serves (part l.fn.self) (part l.self) l.fn.steps l.steps;
  ended : SameEnded l.fn.self l.self;
  holds : Holds 0 (part l.self);
}

abbrev pub decreases-loop-first : goal.decreases-loop-first
decreases-loop-first g l = l.self.word
