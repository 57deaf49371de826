use Rattle.std.proofs.Common.{◌≡◌, ◌%◌, arith}
use Rattle.std.specs.Fmt.{digits}
use Rattle.band_play.proofs.BulkTexts.{told_size}
use Rattle.band_play.proofs.bulk.asked_by.Goals as goal

pub returns-in-0 : goal.returns-in-0
unfolding digits
returns-in-0 c = told_size c.args.i 0 c.in-0.is

pub returns-in-1 : goal.returns-in-1
unfolding digits
returns-in-1 c = told_size c.args.i 1 c.in-1.is

pub returns-in_default : goal.returns-in_default
unfolding digits
returns-in_default c =
    let two : c.args.i % 3 ≡ 2 = omega arith in
    told_size c.args.i 2 two
