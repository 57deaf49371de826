-- What a request keeps of its stage.
use Rattle.band_sem.specs.Request.{Stage, NotPolled, Joined, Finished}
use Rattle.band_sem.specs.declared.acquire.Progress.{Progress}
use Rattle.band_sem.specs.declared.acquire.Progress.TheVariants as progress

abbrev pub stage_of : Progress → Stage
stage_of progress.NotPolled = NotPolled
stage_of (progress.Joined slot) = Joined slot
stage_of progress.Finished = Finished
