use Rattle.std.proofs.Common.{ℕ, subst}
use Rattle.band_sem.specs.Semaphore.{IsLike, given_back}
use Rattle.band_once.proofs.Claims.{KeepsCounted-given_back}
use Rattle.band_once.proofs.call.pass.Goals as goal

pub returns-clause-counted : goal.returns-clause-counted
returns-clause-counted g c =
    KeepsCounted-given_back c.args.permit.now c.drop_permit.new.self c.args.token
    (subst (λ (n : ℕ). IsLike (given_back n c.args.permit.now) c.drop_permit.new.self) c.requires.one c.drop_permit.ensures.state)
    c.drop_permit.ensures.lawful
