use Rattle.std.proofs.Common.{◌≡◌, Some, sym, ap, ◌∙◌}
use Rattle.band_balance.specs.Object.{Permit}
use Rattle.band_player.specs.Objects.{held_in}
use Rattle.band_player.specs.Token.{TokenState, Holding, token_of, thing_of}
use Rattle.band_player.specs.Moves.{held_as}
use Rattle.band_player.proofs.token.Token.permit_of.Goals as goal

pub returns-in-SemaphorePermit : goal.returns-in-SemaphorePermit
returns-in-SemaphorePermit c =
    let here : c.args.self.now ≡ Holding (held_in Permit c.in-SemaphorePermit.permit) = sym c.self.view_is ∙ ap token_of c.in-SemaphorePermit.is in
    record {
      holding = held_in Permit c.in-SemaphorePermit.permit;
      is = ap (λ (t : TokenState). held_as Permit (Some (thing_of t))) here;
      at = c.of.ensures;
    }
