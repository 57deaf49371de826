use Rattle.std.proofs.Common.{◌≡◌, Some, sym, ap, ◌∙◌}
use Rattle.band_balance.specs.Object.{Write}
use Rattle.band_player.specs.Objects.{held_in}
use Rattle.band_player.specs.Token.{TokenState, Holding, token_of, thing_of}
use Rattle.band_player.specs.Moves.{held_as}
use Rattle.band_player.proofs.token.Token.writer_of.Goals as goal

pub returns-in-WriteAccess : goal.returns-in-WriteAccess
returns-in-WriteAccess c =
    let here : c.args.self.now ≡ Holding (held_in Write c.in-WriteAccess.access) = sym c.self.view_is ∙ ap token_of c.in-WriteAccess.is in
    record {
      holding = held_in Write c.in-WriteAccess.access;
      is = ap (λ (t : TokenState). held_as Write (Some (thing_of t))) here;
      at = c.of.ensures;
    }
