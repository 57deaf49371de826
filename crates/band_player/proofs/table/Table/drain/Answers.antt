use Rattle.std.proofs.Common.{refl}
use Rattle.band_balance.specs.Object.{Permit}
use Rattle.band_script.specs.declared.call.Call.TheVariants as calls
use Rattle.band_player.proofs.Calls.{refused_for, drains}
use Rattle.band_player.proofs.Follow.{answered}
use Rattle.band_player.proofs.table.Table.drain.Goals as goal

pub returns-in-Err-clause-answered : goal.returns-in-Err-clause-answered
returns-in-Err-clause-answered c = answered _ _ _ _ c.requires.sound (λ state stands.
    refused_for c.args.self.now c.requires.quiet state stands c.args.self.now (λ n. refl) refl (calls.Drain c.args.of.now c.args.n) Permit c.args.of.now c.in-Err.refusal c.in-Err.ensures _ refl)

pub returns-clause-answered : goal.returns-clause-answered
returns-clause-answered c = answered _ _ _ _ c.requires.sound (λ state stands.
    let object = c.index_mut-object.result.now in
    drains c.args.self.now c.requires.quiet state stands _ (λ n. refl) c.args.of.now c.in-Ok.place object (c.in-Ok.ensures.there object c.index_mut-object.ensures.value) c.in-Ok.ensures.is
    c.args.n c.drain.result c.drain.new.self c.drain.ensures.count c.drain.ensures.state c.drain.ensures.steady refl refl)
