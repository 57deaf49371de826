use Rattle.std.proofs.Common.{refl}
use Rattle.band_balance.specs.Object.{Permit}
use Rattle.band_script.specs.declared.call.Call.TheVariants as calls
use Rattle.band_player.proofs.Calls.{refused_for, closes}
use Rattle.band_player.proofs.Follow.{answered}
use Rattle.band_player.proofs.table.Table.close.Goals as goal

pub returns-in-Err-clause-answered : goal.returns-in-Err-clause-answered
returns-in-Err-clause-answered g c = answered _ _ _ _ c.requires.sound (λ state stands.
    refused_for c.args.self.now c.requires.quiet state stands c.args.self.now (λ n. refl) refl (calls.Close c.args.of.now) Permit c.args.of.now c.in-Err.refusal c.in-Err.ensures _ refl)

pub returns-clause-answered : goal.returns-clause-answered
returns-clause-answered g c = answered _ _ _ _ c.requires.sound (λ state stands.
    let object = c.index_mut.result.now in
    let there = c.in-Ok.ensures.there object c.index_mut.ensures.value in
    closes c.args.self.now c.requires.quiet state stands _ (λ n. refl) c.args.of.now c.in-Ok.place object there c.in-Ok.ensures.is c.close.new.self c.close.ensures.state c.close.ensures.steady refl refl)
