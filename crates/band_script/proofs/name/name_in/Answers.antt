use Rattle.std.proofs.Common.{◌≡◌, rules, tests}
use Rattle.std.specs.Prelude.{◌==◌, position}
use Rattle.std.proofs.lemmas.Iterator.{YieldsList-from_slice}
use Rattle.std.proofs.lemmas.Iterator.Search.{position_from_yields_List}
use Rattle.band_script.proofs.NameLemmas.{until_zero}
use Rattle.band_script.proofs.name.name_in.Goals as goal

pub returns : goal.returns
returns c =
    let bytes = c.args.bytes.now in
    let zero : c.position-zero.result ≡ position (λ byte. byte == 0) bytes =
    position_from_yields_List (λ byte. byte == 0) _ _ c.position-zero.result c.position-zero.ensures.ran (YieldsList-from_slice bytes (cc)) (λ x b q k. search (rules, tests)) in
    until_zero bytes _ (cc)
