use Rattle.std.proofs.Common.{refl, arith}
use Rattle.band_script.specs.declared.name.TheConstants.{NAME_BYTES}
use Rattle.band_script.proofs.NameLemmas.{told_at}
use Rattle.band_script.proofs.name.is_name_byte.Goals as goal

pub returns : goal.returns
returns c = told_at NAME_BYTES 0 c.args.byte c.args.byte refl (omega arith) (omega arith)
