use Rattle.std.proofs.Common.{◌∙◌}
use Rattle.band_script.proofs.NameLemmas.{name_is_ascii}
use Rattle.band_script.proofs.name.Name.as_str.Goals as goal

pub text_of-requires : goal.text_of-requires
text_of-requires c = rw c.name_in.ensures (name_is_ascii _ c.self.invariant.0)

pub returns-clause-text : goal.returns-clause-text
returns-clause-text c = c.text_of.ensures ∙ c.name_in.ensures ∙ c.self.view_is

pub returns-clause-is_name : goal.returns-clause-is_name
returns-clause-is_name c = rw (c.text_of.ensures, c.name_in.ensures) c.self.invariant.0
