use Rattle.std.proofs.Common.{[], ap, length, sym, ◌∙◌, subst}
use Rattle.std.proofs.lemmas.Option.{none-some}
use Rattle.band_balance.specs.Object.{Permit, tag}
use Rattle.band_player.specs.Kept.{OthersQuiet}
use Rattle.band_player.proofs.table.Table.new.Goals as goal

pub returns-clause-start : goal.returns-clause-start
returns-clause-start c = record {
  tags = λ place slot. tag Permit [];
  under = record {
    order = record { differ = tt; sound = tt };
    size = ap length c.new-2.ensures.items;
    each = λ place object named at there. absurd (none-some named there);
    there = λ name thing is. absurd (none-some thing (sym (c.new.ensures name) ∙ is));
  };
  others = subst (OthersQuiet 0) (sym c.new-2.ensures.items) (λ place object apart there. absurd (none-some object there));
}

pub returns-clause-sound : goal.returns-clause-sound
returns-clause-sound c = ∣ ([], returns-clause-start c) ∣₁
