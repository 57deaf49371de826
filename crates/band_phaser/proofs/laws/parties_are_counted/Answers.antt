use Rattle.band_phaser.proofs.Parties.{news, registers, arrives, leaves, withdraws, is_told, closes, polls_counted, keeps_waits}
use Rattle.band_phaser.proofs.laws.parties_are_counted.Goals as goal

pub returns : goal.returns
returns c = record {
  new = news;
  register = registers;
  arrive = arrives;
  leave = leaves;
  withdraw = withdraws;
  told = is_told;
  close = closes;
  poll = polls_counted;
  waits = keeps_waits;
}
