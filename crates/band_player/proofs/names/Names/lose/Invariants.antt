use Rattle.std.specs.BTreeMap.{btree_map_len}
use Rattle.band_player.proofs.names.Names.lose.Given as goal

abbrev pub decreases-loop-token : goal.decreases-loop-token
decreases-loop-token l = btree_map_len l.tokens
