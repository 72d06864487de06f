use Rattle.std.proofs.Common.{◌≡◌, length}
use Rattle.state_rows.proofs.addr_index_rows.entries_move_back_round_the_last_place.Given as goal

abbrev pub invariant-loop-name : goal.invariant-loop-name
invariant-loop-name g l = record { held : length l.index.entries ≡ l.held; most : l.index.most ≡ 4 }
