-- Where no pass is paused no input is.
use Rattle.std.proofs.Common.{◌≡◌, false, List, [], ◌∷◌, refl}
use Rattle.std.proofs.lemmas.Bool.{and_right, or_parts, or_from}
use Rattle.savi_kinds.specs.declared.entry.Act.{Act}
use Rattle.savi_kinds.specs.declared.entry.Act.TheVariants as acts
use Rattle.hist_store.specs.Rows.{Row}
use Rattle.savi_history.specs.Endings.{is_input, is_paused_reason, is_paused_end, is_paused_input, has_paused_end, has_pause}

act_pause : (act : Act) → is_paused_end act ≡ false → is_paused_input act ≡ false
act_pause (acts.Frame port stamp at len) none = refl
act_pause (acts.Long port stamp len) none = refl
act_pause (acts.Tick stamp) none = refl
act_pause (acts.Command stamp at len) none = refl
act_pause (acts.Drain port count) none = refl
act_pause (acts.End who how) none = and_right (is_input who) (is_paused_reason how) none

pub no_pause : (past : List Row) → has_paused_end past ≡ false → has_pause past ≡ false
no_pause [] none = refl
no_pause (r ∷ past) none =
    let parts = or_parts (is_paused_end r.entry.act) (has_paused_end past) none in
    or_from (is_paused_input r.entry.act) (has_pause past) (act_pause r.entry.act parts.0) (no_pause past parts.1)
