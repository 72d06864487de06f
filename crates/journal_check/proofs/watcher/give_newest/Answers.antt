use Rattle.std.proofs.Common.{◌≡◌, ◌-◌, List, length, ap, sym, arith}
use Rattle.hist_store.specs.Rows.{Row}
use Rattle.journal_check.specs.Watched.{ComesToWatch}
use Rattle.journal_check.proofs.NewestRows.{row_with, newest_is, given_as}
use Rattle.journal_check.proofs.watcher.give_newest.Goals as goal

pub entry-requires : goal.entry-requires
entry-requires g c =
    let m = c.args.core.now in
    let row = c.requires.0 in
    let past = c.requires.1 in
    let n = c.len-n.result - 1 in
    let size = ap (λ (rows : List Row). length rows) c.requires.2 in
    let last : n ≡ length past = omega (arith, size, c.len-n.ensures.len) in
    given_as (λ plan k r. ComesToWatch g.W.Watcher.begins g.W.Watcher.sees c.args.watcher.now plan (record { segment = c.args.segment; number = k; row = r }))
    m.plan c.plan.result.now (length past) n row (row_with c.entry-newest.result c.octets.result.now) (sym c.plan.ensures) (sym last)
    (newest_is m row past n c.entry-newest.result c.octets.result.now c.requires.2 last c.entry-newest.ensures c.octets.ensures) c.requires.3

pub returns : goal.returns
returns g c = λ row past is.
    let m = c.args.core.now in
    let n = c.len-n.result - 1 in
    let size = ap (λ (rows : List Row). length rows) is in
    let last : n ≡ length past = omega (arith, size, c.len-n.ensures.len) in
    given_as (λ plan k r. g.W.Watcher.sees c.args.watcher.now plan (record { segment = c.args.segment; number = k; row = r }) c.entry.new.self)
    c.plan.result.now m.plan n (length past) (row_with c.entry-newest.result c.octets.result.now) row c.plan.ensures last
    (sym (newest_is m row past n c.entry-newest.result c.octets.result.now is last c.entry-newest.ensures c.octets.ensures)) c.entry.ensures
