-- One turn: what is due first comes to pass at its own moment.
use Rattle.std.proofs.Common.{◌≡◌, ◌⊎◌, ℕ, ◌+◌, ◌<◌, ◌≤◌, Option, Some, None, List, [], ◌∷◌, ◌++◌, append_assoc, refl, sym, ◌∙◌, ap, inl, inr, arith}
use Rattle.std.specs.List.{AllByRecursion}
use Rattle.std.proofs.lemmas.Bool.{cases_lt}
use Rattle.fcfs_states.specs.declared.answer.Probe.{Probe}
use Rattle.fcfs_states.specs.declared.times.Times.{Times}
use Rattle.fcfs_states.specs.Premises.{AreTimes}
use Rattle.fcfs_states.specs.Ageing.{probes_behind}
use Rattle.mix_rules.specs.declared.state.AddrState.{AddrState}
use Rattle.mix_rules.specs.Ageing.{AgedAddr, aged_state, due_next}
use Rattle.savi_access.specs.declared.row.Row.{Row}
use Rattle.savi_access.specs.Rows.{address_of, state_in, rows_of, with_state, IsTable}
use Rattle.savi_access.proofs.Parts.{all_filtered, below_all, above_all, all_joined, all_weaker}
use Rattle.savi_access.specs.declared.sent.SentProbe.{SentProbe}
use Rattle.savi_access.specs.Ages.{aged_row, aged_rows}
use Rattle.savi_access.specs.Sends.{sent_of, row_sends, all_sends, in_order, sends}
use Rattle.addr_table.specs.Turns.{turns_of, turns_left}
use Rattle.savi_access.proofs.Orders.{IsBefore, before_by}
use Rattle.addr_table.proofs.Lists.{all_sent, first_in_order, sent_of-append}
use Rattle.addr_table.proofs.States.{nobody-aged, probes_from, no_probes, probes_after, way-still, state_by_way, probes_by_way, turns_fall}
use Rattle.addr_table.proofs.Splits.{lower, higher, own_parts, flat-with, turns_left-with}
use Rattle.addr_table.proofs.Firsts.{IsNoSooner, IsFirst}

module _ (k : Times) (times : AreTimes k) (t : ℕ) where
  sends-with : (a : ℕ) (state : AddrState) (rows : List Row) → all_sends k t (with_state a state rows) ≡ all_sends k t (lower a rows) ++ (sent_of a (aged_state k t state).probes ++ all_sends k t (higher a rows))
  sends-with a state rows = flat-with (row_sends k t) (λ s. sent_of a (aged_state k t s).probes) a (λ s. refl) (ap (λ (s : AgedAddr). sent_of a s.probes) (nobody-aged k times t)) state rows

  pub aged-with : (a : ℕ) (state : AddrState) (rows : List Row) → aged_rows k t (with_state a state rows) ≡ aged_rows k t (lower a rows) ++ (rows_of a (aged_state k t state).state ++ aged_rows k t (higher a rows))
  aged-with a state rows = flat-with (aged_row k t) (λ s. rows_of a (aged_state k t s).state) a (λ s. refl) (ap (λ (s : AgedAddr). rows_of a s.state) (nobody-aged k times t)) state rows

  -- the probes of another address come later
  before_row : (x : SentProbe) (row : Row) → IsNoSooner k x.due x.address.0 row → (address_of row ≡ x.address.0 → ⊥) → AllByRecursion (IsBefore x) (row_sends k t row)
  before_row x row no_sooner apart = by_due (due_next k row.state) refl
    where
      by_due : (d : Option ℕ) → due_next k row.state ≡ d → AllByRecursion (IsBefore x) (row_sends k t row)
      by_due None is = rw (no_probes k times t row.state is) tt
      by_due (Some n) is =
          all_sent (IsBefore x) (address_of row) (aged_state k t row.state).probes
          (all_weaker (λ p. n ≤ p.0) (λ p. IsBefore x (record { due = p.0; address = record { 0 = address_of row }; probe = p.1 }))
          (λ p from. before_by x (record { due = p.0; address = record { 0 = address_of row }; probe = p.1 }) (later p.0 from (no_sooner n is))) (aged_state k t row.state).probes (probes_from k times t row.state n is))
        where
          later : (due : ℕ) → n ≤ due → (x.due < n) ⊎ ((x.due ≡ n) × (x.address.0 ≤ address_of row)) → (x.due < due) ⊎ ((x.due ≡ due) × (x.address.0 < address_of row))
          later due from (inl less) = inl (omega (arith, from, less))
          later due from (inr same) =
              elim (cases_lt x.due due) [
                | inl less ↦ inl less
                | inr not_less ↦ inr ((omega (arith, not_less, from, same.0)), (omega (arith, apart, same.1)))
              ]

  before_rows : (x : SentProbe) (rows : List Row) → AllByRecursion (IsNoSooner k x.due x.address.0) rows → AllByRecursion (λ row. address_of row ≡ x.address.0 → ⊥) rows → AllByRecursion (IsBefore x) (all_sends k t rows)
  before_rows x [] least apart = tt
  before_rows x (row ∷ rows) least apart = all_joined (IsBefore x) (row_sends k t row) (all_sends k t rows) (before_row x row least.0 apart.0) (before_rows x rows least.1 apart.1)

  -- what comes to pass for an address
  module _ (due : ℕ) (rows : List Row) (by : due ≤ t) (a : ℕ) (table : IsTable rows) (first : IsFirst k due a rows) where
    old : AddrState
    old = state_in rows a

    pub step_rows : aged_rows k t (with_state a (aged_state k due (state_in rows a)).state rows) ≡ aged_rows k t rows
    step_rows =
        aged-with a (aged_state k due (state_in rows a)).state rows
        ∙ ap (λ s. aged_rows k t (lower a rows) ++ (rows_of a s ++ aged_rows k t (higher a rows))) (state_by_way k times due t (state_in rows a) by)
        ∙ sym (aged-with a (state_in rows a) rows)
        ∙ sym (ap (aged_rows k t) (own_parts a rows table))

    pub step_turns : turns_left (with_state a (aged_state k due (state_in rows a)).state rows) < turns_left rows
    step_turns =
        let was : turns_left rows ≡ turns_left (lower a rows) + (turns_of (state_in rows a) + turns_left (higher a rows)) = ap turns_left (own_parts a rows table) ∙ turns_left-with a (state_in rows a) rows in
        omega (arith, was, turns_left-with a (aged_state k due (state_in rows a)).state rows, turns_fall k due (state_in rows a) due first.own (omega arith))

    -- its own later probes come later
    own_later : (probe : Probe) → AllByRecursion (IsBefore (record { due = due; address = record { 0 = a }; probe = probe })) (sent_of a (aged_state k t (aged_state k due (state_in rows a)).state).probes)
    own_later probe =
        let x : SentProbe = record { due = due; address = record { 0 = a }; probe = probe } in
        all_sent (IsBefore x) a (aged_state k t (aged_state k due (state_in rows a)).state).probes
        (all_weaker (λ p. due < p.0) (λ p. IsBefore x (record { due = p.0; address = record { 0 = a }; probe = p.1 })) (λ p later. before_by x (record { due = p.0; address = record { 0 = a }; probe = p.1 }) (inl later)) (aged_state k t (aged_state k due (state_in rows a)).state).probes
        (probes_after k times due t (aged_state k due (state_in rows a)).state (way-still k times due (state_in rows a))))

    front_later : (probe : Probe) → AllByRecursion (IsBefore (record { due = due; address = record { 0 = a }; probe = probe })) (all_sends k t (lower a rows))
    front_later probe =
        before_rows (record { due = due; address = record { 0 = a }; probe = probe }) (lower a rows) (all_filtered (IsNoSooner k due a) _ rows first.least)
        (all_weaker (λ row. address_of row < a) (λ row. address_of row ≡ a → ⊥) (λ row less same. omega (arith, less, same)) (lower a rows) (below_all a rows))

    back_later : (probe : Probe) → AllByRecursion (IsBefore (record { due = due; address = record { 0 = a }; probe = probe })) (all_sends k t (higher a rows))
    back_later probe =
        before_rows (record { due = due; address = record { 0 = a }; probe = probe }) (higher a rows) (all_filtered (IsNoSooner k due a) _ rows first.least)
        (all_weaker (λ row. a < address_of row) (λ row. address_of row ≡ a → ⊥) (λ row more same. omega (arith, more, same)) (higher a rows) (above_all a rows))

    -- all probes, with that which the turn sends in its place
    split : (probe : Option Probe) → (aged_state k due (state_in rows a)).probes ≡ probes_behind due probe [] → all_sends k t rows ≡ all_sends k t (lower a rows) ++ (sent_of a (probes_behind due probe []) ++ (sent_of a (aged_state k t (aged_state k due (state_in rows a)).state).probes ++ all_sends k t (higher a rows)))
    split probe is =
        let early : List (ℕ × Probe) = (aged_state k due (state_in rows a)).probes in
        let late : List (ℕ × Probe) = (aged_state k t (aged_state k due (state_in rows a)).state).probes in
        ap (all_sends k t) (own_parts a rows table)
        ∙ sends-with a (state_in rows a) rows
        ∙ ap (λ probes. all_sends k t (lower a rows) ++ (sent_of a probes ++ all_sends k t (higher a rows))) (probes_by_way k times due t (state_in rows a) by)
        ∙ ap (λ own. all_sends k t (lower a rows) ++ (own ++ all_sends k t (higher a rows))) (sent_of-append a early late)
        ∙ ap (λ rest. all_sends k t (lower a rows) ++ rest) (append_assoc (sent_of a early) (sent_of a late) (all_sends k t (higher a rows)))
        ∙ ap (λ own. all_sends k t (lower a rows) ++ (sent_of a own ++ (sent_of a late ++ all_sends k t (higher a rows)))) is

    pub step_sends : (probe : Option Probe) → (aged_state k due (state_in rows a)).probes ≡ probes_behind due probe [] → sends k t rows ≡ sent_of a (probes_behind due probe []) ++ sends k t (with_state a (aged_state k due (state_in rows a)).state rows)
    step_sends None is = ap in_order (split None is ∙ sym (sends-with a (aged_state k due (state_in rows a)).state rows))
    step_sends (Some probe) is =
        let x : SentProbe = record { due = due; address = record { 0 = a }; probe = probe } in
        let front : List SentProbe = all_sends k t (lower a rows) in
        let back : List SentProbe = sent_of a (aged_state k t (aged_state k due (state_in rows a)).state).probes ++ all_sends k t (higher a rows) in
        ap in_order (split (Some probe) is)
        ∙ first_in_order x front back (front_later probe) (all_joined (IsBefore x) (sent_of a (aged_state k t (aged_state k due (state_in rows a)).state).probes) (all_sends k t (higher a rows)) (own_later probe) (back_later probe))
        ∙ ap (λ all. x ∷ in_order all) (sym (sends-with a (aged_state k due (state_in rows a)).state rows))
