-- The probes that ageing sends for all addresses, in the order in which they are due.
use Rattle.std.specs.Prelude.{ℕ, nat_lt, Bool, if◌then◌else◌, List, [], ◌∷◌, map, filter}
use Rattle.std.specs.List.{flat_map}
use Rattle.savi_kinds.specs.Orders.{is_due_before}
use Rattle.fcfs_states.specs.declared.answer.Probe.{Probe}
use Rattle.fcfs_states.specs.declared.times.Times.{Times}
use Rattle.mix_rules.specs.Ageing.{aged_state}
use Rattle.savi_access.specs.declared.row.Row.{Row}
use Rattle.savi_access.specs.Rows.{address_of}
use Rattle.savi_access.specs.declared.sent.SentProbe.{SentProbe}

-- one probe is due before another one, by moment and then by address
abbrev pub is_before : SentProbe → SentProbe → Bool
is_before x y = is_due_before x.due x.address.0 y.due y.address.0

-- the probes with one more, in front of those before which it comes
abbrev pub put_in : SentProbe → List SentProbe → List SentProbe
put_in x [] = x ∷ []
put_in x (y ∷ ys) = if is_before x y then x ∷ y ∷ ys else y ∷ put_in x ys

-- the probes in order of moment, and then of address
abbrev pub in_order : List SentProbe → List SentProbe
in_order [] = []
in_order (x ∷ xs) = put_in x (in_order xs)

-- probes of an address, each with its moment, as probes on their way
abbrev pub sent_of : ℕ → List (ℕ × Probe) → List SentProbe
sent_of a probes = map (λ p. record { due = p.0; address = record { 0 = a }; probe = p.1 }) probes

-- the probes that ageing to t sends for the address of a row
abbrev pub row_sends : Times → ℕ → Row → List SentProbe
row_sends k t row = sent_of (address_of row) (aged_state k t row.state).probes

-- those of all rows, one row after the other
abbrev pub all_sends : Times → ℕ → List Row → List SentProbe
all_sends k t rows = flat_map (row_sends k t) rows

-- all probes that ageing to t sends, in order
abbrev pub sends : Times → ℕ → List Row → List SentProbe
sends k t rows = in_order (all_sends k t rows)

-- whether a probe is due after this moment
abbrev pub is_after : ℕ → SentProbe → Bool
is_after from sent = nat_lt from sent.due

-- those of them that are due after a moment, in order
abbrev pub sends_after : Times → ℕ → ℕ → List Row → List SentProbe
sends_after k from t rows = in_order (filter (is_after from) (all_sends k t rows))
