-- The probes that ageing sends, row by row.
use Rattle.std.proofs.Common.{◌≡◌, ℕ, ◌+◌, ◌*◌, ◌<◌, ◌≤◌, nat_lt, true, false, List, [], ◌∷◌, ◌++◌, filter, length, append_assoc, append-nil, length-append, refl, sym, ◌∙◌, ap, subst, inl, inr, arith}
use Rattle.std.specs.List.{AllByRecursion}
use Rattle.std.proofs.lemmas.Bool.{cases_Bool, cases_eq, lt-ltb, le-ltb, ltb-true, ltb-false}
use Rattle.std.proofs.lemmas.List.{map-append, length-map}
use Rattle.std.proofs.lemmas.List.Elements.{filter-append}
use Rattle.fcfs_states.specs.declared.answer.Probe.{Probe}
use Rattle.fcfs_states.specs.declared.times.Times.{Times}
use Rattle.fcfs_states.specs.Premises.{AreTimes}
use Rattle.fcfs_states.specs.AgeingLaws.{AreRising, AreRisingAfter}
use Rattle.fcfs_states.specs.Aged.{aged}
use Rattle.fcfs_states.proofs.AgeingLemmas.{Ages-aged, probes_left}
use Rattle.fcfs_states.proofs.AgesLemmas.{Ages-few, Ages-rising, Ages-rising_after, Ages-by, probes_left-most}
use Rattle.mix_rules.specs.declared.state.AddrState.{AddrState}
use Rattle.mix_rules.specs.States.{nobody, has_state}
use Rattle.mix_rules.specs.Ageing.{AgedAddr, aged_state}
use Rattle.mix_rules.proofs.AgeingLemmas.{aged-still, aged-joins-all}
use Rattle.savi_access.specs.declared.row.Row.{Row}
use Rattle.savi_kinds.specs.Orders.{IsRising}
use Rattle.savi_kinds.proofs.Orders.{rising-head, rising-tail}
use Rattle.savi_access.specs.Rows.{address_of, state_in, rows_of}
use Rattle.savi_access.proofs.Parts.{all_weaker, other_address, none_there}
use Rattle.savi_access.specs.declared.sent.SentProbe.{SentProbe}
use Rattle.savi_access.specs.Ages.{aged_row, aged_rows}
use Rattle.savi_access.specs.Sends.{sent_of, row_sends, all_sends, sends, is_after, sends_after, in_order}
use Rattle.savi_access.specs.Probes.{IsAmong, AreInOrder}
use Rattle.savi_access.proofs.Aged.{gone, nobody-aged}
use Rattle.savi_access.proofs.Rows.{head_state}
use Rattle.savi_access.proofs.Orders.{among_front, among_back, among_either, among_left, among_passing, all_among, all_from, all_filter, none_filter, before_by, AreApart, AllApart, apart_joined, apart_filter, among-order, order-among, in_order-is, order-joined, one_order}

-- a probe of an address on its way
abbrev pub sent_at : ℕ → ℕ × Probe → SentProbe
sent_at a p = record { due = p.0; address = record { 0 = a }; probe = p.1 }

among-sent : (sent : SentProbe) (a : ℕ) (probes : List (ℕ × Probe)) → IsAmong sent (sent_of a probes) → (sent.address.0 ≡ a) × IsAmong (sent.due, sent.probe) probes
among-sent sent a [] is = absurd is
among-sent sent a (p ∷ probes) (inl same) = (ap (λ (s : SentProbe). s.address.0) same, inl (ap (λ (s : SentProbe). (s.due, s.probe)) same))
among-sent sent a (p ∷ probes) (inr later) = let rest = among-sent sent a probes later in (rest.0, inr rest.1)

sent-among : (p : ℕ × Probe) (a : ℕ) (probes : List (ℕ × Probe)) → IsAmong p probes → IsAmong (sent_at a p) (sent_of a probes)
sent-among p a [] is = absurd is
sent-among p a (q ∷ probes) (inl same) = inl (ap (sent_at a) same)
sent-among p a (q ∷ probes) (inr later) = inr (sent-among p a probes later)

-- probes of one address are apart, since their moments rise
after-all : (a from n : ℕ) (probes : List (ℕ × Probe)) → from ≤ n → AreRisingAfter n probes → AllByRecursion (λ (sent : SentProbe). from < sent.due) (sent_of a probes)
after-all a from n [] low rising = tt
after-all a from n (p ∷ probes) low rising = (omega (arith, low, rising.0), after-all a from p.0 probes (omega (arith, low, rising.0)) rising.1)

by-all : (a t : ℕ) (probes : List (ℕ × Probe)) → AllByRecursion (λ p. p.0 ≤ t) probes → AllByRecursion (λ (sent : SentProbe). sent.due ≤ t) (sent_of a probes)
by-all a t [] all = tt
by-all a t (p ∷ probes) all = (all.0, by-all a t probes all.1)

apart-after : (a n : ℕ) (probes : List (ℕ × Probe)) → AreRisingAfter n probes → AllApart (sent_of a probes)
apart-after a n [] rising = tt
apart-after a n (p ∷ probes) rising = (
  all_weaker (λ (sent : SentProbe). p.0 < sent.due) (AreApart (sent_at a p)) (λ sent later. inl (before_by (sent_at a p) sent (inl later))) (sent_of a probes) (after-all a p.0 p.0 probes (omega arith) rising.1),
  apart-after a p.0 probes rising.1,
)

apart-rising : (a : ℕ) (probes : List (ℕ × Probe)) → AreRising probes → AllApart (sent_of a probes)
apart-rising a [] rising = tt
apart-rising a (p ∷ probes) rising = (
  all_weaker (λ (sent : SentProbe). p.0 < sent.due) (AreApart (sent_at a p)) (λ sent later. inl (before_by (sent_at a p) sent (inl later))) (sent_of a probes) (after-all a p.0 p.0 probes (omega arith) rising),
  apart-after a p.0 probes rising,
)

pub all_sends-append : (k : Times) (t : ℕ) (xs ys : List Row) → all_sends k t (xs ++ ys) ≡ all_sends k t xs ++ all_sends k t ys
all_sends-append k t [] ys = refl
all_sends-append k t (row ∷ xs) ys = ap (λ rest. row_sends k t row ++ rest) (all_sends-append k t xs ys) ∙ sym (append_assoc (row_sends k t row) (all_sends k t xs) (all_sends k t ys))

module _ (k : Times) (times : AreTimes k) where
  pub few_each : (t : ℕ) (s : AddrState) → length (aged_state k t s).probes ≤ 3
  few_each t s =
      let left : length (aged k t s.fcfs).probes ≤ probes_left s.fcfs = Ages-few k t (Ages-aged k times t s.fcfs) in
      omega (arith, left, probes_left-most s.fcfs)

  pub few_sends : (t : ℕ) (rows : List Row) → length (all_sends k t rows) ≤ 3 * length rows
  few_sends t [] = omega arith
  few_sends t (row ∷ rows) =
      let all : length (all_sends k t (row ∷ rows)) ≡ length (row_sends k t row) + length (all_sends k t rows) = length-append (row_sends k t row) (all_sends k t rows) in
      let own : length (row_sends k t row) ≡ length (aged_state k t row.state).probes = length-map (aged_state k t row.state).probes (sent_at (address_of row)) in
      omega (arith, all, own, few_each t row.state, few_sends t rows)

  nobody-none : (t : ℕ) → (aged_state k t nobody).probes ≡ []
  nobody-none t = ap (λ (s : AgedAddr). s.probes) (nobody-aged k times t)

  -- what is sent is sent by the states of the addresses
  pub all-among : (t : ℕ) (rows : List Row) (sent : SentProbe) → IsRising address_of rows → IsAmong sent (all_sends k t rows) → IsAmong (sent.due, sent.probe) (aged_state k t (state_in rows sent.address.0)).probes
  all-among t [] sent rising is = absurd is
  all-among t (row ∷ rows) sent rising is =
      let a : ℕ = sent.address.0 in
      elim (among_either sent (row_sends k t row) (all_sends k t rows) is) [
        | inl own ↦
            let mine : (sent.address.0 ≡ address_of row) × IsAmong (sent.due, sent.probe) (aged_state k t row.state).probes = among-sent sent (address_of row) (aged_state k t row.state).probes own in
            subst (λ s. IsAmong (sent.due, sent.probe) (aged_state k t s).probes) (sym (head_state row rows) ∙ ap (state_in (row ∷ rows)) (sym mine.0)) mine.1
        | inr later ↦
            let before : IsAmong (sent.due, sent.probe) (aged_state k t (state_in rows a)).probes = all-among t rows sent (rising-tail address_of row rows rising) later in
            elim (cases_eq (address_of row) a) [
              | inl here ↦
                  let higher : AllByRecursion (λ later. a < address_of later) rows = subst (λ n. AllByRecursion (λ later. n < address_of later) rows) here (rising-head address_of row rows rising) in
                  absurd (subst (λ probes. IsAmong (sent.due, sent.probe) probes) (ap (λ s. (aged_state k t s).probes) (none_there a rows higher) ∙ nobody-none t) before)
              | inr apart ↦ rw (other_address (address_of row) a apart) before
            ]
      ]

  pub among-all : (t : ℕ) (rows : List Row) (sent : SentProbe) → IsAmong (sent.due, sent.probe) (aged_state k t (state_in rows sent.address.0)).probes → IsAmong sent (all_sends k t rows)
  among-all t [] sent is = subst (λ probes. IsAmong (sent.due, sent.probe) probes) (nobody-none t) is
  among-all t (row ∷ rows) sent is =
      elim (cases_eq (address_of row) sent.address.0) [
        | inl here ↦
            let state : state_in (row ∷ rows) sent.address.0 ≡ row.state = ap (state_in (row ∷ rows)) (sym here) ∙ head_state row rows in
            let mine : IsAmong (sent.due, sent.probe) (aged_state k t row.state).probes = subst (λ s. IsAmong (sent.due, sent.probe) (aged_state k t s).probes) state is in
            let own : IsAmong (sent_at (address_of row) (sent.due, sent.probe)) (row_sends k t row) = sent-among (sent.due, sent.probe) (address_of row) (aged_state k t row.state).probes mine in
            among_front sent (row_sends k t row) (all_sends k t rows) (subst (λ n. IsAmong (sent_at n (sent.due, sent.probe)) (row_sends k t row)) here own)
        | inr apart ↦
            let later : IsAmong (sent.due, sent.probe) (aged_state k t (state_in rows sent.address.0)).probes = rw (other_address (address_of row) sent.address.0 apart) at is in
            among_back sent (row_sends k t row) (all_sends k t rows) (among-all t rows sent later)
      ]

  -- all are apart
  address-all : (t a : ℕ) (rows : List Row) → AllByRecursion (λ row. a < address_of row) rows → AllByRecursion (λ (sent : SentProbe). a < sent.address.0) (all_sends k t rows)
  address-all t a rows higher = all_from (λ (sent : SentProbe). a < sent.address.0) (all_sends k t rows) (λ sent is. above rows higher sent is)
    where
      above : (rows : List Row) → AllByRecursion (λ row. a < address_of row) rows → (sent : SentProbe) → IsAmong sent (all_sends k t rows) → a < sent.address.0
      above [] higher sent is = absurd is
      above (row ∷ rows) higher sent is =
          elim (among_either sent (row_sends k t row) (all_sends k t rows) is) [
            | inl own ↦ subst (λ n. a < n) (sym (among-sent sent (address_of row) (aged_state k t row.state).probes own).0) higher.0
            | inr later ↦ above rows higher.1 sent later
          ]

  two_apart : (x y : SentProbe) → x.address.0 < y.address.0 → AreApart x y
  two_apart x y lower =
      elim (cases_eq x.due y.due) [
        | inl same ↦ inl (before_by x y (inr (same, lower)))
        | inr other ↦
            elim (cases_Bool (nat_lt x.due y.due)) [
              | inl first ↦ inl (before_by x y (inl (ltb-true x.due y.due first)))
              | inr later ↦ inr (before_by y x (inl (omega (arith, other, ltb-false x.due y.due later))))
            ]
      ]

  pub all-apart : (t : ℕ) (rows : List Row) → IsRising address_of rows → AllApart (all_sends k t rows)
  all-apart t [] rising = tt
  all-apart t (row ∷ rows) rising =
      let higher : AllByRecursion (λ (sent : SentProbe). address_of row < sent.address.0) (all_sends k t rows) = address-all t (address_of row) rows (rising-head address_of row rows rising) in
      apart_joined (row_sends k t row) (all_sends k t rows) (apart-rising (address_of row) (aged_state k t row.state).probes (Ages-rising k t times (Ages-aged k times t row.state.fcfs))) (all-apart t rows (rising-tail address_of row rows rising))
      (all_from (λ x. AllByRecursion (AreApart x) (all_sends k t rows)) (row_sends k t row)
      (λ x is.
      let mine : x.address.0 ≡ address_of row = (among-sent x (address_of row) (aged_state k t row.state).probes is).0 in
      all_weaker (λ (sent : SentProbe). address_of row < sent.address.0) (AreApart x) (λ y above. two_apart x y (omega (arith, mine, above))) (all_sends k t rows) higher))

  pub sends_after-order : (from t : ℕ) (rows : List Row) → IsRising address_of rows → AreInOrder (sends_after k from t rows)
  sends_after-order from t rows rising = in_order-is (filter (is_after from) (all_sends k t rows)) (apart_filter (is_after from) (all_sends k t rows) (all-apart t rows rising))

  pub among-after : (from t : ℕ) (rows : List Row) (sent : SentProbe) → IsRising address_of rows → IsAmong sent (sends_after k from t rows) → (from < sent.due) × IsAmong (sent.due, sent.probe) (aged_state k t (state_in rows sent.address.0)).probes
  among-after from t rows sent rising is =
      let left : (is_after from sent ≡ true) × IsAmong sent (all_sends k t rows) = among_left (is_after from) sent (all_sends k t rows) (among-order sent (filter (is_after from) (all_sends k t rows)) is) in
      (ltb-true from sent.due left.0, all-among t rows sent rising left.1)

  pub after-among : (from t : ℕ) (rows : List Row) (sent : SentProbe) → from < sent.due → IsAmong (sent.due, sent.probe) (aged_state k t (state_in rows sent.address.0)).probes → IsAmong sent (sends_after k from t rows)
  after-among from t rows sent late is =
      order-among sent (filter (is_after from) (all_sends k t rows)) (among_passing (is_after from) sent (all_sends k t rows) (lt-ltb from sent.due late) (among-all t rows sent is))

  -- what is due after a moment is what the states of that moment send
  row-late : (from t : ℕ) (row : Row) → from ≤ t → filter (is_after from) (row_sends k t row) ≡ all_sends k t (aged_row k from row)
  row-late from t row after =
      let a : ℕ = address_of row in
      let s : AddrState = row.state in
      let mid : AddrState = (aged_state k from s).state in
      let early : List (ℕ × Probe) = (aged_state k from s).probes in
      let late : List (ℕ × Probe) = (aged_state k t mid).probes in
      let joins : (aged_state k t s).probes ≡ early ++ late = ap (λ (x : AgedAddr). x.probes) (aged-joins-all k times from t after s) in
      let parts : row_sends k t row ≡ sent_of a early ++ sent_of a late = ap (sent_of a) joins ∙ map-append (sent_at a) early late in
      let by : AllByRecursion (λ (sent : SentProbe). sent.due ≤ from) (sent_of a early) = by-all a from early (Ages-by k from (Ages-aged k times from s.fcfs)) in
      let none : filter (is_after from) (sent_of a early) ≡ [] =
      none_filter (is_after from) (sent_of a early) (all_weaker (λ (sent : SentProbe). sent.due ≤ from) (λ sent. is_after from sent ≡ false) (λ sent low. le-ltb from sent.due low) (sent_of a early) by) in
      let above : AllByRecursion (λ (sent : SentProbe). from < sent.due) (sent_of a late) =
      after-all a from from late (omega arith) (Ages-rising_after k t times (Ages-aged k times t mid.fcfs) from (aged-still k times from s).rested) in
      let all : filter (is_after from) (sent_of a late) ≡ sent_of a late =
      all_filter (is_after from) (sent_of a late) (all_weaker (λ (sent : SentProbe). from < sent.due) (λ sent. is_after from sent ≡ true) (λ sent high. lt-ltb from sent.due high) (sent_of a late) above) in
      ap (filter (is_after from)) parts
      ∙ filter-append (is_after from) (sent_of a early) (sent_of a late)
      ∙ ap (λ front. front ++ filter (is_after from) (sent_of a late)) none
      ∙ all
      ∙ sym (own a mid)
    where
      own : (a : ℕ) (state : AddrState) → all_sends k t (rows_of a state) ≡ sent_of a (aged_state k t state).probes
      own a state =
          elim (cases_Bool (has_state state)) [
            | inl stands ↦ rw stands (append-nil (sent_of a (aged_state k t state).probes))
            | inr not ↦ rw not (sym (ap (sent_of a) (ap (λ s. (aged_state k t s).probes) (gone state not) ∙ nobody-none t)))
          ]

  all-late : (from t : ℕ) (rows : List Row) → from ≤ t → filter (is_after from) (all_sends k t rows) ≡ all_sends k t (aged_rows k from rows)
  all-late from t [] after = refl
  all-late from t (row ∷ rows) after =
      filter-append (is_after from) (row_sends k t row) (all_sends k t rows)
      ∙ ap (λ front. front ++ filter (is_after from) (all_sends k t rows)) (row-late from t row after)
      ∙ ap (λ back. all_sends k t (aged_row k from row) ++ back) (all-late from t rows after)
      ∙ sym (all_sends-append k t (aged_row k from row) (aged_rows k from rows))

  pub sends-late : (from t : ℕ) (rows : List Row) → from ≤ t → sends_after k from t rows ≡ sends k t (aged_rows k from rows)
  sends-late from t rows after = ap in_order (all-late from t rows after)

  -- what is due from one moment to a third is what is due to the second, and then what is due from there
  pub sends-joined : (from t u : ℕ) (rows : List Row) → from ≤ t → t ≤ u → IsRising address_of rows → sends_after k from u rows ≡ sends_after k from t rows ++ sends_after k t u rows
  sends-joined from t u rows one two rising =
      one_order (sends_after k from u rows) (sends_after k from t rows ++ sends_after k t u rows) (sends_after-order from u rows rising)
      (order-joined (sends_after k from t rows) (sends_after k t u rows) (sends_after-order from t rows rising) (sends_after-order t u rows rising) (λ x y is are. before_by x y (inl (let low : x.due ≤ t = due_by x is in omega (arith, low, (among-after t u rows y rising are).0)))))
      to
      back
    where
      joins : (a : ℕ) → (aged_state k u (state_in rows a)).probes ≡ (aged_state k t (state_in rows a)).probes ++ (aged_state k u (aged_state k t (state_in rows a)).state).probes
      joins a = ap (λ (x : AgedAddr). x.probes) (aged-joins-all k times t u two (state_in rows a))

      due_by : (x : SentProbe) → IsAmong x (sends_after k from t rows) → x.due ≤ t
      due_by x is = all_among (λ p. p.0 ≤ t) (x.due, x.probe) (aged_state k t (state_in rows x.address.0)).probes (Ages-by k t (Ages-aged k times t (state_in rows x.address.0).fcfs)) (among-after from t rows x rising is).1

      to : (z : SentProbe) → IsAmong z (sends_after k from u rows) → IsAmong z (sends_after k from t rows ++ sends_after k t u rows)
      to z is =
          let a : ℕ = z.address.0 in
          let told : (from < z.due) × IsAmong (z.due, z.probe) (aged_state k u (state_in rows a)).probes = among-after from u rows z rising is in
          let mid : AddrState = (aged_state k t (state_in rows a)).state in
          elim (among_either (z.due, z.probe) (aged_state k t (state_in rows a)).probes (aged_state k u mid).probes (subst (λ probes. IsAmong (z.due, z.probe) probes) (joins a) told.1)) [
            | inl early ↦ among_front z (sends_after k from t rows) (sends_after k t u rows) (after-among from t rows z told.0 early)
            | inr late ↦
                let sent : IsAmong (sent_at a (z.due, z.probe)) (sent_of a (aged_state k u mid).probes) = sent-among (z.due, z.probe) a (aged_state k u mid).probes late in
                let above : t < z.due =
                all_among (λ (s : SentProbe). t < s.due) (sent_at a (z.due, z.probe)) (sent_of a (aged_state k u mid).probes)
                (after-all a t t (aged_state k u mid).probes (omega arith) (Ages-rising_after k u times (Ages-aged k times u mid.fcfs) t (aged-still k times t (state_in rows a)).rested)) sent in
                among_back z (sends_after k from t rows) (sends_after k t u rows) (after-among t u rows z above told.1)
          ]

      back : (z : SentProbe) → IsAmong z (sends_after k from t rows ++ sends_after k t u rows) → IsAmong z (sends_after k from u rows)
      back z is =
          elim (among_either z (sends_after k from t rows) (sends_after k t u rows) is) [
            | inl early ↦
                let told = among-after from t rows z rising early in
                after-among from u rows z told.0 (subst (λ probes. IsAmong (z.due, z.probe) probes) (sym (joins z.address.0)) (among_front (z.due, z.probe) (aged_state k t (state_in rows z.address.0)).probes (aged_state k u (aged_state k t (state_in rows z.address.0)).state).probes told.1))
            | inr late ↦
                let told = among-after t u rows z rising late in
                after-among from u rows z (omega (arith, one, told.0)) told.1
          ]
