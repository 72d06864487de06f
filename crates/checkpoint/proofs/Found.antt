-- Which line of a base a text is, by where it was found.
use Rattle.std.proofs.Common.{ℕ, ◌≡◌, ◌-◌, ◌<◌, ◌≤◌, false, List, length, map, Some, sym, ap, ◌∙◌, arith}
use Rattle.std.specs.Prelude.{slice_get}
use Rattle.std.proofs.lemmas.List.{length-map}
use Rattle.savi_kinds.specs.declared.plan.Plan.{Plan}
use Rattle.savi_kinds.specs.declared.entry.How.{How}
use Rattle.bridge_fdb.specs.declared.station.Station.{Station}
use Rattle.dhcp_states.specs.declared.request.Request.{Request}
use Rattle.hist_store.specs.TextOfLines.{joined}
use Rattle.checkpoint.specs.declared.part.Part.{Part}
use Rattle.checkpoint.specs.Bases.{Base}
use Rattle.checkpoint.specs.Columns.{Columns, kept_base}
use Rattle.checkpoint.specs.Orders.{requests_in_order}
use Rattle.checkpoint.specs.Parts.{part_line}
use Rattle.checkpoint.specs.BaseLines.{HasNothingElsewhere, request_line, station_base_line, ended_line, head_lines, column_lines, base_texts}
use Rattle.checkpoint.specs.Kept.{IsKept}
use Rattle.checkpoint.proofs.Places.{front, behind}
use Rattle.checkpoint.proofs.Placing.{as_many}
use Rattle.checkpoint.proofs.Lines.{texts, all_texts, kept_texts, text_of, length_texts, in_first, in_second, in_third, in_fourth, length_four, texts_behind_head, length_head}

module _ (plan : Plan) (columns : Columns) (parts : List Part) (places : List ℕ)
    (kept : IsKept columns.rows parts columns.requests places columns.stations) (only : HasNothingElsewhere plan (kept_base columns)) where
  -- the lines of the columns
  abbrev lines : List (List ℕ)
  lines = map joined (column_lines plan (kept_base columns))

  found : (i : ℕ) (text line : List ℕ) → text ≡ line → slice_get (all_texts plan parts (requests_in_order columns.requests) columns.stations columns.ended) i ≡ Some line → Some text ≡ slice_get lines i
  found i text line is at = ap Some is ∙ sym at ∙ ap (λ (l : List (List ℕ)). slice_get l i) (sym (kept_texts plan columns parts places kept only))

  pub part_found : (i : ℕ) (part : Part) (text : List ℕ) → slice_get parts i ≡ Some part → text ≡ joined (part_line part) → Some text ≡ slice_get lines i
  part_found i part text at is =
      found i text (joined (part_line part)) is
      (in_first (texts part_line parts) (texts request_line (requests_in_order columns.requests)) (texts station_base_line columns.stations) (texts (ended_line plan) columns.ended)
      i (joined (part_line part)) (text_of part_line parts i part at))

  pub request_found : (i : ℕ) (one : ℕ × Request) (text : List ℕ) → length parts ≤ i → slice_get (requests_in_order columns.requests) (i - length parts) ≡ Some one → text ≡ joined (request_line one) → Some text ≡ slice_get lines i
  request_found i one text past at is =
      let a : length (texts part_line parts) ≡ length parts = length_texts part_line parts in
      found i text (joined (request_line one)) is
      (in_second (texts part_line parts) (texts request_line (requests_in_order columns.requests)) (texts station_base_line columns.stations) (texts (ended_line plan) columns.ended)
      i (joined (request_line one)) (omega (arith, a, past))
      (ap (λ (n : ℕ). slice_get (texts request_line (requests_in_order columns.requests)) (i - n)) a ∙ text_of request_line (requests_in_order columns.requests) (i - length parts) one at))

  -- as many texts of requests as places
  request_texts : length (texts request_line (requests_in_order columns.requests)) ≡ length places
  request_texts = length_texts request_line (requests_in_order columns.requests) ∙ sym (as_many columns.requests places kept.ordered)

  pub station_found : (i : ℕ) (one : ℕ × Station) (text : List ℕ) → length parts ≤ i → length places ≤ i - length parts → slice_get columns.stations (i - length parts - length places) ≡ Some one → text ≡ joined (station_base_line one) → Some text ≡ slice_get lines i
  station_found i one text past second at is =
      let a : length (texts part_line parts) ≡ length parts = length_texts part_line parts in
      let place : i - length (texts part_line parts) - length (texts request_line (requests_in_order columns.requests)) ≡ i - length parts - length places = omega (arith, a, request_texts) in
      found i text (joined (station_base_line one)) is
      (in_third (texts part_line parts) (texts request_line (requests_in_order columns.requests)) (texts station_base_line columns.stations) (texts (ended_line plan) columns.ended)
      i (joined (station_base_line one)) (omega (arith, a, past)) (omega (arith, a, request_texts, second))
      (ap (slice_get (texts station_base_line columns.stations)) place ∙ text_of station_base_line columns.stations (i - length parts - length places) one at))

  pub ended_found : (i : ℕ) (one : ℕ × How) (text : List ℕ) → length parts ≤ i → length places ≤ i - length parts → length columns.stations ≤ i - length parts - length places
      → slice_get columns.ended (i - length parts - length places - length columns.stations) ≡ Some one → text ≡ joined (ended_line plan one) → Some text ≡ slice_get lines i
  ended_found i one text past second third at is =
      let a : length (texts part_line parts) ≡ length parts = length_texts part_line parts in
      let c : length (texts station_base_line columns.stations) ≡ length columns.stations = length_texts station_base_line columns.stations in
      let place : i - length (texts part_line parts) - length (texts request_line (requests_in_order columns.requests)) - length (texts station_base_line columns.stations) ≡ i - length parts - length places - length columns.stations = omega (arith, a, request_texts, c) in
      found i text (joined (ended_line plan one)) is
      (in_fourth (texts part_line parts) (texts request_line (requests_in_order columns.requests)) (texts station_base_line columns.stations) (texts (ended_line plan) columns.ended)
      i (joined (ended_line plan one)) (omega (arith, a, past)) (omega (arith, a, request_texts, second)) (omega (arith, a, request_texts, c, third))
      (ap (slice_get (texts (ended_line plan) columns.ended)) place ∙ text_of (ended_line plan) columns.ended (i - length parts - length places - length columns.stations) one at))

  -- behind the last pass there is nothing
  pub none_found : (i : ℕ) → length parts ≤ i → length places ≤ i - length parts → length columns.stations ≤ i - length parts - length places
      → length columns.ended ≤ i - length parts - length places - length columns.stations → length (column_lines plan (kept_base columns)) ≤ i
  none_found i past second third fourth =
      let a : length (texts part_line parts) ≡ length parts = length_texts part_line parts in
      let c : length (texts station_base_line columns.stations) ≡ length columns.stations = length_texts station_base_line columns.stations in
      let d : length (texts (ended_line plan) columns.ended) ≡ length columns.ended = length_texts (ended_line plan) columns.ended in
      let all : length lines ≡ length (column_lines plan (kept_base columns)) = length-map (column_lines plan (kept_base columns)) joined in
      let told : length lines ≡ length (all_texts plan parts (requests_in_order columns.requests) columns.stations columns.ended) = ap length (kept_texts plan columns parts places kept only) in
      omega (
        arith,
        all,
        told,
        a,
        request_texts,
        c,
        d,
        past,
        second,
        third,
        fourth,
        length_four (texts part_line parts) (texts request_line (requests_in_order columns.requests)) (texts station_base_line columns.stations) (texts (ended_line plan) columns.ended),
      )

module _ (plan : Plan) (base : Base) where
  pub head_found : (i : ℕ) (text : List ℕ) → base.is_start ≡ false → i < 29 → Some text ≡ slice_get (map joined (head_lines base)) i → Some text ≡ slice_get (base_texts plan base) i
  head_found i text going within is =
      is ∙ sym (front (map joined (head_lines base)) (map joined (column_lines plan base)) i (omega (arith, length_head base, within)))
      ∙ ap (λ (l : List (List ℕ)). slice_get l i) (sym (texts_behind_head plan base going))

  pub column_found : (i : ℕ) (text : List ℕ) → base.is_start ≡ false → 29 ≤ i → Some text ≡ slice_get (map joined (column_lines plan base)) (i - 29) → Some text ≡ slice_get (base_texts plan base) i
  column_found i text going past is =
      is ∙ ap (λ (n : ℕ). slice_get (map joined (column_lines plan base)) (i - n)) (sym (length_head base))
      ∙ sym (behind (map joined (head_lines base)) (map joined (column_lines plan base)) i (omega (arith, length_head base, past)))
      ∙ ap (λ (l : List (List ℕ)). slice_get l i) (sym (texts_behind_head plan base going))
