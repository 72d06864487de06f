-- What a source gave for a header.
use Rattle.std.proofs.Common.{◌≡◌, ◌+◌, ◌-◌, ◌^◌, ◌≤◌, ℕ, List, [], ◌++◌, length, take, sym, ap, ◌∙◌, arith, Option, Some, None, length-drop, length-take}
use Rattle.std.proofs.lemmas.List.{append_cancel_right}
use Rattle.savi_kinds.specs.declared.plan.Plan.{Plan}
use Rattle.savi_ends.specs.Octets.{in_front}
use Rattle.savi_ends.proofs.Octets.{in_front_again}
use Rattle.hist_store.specs.declared.version.Version.{Version}
use Rattle.journal_check.specs.declared.lines.Lines.{Lines}
use Rattle.journal_check.specs.Seen.{seen_to}
use Rattle.journal_check.specs.Answers.{HasReadHeader}
use Rattle.journal_check.specs.Headers.{IsPlan, head_text}
use Rattle.journal_check.specs.Pieces.{HasPassed, held_octets, seen_if_told, to_come, octets_ahead}
use Rattle.journal_check.proofs.FeedPlaces.{in_front_none}
use Rattle.journal_check.proofs.SeenTexts.{seen_append}

few_held : (lines : Lines) → length (held_octets lines) ≤ 16384
few_held lines =
    let part = length-take lines.end lines.piece in
    let room = lines.room in
    omega (arith, length-drop lines.at (take lines.end lines.piece), part, room)

abbrev of_some : List ℕ → Option (List ℕ) → List ℕ
of_some other None = other
of_some other (Some octets) = octets

-- a text of which all is seen that was passed
passed_at : (place later : ℕ) (passed text : List ℕ) (whole ahead : Option (List ℕ)) → whole ≡ in_front passed ahead → later + length passed ≡ place → seen_if_told place whole ≡ in_front text (seen_if_told later ahead)
    → whole ≡ in_front text ahead
passed_at place later passed text whole None is count told = is
passed_at place later passed text whole (Some rest) is count told =
    let behind : place - length passed ≡ later = omega (arith, count) in
    let one : seen_to (passed ++ rest) place ≡ passed ++ seen_to rest later =
    seen_append passed rest place (omega (arith, count)) ∙ ap (λ (k : ℕ). passed ++ seen_to rest k) behind in
    let both : seen_to (passed ++ rest) place ≡ text ++ seen_to rest later = ap (of_some []) (sym (ap (seen_if_told place) is) ∙ told) in
    is ∙ ap (λ (front : List ℕ). in_front front (Some rest)) (append_cancel_right passed text (seen_to rest later) (sym one ∙ both))

pub read_text : (lines later : Lines) (before after : Option (List ℕ)) (text : List ℕ) → to_come lines before ≡ in_front text (to_come later after) → HasPassed lines before later after
    → octets_ahead lines before ≡ in_front text (octets_ahead later after)
read_text lines later before after text told passed =
    let count = passed.2 in
    let placed = later.placed in
    passed_at (2 ^ 62 - lines.place) (2 ^ 62 - later.place) passed.0 text (octets_ahead lines before) (octets_ahead later after) passed.1 (omega (arith, count, placed)) told

pub header_read : (version : Version) (plan : Plan) (lines later : Lines) (before mid after : Option (List ℕ)) → after ≡ mid → IsPlan plan → held_octets lines ≡ []
    → to_come lines before ≡ in_front (head_text version plan) (to_come later mid) → HasPassed lines before later mid → HasReadHeader before after
header_read version plan lines later before mid after same is_plan none told passed =
    let text = head_text version plan in (
      version,
      plan,
      held_octets later,
      is_plan,
      few_held later,
      sym (ap (λ (l : List ℕ). in_front l before) none ∙ in_front_none before) ∙ read_text lines later before mid text told passed
          ∙ in_front_again text (held_octets later) mid ∙ ap (in_front (text ++ held_octets later)) (sym same),
    )

-- of a text of which nothing was read all is seen that there is up to the place
pub start_seen : (lines : Lines) (left : Option (List ℕ)) → held_octets lines ≡ [] → lines.place ≡ 0 → to_come lines left ≡ seen_if_told (2 ^ 62) left
start_seen lines left none start =
    let all : 2 ^ 62 - lines.place ≡ 2 ^ 62 = omega (arith, start) in
    ap (λ (n : ℕ). seen_if_told n (octets_ahead lines left)) all ∙ ap (seen_if_told (2 ^ 62)) (ap (λ (l : List ℕ). in_front l left) none ∙ in_front_none left)
