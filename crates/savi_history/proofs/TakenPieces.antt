-- What a sink took of the pieces of an output.
use Rattle.std.proofs.Common.{◌≡◌, ℕ, suc, zero, ◌+◌, ◌-◌, ◌<◌, ◌≤◌, nat_lt, true, false, List, [], ◌∷◌, ◌++◌, map, take, drop, get_or, length, refl, sym, ap, ◌∙◌, arith, append_assoc, ◌⊎◌, inl, inr, Option, Some, None}
use Rattle.std.specs.List.{concat}
use Rattle.std.proofs.lemmas.List.{length-map, map-append}
use Rattle.std.proofs.lemmas.List.Folds.{concat-append}
use Rattle.std.proofs.Math.Seq.{take-append-add}
use Rattle.std.proofs.lemmas.Bool.Decides.{nat_tests}
use Rattle.savi_kinds.specs.declared.entry.How.{How}
use Rattle.savi_kinds.specs.declared.entry.How.TheVariants as hows
use Rattle.savi_ends.specs.Octets.{behind, IsFront}
use Rattle.pcap_io.specs.Captures.{header_text, record_text, records_text, capture_text}
use Rattle.savi_history.specs.Queues.{Item}
use Rattle.savi_history.specs.Outputs.{sent_items}
use Rattle.savi_history.specs.Replay.{is_stopped}
use Rattle.savi_history.specs.PortOutputs.{pieces, TookPieces, FitsOutput}

records_are : (items : List Item) → concat (map (λ (item : Item). record_text item.moment item.octets) items) ≡ records_text (sent_items items)
records_are [] = refl
records_are (item ∷ items) = ap (λ (l : List ℕ). record_text item.moment item.octets ++ l) (records_are items)

-- the pieces are the capture
pub pieces_are : (items : List Item) → concat (pieces items) ≡ capture_text (sent_items items)
pieces_are items = ap (λ (l : List ℕ). header_text ++ l) (records_are items)

pub length-pieces : (items : List Item) → length (pieces items) ≡ suc (length items)
length-pieces items = ap (λ (n : ℕ). suc n) (length-map items (λ (item : Item). record_text item.moment item.octets))

pieces_more : (front more : List Item) → pieces (front ++ more) ≡ pieces front ++ map (λ (item : Item). record_text item.moment item.octets) more
pieces_more front more = ap (λ (l : List (List ℕ)). header_text ∷ l) (map-append (λ (item : Item). record_text item.moment item.octets) front more)

-- the pieces in front of one, that one, and those behind it
split_at : (pieces : List (List ℕ)) (k : ℕ) → k < length pieces → concat pieces ≡ concat (take k pieces) ++ (get_or pieces k [] ++ concat (drop (suc k) pieces))
split_at [] k inside = absurd (omega arith)
split_at (p ∷ ps) zero inside = refl
split_at (p ∷ ps) (suc k) inside =
    ap (λ (l : List ℕ). p ++ l) (split_at ps k (omega arith)) ∙ sym (append_assoc p (concat (take k ps)) (get_or ps k [] ++ concat (drop (suc k) ps)))

-- Of an output, the part that is sure where a write failed: nothing, or the pieces of the items before these more.
pub record IsSure (stop : Option ℕ) (items : List Item) (text : List ℕ) : Type 0 where
  pub front : List Item
  pub more : List Item
  pub all : items ≡ front ++ more
  pub text_is : text ≡ capture_text (sent_items front)
  pub taken : is_stopped stop (suc (length front)) ≡ false

-- How an output stands with what was sent, where its sink stops so.
abbrev pub Fine : Option ℕ → Option How → List Item → List ℕ → Type 0
Fine stop None items text = is_stopped stop (suc (length items)) ≡ false
Fine stop (Some hows.End) items text = is_stopped stop (suc (length items)) ≡ false
Fine stop (Some hows.Failed) items text = (is_stopped stop (suc (length items)) ≡ true) × ((text ≡ []) ⊎ IsSure stop items text)
Fine stop (Some hows.Quit) items text = ⊥
Fine stop (Some (hows.Malformed at)) items text = ⊥
Fine stop (Some (hows.Overlong at)) items text = ⊥
Fine stop (Some hows.Unwritten) items text = ⊥
Fine stop (Some hows.Paused) items text = is_stopped stop (suc (length items)) ≡ false

-- a sink that didn't stop took all
took_all : (stop : Option ℕ) (before after : Option (List ℕ)) (items : List Item) → is_stopped stop (suc (length items)) ≡ false → TookPieces before after (pieces items) stop → after ≡ behind before (capture_text (sent_items items))
took_all None before after items running took = took ∙ ap (λ (l : List ℕ). behind before l) (pieces_are items)
took_all (Some whole) before after items running took =
    let size = length-pieces items in
    let below : whole < suc (length items) = omega (arith, took.0, size) in
    let stopped : nat_lt whole (suc (length items)) ≡ true = grind (arith, nat_tests) in
    cc

front_sure : (whole : ℕ) (items : List Item) (text behind_it : List ℕ) → (text ≡ []) ⊎ IsSure (Some whole) items text → IsFront text (concat (take whole (pieces items)) ++ behind_it)
front_sure whole items text behind_it (inl none) = (concat (take whole (pieces items)) ++ behind_it, rw none refl)
front_sure whole items text behind_it (inr sure) =
    let records : List (List ℕ) = map (λ (item : Item). record_text item.moment item.octets) sure.more in
    let size = length-pieces sure.front in
    let taken : nat_lt whole (suc (length sure.front)) ≡ false = sure.taken in
    let reached : suc (length sure.front) ≤ whole = grind (arith, nat_tests) in
    let k = whole - suc (length sure.front) in
    let count : whole ≡ length (pieces sure.front) + k = omega (arith, size, reached) in
    let parts : take whole (pieces items) ≡ pieces sure.front ++ take k records =
    ap (λ (n : ℕ). take n (pieces items)) count
    ∙ ap (λ (l : List (List ℕ)). take (length (pieces sure.front) + k) l) (ap (λ (l : List Item). pieces l) sure.all ∙ pieces_more sure.front sure.more)
    ∙ take-append-add (pieces sure.front) records k in (
      concat (take k records) ++ behind_it,
      ap (λ (l : List (List ℕ)). concat l ++ behind_it) parts
          ∙ ap (λ (l : List ℕ). l ++ behind_it) (concat-append (pieces sure.front) (take k records))
          ∙ append_assoc (concat (pieces sure.front)) (concat (take k records)) behind_it
          ∙ ap (λ (l : List ℕ). l ++ (concat (take k records) ++ behind_it)) (pieces_are sure.front ∙ sym sure.text_is),
    )

-- a sink that stopped took a front, with all that is sure
took_front : (stop : Option ℕ) (before after : Option (List ℕ)) (items : List Item) (text : List ℕ) → Fine stop (Some hows.Failed) items text → TookPieces before after (pieces items) stop
    → FitsOutput before after (capture_text (sent_items items)) text (Some hows.Failed)
took_front None before after items text fine took = cc (fine.0)
took_front (Some whole) before after items text fine took =
    let part : List ℕ = took.1 in
    let rest = took.2.0 in
    let octets : List ℕ = concat (take whole (pieces items)) ++ part in
    let last = concat (drop (suc whole) (pieces items)) in (
      octets,
      took.3,
      (
        rest ++ last,
        sym (pieces_are items)
            ∙ split_at (pieces items) whole took.0
            ∙ ap (λ (l : List ℕ). concat (take whole (pieces items)) ++ (l ++ last)) took.2.1
            ∙ ap (λ (l : List ℕ). concat (take whole (pieces items)) ++ l) (append_assoc part rest last)
            ∙ sym (append_assoc (concat (take whole (pieces items))) part (rest ++ last)),
      ),
      front_sure whole items text part fine.1,
    )

-- What was taken fits how the output ended.
pub fits_taken : (stop : Option ℕ) (how : How) (before after : Option (List ℕ)) (items : List Item) (text : List ℕ) → Fine stop (Some how) items text → TookPieces before after (pieces items) stop
    → FitsOutput before after (capture_text (sent_items items)) text (Some how)
fits_taken stop hows.End before after items text fine took = took_all stop before after items fine took
fits_taken stop hows.Failed before after items text fine took = took_front stop before after items text fine took
fits_taken stop hows.Quit before after items text fine took = fine
fits_taken stop (hows.Malformed at) before after items text fine took = fine
fits_taken stop (hows.Overlong at) before after items text fine took = fine
fits_taken stop hows.Unwritten before after items text fine took = fine
fits_taken stop hows.Paused before after items text fine took = took_all stop before after items fine took
