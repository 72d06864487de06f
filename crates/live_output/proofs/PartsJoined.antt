-- An output is its beginning and the records of its items, and that of more items goes on behind that of the first ones.
use Rattle.std.proofs.Common.{◌≡◌, ℕ, zero, suc, ◌+◌, ◌<◌, List, [], ◌∷◌, ◌++◌, length, take, drop, map, get_or, refl, ap, sym, ◌∙◌, append_assoc, append-nil, Some, slice_get}
use Rattle.std.proofs.lemmas.List.{take_more, take-append-drop}
use Rattle.savi_kinds.specs.declared.plan.Format.{Format}
use Rattle.savi_kinds.specs.declared.plan.Format.TheVariants.{Pcap, Stream}
use Rattle.pcap_io.specs.Captures.{records_text, header_text}
use Rattle.pcap_io.specs.Captures as captures
use Rattle.stream_io.specs.Records.{stream_text, record_text}
use Rattle.savi_history.specs.Outputs.{sent_items}
use Rattle.savi_history.specs.Queues.{Item}
use Rattle.live_session.specs.LiveOutputs.{output_text}
use Rattle.live_output.specs.OutputParts.{beginning, record_of, records_of}

pub records_behind : (format : Format) (a b : List Item) → records_of format (a ++ b) ≡ records_of format a ++ records_of format b
records_behind format [] b = refl
records_behind format (item ∷ a) b =
    ap (λ (t : List ℕ). record_of format item ++ t) (records_behind format a b)
    ∙ sym (append_assoc (record_of format item) (records_of format a) (records_of format b))

capture_records : (items : List Item) → records_text (sent_items items) ≡ records_of Pcap items
capture_records [] = refl
capture_records (item ∷ items) = ap (λ (t : List ℕ). captures.record_text item.moment item.octets ++ t) (capture_records items)

stream_records : (items : List Item) → stream_text (map (λ item. item.octets) items) ≡ records_of Stream items
stream_records [] = refl
stream_records (item ∷ items) = ap (λ (t : List ℕ). record_text item.octets ++ t) (stream_records items)

output_is : (format : Format) (items : List Item) → output_text format items ≡ beginning format ++ records_of format items
output_is Pcap items = ap (λ (t : List ℕ). header_text ++ t) (capture_records items)
output_is Stream items = stream_records items

-- nothing was sent yet
pub output_begins : (format : Format) → output_text format [] ≡ beginning format
output_begins format = output_is format [] ∙ append-nil (beginning format)

pub output_behind : (format : Format) (a b : List Item) → output_text format (a ++ b) ≡ output_text format a ++ records_of format b
output_behind format a b =
    output_is format (a ++ b)
    ∙ ap (λ (t : List ℕ). beginning format ++ t) (records_behind format a b)
    ∙ sym (append_assoc (beginning format) (records_of format a) (records_of format b))
    ∙ ap (λ (t : List ℕ). t ++ records_of format b) (sym (output_is format a))

-- the records of a batch up to an item, and those behind it

get_at : (xs : List Item) (i : ℕ) (x d : Item) → slice_get xs i ≡ Some x → get_or xs i d ≡ x
get_at [] i x d is = cc
get_at (y ∷ ys) zero x d is = cc
get_at (y ∷ ys) (suc i) x d is = get_at ys i x d is

pub records_upto : (format : Format) (batch : List Item) (i : ℕ) (item : Item) → i < length batch → slice_get batch i ≡ Some item → records_of format (take (i + 1) batch) ≡ records_of format (take i batch) ++ record_of format item
records_upto format batch i item inside is =
    ap (records_of format) (take_more batch i item inside ∙ ap (λ (x : Item). take i batch ++ x ∷ []) (get_at batch i item item is))
    ∙ records_behind format (take i batch) (item ∷ [])
    ∙ ap (λ (t : List ℕ). records_of format (take i batch) ++ t) (append-nil (record_of format item))

pub records_split : (format : Format) (batch : List Item) (i : ℕ) → records_of format batch ≡ records_of format (take i batch) ++ records_of format (drop i batch)
records_split format batch i =
    ap (records_of format) (sym (take-append-drop i batch)) ∙ records_behind format (take i batch) (drop i batch)
