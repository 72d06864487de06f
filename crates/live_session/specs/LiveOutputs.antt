-- What is written at a live port, in the form of its output.
use Rattle.std.specs.Prelude.{ℕ, ◌==◌, if◌then◌else◌, List, [], ◌∷◌, ◌++◌, map, Option}
use Rattle.savi_kinds.specs.declared.plan.Plan.{Plan}
use Rattle.savi_kinds.specs.declared.plan.Format.{Format}
use Rattle.savi_kinds.specs.declared.plan.Format.TheVariants.{Pcap, Stream}
use Rattle.savi_kinds.specs.declared.entry.Act.{Act}
use Rattle.savi_kinds.specs.declared.entry.Act.TheVariants as acts
use Rattle.savi_kinds.specs.Ports.{number_of}
use Rattle.pcap_io.specs.Captures.{capture_text}
use Rattle.stream_io.specs.Records.{stream_text}
use Rattle.hist_store.specs.Rows.{Row}
use Rattle.checkpoint.specs.Bases.{Base}
use Rattle.savi_history.specs.Outputs.{sent_items}
use Rattle.savi_history.specs.PortOutputs.{FitsOutput, output_end}
use Rattle.savi_history.specs.Queues.{Item, sent}
use Rattle.savi_segments.specs.Segments.{base_after}
use Rattle.savi_segments.specs.Sent.{sent_in}
use Rattle.savi_segments.specs.Unbroken.{unbroken}

-- the whole output with these items
abbrev pub output_text : Format → List Item → List ℕ
output_text Pcap items = capture_text (sent_items items)
output_text Stream items = stream_text (map (λ item. item.octets) items)

-- The output of what the drains of a port before its last one took, behind a row with this act: where it is a drain of the
-- port, of all that was taken by then, in earlier segments (`early`) and in this one.
abbrev pub sure_after : Format → Plan → Base → ℕ → List Item → List Row → Act → List ℕ → List ℕ
sure_after format plan base port early past (acts.Frame p stamp at len) before = before
sure_after format plan base port early past (acts.Long p stamp len) before = before
sure_after format plan base port early past (acts.Tick stamp) before = before
sure_after format plan base port early past (acts.Command stamp at len) before = before
sure_after format plan base port early past (acts.Drain p count) before =
    if number_of p == port then output_text format (early ++ sent plan base port past) else before
sure_after format plan base port early past (acts.End who how) before = before

-- the same behind the rows of a segment, by the output before them
abbrev pub sure_within : Format → Plan → Base → ℕ → List Item → List ℕ → List Row → List ℕ
sure_within format plan base port early before [] = before
sure_within format plan base port early before (r ∷ past) =
    sure_after format plan base port early past r.entry.act (sure_within format plan base port early before past)

-- the output of what the drains of a port before its last one took; nothing where there was none
abbrev pub sure_output : Format → Plan → ℕ → List (List Row) → List ℕ
sure_output format plan port [] = []
sure_output format plan port (segment ∷ before) =
    sure_within format plan (base_after plan before) port (sent_in plan port before) (sure_output format plan port before) segment

-- What a sink took is the output that the segments send at the port, by how that ended there: all of it; or, where a write
-- failed, a front of it that holds all that the drains before the last one took.
abbrev pub FitsOutputOf : Format → Plan → Option (List ℕ) → Option (List ℕ) → ℕ → List (List Row) → Type 0
FitsOutputOf format plan before after port segments =
    FitsOutput before after (output_text format (sent_in plan port segments)) (sure_output format plan port segments) (output_end port (unbroken segments))
