-- What a load is to the readers of its captures: the frames that were sent, each with its moment, and then the end.
use Rattle.std.specs.Prelude.{ℕ, ◌≤◌, ◌^◌, true, List, map}
use Rattle.savi_kinds.specs.declared.entry.How.TheVariants as how
use Rattle.savi_kinds.specs.Arrivals.{Arrival, Frame}
use Rattle.pcap_io.specs.Captures.{Sent, capture_text}
use Rattle.pcap_io.specs.Kinds.{classic_kinds}
use Rattle.pcap_io.specs.Runs.{Arrive}
use Rattle.load_gen.specs.Sendings.{sendings}
use Rattle.load_gen.specs.Captures.{sent_at}

-- the frame arrives with the moment as its stamp
abbrev pub arrival_with : Sent → Arrival
arrival_with item = Frame item.moment item.frame

-- these octets are a whole input, which ends by its end
abbrev pub IsWhole : List ℕ → Type 0
IsWhole octets = (arrivals : List Arrival) × Arrive classic_kinds true octets (record { arrivals = arrivals; ending = how.End })

-- The capture of any port is, to a reader of classic captures, what was sent there and then its end.
abbrev pub LoadsArrive : Type 0
LoadsArrive =
    (seed frames port : ℕ) → frames ≤ 2 ^ 32
    → Arrive classic_kinds true (capture_text (sent_at port (sendings seed frames)))
    (record { arrivals = map arrival_with (sent_at port (sendings seed frames)); ending = how.End })
