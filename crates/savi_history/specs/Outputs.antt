-- What is sent at a port, as the frames of a capture.
use Rattle.std.specs.Prelude.{List, map}
use Rattle.pcap_io.specs.Captures.{Sent}
use Rattle.savi_history.specs.Queues.{Item}

-- an item goes out with the moment that it carries
abbrev pub sent_item : Item → Sent
sent_item item = record { moment = item.moment; frame = item.octets }

abbrev pub sent_items : List Item → List Sent
sent_items items = map sent_item items
