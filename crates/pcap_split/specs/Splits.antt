-- What the capture of each interface holds, and what is counted: plain functions of what a file tells.
use Rattle.std.specs.Prelude.{ℕ, ◌+◌, ◌==◌, nat_lt, ◌&&◌, Bool, List, [], ◌∷◌, ◌++◌, if◌then◌else◌}
use Rattle.std.specs.List.{list_any}
use Rattle.pcap_io.specs.Captures.{Sent, capture_text}
use Rattle.pcapng_io.specs.Runs.{Event, Begins, Frame, Long}

-- the frames of an interface with their stamps, in order
abbrev pub frames_of : ℕ → List Event → List Sent
frames_of k [] = []
frames_of k (Begins link ∷ events) = frames_of k events
frames_of k (Frame interface stamp octets ∷ events) = if interface == k then record { moment = stamp; frame = octets } ∷ frames_of k events else frames_of k events
frames_of k (Long interface ∷ events) = frames_of k events

-- the classic capture of an interface
abbrev pub split_text : ℕ → List Event → List ℕ
split_text k events = capture_text (frames_of k events)

-- The interfaces that have a capture of their own, and what was counted so far: interfaces, frames of those, longer packets
-- of those, and packets of all others.
pub record Tally : Type 0 where
  pub split : List ℕ
  pub interfaces : ℕ
  pub frames : ℕ
  pub long : ℕ
  pub skipped : ℕ

abbrev pub no_tally : Tally
no_tally = record { split = []; interfaces = 0; frames = 0; long = 0; skipped = 0 }

abbrev pub has_capture : Tally → ℕ → Bool
has_capture t interface = list_any (λ k. k == interface) t.split

-- An Ethernet interface (link type 1) from 0 to 15 has a capture of its own.
abbrev pub tallied : Tally → Event → Tally
tallied t (Begins link) = record t {
  split = if (link == 1) && nat_lt t.interfaces 16 then t.split ++ t.interfaces ∷ [] else t.split;
  interfaces = t.interfaces + 1;
}
tallied t (Frame interface stamp octets) = if has_capture t interface then record t { frames = t.frames + 1 } else record t { skipped = t.skipped + 1 }
tallied t (Long interface) = if has_capture t interface then record t { long = t.long + 1 } else record t { skipped = t.skipped + 1 }

-- what is counted over events, behind what was counted so far
abbrev pub tally : Tally → List Event → Tally
tally t [] = t
tally t (e ∷ events) = tally (tallied t e) events
