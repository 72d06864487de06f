-- What a history says of the output of one port, by the port's number: how it ended, and what a sink that took it has taken.
use Rattle.std.specs.Prelude.{◌≡◌, ℕ, ◌<◌, ◌==◌, if◌then◌else◌, List, [], ◌∷◌, ◌++◌, length, map, take, get_or, Option, Some, None}
use Rattle.std.specs.List.{concat}
use Rattle.savi_kinds.specs.declared.entry.Act.{Act}
use Rattle.savi_kinds.specs.declared.entry.Act.TheVariants as acts
use Rattle.savi_kinds.specs.declared.entry.Who.{Who}
use Rattle.savi_kinds.specs.declared.entry.Who.TheVariants.{Ingress, Control, Ticker, Egress}
use Rattle.savi_kinds.specs.declared.entry.How.{How}
use Rattle.savi_kinds.specs.declared.entry.How.TheVariants as hows
use Rattle.savi_kinds.specs.Ports.{number_of}
use Rattle.savi_ends.specs.Octets.{behind, IsFront}
use Rattle.pcap_io.specs.Captures.{header_text, record_text}
use Rattle.hist_store.specs.Rows.{Row}
use Rattle.savi_history.specs.Queues.{Item}

-- how the output of a port has ended behind the end of a pass, by how it had ended before
abbrev pub output_ended_by : ℕ → Who → How → Option How → Option How
output_ended_by port (Ingress p) how before = before
output_ended_by port Control how before = before
output_ended_by port Ticker how before = before
output_ended_by port (Egress p) how before = if number_of p == port then Some how else before

abbrev pub output_ended_behind : ℕ → Act → Option How → Option How
output_ended_behind port (acts.Frame p stamp at len) before = before
output_ended_behind port (acts.Long p stamp len) before = before
output_ended_behind port (acts.Tick stamp) before = before
output_ended_behind port (acts.Command stamp at len) before = before
output_ended_behind port (acts.Drain p count) before = before
output_ended_behind port (acts.End who how) before = output_ended_by port who how before

-- how the output of a port has ended
abbrev pub output_end : ℕ → List Row → Option How
output_end port [] = None
output_end port (r ∷ past) = output_ended_behind port r.entry.act (output_end port past)

-- the pieces of an output: the header of the capture, and the record of each item
abbrev pub pieces : List Item → List (List ℕ)
pieces items = header_text ∷ map (λ item. record_text item.moment item.octets) items

-- A sink took these pieces, all of them, or those in front of the one whose write failed and of that one a front.
abbrev pub TookPieces : Option (List ℕ) → Option (List ℕ) → List (List ℕ) → Option ℕ → Type 0
TookPieces before after pieces None = after ≡ behind before (concat pieces)
TookPieces before after pieces (Some whole) =
    (whole < length pieces) × (front : List ℕ) × IsFront front (get_or pieces whole []) × (after ≡ behind before (concat (take whole pieces) ++ front))

-- What a sink took is the output that a history sends, by how that ended there: all of it; or, where a write failed, a front
-- of it that holds all that the drains before the last one took. An output ends in no other way.
abbrev pub FitsOutput : Option (List ℕ) → Option (List ℕ) → List ℕ → List ℕ → Option How → Type 0
FitsOutput before after output sure (Some hows.End) = after ≡ behind before output
FitsOutput before after output sure (Some hows.Paused) = after ≡ behind before output
FitsOutput before after output sure (Some hows.Failed) = (octets : List ℕ) × (after ≡ behind before octets) × IsFront octets output × IsFront sure octets
FitsOutput before after output sure (Some hows.Quit) = ⊥
FitsOutput before after output sure (Some (hows.Malformed at)) = ⊥
FitsOutput before after output sure (Some (hows.Overlong at)) = ⊥
FitsOutput before after output sure (Some hows.Unwritten) = ⊥
FitsOutput before after output sure None = ⊥
