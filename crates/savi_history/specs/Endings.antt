-- How the inputs and the outputs of a history ended.
use Rattle.std.specs.Prelude.{Bool, true, false, ◌&&◌, if◌then◌else◌, List, [], ◌∷◌, ◌++◌}
use Rattle.std.specs.List.{list_any}
use Rattle.savi_kinds.specs.declared.entry.Act.{Act}
use Rattle.savi_kinds.specs.declared.entry.Act.TheVariants as acts
use Rattle.savi_kinds.specs.declared.entry.Who.{Who}
use Rattle.savi_kinds.specs.declared.entry.Who.TheVariants.{Ingress, Control, Ticker, Egress}
use Rattle.savi_kinds.specs.declared.entry.How.{How}
use Rattle.savi_kinds.specs.declared.entry.How.TheVariants as hows
use Rattle.hist_store.specs.Rows.{Row}

-- the input was malformed, or a line of it was too long
abbrev pub is_malformed_reason : How → Bool
is_malformed_reason hows.End = false
is_malformed_reason hows.Quit = false
is_malformed_reason (hows.Malformed at) = true
is_malformed_reason (hows.Overlong at) = true
is_malformed_reason hows.Failed = false
is_malformed_reason hows.Unwritten = false
is_malformed_reason hows.Paused = false

-- a read of the input failed, or a write of the output
abbrev pub is_failed_reason : How → Bool
is_failed_reason hows.End = false
is_failed_reason hows.Quit = false
is_failed_reason (hows.Malformed at) = false
is_failed_reason (hows.Overlong at) = false
is_failed_reason hows.Failed = true
is_failed_reason hows.Unwritten = false
is_failed_reason hows.Paused = false

-- a reply could not be written
abbrev pub is_unwritten_reason : How → Bool
is_unwritten_reason hows.End = false
is_unwritten_reason hows.Quit = false
is_unwritten_reason (hows.Malformed at) = false
is_unwritten_reason (hows.Overlong at) = false
is_unwritten_reason hows.Failed = false
is_unwritten_reason hows.Unwritten = true
is_unwritten_reason hows.Paused = false

-- there was no room for what was to come: the pass goes on in the next segment
abbrev pub is_paused_reason : How → Bool
is_paused_reason hows.End = false
is_paused_reason hows.Quit = false
is_paused_reason (hows.Malformed at) = false
is_paused_reason (hows.Overlong at) = false
is_paused_reason hows.Failed = false
is_paused_reason hows.Unwritten = false
is_paused_reason hows.Paused = true

-- an end with a reason of which this holds
abbrev pub ends_with : (How → Bool) → Act → Bool
ends_with holds (acts.Frame port stamp at len) = false
ends_with holds (acts.Long port stamp len) = false
ends_with holds (acts.Tick stamp) = false
ends_with holds (acts.Command stamp at len) = false
ends_with holds (acts.Drain port count) = false
ends_with holds (acts.End who how) = holds how

-- the end of an input: of the ingress pass of a port, or of control
abbrev pub is_input : Who → Bool
is_input (Ingress p) = true
is_input Control = true
is_input Ticker = false
is_input (Egress p) = false

-- the end of an input at a read that failed
abbrev pub is_failed_end : Act → Bool
is_failed_end (acts.Frame port stamp at len) = false
is_failed_end (acts.Long port stamp len) = false
is_failed_end (acts.Tick stamp) = false
is_failed_end (acts.Command stamp at len) = false
is_failed_end (acts.Drain port count) = false
is_failed_end (acts.End who how) = is_input who && is_failed_reason how

-- the end of a pass for a write that failed: of an egress, which writes what is sent, or of control, which answers
abbrev pub is_failed_write_of : Who → How → Bool
is_failed_write_of (Ingress p) how = false
is_failed_write_of Control how = is_unwritten_reason how
is_failed_write_of Ticker how = false
is_failed_write_of (Egress p) how = is_failed_reason how

abbrev pub is_failed_write : Act → Bool
is_failed_write (acts.Frame port stamp at len) = false
is_failed_write (acts.Long port stamp len) = false
is_failed_write (acts.Tick stamp) = false
is_failed_write (acts.Command stamp at len) = false
is_failed_write (acts.Drain port count) = false
is_failed_write (acts.End who how) = is_failed_write_of who how

abbrev pub is_malformed_end : Act → Bool
is_malformed_end act = ends_with is_malformed_reason act

abbrev pub is_paused_end : Act → Bool
is_paused_end act = ends_with is_paused_reason act

-- an input is paused
abbrev pub is_paused_input : Act → Bool
is_paused_input (acts.Frame port stamp at len) = false
is_paused_input (acts.Long port stamp len) = false
is_paused_input (acts.Tick stamp) = false
is_paused_input (acts.Command stamp at len) = false
is_paused_input (acts.Drain port count) = false
is_paused_input (acts.End who how) = is_input who && is_paused_reason how

-- an input of the history was malformed, or a line of it was too long
abbrev pub has_malformed : List Row → Bool
has_malformed rows = list_any (λ r. is_malformed_end r.entry.act) rows

-- a read of an input of the history failed
abbrev pub has_failed : List Row → Bool
has_failed rows = list_any (λ r. is_failed_end r.entry.act) rows

-- a write of an output of the history failed, or a reply could not be written
abbrev pub has_failed_write : List Row → Bool
has_failed_write rows = list_any (λ r. is_failed_write r.entry.act) rows

-- a pass of the history was paused for want of room
abbrev pub has_paused_end : List Row → Bool
has_paused_end rows = list_any (λ r. is_paused_end r.entry.act) rows

-- an input of the history was paused for want of room: so the history goes on in a next segment
abbrev pub has_pause : List Row → Bool
has_pause rows = list_any (λ r. is_paused_input r.entry.act) rows

-- the end that an entry is, but for a pause
abbrev pub end_told : Act → List (Who × How)
end_told (acts.Frame port stamp at len) = []
end_told (acts.Long port stamp len) = []
end_told (acts.Tick stamp) = []
end_told (acts.Command stamp at len) = []
end_told (acts.Drain port count) = []
end_told (acts.End who how) = if is_paused_reason how then [] else (who, how) ∷ []

-- the ends of a history but for pauses, the oldest first
abbrev pub ends_told : List Row → List (Who × How)
ends_told [] = []
ends_told (r ∷ past) = ends_told past ++ end_told r.entry.act
