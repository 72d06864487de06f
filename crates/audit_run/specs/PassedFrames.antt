-- The frames of a history that passed.
use Rattle.std.specs.Prelude.{ℕ, ◌+◌, ◌==◌, ◌||◌, Bool, if◌then◌else◌, List, [], ◌∷◌, Option, Some, None}
use Rattle.savi_kinds.specs.declared.entry.Act.{Act}
use Rattle.savi_kinds.specs.declared.entry.Act.TheVariants.{Frame, Long, Tick, Command, Drain, End}
use Rattle.eth_frame.specs.Frame.{header_of}
use Rattle.eth_frame.specs.Tags.{inner}
use Rattle.hist_store.specs.Rows.{Row}
use Rattle.savi_history.specs.Summary.{is_pass}
use Rattle.journal_check.specs.Watched.{WatchedEntry}
use Rattle.v4_snoop.specs.Reasons.{PassedFrame, passed_at}

-- the frame of an entry by its act, where it passed
abbrev pub frame_by : Row → Act → Option PassedFrame
frame_by row (Frame port stamp at len) = if is_pass row.entry.verdict then Some (passed_at port row.entry.moment row.octets) else None
frame_by row (Long port stamp len) = None
frame_by row (Tick stamp) = None
frame_by row (Command stamp at len) = None
frame_by row (Drain port count) = None
frame_by row (End who how) = None

abbrev pub frame_passed : Row → Option PassedFrame
frame_passed row = frame_by row row.entry.act

-- a frame in front of others, where there is one
abbrev pub with_passed : Option PassedFrame → List PassedFrame → List PassedFrame
with_passed None past = past
with_passed (Some frame) past = frame ∷ past

-- the frames of entries that passed, the newest first, as the entries are
abbrev pub passed_frames : List WatchedEntry → List PassedFrame
passed_frames [] = []
passed_frames (entry ∷ before) = with_passed (frame_passed entry.row) (passed_frames before)

-- an inner frame carries IPv4 or ARP, by its EtherType (RFC 894, RFC 826)
abbrev pub carries_ipv4_or_arp : ℕ → Bool
carries_ipv4_or_arp kind = (kind == 0x0800) || (kind == 0x0806)

abbrev pub is_audited : PassedFrame → Bool
is_audited frame = carries_ipv4_or_arp (header_of (inner frame.octets)).kind

abbrev pub one_if : Bool → ℕ
one_if is = if is then 1 else 0

-- how many of these frames carry IPv4 or ARP
abbrev pub audited_count : List PassedFrame → ℕ
audited_count [] = 0
audited_count (frame ∷ past) = audited_count past + one_if (is_audited frame)
