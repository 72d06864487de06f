-- What an audit says of the frames that passed: a line for each that is reported, and how many those are. A frame is judged
-- by those that passed before it.
use Rattle.std.specs.Prelude.{ℕ, ◌+◌, List, [], ◌∷◌, ◌++◌, Option, Some, None, is_some, codes, decimal}
use Rattle.savi_kinds.specs.Ports.{number_of}
use Rattle.savi_kinds.specs.declared.plan.Plan.{Plan}
use Rattle.journal_check.specs.Watched.{WatchedEntry}
use Rattle.v4_snoop.specs.declared.reason.Reason.{Reason}
use Rattle.v4_snoop.specs.declared.reason.Reason.TheVariants.{ArpBad, ArpSource, IpBad, Server, IpSource, RequestFull, PortFull}
use Rattle.v4_snoop.specs.Reasons.{PassedFrame, known_clients, frame_reason}
use Rattle.audit_run.specs.PassedFrames.{frame_passed, one_if, passed_frames}

abbrev pub reason_word : Reason → List ℕ
reason_word ArpBad = codes "arp-bad"
reason_word ArpSource = codes "arp-source"
reason_word IpBad = codes "ip-bad"
reason_word Server = codes "server"
reason_word IpSource = codes "ip-source"
reason_word RequestFull = codes "request-full"
reason_word PortFull = codes "port-full"

-- the line of a frame that is reported: the numbers of its segment, of its entry there and of its port, and the reason
abbrev pub violation_line : ℕ → ℕ → ℕ → Reason → List ℕ
violation_line segment number port reason =
    decimal segment ++ 32 ∷ decimal number ++ codes " port " ++ decimal port ++ 32 ∷ reason_word reason ++ 10 ∷ []

-- the same, where there is a reason
abbrev pub violation_if : ℕ → ℕ → ℕ → Option Reason → List ℕ
violation_if segment number port None = []
violation_if segment number port (Some reason) = violation_line segment number port reason

-- the reason of a frame behind these
abbrev pub reason_behind : Plan → List PassedFrame → PassedFrame → Option Reason
reason_behind plan past frame = frame_reason plan (known_clients plan past) frame

-- the line of an entry, by its frame that passed behind these
abbrev pub entry_line : Plan → List PassedFrame → WatchedEntry → Option PassedFrame → List ℕ
entry_line plan past entry None = []
entry_line plan past entry (Some frame) = violation_if entry.segment entry.number (number_of frame.port) (reason_behind plan past frame)

-- the lines of entries, of which the newest stands first, in the order in which they were made
abbrev pub violation_lines : Plan → List WatchedEntry → List ℕ
violation_lines plan [] = []
violation_lines plan (entry ∷ before) = violation_lines plan before ++ entry_line plan (passed_frames before) entry (frame_passed entry.row)

-- how many frames are reported
abbrev pub violation_count : Plan → List PassedFrame → ℕ
violation_count plan [] = 0
violation_count plan (frame ∷ past) = violation_count plan past + one_if (is_some (reason_behind plan past frame))
