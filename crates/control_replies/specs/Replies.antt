-- The short replies to a command, each a line: why it is refused, or `ok`; and the last line of what a `show` prints.
use Rattle.std.specs.Prelude.{ℕ, List, [], ◌∷◌, ◌++◌, codes}
use Rattle.savi_kinds.specs.Characters.{line_feed}
use Rattle.control_replies.specs.declared.refusal.Refusal.{Refusal}
use Rattle.control_replies.specs.declared.refusal.Refusal.TheVariants.{UnknownCommand, BadAddress, BadPort, NoSuchPort, TrustedPort, OffLink, PortFull, NoBinding}

-- why a command is refused
abbrev pub refusal_words : Refusal → List ℕ
refusal_words UnknownCommand = codes "unknown command"
refusal_words BadAddress = codes "bad address"
refusal_words BadPort = codes "bad port"
refusal_words NoSuchPort = codes "no such port"
refusal_words TrustedPort = codes "trusted port"
refusal_words OffLink = codes "off-link"
refusal_words PortFull = codes "port full"
refusal_words NoBinding = codes "no binding"

abbrev pub refusal_text : Refusal → List ℕ
refusal_text refusal = codes "error: " ++ refusal_words refusal ++ line_feed ∷ []

-- the reply to a command that was carried out
abbrev pub ok_text : List ℕ
ok_text = codes "ok" ++ line_feed ∷ []

-- the last line of what a `show` prints
abbrev pub end_text : List ℕ
end_text = codes "end" ++ line_feed ∷ []
