-- A text that is read in pieces: what is held of it, what is to come, and what taking a line comes to.
use Rattle.std.specs.Prelude.{◌≡◌, ◌+◌, ◌-◌, ◌^◌, ◌<◌, ◌≤◌, ℕ, List, [], ◌∷◌, ◌++◌, length, take, drop, Option, Some, None, IfSome}
use Rattle.savi_kinds.specs.Characters.{line_feed}
use Rattle.savi_ends.specs.Octets.{in_front, Takes}
use Rattle.journal_check.specs.declared.lines.Lines.{Lines}
use Rattle.journal_check.specs.declared.lines.Cut.{Cut}
use Rattle.journal_check.specs.declared.lines.Cut.TheVariants as cuts
use Rattle.journal_check.specs.declared.lines.Taken.{Taken}
use Rattle.journal_check.specs.declared.lines.Taken.TheVariants as takes
use Rattle.journal_check.specs.Feeds.{HasNoFeed, BeginsWithNoLine}
use Rattle.journal_check.specs.Seen.{seen_to}

-- a source gave up some octets, perhaps none, of those that it had left, the first ones of them
abbrev pub GaveSome : Option (List ℕ) → Option (List ℕ) → Type 0
GaveSome before after = (gave : List ℕ) × Takes before after gave

-- the octets that are held
abbrev pub held_octets : Lines → List ℕ
held_octets lines = drop lines.at (take lines.end lines.piece)

-- the octets that are held, in front of what the source has left
abbrev pub octets_ahead : Lines → Option (List ℕ) → Option (List ℕ)
octets_ahead lines left = in_front (held_octets lines) left

-- what is seen of octets where lines end at this place or before it, where the octets are told
abbrev pub seen_if_told : ℕ → Option (List ℕ) → Option (List ℕ)
seen_if_told place None = None
seen_if_told place (Some octets) = Some (seen_to octets place)

-- what is seen of them, up to place 2^62 of the text
abbrev pub to_come : Lines → Option (List ℕ) → Option (List ℕ)
to_come lines left = seen_if_told (2 ^ 62 - lines.place) (octets_ahead lines left)

-- some octets were passed, and counted
abbrev pub HasPassed : Lines → Option (List ℕ) → Lines → Option (List ℕ) → Type 0
HasPassed old before new after = (octets : List ℕ) × (octets_ahead old before ≡ in_front octets (octets_ahead new after)) × (new.place ≡ old.place + length octets)

-- Octets of the line moved behind those before: up to its line feed, or all that were held, of which there were some; or
-- there is no room for them.
abbrev pub Cuts : Cut → Lines → Lines → List ℕ → List ℕ → Type 0
Cuts cuts.Whole old new before line =
    (part : List ℕ) × HasNoFeed part × (line ≡ before ++ part) × (held_octets old ≡ part ++ line_feed ∷ held_octets new)
Cuts cuts.Part old new before line = (0 < length (held_octets old)) × HasNoFeed (held_octets old) × (line ≡ before ++ held_octets old) × (held_octets new ≡ []) × (length line ≤ 3400)
Cuts cuts.Long old new before line =
    (part : List ℕ) × (rest : List ℕ) × HasNoFeed part × (held_octets old ≡ part ++ rest) × (3400 < length before + length part)

-- What came of taking a line of what was to come: it was taken with its line feed, or there was none.
abbrev pub TookLine : Taken → List ℕ → Option (List ℕ) → Option (List ℕ) → Type 0
TookLine takes.Line line before after = HasNoFeed line × (before ≡ in_front (line ++ line_feed ∷ []) after)
TookLine takes.Broken line before after = IfSome before BeginsWithNoLine
TookLine takes.Failed line before after = Unit {0}
