-- The characters that part a text: the space between its words, the line feed behind its lines (ASCII, RFC 20 section 2).
use Rattle.std.specs.Prelude.{ℕ}

-- ' '
abbrev pub space : ℕ
space = 32

abbrev pub line_feed : ℕ
line_feed = 10
