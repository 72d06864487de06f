-- The Internet checksum (RFC 1071 section 1) over the pseudo header of IPv6 and a message (RFC 8200
-- section 8.1). Octets and words are numbers.
use Rattle.std.specs.Prelude.{ℕ, ◌+◌, ◌-◌, ◌*◌, ◌^◌, List, [], ◌∷◌, ◌++◌, length, take, drop, fold, nat_lt, if◌then◌else◌}
use Rattle.std.specs.Int.{w16, w32, w128, to_be_bytes}
use Rattle.savi_kinds.specs.declared.address.Addr.{Addr}

-- the 16-bit words of a list of octets, the high octet first; an odd octet at the end has a zero octet
-- after it
unfoldable pub words_of : List ℕ → List ℕ
words_of [] = []
words_of (high ∷ []) = 256 * high ∷ []
words_of (high ∷ low ∷ rest) = (256 * high + low) ∷ words_of rest

-- the ones' complement sum of two words: what is carried out at the top is added at the bottom
unfoldable pub ones_add : ℕ → ℕ → ℕ
ones_add x y = if nat_lt (x + y) (2 ^ 16) then x + y else x + y - 2 ^ 16 + 1

-- the ones' complement sum of a list of words
unfoldable pub ones_sum : List ℕ → ℕ
ones_sum words = fold ones_add 0 words

-- the ones' complement of a word
unfoldable pub ones_complement : ℕ → ℕ
ones_complement word = 2 ^ 16 - 1 - word

-- the pseudo header: source, destination, length of the message, three zero octets, next header
unfoldable pub pseudo_header : Addr → Addr → ℕ → ℕ → List ℕ
pseudo_header src dst len next =
    to_be_bytes w128 src.0 ++ to_be_bytes w128 dst.0 ++ to_be_bytes w32 len ++ 0 ∷ 0 ∷ 0 ∷ next ∷ []

-- the checksum of a message, whose own checksum octets are taken as they stand
unfoldable pub checksum : Addr → Addr → ℕ → List ℕ → ℕ
checksum src dst next message =
    ones_complement (ones_sum (words_of (pseudo_header src dst (length message) next ++ message)))

-- octets with the word in place of the two octets at a place
unfoldable pub with_word_at : List ℕ → ℕ → ℕ → List ℕ
with_word_at octets place word = take place octets ++ to_be_bytes w16 word ++ drop (place + 2) octets
