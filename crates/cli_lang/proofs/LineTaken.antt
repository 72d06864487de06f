-- A line that is taken octet by octet.
use Rattle.std.proofs.Common.{ℕ, zero, suc, ◌≡◌, ◌≢◌, List, [], ◌∷◌, ◌++◌, sym, ap, ◌∙◌, subst, arith, append_assoc, append-nil}
use Rattle.std.proofs.lemmas.List.Elements.{All-append}
use Rattle.cli_lang.specs.Arrivals.{HasNoFeed}

-- what was taken, and then what one octet more took
pub taken_more : (first gave more text held now : List ℕ) → first ++ gave ≡ text ++ held → held ++ more ≡ now → first ++ (gave ++ more) ≡ text ++ now
taken_more first gave more text held now was next =
    sym (append_assoc first gave more) ∙ ap (λ (l : List ℕ). l ++ more) was ∙ append_assoc text held more ∙ ap (λ (l : List ℕ). text ++ l) next

pub taken_all : (first gave more text held now : List ℕ) → first ++ gave ≡ text ++ held → held ++ more ≡ [] → first ++ (gave ++ more) ≡ text
taken_all first gave more text held now was next = taken_more first gave more text held [] was next ∙ append-nil text

no_feed_one : (c : ℕ) → c ≢ 10 → HasNoFeed (c ∷ [])
no_feed_one c other zero d inside = other
no_feed_one c other (suc k) d inside = absurd (omega arith)

pub no_feed_more : (text : List ℕ) (c : ℕ) → HasNoFeed text → c ≢ 10 → HasNoFeed (text ++ (c ∷ []))
no_feed_more text c apart other = All-append (λ b. b ≢ 10) text (c ∷ []) apart (no_feed_one c other)

-- an octet behind a text
pub one_behind : (text held : List ℕ) (c : ℕ) (octets : List ℕ) → octets ≡ text ++ (c ∷ held) → octets ≡ (text ++ (c ∷ [])) ++ held
one_behind text held c octets is = is ∙ sym (append_assoc text (c ∷ []) held)

-- a line in which the read failed
pub cut_apart : (text octets : List ℕ) → octets ≡ text → HasNoFeed text → HasNoFeed octets
cut_apart text octets same apart = subst HasNoFeed (sym same) apart
