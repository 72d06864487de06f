-- A list of octets is one control input.
use Rattle.std.proofs.Common.{ℕ, zero, suc, ◌≡◌, ◌≢◌, ◌+◌, ◌^◌, ◌<◌, ◌≤◌, Bool, true, false, true≢false, IsTrue, List, [], ◌∷◌, ◌++◌, length, take, decimal, ◌⊎◌, inl, inr, refl, sym, ap, ap₂, subst, ◌∙◌, arith, append-nil, append_assoc, length-append}
use Rattle.std.proofs.lemmas.Fmt.{decimal_injective}
use Rattle.std.specs.List.{join_with_byte}
use Rattle.savi_kinds.specs.declared.entry.How.{How}
use Rattle.savi_kinds.specs.declared.entry.How.TheVariants as how
use Rattle.cli_lang.specs.Words.{words_of}
use Rattle.cli_lang.specs.Arrivals.{Line, Input, HasNoFeed, Says, IsLine, IsLong, BeginsBadLine, IsRun, EndsAs, Arrive, stamped_by}
use Rattle.cli_lang.proofs.WordsJoined.{words_joined}
use Rattle.cli_lang.proofs.TextSays.{said_words}

-- a list with a line feed in it
no_feed_in : (text rest : List ℕ) → HasNoFeed (text ++ (10 ∷ rest)) → ⊥
no_feed_in [] rest apart = apart 0 0 (omega arith) refl
no_feed_in (c ∷ text) rest apart = no_feed_in text rest (λ k d inside. apart (suc k) d (omega arith))

split_once : (text other rest rest' : List ℕ) → HasNoFeed text → HasNoFeed other → text ++ (10 ∷ rest) ≡ other ++ (10 ∷ rest') → (text ≡ other) × (rest ≡ rest')
split_once [] [] rest rest' apart apart' same = (refl, cc)
split_once [] (c ∷ other) rest rest' apart apart' same = let first : 10 ≡ c = cc in absurd (apart' 0 0 (omega arith) (sym first))
split_once (c ∷ text) [] rest rest' apart apart' same = let first : c ≡ 10 = cc in absurd (apart 0 0 (omega arith) first)
split_once (c ∷ text) (d ∷ other) rest rest' apart apart' same =
    let first : c ≡ d = cc in
    let behind : text ++ (10 ∷ rest) ≡ other ++ (10 ∷ rest') = cc in
    let later = split_once text other rest rest' (λ k e inside. apart (suc k) e (omega arith)) (λ k e inside. apart' (suc k) e (omega arith)) behind in
    (ap₂ (λ (b : ℕ) (l : List ℕ). b ∷ l) first later.0, later.1)

-- how a line ends
abbrev Ends : Bool → List ℕ → List ℕ → List ℕ → Type 0
Ends seen text front rest = (front ≡ text ++ (10 ∷ [])) ⊎ (IsTrue seen × (text ≢ []) × (front ≡ text) × (rest ≡ []))

feed_octets : (octets text front rest : List ℕ) → octets ≡ front ++ rest → front ≡ text ++ (10 ∷ []) → octets ≡ text ++ (10 ∷ rest)
feed_octets octets text front rest split feed = split ∙ ap (λ (l : List ℕ). l ++ rest) feed ∙ append_assoc text (10 ∷ []) rest

last_octets : (octets text front rest : List ℕ) → octets ≡ front ++ rest → front ≡ text → rest ≡ [] → octets ≡ text
last_octets octets text front rest split same none = split ∙ ap₂ (λ (a b : List ℕ). a ++ b) same none ∙ append-nil text

feed_apart : (octets text rest : List ℕ) → octets ≡ text ++ (10 ∷ rest) → HasNoFeed octets → ⊥
feed_apart octets text rest is apart = no_feed_in text rest (subst HasNoFeed is apart)

-- the first lines of the same octets are the same
pieces_once : (seen : Bool) (octets text front rest text' front' rest' : List ℕ) → octets ≡ front ++ rest → octets ≡ front' ++ rest' → HasNoFeed text → HasNoFeed text' → Ends seen text front rest → Ends seen text' front' rest' → (text ≡ text') × (front ≡ front') × (rest ≡ rest')
pieces_once seen octets text front rest text' front' rest' split split' apart apart' (inl a) (inl b) =
    let same = split_once text text' rest rest' apart apart' (sym (feed_octets octets text front rest split a) ∙ feed_octets octets text' front' rest' split' b) in
    (same.0, a ∙ ap (λ (t : List ℕ). t ++ (10 ∷ [])) same.0 ∙ sym b, same.1)
pieces_once seen octets text front rest text' front' rest' split split' apart apart' (inl a) (inr b) =
    absurd (feed_apart octets text rest (feed_octets octets text front rest split a) (subst HasNoFeed (sym (last_octets octets text' front' rest' split' b.2 b.3)) apart'))
pieces_once seen octets text front rest text' front' rest' split split' apart apart' (inr a) (inl b) =
    absurd (feed_apart octets text' rest' (feed_octets octets text' front' rest' split' b) (subst HasNoFeed (sym (last_octets octets text front rest split a.2 a.3)) apart))
pieces_once seen octets text front rest text' front' rest' split split' apart apart' (inr a) (inr b) =
    let same : text ≡ text' = sym (last_octets octets text front rest split a.2 a.3) ∙ last_octets octets text' front' rest' split' b.2 b.3 in
    (same, a.2 ∙ same ∙ sym b.2, a.3 ∙ sym b.3)

some_length : (text : List ℕ) → text ≢ [] → 0 < length text
some_length [] some = absurd (some refl)
some_length (c ∷ text) some = omega arith

-- a line has octets
front_some : (seen : Bool) (text front rest : List ℕ) → Ends seen text front rest → 0 < length front
front_some seen text front rest (inl a) = omega (arith, ap length a, length-append text (10 ∷ []))
front_some seen text front rest (inr a) = omega (arith, ap length a.2, some_length text a.1)

-- a line is not too long
feed_taken : (n : ℕ) (text rest : List ℕ) → length text < n → (tail : List ℕ) × (take n (text ++ (10 ∷ rest)) ≡ text ++ (10 ∷ tail))
feed_taken zero text rest inside = absurd (omega arith)
feed_taken (suc n) [] rest inside = (take n rest, refl)
feed_taken (suc n) (c ∷ text) rest inside = let later = feed_taken n text rest (omega arith) in (later.0, ap (λ (l : List ℕ). c ∷ l) later.1)

line_not_long : (seen : Bool) (octets text front rest : List ℕ) → octets ≡ front ++ rest → length text ≤ 120 → Ends seen text front rest → IsLong octets → ⊥
line_not_long seen octets text front rest split short (inl a) long =
    let taken = feed_taken 121 text rest (omega (arith, short)) in
    feed_apart (take 121 octets) text taken.0 (ap (take 121) (feed_octets octets text front rest split a) ∙ taken.1) long.apart
line_not_long seen octets text front rest split short (inr a) long =
    omega (arith, ap length (last_octets octets text front rest split a.2 a.3), short, long.enough)

-- a line in which the read failed is no line
line_not_cut : (seen : Bool) (octets text front rest : List ℕ) → octets ≡ front ++ rest → Ends seen text front rest → seen ≡ false → HasNoFeed octets → ⊥
line_not_cut seen octets text front rest split (inl a) unseen apart = feed_apart octets text rest (feed_octets octets text front rest split a) apart
line_not_cut seen octets text front rest split (inr a) unseen apart = true≢false (sym a.0 ∙ unseen)

line_not_none : (seen : Bool) (octets text front rest : List ℕ) → octets ≡ front ++ rest → Ends seen text front rest → octets ≡ [] → ⊥
line_not_none seen octets text front rest split ends none =
    omega (arith, ap length split, ap length none, length-append front rest, front_some seen text front rest ends)

-- octets that begin with a line don't end the input
no_ending : (live seen : Bool) (place : ℕ) (e : How) (octets text front rest : List ℕ) (line : Line) → EndsAs live seen place e octets → octets ≡ front ++ rest → IsLine seen text front rest → Says live text line → place + length front ≤ 2 ^ 62 → ⊥
no_ending live seen place how.End octets text front rest line ends split is says within = line_not_none seen octets text front rest split is.whole ends.1
no_ending live seen place how.Quit octets text front rest line ends split is says within = ends
no_ending live seen place (how.Malformed at) octets text front rest line ends split is says within = elim ends.1 [
  | inl long ↦ line_not_long seen octets text front rest split is.short is.whole long.0
  | inr begins ↦
      let same = pieces_once seen octets text front rest begins.text begins.front begins.rest split begins.split is.apart begins.line.apart is.whole begins.line.whole in
      elim begins.bad [
        | inl past ↦ omega (arith, past, within, ap length same.1)
        | inr none ↦ none line (subst (λ (t : List ℕ). Says live t line) same.0 says)
      ]
]
no_ending live seen place (how.Overlong at) octets text front rest line ends split is says within = line_not_long seen octets text front rest split is.short is.whole ends.1
no_ending live seen place how.Failed octets text front rest line ends split is says within = line_not_cut seen octets text front rest split is.whole ends.0 ends.1
no_ending live seen place how.Unwritten octets text front rest line ends split is says within = ends
no_ending live seen place how.Paused octets text front rest line ends split is says within = ends

-- what is malformed is neither nothing nor cut short nor overlong
malformed_alone : (live seen : Bool) (place : ℕ) (octets : List ℕ) → (IsLong octets × (2 ^ 62 < place + 121)) ⊎ BeginsBadLine live seen place octets
    → ((octets ≡ []) → ⊥) × ((seen ≡ false) → HasNoFeed octets → length octets ≤ 120 → ⊥) × (IsLong octets → place + 121 ≤ 2 ^ 62 → ⊥)
malformed_alone live seen place octets (inl long) = (
  λ none. omega (arith, ap length none, long.0.enough),
  λ unseen apart short. omega (arith, long.0.enough, short),
  λ other within. omega (arith, long.1, within),
)
malformed_alone live seen place octets (inr bad) = (
  λ none. line_not_none seen octets bad.text bad.front bad.rest bad.split bad.line.whole none,
  λ unseen apart short. line_not_cut seen octets bad.text bad.front bad.rest bad.split bad.line.whole unseen apart,
  λ other within. line_not_long seen octets bad.text bad.front bad.rest bad.split bad.line.short bad.line.whole other,
)

-- an input ends in one way
ending_once : (live seen : Bool) (place : ℕ) (octets : List ℕ) (e f : How) → EndsAs live seen place e octets → EndsAs live seen place f octets → e ≡ f
ending_once live seen place octets how.End how.End one other = refl
ending_once live seen place octets how.End (how.Malformed at) one other = absurd ((malformed_alone live seen place octets other.1).0 one.1)
ending_once live seen place octets how.End (how.Overlong at) one other = absurd (omega (arith, ap length one.1, other.1.enough))
ending_once live seen place octets how.End how.Failed one other = absurd (true≢false (sym one.0 ∙ other.0))
ending_once live seen place octets (how.Malformed at) how.End one other = absurd ((malformed_alone live seen place octets one.1).0 other.1)
ending_once live seen place octets (how.Malformed at) (how.Malformed to) one other = ap (λ (n : ℕ). how.Malformed n) (one.0 ∙ sym other.0)
ending_once live seen place octets (how.Malformed at) (how.Overlong to) one other = absurd ((malformed_alone live seen place octets one.1).2 other.1 other.2)
ending_once live seen place octets (how.Malformed at) how.Failed one other = absurd ((malformed_alone live seen place octets one.1).1 other.0 other.1 other.2)
ending_once live seen place octets (how.Overlong at) how.End one other = absurd (omega (arith, ap length other.1, one.1.enough))
ending_once live seen place octets (how.Overlong at) (how.Malformed to) one other = absurd ((malformed_alone live seen place octets other.1).2 one.1 one.2)
ending_once live seen place octets (how.Overlong at) (how.Overlong to) one other = ap (λ (n : ℕ). how.Overlong n) (one.0 ∙ sym other.0)
ending_once live seen place octets (how.Overlong at) how.Failed one other = absurd (omega (arith, one.1.enough, other.2))
ending_once live seen place octets how.Failed how.End one other = absurd (true≢false (sym other.0 ∙ one.0))
ending_once live seen place octets how.Failed (how.Malformed at) one other = absurd ((malformed_alone live seen place octets other.1).1 one.0 one.1 one.2)
ending_once live seen place octets how.Failed (how.Overlong at) one other = absurd (omega (arith, one.2, other.1.enough))
ending_once live seen place octets how.Failed how.Failed one other = refl
ending_once live seen place octets how.Quit f one other = absurd one
ending_once live seen place octets how.Unwritten f one other = absurd one
ending_once live seen place octets how.Paused f one other = absurd one
ending_once live seen place octets e how.Quit one other = absurd other
ending_once live seen place octets e how.Unwritten one other = absurd other
ending_once live seen place octets e how.Paused one other = absurd other

line_same : (a b : Line) → a.stamp ≡ b.stamp → a.command ≡ b.command → a ≡ b
line_same a b stamp command = ap₂ (λ (s : ℕ) (t : List ℕ). let l : Line = record { stamp = s; command = t } in l) stamp command

-- the same line, but for its stamp where the input is live
abbrev pub IsSame : Bool → Line → Line → Type 0
IsSame true a b = a.command ≡ b.command
IsSame false a b = a ≡ b

-- a text says one line
says_once : (live : Bool) (text : List ℕ) (a b : Line) → Says live text a → Says live text b → IsSame live a b
says_once true text a b one other = sym one ∙ other
says_once false text a b one other =
    let both : decimal a.stamp ∷ words_of a.command ≡ decimal b.stamp ∷ words_of b.command = sym (said_words text a one) ∙ said_words text b other in
    let digits : decimal a.stamp ≡ decimal b.stamp = cc in
    let words : words_of a.command ≡ words_of b.command = cc in
    line_same a b (decimal_injective a.stamp b.stamp one.1 other.1 digits) (sym (words_joined a.command) ∙ ap (join_with_byte 32) words ∙ words_joined b.command)

-- lines that are the same but for their stamps, stamped by the same readings
stamped_same : (live : Bool) (readings : List ℕ) (a b : Line) (lines others : List Line) → IsSame live a b → ((later : List ℕ) → stamped_by live later lines ≡ stamped_by live later others) → stamped_by live readings (a ∷ lines) ≡ stamped_by live readings (b ∷ others)
stamped_same false readings a b lines others same rest = ap₂ (λ (x : Line) (l : List Line). x ∷ l) same (rest readings)
stamped_same true [] a b lines others same rest = refl
stamped_same true (r ∷ readings) a b lines others same rest = ap₂ (λ (c : List ℕ) (l : List Line). let x : Line = record { stamp = r; command = c } in x ∷ l) same (rest readings)

-- what is left at a place is one run, but for the stamps of live lines
run_once : (lines others : List Line) (e f : How) (live seen : Bool) (place : ℕ) (octets : List ℕ) → IsRun live seen place lines e octets → IsRun live seen place others f octets → ((readings : List ℕ) → stamped_by live readings lines ≡ stamped_by live readings others) × (e ≡ f)
run_once [] [] e f live seen place octets one other = ((λ readings. refl), ending_once live seen place octets e f one other)
run_once [] (b ∷ others) e f live seen place octets one other =
    absurd (no_ending live seen place e octets other.3.0 other.0 other.1 b one other.2 other.3.1 other.3.2 other.3.3)
run_once (a ∷ lines) [] e f live seen place octets one other =
    absurd (no_ending live seen place f octets one.3.0 one.0 one.1 a other one.2 one.3.1 one.3.2 one.3.3)
run_once (a ∷ lines) (b ∷ others) e f live seen place octets one other =
    let same = pieces_once seen octets one.3.0 one.0 one.1 other.3.0 other.0 other.1 one.2 other.2 one.3.1.apart other.3.1.apart one.3.1.whole other.3.1.whole in
    let first : IsSame live a b = says_once live one.3.0 a b one.3.2 (subst (λ (t : List ℕ). Says live t b) (sym same.0) other.3.2) in
    let behind : IsRun live seen (place + length one.0) others f one.1 =
    subst (λ (l : List ℕ). IsRun live seen (place + length l) others f one.1) (sym same.1)
    (subst (λ (l : List ℕ). IsRun live seen (place + length other.0) others f l) (sym same.2) other.4) in
    let rest = run_once lines others e f live seen (place + length one.0) one.1 one.4 behind in
    ((λ readings. stamped_same live readings a b lines others first rest.0), rest.1)

input_same : (one other : Input) → one.arrivals ≡ other.arrivals → one.ending ≡ other.ending → one ≡ other
input_same one other arrivals ending = ap₂ (λ (l : List Line) (e : How). let i : Input = record { arrivals = l; ending = e } in i) arrivals ending

pub one_input : (live seen : Bool) (readings octets : List ℕ) (one other : Input) → Arrive live seen readings octets one → Arrive live seen readings octets other → one ≡ other
one_input live seen readings octets one other a b =
    let same = run_once a.whole b.whole one.ending other.ending live seen 0 octets a.run b.run in
    input_same one other (a.stamps ∙ same.0 readings ∙ sym b.stamps) same.1

-- a line of an input that wasn't seen to end has its line feed
unseen_line : (seen : Bool) (text front rest more : List ℕ) → IsLine false text front rest → IsLine seen text front more
unseen_line seen text front rest more line = record {
  apart = line.apart;
  short = line.short;
  whole = elim line.whole [ inl feed ↦ inl feed | inr last ↦ absurd (true≢false (sym last.0)) ];
}

-- the stamped lines of a front are a front of the stamped lines
abbrev IsStampedFront : Bool → List ℕ → List Line → List Line → Type 0
IsStampedFront live readings lines others = (rest : List Line) × (stamped_by live readings others ≡ stamped_by live readings lines ++ rest)

front_none : (live : Bool) (readings : List ℕ) (others : List Line) → IsStampedFront live readings [] others
front_none false readings others = (others, refl)
front_none true [] others = ([], refl)
front_none true (r ∷ readings) others = (stamped_by true (r ∷ readings) others, refl)

front_same : (live : Bool) (readings : List ℕ) (a b : Line) (lines others : List Line) → IsSame live a b → ((later : List ℕ) → IsStampedFront live later lines others) → IsStampedFront live readings (a ∷ lines) (b ∷ others)
front_same false readings a b lines others same rest =
    let more = rest readings in (more.0, ap₂ (λ (x : Line) (l : List Line). x ∷ l) (sym same) more.1)
front_same true [] a b lines others same rest = ([], refl)
front_same true (r ∷ readings) a b lines others same rest =
    let more = rest readings in (more.0, ap₂ (λ (c : List ℕ) (l : List Line). let x : Line = record { stamp = r; command = c } in x ∷ l) (sym same) more.1)

-- a front of some octets holds a front of their lines
front_run : (lines others : List Line) (e f : How) (live seen : Bool) (place : ℕ) (octets more : List ℕ) → IsRun live false place lines e octets → IsRun live seen place others f (octets ++ more) → (readings : List ℕ) → IsStampedFront live readings lines others
front_run [] others e f live seen place octets more one whole readings = front_none live readings others
front_run (a ∷ lines) [] e f live seen place octets more one whole readings =
    let split : octets ++ more ≡ one.0 ++ (one.1 ++ more) = ap (λ (l : List ℕ). l ++ more) one.2 ∙ append_assoc one.0 one.1 more in
    absurd (no_ending live seen place f (octets ++ more) one.3.0 one.0 (one.1 ++ more) a whole split (unseen_line seen one.3.0 one.0 one.1 (one.1 ++ more) one.3.1) one.3.2 one.3.3)
front_run (a ∷ lines) (b ∷ others) e f live seen place octets more one whole readings =
    let split : octets ++ more ≡ one.0 ++ (one.1 ++ more) = ap (λ (l : List ℕ). l ++ more) one.2 ∙ append_assoc one.0 one.1 more in
    let line = unseen_line seen one.3.0 one.0 one.1 (one.1 ++ more) one.3.1 in
    let same = pieces_once seen (octets ++ more) one.3.0 one.0 (one.1 ++ more) whole.3.0 whole.0 whole.1 split whole.2 line.apart whole.3.1.apart line.whole whole.3.1.whole in
    let first : IsSame live a b = says_once live one.3.0 a b one.3.2 (subst (λ (t : List ℕ). Says live t b) (sym same.0) whole.3.2) in
    let behind : IsRun live seen (place + length one.0) others f (one.1 ++ more) =
    subst (λ (l : List ℕ). IsRun live seen (place + length l) others f (one.1 ++ more)) (sym same.1)
    (subst (λ (l : List ℕ). IsRun live seen (place + length whole.0) others f l) (sym same.2) whole.4) in
    front_same live readings a b lines others first (front_run lines others e f live seen (place + length one.0) one.1 more one.4 behind)

pub front_input : (live seen : Bool) (readings octets more : List ℕ) (part whole : Input) → Arrive live false readings octets part → Arrive live seen readings (octets ++ more) whole → (rest : List Line) × (whole.arrivals ≡ part.arrivals ++ rest)
front_input live seen readings octets more part whole a b =
    let front = front_run a.whole b.whole part.ending whole.ending live seen 0 octets more a.run b.run readings in
    (front.0, b.stamps ∙ front.1 ∙ ap (λ (l : List Line). l ++ front.0) (sym a.stamps))
