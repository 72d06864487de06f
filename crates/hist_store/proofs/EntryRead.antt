-- What the text of an act says, kind by kind.
use Rattle.std.proofs.Common.{ℕ, ◌≡◌, ◌==◌, ◌^◌, ◌<◌, ◌≤◌, false, List, [], ◌∷◌, length, decimal, codes, Option, Some, None, IsSome, IsNone, refl, sym, ap, ◌∙◌, true≢false}
use Rattle.savi_kinds.specs.declared.port.Port.{Port}
use Rattle.savi_kinds.specs.declared.port.PortSet.{PortSet}
use Rattle.savi_kinds.specs.declared.verdict.Verdict.{Verdict}
use Rattle.savi_kinds.specs.declared.entry.Entry.{Entry}
use Rattle.savi_kinds.specs.declared.entry.Act.{Act}
use Rattle.savi_kinds.specs.declared.entry.Act.TheVariants as acts
use Rattle.savi_kinds.specs.declared.entry.Who.{Who}
use Rattle.savi_kinds.specs.declared.entry.How.{How}
use Rattle.savi_kinds.specs.PortSets.{no_ports}
use Rattle.hist_store.specs.Rows.{Row}
use Rattle.hist_store.specs.TextOfLines.{spaced}
use Rattle.hist_store.specs.PortTexts.{port_text, members_text}
use Rattle.hist_store.specs.VerdictTexts.{verdict_text, entry_verdict_text}
use Rattle.hist_store.specs.EndTexts.{who_text, how_fields, IsReasonOf}
use Rattle.hist_store.specs.LineTexts.{hex_text, act_fields, FitsAct}
use Rattle.hist_store.specs.EntryLines.{IsHowInRange, IsActInRange, SaysAct}
use Rattle.hist_store.proofs.Words.{IsWord, word_of}
use Rattle.hist_store.proofs.OnePort.{first_apart}

some_verdict : (o : Option Verdict) → IsSome o → (verdict : Verdict) × (o ≡ Some verdict)
some_verdict None is = absurd (true≢false (sym is))
some_verdict (Some verdict) is = (verdict, refl)

pub no_verdict : (o : Option Verdict) → IsNone o → o ≡ None
no_verdict None is = refl
no_verdict (Some verdict) is = absurd (true≢false is)

apart : (a b : ℕ) (s t : List ℕ) → 32 ∷ a ∷ s ≡ 32 ∷ b ∷ t → (a == b) ≡ false → ⊥
apart a b s t e other = let tails : a ∷ s ≡ b ∷ t = cc in first_apart tails other

pub record SaysFrame (text : List ℕ) (row : Row) : Type 0 where
  pub port : Port
  pub stamp : ℕ
  pub len : ℕ
  pub verdict : Verdict
  pub act_is : row.entry.act ≡ acts.Frame port stamp 0 len
  pub verdict_is : row.entry.verdict ≡ Some verdict
  pub size : length row.octets ≡ len
  pub short : len ≤ 1518
  pub small : stamp < 2 ^ 64
  pub text_is : text ≡ spaced (port_text port ∷ decimal stamp ∷ hex_text row.octets ∷ verdict_text verdict ∷ members_text row.entry.outs ∷ members_text row.entry.cuts ∷ decimal row.entry.probes ∷ decimal row.entry.lost ∷ [])

frame_parts : (text : List ℕ) (entry : Entry) (octets : List ℕ) (act : Act) → entry.act ≡ act → IsActInRange act → FitsAct entry octets act → 32 ∷ 70 ∷ text ≡ spaced (act_fields entry octets act) → SaysFrame text (record { entry = entry; octets = octets })
frame_parts text entry octets (acts.Frame port stamp at len) is range fits e =
    let one = some_verdict entry.verdict fits.0 in
    let tails : text ≡ spaced (port_text port ∷ decimal stamp ∷ hex_text octets ∷ entry_verdict_text entry.verdict ∷ members_text entry.outs ∷ members_text entry.cuts ∷ decimal entry.probes ∷ decimal entry.lost ∷ []) = cc in
    record {
      port = port;
      stamp = stamp;
      len = len;
      verdict = one.0;
      act_is = is ∙ ap (λ (a : ℕ). acts.Frame port stamp a len) range.1;
      verdict_is = one.1;
      size = fits.1;
      short = fits.2;
      small = range.0;
      text_is = tails ∙ ap (λ (v : Option Verdict). spaced (port_text port ∷ decimal stamp ∷ hex_text octets ∷ entry_verdict_text v ∷ members_text entry.outs ∷ members_text entry.cuts ∷ decimal entry.probes ∷ decimal entry.lost ∷ [])) one.1;
    }
frame_parts text entry octets (acts.Long port stamp len) is range fits e = absurd (apart 70 76 text _ e refl)
frame_parts text entry octets (acts.Tick stamp) is range fits e = absurd (apart 70 84 text _ e refl)
frame_parts text entry octets (acts.Command stamp at len) is range fits e = absurd (apart 70 67 text _ e refl)
frame_parts text entry octets (acts.Drain port count) is range fits e = absurd (apart 70 68 text _ e refl)
frame_parts text entry octets (acts.End who how) is range fits e = absurd (apart 70 69 text _ e refl)

pub frame_said : (text : List ℕ) (by moment : ℕ) (row : Row) → SaysAct (32 ∷ 70 ∷ text) by moment row → SaysFrame text row
frame_said text by moment row says = frame_parts text row.entry row.octets row.entry.act refl says.numbers.act says.fits says.text_is

pub record SaysLong (text : List ℕ) (row : Row) : Type 0 where
  pub port : Port
  pub stamp : ℕ
  pub len : ℕ
  pub verdict : Verdict
  pub act_is : row.entry.act ≡ acts.Long port stamp len
  pub verdict_is : row.entry.verdict ≡ Some verdict
  pub outs_is : row.entry.outs ≡ no_ports
  pub cuts_is : row.entry.cuts ≡ no_ports
  pub none : row.octets ≡ []
  pub small : stamp < 2 ^ 64
  pub few : len < 2 ^ 32
  pub text_is : text ≡ spaced (port_text port ∷ decimal stamp ∷ decimal len ∷ verdict_text verdict ∷ decimal row.entry.probes ∷ decimal row.entry.lost ∷ [])

long_parts : (text : List ℕ) (entry : Entry) (octets : List ℕ) (act : Act) → entry.act ≡ act → IsActInRange act → FitsAct entry octets act → 32 ∷ 76 ∷ text ≡ spaced (act_fields entry octets act) → SaysLong text (record { entry = entry; octets = octets })
long_parts text entry octets (acts.Frame port stamp at len) is range fits e = absurd (apart 76 70 text _ e refl)
long_parts text entry octets (acts.Long port stamp len) is range fits e =
    let one = some_verdict entry.verdict fits.0 in
    let tails : text ≡ spaced (port_text port ∷ decimal stamp ∷ decimal len ∷ entry_verdict_text entry.verdict ∷ decimal entry.probes ∷ decimal entry.lost ∷ []) = cc in
    record {
      port = port;
      stamp = stamp;
      len = len;
      verdict = one.0;
      act_is = is;
      verdict_is = one.1;
      outs_is = fits.1.0;
      cuts_is = fits.1.1;
      none = fits.2;
      small = range.0;
      few = range.1;
      text_is = tails ∙ ap (λ (v : Option Verdict). spaced (port_text port ∷ decimal stamp ∷ decimal len ∷ entry_verdict_text v ∷ decimal entry.probes ∷ decimal entry.lost ∷ [])) one.1;
    }
long_parts text entry octets (acts.Tick stamp) is range fits e = absurd (apart 76 84 text _ e refl)
long_parts text entry octets (acts.Command stamp at len) is range fits e = absurd (apart 76 67 text _ e refl)
long_parts text entry octets (acts.Drain port count) is range fits e = absurd (apart 76 68 text _ e refl)
long_parts text entry octets (acts.End who how) is range fits e = absurd (apart 76 69 text _ e refl)

pub long_said : (text : List ℕ) (by moment : ℕ) (row : Row) → SaysAct (32 ∷ 76 ∷ text) by moment row → SaysLong text row
long_said text by moment row says = long_parts text row.entry row.octets row.entry.act refl says.numbers.act says.fits says.text_is

pub record SaysTick (text : List ℕ) (row : Row) : Type 0 where
  pub stamp : ℕ
  pub act_is : row.entry.act ≡ acts.Tick stamp
  pub verdict_is : row.entry.verdict ≡ None
  pub outs_is : row.entry.outs ≡ no_ports
  pub cuts_is : row.entry.cuts ≡ no_ports
  pub none : row.octets ≡ []
  pub small : stamp < 2 ^ 64
  pub text_is : text ≡ spaced (decimal stamp ∷ decimal row.entry.probes ∷ decimal row.entry.lost ∷ [])

tick_parts : (text : List ℕ) (entry : Entry) (octets : List ℕ) (act : Act) → entry.act ≡ act → IsActInRange act → FitsAct entry octets act → 32 ∷ 84 ∷ text ≡ spaced (act_fields entry octets act) → SaysTick text (record { entry = entry; octets = octets })
tick_parts text entry octets (acts.Frame port stamp at len) is range fits e = absurd (apart 84 70 text _ e refl)
tick_parts text entry octets (acts.Long port stamp len) is range fits e = absurd (apart 84 76 text _ e refl)
tick_parts text entry octets (acts.Tick stamp) is range fits e =
    let tails : text ≡ spaced (decimal stamp ∷ decimal entry.probes ∷ decimal entry.lost ∷ []) = cc in
    record { stamp = stamp; act_is = is; verdict_is = no_verdict entry.verdict fits.0; outs_is = fits.1.0; cuts_is = fits.1.1; none = fits.2; small = range; text_is = tails }
tick_parts text entry octets (acts.Command stamp at len) is range fits e = absurd (apart 84 67 text _ e refl)
tick_parts text entry octets (acts.Drain port count) is range fits e = absurd (apart 84 68 text _ e refl)
tick_parts text entry octets (acts.End who how) is range fits e = absurd (apart 84 69 text _ e refl)

pub tick_said : (text : List ℕ) (by moment : ℕ) (row : Row) → SaysAct (32 ∷ 84 ∷ text) by moment row → SaysTick text row
tick_said text by moment row says = tick_parts text row.entry row.octets row.entry.act refl says.numbers.act says.fits says.text_is

pub record SaysCommand (text : List ℕ) (row : Row) : Type 0 where
  pub stamp : ℕ
  pub len : ℕ
  pub act_is : row.entry.act ≡ acts.Command stamp 0 len
  pub verdict_is : row.entry.verdict ≡ None
  pub outs_is : row.entry.outs ≡ no_ports
  pub cuts_is : row.entry.cuts ≡ no_ports
  pub size : length row.octets ≡ len
  pub short : len ≤ 120
  pub small : stamp < 2 ^ 64
  pub text_is : text ≡ spaced (decimal stamp ∷ hex_text row.octets ∷ decimal row.entry.probes ∷ decimal row.entry.lost ∷ [])

command_parts : (text : List ℕ) (entry : Entry) (octets : List ℕ) (act : Act) → entry.act ≡ act → IsActInRange act → FitsAct entry octets act → 32 ∷ 67 ∷ text ≡ spaced (act_fields entry octets act) → SaysCommand text (record { entry = entry; octets = octets })
command_parts text entry octets (acts.Frame port stamp at len) is range fits e = absurd (apart 67 70 text _ e refl)
command_parts text entry octets (acts.Long port stamp len) is range fits e = absurd (apart 67 76 text _ e refl)
command_parts text entry octets (acts.Tick stamp) is range fits e = absurd (apart 67 84 text _ e refl)
command_parts text entry octets (acts.Command stamp at len) is range fits e =
    let tails : text ≡ spaced (decimal stamp ∷ hex_text octets ∷ decimal entry.probes ∷ decimal entry.lost ∷ []) = cc in
    record {
      stamp = stamp;
      len = len;
      act_is = is ∙ ap (λ (a : ℕ). acts.Command stamp a len) range.1;
      verdict_is = no_verdict entry.verdict fits.0;
      outs_is = fits.1.0;
      cuts_is = fits.1.1;
      size = fits.2;
      short = fits.3;
      small = range.0;
      text_is = tails;
    }
command_parts text entry octets (acts.Drain port count) is range fits e = absurd (apart 67 68 text _ e refl)
command_parts text entry octets (acts.End who how) is range fits e = absurd (apart 67 69 text _ e refl)

pub command_said : (text : List ℕ) (by moment : ℕ) (row : Row) → SaysAct (32 ∷ 67 ∷ text) by moment row → SaysCommand text row
command_said text by moment row says = command_parts text row.entry row.octets row.entry.act refl says.numbers.act says.fits says.text_is

pub record SaysDrain (text : List ℕ) (row : Row) : Type 0 where
  pub port : Port
  pub count : ℕ
  pub act_is : row.entry.act ≡ acts.Drain port count
  pub verdict_is : row.entry.verdict ≡ None
  pub outs_is : row.entry.outs ≡ no_ports
  pub cuts_is : row.entry.cuts ≡ no_ports
  pub probes_is : row.entry.probes ≡ 0
  pub lost_is : row.entry.lost ≡ 0
  pub none : row.octets ≡ []
  pub few : count < 2 ^ 32
  pub text_is : text ≡ spaced (port_text port ∷ decimal count ∷ [])

drain_parts : (text : List ℕ) (entry : Entry) (octets : List ℕ) (act : Act) → entry.act ≡ act → IsActInRange act → FitsAct entry octets act → 32 ∷ 68 ∷ text ≡ spaced (act_fields entry octets act) → SaysDrain text (record { entry = entry; octets = octets })
drain_parts text entry octets (acts.Frame port stamp at len) is range fits e = absurd (apart 68 70 text _ e refl)
drain_parts text entry octets (acts.Long port stamp len) is range fits e = absurd (apart 68 76 text _ e refl)
drain_parts text entry octets (acts.Tick stamp) is range fits e = absurd (apart 68 84 text _ e refl)
drain_parts text entry octets (acts.Command stamp at len) is range fits e = absurd (apart 68 67 text _ e refl)
drain_parts text entry octets (acts.Drain port count) is range fits e =
    let tails : text ≡ spaced (port_text port ∷ decimal count ∷ []) = cc in
    record {
      port = port;
      count = count;
      act_is = is;
      verdict_is = no_verdict entry.verdict fits.0;
      outs_is = fits.1.0;
      cuts_is = fits.1.1;
      probes_is = fits.2.0;
      lost_is = fits.2.1;
      none = fits.3;
      few = range;
      text_is = tails;
    }
drain_parts text entry octets (acts.End who how) is range fits e = absurd (apart 68 69 text _ e refl)

pub drain_said : (text : List ℕ) (by moment : ℕ) (row : Row) → SaysAct (32 ∷ 68 ∷ text) by moment row → SaysDrain text row
drain_said text by moment row says = drain_parts text row.entry row.octets row.entry.act refl says.numbers.act says.fits says.text_is

pub record SaysEnd (text : List ℕ) (row : Row) : Type 0 where
  pub who : Who
  pub how : How
  pub act_is : row.entry.act ≡ acts.End who how
  pub verdict_is : row.entry.verdict ≡ None
  pub outs_is : row.entry.outs ≡ no_ports
  pub cuts_is : row.entry.cuts ≡ no_ports
  pub probes_is : row.entry.probes ≡ 0
  pub lost_is : row.entry.lost ≡ 0
  pub none : row.octets ≡ []
  pub reason : IsReasonOf who how
  pub range : IsHowInRange how
  pub text_is : text ≡ spaced (who_text who ∷ how_fields how)

end_parts : (text : List ℕ) (entry : Entry) (octets : List ℕ) (act : Act) → entry.act ≡ act → IsActInRange act → FitsAct entry octets act → 32 ∷ 69 ∷ text ≡ spaced (act_fields entry octets act) → SaysEnd text (record { entry = entry; octets = octets })
end_parts text entry octets (acts.Frame port stamp at len) is range fits e = absurd (apart 69 70 text _ e refl)
end_parts text entry octets (acts.Long port stamp len) is range fits e = absurd (apart 69 76 text _ e refl)
end_parts text entry octets (acts.Tick stamp) is range fits e = absurd (apart 69 84 text _ e refl)
end_parts text entry octets (acts.Command stamp at len) is range fits e = absurd (apart 69 67 text _ e refl)
end_parts text entry octets (acts.Drain port count) is range fits e = absurd (apart 69 68 text _ e refl)
end_parts text entry octets (acts.End who how) is range fits e =
    let tails : text ≡ spaced (who_text who ∷ how_fields how) = cc in
    record {
      who = who;
      how = how;
      act_is = is;
      verdict_is = no_verdict entry.verdict fits.0;
      outs_is = fits.1.0;
      cuts_is = fits.1.1;
      probes_is = fits.2.0;
      lost_is = fits.2.1;
      none = fits.3;
      reason = fits.4;
      range = range;
      text_is = tails;
    }

pub end_said : (text : List ℕ) (by moment : ℕ) (row : Row) → SaysAct (32 ∷ 69 ∷ text) by moment row → SaysEnd text row
end_said text by moment row says = end_parts text row.entry row.octets row.entry.act refl says.numbers.act says.fits says.text_is

-- an act's letter, and its other fields
abbrev letter : Act → List ℕ
letter (acts.Frame port stamp at len) = codes "F"
letter (acts.Long port stamp len) = codes "L"
letter (acts.Tick stamp) = codes "T"
letter (acts.Command stamp at len) = codes "C"
letter (acts.Drain port count) = codes "D"
letter (acts.End who how) = codes "E"

pub record HasLetter (entry : Entry) (octets : List ℕ) (act : Act) : Type 0 where
  pub word : List ℕ
  pub rest : List (List ℕ)
  pub fields : act_fields entry octets act ≡ word ∷ rest
  pub is_word : IsWord word
  pub none : (t : List ℕ) → t ≡ word → (t ≡ codes "F" → ⊥) → (t ≡ codes "D" → ⊥) → (t ≡ codes "E" → ⊥) → (t ≡ codes "T" → ⊥) → (t ≡ codes "C" → ⊥) → (t ≡ codes "L" → ⊥) → ⊥

pub has_letter : (entry : Entry) (octets : List ℕ) (act : Act) → HasLetter entry octets act
has_letter entry octets (acts.Frame port stamp at len) = record { word = codes "F"; rest = port_text port ∷ decimal stamp ∷ hex_text octets ∷ entry_verdict_text entry.verdict ∷ members_text entry.outs ∷ members_text entry.cuts ∷ decimal entry.probes ∷ decimal entry.lost ∷ []; fields = refl; is_word = word_of (codes "F") refl; none = λ t is f d e t' c l. f is }
has_letter entry octets (acts.Long port stamp len) = record { word = codes "L"; rest = port_text port ∷ decimal stamp ∷ decimal len ∷ entry_verdict_text entry.verdict ∷ decimal entry.probes ∷ decimal entry.lost ∷ []; fields = refl; is_word = word_of (codes "L") refl; none = λ t is f d e t' c l. l is }
has_letter entry octets (acts.Tick stamp) = record { word = codes "T"; rest = decimal stamp ∷ decimal entry.probes ∷ decimal entry.lost ∷ []; fields = refl; is_word = word_of (codes "T") refl; none = λ t is f d e t' c l. t' is }
has_letter entry octets (acts.Command stamp at len) = record { word = codes "C"; rest = decimal stamp ∷ hex_text octets ∷ decimal entry.probes ∷ decimal entry.lost ∷ []; fields = refl; is_word = word_of (codes "C") refl; none = λ t is f d e t' c l. c is }
has_letter entry octets (acts.Drain port count) = record { word = codes "D"; rest = port_text port ∷ decimal count ∷ []; fields = refl; is_word = word_of (codes "D") refl; none = λ t is f d e t' c l. d is }
has_letter entry octets (acts.End who how) = record { word = codes "E"; rest = who_text who ∷ how_fields how; fields = refl; is_word = word_of (codes "E") refl; none = λ t is f d e t' c l. e is }

-- an entry by its fields
abbrev make : ℕ → ℕ → Act → Option Verdict → PortSet → PortSet → ℕ → ℕ → Entry
make by moment act verdict outs cuts probes lost =
    record { by = by; moment = moment; act = act; verdict = verdict; outs = outs; cuts = cuts; probes = probes; lost = lost }

pub entry_same : (e f : Entry) → e.by ≡ f.by → e.moment ≡ f.moment → e.act ≡ f.act → e.verdict ≡ f.verdict → e.outs ≡ f.outs → e.cuts ≡ f.cuts → e.probes ≡ f.probes → e.lost ≡ f.lost → e ≡ f
entry_same e f a b c d o u p l =
    ap (λ (x : ℕ). make x e.moment e.act e.verdict e.outs e.cuts e.probes e.lost) a
    ∙ ap (λ (x : ℕ). make f.by x e.act e.verdict e.outs e.cuts e.probes e.lost) b
    ∙ ap (λ (x : Act). make f.by f.moment x e.verdict e.outs e.cuts e.probes e.lost) c
    ∙ ap (λ (x : Option Verdict). make f.by f.moment f.act x e.outs e.cuts e.probes e.lost) d
    ∙ ap (λ (x : PortSet). make f.by f.moment f.act f.verdict x e.cuts e.probes e.lost) o
    ∙ ap (λ (x : PortSet). make f.by f.moment f.act f.verdict f.outs x e.probes e.lost) u
    ∙ ap (λ (x : ℕ). make f.by f.moment f.act f.verdict f.outs f.cuts x e.lost) p
    ∙ ap (λ (x : ℕ). make f.by f.moment f.act f.verdict f.outs f.cuts f.probes x) l

firsts : Option (ℕ × ℕ) → ℕ
firsts None = 0
firsts (Some p) = p.0

seconds : Option (ℕ × ℕ) → ℕ
seconds None = 0
seconds (Some p) = p.1

pub pair_parts : (a b c d : ℕ) → (let o : Option (ℕ × ℕ) = Some (a, b) in o) ≡ Some (c, d) → (a ≡ c) × (b ≡ d)
unfolding firsts seconds
pair_parts a b c d same = (ap firsts same, ap seconds same)
