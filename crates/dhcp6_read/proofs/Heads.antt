-- What is known in the loop over a message's options of its DUID and its rapid commit.
use Rattle.std.proofs.Common.{◌≡◌, ◌==◌, ℕ, Bool, true, false, cond, ◌||◌, Option, Some, None, List, length, refl, sym, ap, ◌∙◌, inl, arith}
use Rattle.std.proofs.Math.Bool.{or_assoc, or-false}
use Rattle.std.specs.Option.{option_or}
use Rattle.arrayvec.specs.ArrayVec.{ArrayVec}
use Rattle.dhcp6_read.specs.Options.{OptionsRead, GivesRows, option_code}
use Rattle.dhcp6_read.specs.Message.{duid_in, is_rapid}
use Rattle.dhcp6_read.specs.Steps.{BeginsWith}
use Rattle.dhcp6_read.proofs.Rows.{row_begins, row_ends, begins_none}

-- the DUID in one option
abbrev pub duid_at : ℕ → List ℕ → Option (ArrayVec ℕ)
duid_at code content = cond (code == 1) (Some (record { items = content })) None

-- behind the options that are read, `duid` and `rapid` are what they gave
pub record Keeps (octets rest : List ℕ) (first duid : Option (ArrayVec ℕ)) (before rapid : Bool) (row_of : List ℕ → OptionsRead) : Type 0 where
  pub same_duid : option_or first (duid_in (row_of octets).options) ≡ option_or duid (duid_in (row_of rest).options)
  pub same_rapid : (before || is_rapid (row_of octets).options) ≡ (rapid || is_rapid (row_of rest).options)

abbrev pub KeepsEach : List ℕ → List ℕ → Option (ArrayVec ℕ) → Option (ArrayVec ℕ) → Bool → Bool → Type 0
KeepsEach octets rest first duid before rapid = (row_of : List ℕ → OptionsRead) → GivesRows row_of → Keeps octets rest first duid before rapid row_of

pub keeps_start : (octets : List ℕ) (duid : Option (ArrayVec ℕ)) (rapid : Bool) → KeepsEach octets octets duid duid rapid rapid
keeps_start octets duid rapid row_of gives = record { same_duid = refl; same_rapid = refl }

duid_more : (duid : Option (ArrayVec ℕ)) (is : Bool) (content : List ℕ) (others : Option (ArrayVec ℕ)) → option_or duid (cond is (Some (record { items = content })) others) ≡ option_or (option_or duid (cond is (Some (record { items = content })) None)) others
duid_more (Some d) is content others = refl
duid_more None true content others = refl
duid_more None false content others = refl

pub keeps_on : (octets rest behind content : List ℕ) (code : ℕ) (first duid next : Option (ArrayVec ℕ)) (before rapid last : Bool)
    → KeepsEach octets rest first duid before rapid → BeginsWith rest code content behind
    → next ≡ option_or duid (duid_at code content) → last ≡ (rapid || (code == 14))
    → KeepsEach octets behind first next before last
keeps_on octets rest behind content code first duid next before rapid last known begins d r row_of gives =
    let o = begins.0 in
    let k = known row_of gives in
    let e = row_begins row_of gives rest behind o begins.1 begins.4 in
    let more = (row_of behind).options in
    let n = begins.2 in
    record {
      same_duid =
          k.same_duid ∙ ap (λ (row : OptionsRead). option_or duid (duid_in row.options)) e
          ∙ duid_more duid (option_code o == 1) o.content (duid_in more)
          ∙ ap (λ (m : ℕ). option_or (option_or duid (duid_at m o.content)) (duid_in more)) n
          ∙ ap (λ (l : List ℕ). option_or (option_or duid (duid_at code l)) (duid_in more)) begins.3
          ∙ ap (λ (x : Option (ArrayVec ℕ)). option_or x (duid_in more)) (sym d);
      same_rapid =
          k.same_rapid ∙ ap (λ (row : OptionsRead). rapid || is_rapid row.options) e
          ∙ sym (or_assoc rapid (option_code o == 14) (is_rapid more))
          ∙ ap (λ (m : ℕ). (rapid || (m == 14)) || is_rapid more) n
          ∙ ap (λ (b : Bool). b || is_rapid more) (sym r);
    }

or_none : (d : Option (ArrayVec ℕ)) → option_or d None ≡ d
or_none None = refl
or_none (Some d) = refl

pub duid_end : (octets rest : List ℕ) (first duid : Option (ArrayVec ℕ)) (before rapid : Bool) → KeepsEach octets rest first duid before rapid → length rest ≡ 0
    → (row_of : List ℕ → OptionsRead) → GivesRows row_of → duid ≡ option_or first (duid_in (row_of octets).options)
duid_end octets rest first duid before rapid known none row_of gives =
    let e = row_ends row_of gives rest (begins_none rest (inl (omega arith))) in
    sym ((known row_of gives).same_duid ∙ ap (λ (row : OptionsRead). option_or duid (duid_in row.options)) e ∙ or_none duid)

pub rapid_end : (octets rest : List ℕ) (first duid : Option (ArrayVec ℕ)) (before rapid : Bool) → KeepsEach octets rest first duid before rapid → length rest ≡ 0
    → (row_of : List ℕ → OptionsRead) → GivesRows row_of → rapid ≡ (before || is_rapid (row_of octets).options)
rapid_end octets rest first duid before rapid known none row_of gives =
    let e = row_ends row_of gives rest (begins_none rest (inl (omega arith))) in
    sym ((known row_of gives).same_rapid ∙ ap (λ (row : OptionsRead). rapid || is_rapid row.options) e ∙ or-false rapid)
